use Rattle.dap_accessed.proofs.SoundLists.{all-sound}
use Rattle.dap_accessed.proofs.laws.stays_sound.Goals as goal

pub returns : goal.returns
returns c = λ own first items good. all-sound own first items good
