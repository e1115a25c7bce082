use Rattle.std.proofs.Common.{◌≡◌, refl}
use Rattle.dap_msg.specs.BothEnds.{true_identity}
use Rattle.live_cli.specs.declared.words.Role.{Role}
use Rattle.live_cli.specs.declared.words.Role.TheVariants.{Serve, Ask}
use Rattle.live_cli.specs.Running.{identity_of}
use Rattle.live_cli.specs.Words.{usual}
use Rattle.live_cli.proofs.laws.ends_say_by_default_what_is_true.Goals as goal

says : (role : Role) → identity_of (usual role).1 ≡ true_identity 1024
says Serve = refl
says Ask = refl

pub returns : goal.returns
returns c = λ role. says role
