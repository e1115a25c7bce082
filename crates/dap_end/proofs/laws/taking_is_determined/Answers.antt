use Rattle.std.proofs.Common.{refl}
use Rattle.dap_end.proofs.Turning.{took_well}
use Rattle.dap_end.proofs.Determined.{taking_one}
use Rattle.dap_end.proofs.Alike.{taking_alike}
use Rattle.dap_end.proofs.laws.taking_is_determined.Goals as goal

pub returns-clause-serving : goal.returns-clause-serving
returns-clause-serving c = λ most past old one two bytes out xs ys r s fits h nr ns a b. taking_one most past old one two bytes r s out xs ys fits h (took_well r nr) (took_well s ns) a b

pub returns-clause-asking : goal.returns-clause-asking
returns-clause-asking c = λ old one two bytes out xs ys before rs ss r s fits d nr ns a b. taking_alike old old one two bytes r s out xs ys before rs ss fits d refl (took_well r nr) (took_well s ns) a b
