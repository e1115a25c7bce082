use Rattle.std.proofs.Common.{refl}
use Rattle.dap_end.proofs.Turning.{went_well}
use Rattle.dap_end.proofs.Alike.{asking_one, reading_one, reading_told, going_alike, reading_alike}
use Rattle.dap_end.proofs.laws.asking_is_determined.Goals as goal

pub returns-clause-ask : goal.returns-clause-ask
returns-clause-ask c = λ past request old one two n m h a b. asking_one past request old one two n m h a b

pub returns-clause-read : goal.returns-clause-read
returns-clause-read c = λ past old one two r s h a b. reading_one past old one two r s h a b

pub returns-clause-go_on : goal.returns-clause-go_on
returns-clause-go_on c = λ old one two out xs ys before rs ss r s d nr ns a b. going_alike old old one two out xs ys before rs ss r s d refl (went_well r nr) (went_well s ns) a b

pub returns-clause-read_all : goal.returns-clause-read_all
returns-clause-read_all c = λ old one two before rs ss r s d nr ns a b. reading_alike old old one two before rs ss r s d refl nr ns a b

pub returns-clause-read_on : goal.returns-clause-read_on
returns-clause-read_on c = λ told past old one two r s h a b. reading_told told past old one two r s h a b
