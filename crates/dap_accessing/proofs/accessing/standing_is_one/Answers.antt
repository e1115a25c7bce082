use Rattle.dap_accessing.proofs.One.{one_present}
use Rattle.dap_accessing.proofs.accessing.standing_is_one.Goals as goal

pub returns : goal.returns
returns c = record {
  one = λ requests answers one two h k own. one_present requests answers one two h k own;
  works = λ requests answers end h. h.works;
}
