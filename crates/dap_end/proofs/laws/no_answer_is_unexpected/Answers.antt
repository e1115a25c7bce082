use Rattle.std.proofs.Common.{ap, refl, subst}
use Rattle.dap_accessed.specs.Present.{Present}
use Rattle.dap_end.specs.Agreement.{IsBufsiz}
use Rattle.dap_end.proofs.Joined.{new_pair}
use Rattle.dap_end.proofs.Expected.{none_refused, run_sound}
use Rattle.dap_end.proofs.laws.no_answer_is_unexpected.Goals as goal

pub returns : goal.returns
returns c = λ s t first a b new after f good other facing files own_a own_b pa ha pb hb r bytes n.
    let linked = new_pair s t first _ (record { good = good; other_good = other; facing = facing }) (record { port_a = pa; asking = ha; port_b = pb; serving = hb; none = refl }) in
    none_refused first files new after f (run_sound first files r.0 _ new r.1 (record { linked = linked; own_a = subst IsBufsiz ha.asking.own own_a; own_b = subst IsBufsiz (ap (λ (p : Present). p.own) hb.serving) own_b; admissible = tt })) bytes n
