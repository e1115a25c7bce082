use Rattle.std.proofs.Common.{refl}
use Rattle.dap_end.proofs.Joined.{pair_headline}
use Rattle.dap_end.proofs.laws.two_ends_keep_the_headline.Goals as goal

pub returns : goal.returns
returns c = λ s t first a b new good other facing pa ha pb hb r.
    let h = pair_headline s t first r.0 _ new (record { good = good; other_good = other; facing = facing }) (record { port_a = pa; asking = ha; port_b = pb; serving = hb; none = refl }) r.1 in
    (h.taken, h.taken_in_order.0, h.read, h.read_in_order.0, h.taken_in_order.1, h.files_after, h.read_in_order.1, h.reports_told)
