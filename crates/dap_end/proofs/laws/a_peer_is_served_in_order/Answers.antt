use Rattle.std.proofs.Common.{◌≡◌, arith, refl, sym, subst, [], false}
use Rattle.nsp_link.specs.Link.{Stands}
use Rattle.nsp_link.proofs.ForCallers.{stands_new}
use Rattle.dap_end.specs.Ports.{PortValue}
use Rattle.dap_end.specs.Done.{nothing_yet}
use Rattle.dap_end.proofs.Running.{run_from, runs_where, some_peer, some_size}
use Rattle.dap_end.specs.Headline.{IsFromPeer}
use Rattle.dap_end.proofs.Arriving.{served_as}
use Rattle.dap_end.proofs.laws.a_peer_is_served_in_order.Goals as goal

pub returns : goal.returns
returns c = λ setup first size messages came old new wrote all is h run.
    let r = served_as (IsFromPeer size messages) came old new wrote all run in
    run_from r.0 old new wrote (some_size size) messages (nothing_yet first) (omega arith) h
    (subst (λ (p : PortValue). Stands p.link (some_size size) messages []) (sym is) (stands_new setup (some_size size) messages))
    (subst (λ (p : PortValue). p.link.failed ≡ false) (sym is) refl) (runs_where (IsFromPeer size messages) (IsFromPeer (some_size size) messages) (some_peer size messages) r.0 (old, []) (new, wrote) r.1)
