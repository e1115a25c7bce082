use Rattle.std.proofs.Common.{◌≡◌, arith, refl, sym, subst, [], false}
use Rattle.nsp_link.specs.Link.{Stands}
use Rattle.nsp_link.proofs.ForCallers.{stands_new}
use Rattle.dap_end.specs.Ports.{PortValue}
use Rattle.dap_end.proofs.Running.{some_peer, some_size}
use Rattle.dap_end.proofs.Hearing.{run_hears, runs_where}
use Rattle.dap_end.specs.Headline.{IsFromPeer}
use Rattle.dap_end.proofs.Arriving.{asked_as}
use Rattle.dap_end.proofs.laws.a_peer_is_heard_in_order.Goals as goal

pub returns : goal.returns
returns c = λ setup size messages came requests old new reports wrote all is h run.
    let r = asked_as (IsFromPeer size messages) came requests old new reports wrote all run in
    run_hears (some_size size) messages r.0 old new reports wrote (omega arith) h
    (subst (λ (p : PortValue). Stands p.link (some_size size) messages []) (sym is) (stands_new setup (some_size size) messages))
    (subst (λ (p : PortValue). p.link.failed ≡ false) (sym is) refl) (runs_where (IsFromPeer size messages) (IsFromPeer (some_size size) messages) (some_peer size messages) r.0 (old, [], []) (new, reports, wrote) r.2)
