use Rattle.std.proofs.Common.{◌∙◌, refl, sym, subst, ap, []}
use Rattle.nsp_link.specs.Link.{LinkValue}
use Rattle.nsp_link.proofs.ForCallers.{stands_new}
use Rattle.dap_end.specs.Ports.{PortValue}
use Rattle.dap_end.specs.Done.{nothing_yet}
use Rattle.dap_end.specs.Headline.{IsFromPeer}
use Rattle.dap_end.proofs.Running.{refused_due, run_stands, runs_where, some_peer, some_size, StandsThen}
use Rattle.dap_end.proofs.Hearing as asking
use Rattle.dap_end.proofs.Arriving.{served_as, asked_as}
use Rattle.dap_end.proofs.laws.peers_are_taken_in.Goals as goal

pub returns-clause-serving : goal.returns-clause-serving
returns-clause-serving c = λ setup first size messages came old mid new wrote bytes f all is h run peer took.
    let n = some_size size in
    let r = served_as (IsFromPeer size messages) came old mid wrote all run in
    let at : StandsThen old.port.link n messages [] = subst (λ (p : PortValue). StandsThen p.link n messages []) (sym is) (stands_new setup n messages, refl) in
    let s = run_stands r.0 old mid wrote n messages (nothing_yet first) h at (runs_where (IsFromPeer size messages) (IsFromPeer n messages) (some_peer size messages) r.0 (old, []) (mid, wrote) r.1) in
    let e = refused_due mid.port.link new.port.link n messages s.0 bytes f s.1 (some_peer size messages mid.port.link bytes peer) took.receives in
    (e.0, took.rest ∙ ap (λ (l : LinkValue). record mid { port = record mid.port { link = l } }) e.1)

pub returns-clause-asking : goal.returns-clause-asking
returns-clause-asking c = λ setup size messages came requests old mid new reports wrote bytes f all is h run peer took.
    let n = some_size size in
    let r = asked_as (IsFromPeer size messages) came requests old mid reports wrote all run in
    let at : StandsThen old.port.link n messages [] = subst (λ (p : PortValue). StandsThen p.link n messages []) (sym is) (stands_new setup n messages, refl) in
    let s = asking.run_stands n messages r.0 old mid reports wrote h at (asking.runs_where (IsFromPeer size messages) (IsFromPeer n messages) (some_peer size messages) r.0 (old, [], []) (mid, reports, wrote) r.2) in
    let e = refused_due mid.port.link new.port.link n messages s.0 bytes f s.1 (some_peer size messages mid.port.link bytes peer) took.receives in
    (e.0, took.rest ∙ ap (λ (l : LinkValue). record mid { port = record mid.port { link = l } }) e.1)
