use Rattle.std.proofs.Common.{[], sym, subst, append-nil}
use Rattle.decnet_frames.specs.Found.{found_seen}
use Rattle.dap_follow.specs.Keeping.Lister.{EndsStreams}
use Rattle.dap_follow.specs.Keeping.Rest.{rest_of_each}
use Rattle.dap_follow.specs.Keeping.Streams.{Entries, ends_stream}
use Rattle.dap_follow.proofs.ListLemmas.{ends_none, ends_some}
use Rattle.dap_follow.proofs.lister.Lister.end_streams.Goals as goal

pub returns-in_default-clause-ends : goal.returns-in_default-clause-ends
returns-in_default-clause-ends c = ([], ends_none (found_seen c.args.found.now) c.args.self.now.streams.live.entries c.in_default.ensures, sym (append-nil c.args.text.now.items))

pub returns-clause-ends : goal.returns-clause-ends
returns-clause-ends c =
    let packet = found_seen c.args.found.now in
    let old = c.args.self.now.streams.live.entries in
    let one = c.in-Some.initiate in
    let rest = rest_of_each (λ e. ends_stream one e.0) old in
    (rest, subst (λ (l : Entries). EndsStreams packet old l rest) (sym c.end.ensures) (ends_some packet one old c.in-Some.ensures), c.in_ok-push_ending.ensures)
