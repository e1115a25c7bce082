-- What an end may do, part by part.
use Rattle.std.proofs.Common.{◌≡◌, ℕ, ◌+◌, ◌<◌, ◌≤◌, false, not, IsTrue, nat_le, List, length, ltb-true, lt-ltb, leb-true, le-leb}
use Rattle.std.proofs.lemmas.Bool.{and_parts, and_from, not-true, not_from_false}
use Rattle.std.proofs.lemmas.List.Sums.{list_all-from_AllPass, AllPass-from_list_all}
use Rattle.std.specs.List.{list_all}
use Rattle.nsp_link.specs.Cutting.{cut}
use Rattle.nsp_link.specs.Limits.{max_segments}
use Rattle.nsp_link.specs.Link.{LinkValue, may_send, AreShort}
use Rattle.nsp_link.specs.Sending.{may_queue}

pub may_send_by : (v : LinkValue) → v.sent < v.acked + length v.queue → v.sent < v.acked + v.setup.window → IsTrue (may_send v)
may_send_by v waits room = and_from _ _ (lt-ltb _ _ waits) (lt-ltb _ _ room)

pub may_send_parts : (v : LinkValue) → IsTrue (may_send v) → (v.sent < v.acked + length v.queue) × (v.sent < v.acked + v.setup.window)
may_send_parts v may = let both = and_parts _ _ may in (ltb-true _ _ both.0, ltb-true _ _ both.1)

pub may_queue_by : (v : LinkValue) (messages : List (List ℕ)) → v.failed ≡ false → AreShort v messages → v.acked + length v.queue + length (cut v.setup.seg_size messages) ≤ max_segments → IsTrue (may_queue v messages)
may_queue_by v messages works short few =
    and_from _ _ (not_from_false v.failed works)
    (and_from _ _ (list_all-from_AllPass (λ m. nat_le (length m) v.setup.max_message) messages (λ k d within. le-leb _ _ (short k d within))) (le-leb _ _ few))

pub may_queue_parts : (v : LinkValue) (messages : List (List ℕ)) → IsTrue (may_queue v messages)
    → (v.failed ≡ false) × AreShort v messages × (v.acked + length v.queue + length (cut v.setup.seg_size messages) ≤ max_segments)
may_queue_parts v messages may =
    let both = and_parts (not v.failed) _ may in
    let fit = and_parts (list_all (λ m. nat_le (length m) v.setup.max_message) messages) _ both.1 in
    (not-true v.failed both.0, (λ k d within. leb-true _ _ (AllPass-from_list_all (λ m. nat_le (length m) v.setup.max_message) messages fit.0 k d within)), leb-true _ _ fit.1)

pub ruleset queueing = (may_queue_by)
