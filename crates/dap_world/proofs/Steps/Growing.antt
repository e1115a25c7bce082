-- More is told of a direction.
use Rattle.std.proofs.Common.{◌≡◌, ℕ, suc, ◌*◌, ◌^◌, ◌≤◌, ◌<◌, arith, refl, sym, ◌∙◌, subst, ap, append_assoc, List, [], ◌∷◌, ◌++◌, length, take}
use Rattle.std.proofs.lemmas.List.{length-append, map-append, take-append-le}
use Rattle.std.proofs.lemmas.List.Elements.{All-append, All-cons}
use Rattle.dap_msg.specs.declared.message.Message.{Message}
use Rattle.dap_msg.specs.Blocked.{NspMessage, blocked_bytes, all_joined, messages_in, AllFit}
use Rattle.dap_msg.specs.Canon.{canon}
use Rattle.dap_accessed.specs.Served.{AllAtMost}
use Rattle.nsp_link.specs.Cutting.{cut, count_of}
use Rattle.nsp_link.specs.Limits.{max_limit, max_segments}
use Rattle.dap_end.proofs.ForCallers.{back_fit, fit-both, prefix_fit, in_append}
use Rattle.nsp_link.specs.Link.{LinkValue, with_inbox}
use Rattle.dap_world.specs.Inner.Sides.{SideValue, AreWithinLimit}
use Rattle.dap_world.specs.Inner.Parts.{IsCarried, IsAmong}
use Rattle.dap_world.specs.Inner.Ways.{IsWay}
use Rattle.dap_world.proofs.Steps.Counting.{counted, segments-first}
use Rattle.dap_world.proofs.Headline.Splits.{some_bytes}
use Rattle.dap_world.proofs.Steps.Ways.{same_writes, told_with}

-- the sending end moved its offset, and has other messages to send
moved_way : (from : SideValue) (to : LinkValue) (messages given : List (List ℕ)) (inbox : List (List ℕ)) (offset : ℕ) (outbox : List (List ℕ)) → IsWay from to messages given
    → IsWay (record from { link = with_inbox from.link inbox; offset = offset; outbox = outbox }) to messages given
moved_way from to messages given inbox offset outbox way =
    record {
      size = way.size;
      running = way.running;
      listening = way.listening;
      there = way.there;
      back = way.back;
      sends = record { queue = way.sends.queue; acked = way.sends.acked; part = way.sends.part };
      stands = way.stands;
      short = way.short;
      few = way.few;
      wire = same_writes from.link (with_inbox from.link inbox) messages refl from.wire way.wire;
    }

-- the first NSP messages are the same with more after them
pub handed_same : (from to : SideValue) (packets block : List NspMessage) (count : ℕ) → IsCarried from to packets count → take from.posted (packets ++ block) ≡ take from.posted packets
handed_same from to packets block count h = let n = counted from.posted h.handed from.outbox packets h.posted h.bytes in take-append-le from.posted packets block (omega arith)

-- the sending end has more to send, and moved its offset
pub told_more : (from to : SideValue) (packets block : List NspMessage) (count : ℕ) (inbox : List (List ℕ)) (offset : ℕ) (outbox more : List (List ℕ)) → IsCarried from to packets count
    → outbox ≡ from.outbox ++ more → more ≡ all_joined block → AllFit (messages_in block) → AreWithinLimit from.link.setup.max_message more
    → IsCarried (record from { link = with_inbox from.link inbox; offset = offset; outbox = outbox }) to (packets ++ block) count
told_more from to packets block count inbox offset outbox more h outbox_is more_is fit short =
    record {
      handed = h.handed;
      posted = h.posted;
      gone = h.gone;
      among = subst (λ (l : List NspMessage). IsAmong l count to.offset h.gone) (sym (handed_same from to packets block count h)) h.among;
      way = moved_way from to.link h.handed _ inbox offset outbox h.way;
      bytes = ap (λ (l : List (List ℕ)). h.handed ++ l) outbox_is ∙ sym (append_assoc h.handed from.outbox more) ∙ ap (λ (l : List (List ℕ)). l ++ more) h.bytes
          ∙ ap (λ (l : List (List ℕ)). all_joined packets ++ l) more_is ∙ sym (map-append blocked_bytes packets block);
      fit = subst AllFit (sym (in_append packets block)) (fit-both (messages_in packets) (messages_in block) h.fit fit);
      short = subst (AreWithinLimit from.link.setup.max_message) (sym outbox_is) (All-append (λ m. length m ≤ from.link.setup.max_message) from.outbox more h.short short);
    }

-- none is longer than a limit
pub all_short : (limit most : ℕ) (list : List (List ℕ)) → limit ≤ most → AllAtMost limit list → AreWithinLimit most list
all_short limit most [] le h = λ k d lt. absurd (omega arith)
all_short limit most (x ∷ list) le h = All-cons (λ m. length m ≤ most) x list (omega (arith, le, h.0)) (all_short limit most list le h.1)

-- the sending end moved its offset
pub told_moved : (from to : SideValue) (packets : List NspMessage) (count : ℕ) (inbox : List (List ℕ)) (offset : ℕ) → IsCarried from to packets count
    → IsCarried (record from { link = with_inbox from.link inbox; offset = offset }) to packets count
told_moved from to packets count inbox offset h = told_with h (moved_way from to.link h.handed _ inbox offset from.outbox h.way)

-- ---- No more messages than segments, and than bytes.

count_one : (size len : ℕ) → 1 ≤ count_of size len
unfolding count_of
count_one size len = omega arith

-- as many segments at least as messages
as_many_segments : (size : ℕ) (messages : List (List ℕ)) → length messages ≤ length (cut size messages)
as_many_segments size [] = omega arith
as_many_segments size (m ∷ messages) = omega (arith, as_many_segments size messages, segments-first size m messages, count_one size (length m))

-- few were passed on
pub few_posted : (from to : SideValue) (packets : List NspMessage) (count : ℕ) → IsCarried from to packets count → from.posted ≤ max_segments
few_posted from to packets count h = omega (arith, h.posted, as_many_segments from.link.setup.seg_size h.handed, h.way.few)

as_many_bytes : (messages : List Message) → AllFit messages → length messages ≤ length (blocked_bytes messages)
as_many_bytes [] fit = omega arith
as_many_bytes (m ∷ messages) fit = omega (arith, some_bytes m fit.0, as_many_bytes messages fit.1, length-append (canon m) (blocked_bytes messages))

all_few : (size : ℕ) (packets : List NspMessage) (most : ℕ) → AllFit (messages_in packets) → AreWithinLimit most (all_joined packets) → most ≤ max_limit
    → length (messages_in packets) ≤ max_limit * length (cut size (all_joined packets))
all_few size [] most fit short le = omega arith
all_few size (p ∷ packets) most fit short le =
    let first = short 0 (blocked_bytes p) (omega arith) in
    let rest = all_few size packets most (back_fit p (messages_in packets) fit) (λ k d lt. short (suc k) d (omega arith)) le in
    omega (
      arith,
      first,
      rest,
      le,
      as_many_bytes p (prefix_fit p (messages_in packets) fit),
      length-append p (messages_in packets),
      segments-first size (blocked_bytes p) (all_joined packets),
      count_one size (length (blocked_bytes p)),
    )

pub few_messages : (size : ℕ) (packets : List NspMessage) (n : ℕ) → n ≤ length (messages_in packets) → AllFit (messages_in packets) → (most : ℕ) → AreWithinLimit most (all_joined packets) → most ≤ max_limit
    → length (cut size (all_joined packets)) ≤ max_segments → n < 2 ^ 56
few_messages size packets n le fit most short limit few = omega (arith, le, few, all_few size packets most fit short limit)
