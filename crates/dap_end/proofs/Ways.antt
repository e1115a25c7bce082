-- Two links, each of which takes what the other sends, over a line that brings nothing altered or too old.
use Rattle.std.proofs.Common.{◌≡◌, ℕ, zero, suc, ◌+◌, ◌<◌, ◌≤◌, arith, sym, ◌∙◌, subst, ap, true, false, List, [], ◌∷◌, ◌++◌, length, drop, inl, inr, eq-eqb}
use Rattle.std.specs.Prelude.{◌==◌, Bool, nat_lt, ◌&&◌, if◌then◌else◌, Option, Some, None, IfSome, Result, Ok, Err, slice_get, All}
use Rattle.std.specs.List.{AllByRecursion}
use Rattle.std.specs.declared.cmp.Ordering.TheVariants.{Less, Equal, Greater}
use Rattle.std.specs.Ordering.{match_ordering}
use Rattle.std.proofs.lemmas.Bool.{cases_eq, ne_eqb}
use Rattle.std.proofs.lemmas.List.Elements.{All-append}
use Rattle.nsp_seg.specs.declared.packet.Packet.{Packet}
use Rattle.nsp_seg.specs.Packets.{Spells}
use Rattle.nsp_link.specs.declared.link.Got.{Got}
use Rattle.nsp_link.specs.declared.fault.LinkFault.{LinkFault}
use Rattle.nsp_link.specs.declared.link.LinkSetup.{LinkSetup}
use Rattle.nsp_link.specs.Limits.{max_window}
use Rattle.nsp_link.specs.Cutting.{Piece, cut}
use Rattle.nsp_link.specs.Holding.{following}
use Rattle.nsp_link.specs.Link.{LinkValue, IsBetween, IsTimely, Stands, Writes, held_after, with_inbox, AreShort}
use Rattle.nsp_link.specs.Due.{IsDue, DeliversPacket, taken_after}
use Rattle.nsp_link.proofs.ForCallers.{inserted, written_spells, stands_more, came_due}
use Rattle.nsp_link.specs.Receiving.{Receives}
use Rattle.dap_end.specs.Headline.{WrittenPacket, AreWrittenOf}
use Rattle.dap_end.specs.Calls.{numbered_packets}

-- ---- What holds of one way.

-- the segment was sent, and no more is acknowledged than was taken
pub record IsTrue (sent received : ℕ) (w : WrittenPacket) : Type 0 where
  pub segment : IfSome w.segment (λ k. k ≤ sent)
  pub acks : w.acks ≤ received

abbrev pub AreTrue : ℕ → ℕ → List WrittenPacket → Type 0
AreTrue sent received wire = AllByRecursion (IsTrue sent received) wire

-- what is held early was sent
abbrev pub AreSent : ℕ → List (ℕ × Piece) → Type 0
AreSent sent held = AllByRecursion (λ h. h.0 ≤ sent) held

-- the one link sends these messages and wrote these packets, the other stands after a front of them and gave these away
pub record IsWay (from to : LinkValue) (handed given : List (List ℕ)) (wire : List WrittenPacket) : Type 0 where
  pub positive : 0 < from.setup.seg_size
  pub there : from.setup.local ≡ to.setup.remote
  pub back : from.setup.remote ≡ to.setup.local
  pub limit : from.setup.max_message ≡ to.setup.max_message
  pub stands : Stands to from.setup.seg_size handed given
  pub short : AreShort to handed
  pub packets : AreWrittenOf from handed wire
  pub counts : AreTrue from.sent from.coming.received wire
  pub acked_taken : from.acked ≤ to.coming.received
  pub taken_sent : to.coming.received ≤ from.sent
  pub within : from.sent ≤ from.acked + from.setup.window
  pub window : from.setup.window ≤ max_window
  pub held : AreSent from.sent to.held

-- ---- Lists.

seg_more : (sent more : ℕ) (k : Option ℕ) → sent ≤ more → IfSome k (λ n. n ≤ sent) → IfSome k (λ n. n ≤ more)
seg_more sent more None le h = tt
seg_more sent more (Some k) le h = omega arith

true_more : (sent more received now : ℕ) (wire : List WrittenPacket) → sent ≤ more → received ≤ now → AreTrue sent received wire → AreTrue more now wire
true_more sent more received now [] le low h = tt
true_more sent more received now (w ∷ wire) le low h = (record { segment = seg_more sent more w.segment le h.0.segment; acks = omega (arith, h.0.acks) }, true_more sent more received now wire le low h.1)

true_all : (sent received : ℕ) (xs ys : List WrittenPacket) → AreTrue sent received xs → AreTrue sent received ys → AreTrue sent received (xs ++ ys)
true_all sent received [] ys h k = k
true_all sent received (x ∷ xs) ys h k = (h.0, true_all sent received xs ys h.1 k)

true_numbered : (k sent received : ℕ) (packets : List (List ℕ)) → k + length packets ≤ sent + 1 → AreTrue sent received (numbered_packets k received packets)
true_numbered k sent received [] le = tt
true_numbered k sent received (p ∷ packets) le = (record { segment = omega arith; acks = omega arith }, true_numbered (k + 1) sent received packets (omega arith))

sent_more : (sent more : ℕ) (held : List (ℕ × Piece)) → sent ≤ more → AreSent sent held → AreSent more held
sent_more sent more [] le h = tt
sent_more sent more (x ∷ held) le h = (omega (arith, h.0), sent_more sent more held le h.1)

sent_drop : (n sent : ℕ) (held : List (ℕ × Piece)) → AreSent sent held → AreSent sent (drop n held)
sent_drop zero sent held h = h
sent_drop (suc n) sent [] h = tt
sent_drop (suc n) sent (x ∷ held) h = sent_drop n sent held h.1

inserted_by : (a b : Bool) (k sent : ℕ) (p : Piece) (x : ℕ × Piece) (held more : List (ℕ × Piece)) → k ≤ sent → x.0 ≤ sent → AreSent sent held → AreSent sent more → AreSent sent (match_ordering (if a then Less else (if b then Equal else Greater)) ((k, p) ∷ x ∷ held) (x ∷ held) (x ∷ more))
inserted_by true b k sent p x held more le lx h m = (le, (lx, h))
inserted_by false true k sent p x held more le lx h m = (lx, h)
inserted_by false false k sent p x held more le lx h m = (lx, m)

sent_inserted : (k sent : ℕ) (p : Piece) (held : List (ℕ × Piece)) → k ≤ sent → AreSent sent held → AreSent sent (inserted k p held)
sent_inserted k sent p [] le h = (le, tt)
sent_inserted k sent p (x ∷ held) le h = inserted_by (nat_lt k x.0) (k == x.0) k sent p x held (inserted k p held) le h.0 h.1 (sent_inserted k sent p held le h.1)

-- what follows without a hole was sent
following_sent : (k sent : ℕ) (held : List (ℕ × Piece)) → k ≤ sent → AreSent sent held → k + length (following k held) ≤ sent
unfolding following
following_sent k sent [] le h = omega arith
following_sent k sent (x ∷ held) le h =
    elim (cases_eq x.0 (k + 1)) [
      | inl same ↦ rw (eq-eqb x.0 (k + 1) same) (let rest = following_sent (k + 1) sent held (omega (arith, h.0, same)) h.1 in omega (arith, rest))
      | inr apart ↦ rw (ne_eqb x.0 (k + 1) apart) (omega arith)
    ]

-- ---- A packet is taken in.

taken_more : (v : LinkValue) (k : Option ℕ) → v.coming.received ≤ taken_after v k
taken_more v None = omega arith
taken_more v (Some k) =
    elim (cases_eq k (v.coming.received + 1)) [
      | inl same ↦ rw (eq-eqb k (v.coming.received + 1) same) (omega arith)
      | inr apart ↦ rw (ne_eqb k (v.coming.received + 1) apart) (omega arith)
    ]

taken_within : (v : LinkValue) (k : Option ℕ) (sent : ℕ) → IfSome k (λ n. n ≤ sent) → v.coming.received ≤ sent → AreSent sent v.held → taken_after v k ≤ sent
taken_within v None sent was le held = le
taken_within v (Some k) sent was le held =
    elim (cases_eq k (v.coming.received + 1)) [
      | inl same ↦ rw (eq-eqb k (v.coming.received + 1) same) (following_sent k sent v.held was held)
      | inr apart ↦ rw (ne_eqb k (v.coming.received + 1) apart) le
    ]

held_by : (a b : Bool) (n sent k : ℕ) (p : Piece) (held : List (ℕ × Piece)) → k ≤ sent → AreSent sent held → AreSent sent (if a then drop n held else (if b then inserted k p held else held))
held_by true b n sent k p held was h = sent_drop n sent held h
held_by false true n sent k p held was h = sent_inserted k sent p held was h
held_by false false n sent k p held was h = h

held_within : (v : LinkValue) (k : Option ℕ) (sent : ℕ) (p : Piece) → IfSome k (λ n. n ≤ sent) → AreSent sent v.held → AreSent sent (held_after v k p)
held_within v None sent p was held = held
held_within v (Some k) sent p was held = held_by (k == v.coming.received + 1) (nat_lt v.coming.received k && nat_lt k (v.coming.received + 1 + v.setup.window)) (length (following k v.held)) sent k p v.held was held

-- the taking link took it
takes : (from to new : LinkValue) (handed given : List (List ℕ)) (wire : List WrittenPacket) (k : Option ℕ) (a : ℕ) → IsWay from to handed given wire → IfSome k (λ n. n ≤ from.sent) → DeliversPacket to new k a → Stands new from.setup.seg_size handed given
    → IsWay from new handed given wire
takes from to new handed given wire k a h was took stands =
    let d = took in
    record {
      positive = h.positive;
      there = h.there ∙ sym (ap (λ (s : LinkSetup). s.remote) d.setup);
      back = h.back ∙ sym (ap (λ (s : LinkSetup). s.local) d.setup);
      limit = h.limit ∙ sym (ap (λ (s : LinkSetup). s.max_message) d.setup);
      stands = stands;
      short = subst (λ (s : LinkSetup). All (λ m. length m ≤ s.max_message) handed) (sym d.setup) h.short;
      packets = h.packets;
      counts = h.counts;
      acked_taken = omega (arith, h.acked_taken, taken_more to k, d.received);
      taken_sent = omega (arith, taken_within to k from.sent was h.taken_sent h.held, d.received);
      within = h.within;
      window = h.window;
      held = subst (AreSent from.sent) (sym d.held.1) (held_within to k from.sent d.held.0 was h.held);
    }

-- the sending link took one of the other's, with an acknowledgement
hears : (from new to : LinkValue) (handed given : List (List ℕ)) (wire : List WrittenPacket) (k : Option ℕ) (a : ℕ) → IsWay from to handed given wire → a ≤ to.coming.received → DeliversPacket from new k a → AreWrittenOf new handed wire
    → IsWay new to handed given wire
hears from new to handed given wire k a h le took packets =
    let d = took in
    let window : new.setup.window ≡ from.setup.window = ap (λ (s : LinkSetup). s.window) d.setup in
    record {
      positive = subst (λ (s : LinkSetup). 0 < s.seg_size) (sym d.setup) h.positive;
      there = ap (λ (s : LinkSetup). s.local) d.setup ∙ h.there;
      back = ap (λ (s : LinkSetup). s.remote) d.setup ∙ h.back;
      limit = ap (λ (s : LinkSetup). s.max_message) d.setup ∙ h.limit;
      stands = subst (λ (s : LinkSetup). Stands to s.seg_size handed given) (sym d.setup) h.stands;
      short = h.short;
      packets = packets;
      counts = true_more from.sent new.sent from.coming.received new.coming.received wire (omega (arith, d.sent)) (omega (arith, taken_more from k, d.received)) h.counts;
      acked_taken = omega (arith, h.acked_taken, le, d.acked);
      taken_sent = omega (arith, h.taken_sent, d.sent);
      within = omega (arith, h.within, d.sent, d.acked, window);
      window = omega (arith, h.window, window);
      held = sent_more from.sent new.sent to.held (omega (arith, d.sent)) h.held;
    }

near_by : (sent n : ℕ) (k : Option ℕ) → sent ≤ n → IfSome k (λ k. k ≤ sent) → IfSome k (λ k. k ≤ n)
near_by sent n None le was = tt
near_by sent n (Some k) le was = omega arith

-- a packet of the wire is due
record Due (from to : LinkValue) (handed given : List (List ℕ)) (w : WrittenPacket) : Type 0 where
  packet : Packet
  spelled : Spells packet w.bytes
  is : IsDue to from.setup.seg_size handed given packet w.segment w.acks

due_at : (from to : LinkValue) (handed given : List (List ℕ)) (wire : List WrittenPacket) (w : WrittenPacket) → IsWay from to handed given wire → to.failed ≡ false → from.coming.received ≤ to.sent → IsTrue from.sent from.coming.received w
    → Writes from handed w.segment w.acks w.bytes → IsTimely to w.segment w.acks → Due from to handed given w
due_at from to handed given wire w h works le true_w writes timely =
    let p = written_spells from.setup.local from.setup.remote (cut from.setup.seg_size handed) w.segment w.acks w.bytes writes in
    record {
      packet = p.0;
      spelled = p.1;
      is = (
        works,
        h.stands,
        record {
          positive = h.positive;
          short = h.short;
          way = subst (λ (x : ℕ). IsBetween to.setup.remote x p.0) h.back (subst (λ (x : ℕ). IsBetween x from.setup.remote p.0) h.there p.2);
          carries = p.3;
          fresh = timely;
          near = near_by from.sent (to.coming.received + max_window) w.segment (omega (arith, h.within, h.acked_taken, h.window)) true_w.segment;
          believable = omega (arith, true_w.acks, le);
        },
      );
    }

-- ---- Both ways.

pub record AreJoined (a b : LinkValue) (from_a from_b to_a to_b : List (List ℕ)) (wire_a wire_b : List WrittenPacket) : Type 0 where
  pub there : IsWay a b from_a to_b wire_a
  pub back : IsWay b a from_b to_a wire_b
  pub works_a : a.failed ≡ false
  pub works_b : b.failed ≡ false

pub swapped : (a b : LinkValue) (from_a from_b to_a to_b : List (List ℕ)) (wire_a wire_b : List WrittenPacket) → AreJoined a b from_a from_b to_a to_b wire_a wire_b → AreJoined b a from_b from_a to_b to_a wire_b wire_a
swapped a b from_a from_b to_a to_b wire_a wire_b j = record { there = j.back; back = j.there; works_a = j.works_b; works_b = j.works_a }

true_at : (sent received : ℕ) (wire : List WrittenPacket) (j : ℕ) (w : WrittenPacket) → AreTrue sent received wire → slice_get wire j ≡ Some w → IsTrue sent received w
true_at sent received [] j w h e = let no : ⊥ = cc in absurd no
true_at sent received (x ∷ wire) zero w h e = let same : x ≡ w = cc in subst (IsTrue sent received) same h.0
true_at sent received (x ∷ wire) (suc j) w h e = true_at sent received wire j w h.1 e

written_at : (v : LinkValue) (handed : List (List ℕ)) (wire : List WrittenPacket) (j : ℕ) (w : WrittenPacket) → AreWrittenOf v handed wire → slice_get wire j ≡ Some w → Writes v handed w.segment w.acks w.bytes
written_at v handed [] j w h e = let no : ⊥ = cc in absurd no
written_at v handed (x ∷ wire) zero w h e = let same : x ≡ w = cc in subst (λ (y : WrittenPacket). Writes v handed y.segment y.acks y.bytes) same h.0
written_at v handed (x ∷ wire) (suc j) w h e = written_at v handed wire j w h.1 e

-- the second end takes a packet of the first in
pub comes : (a b new : LinkValue) (from_a from_b to_a to_b : List (List ℕ)) (wire_a wire_b : List WrittenPacket) (j : ℕ) (w : WrittenPacket) (r : Result Got LinkFault) → AreJoined a b from_a from_b to_a to_b wire_a wire_b → slice_get wire_a j ≡ Some w
    → IsTimely b w.segment w.acks → Receives b new w.bytes r → AreWrittenOf new from_b wire_b → AreJoined a new from_a from_b to_a to_b wire_a wire_b
comes a b new from_a from_b to_a to_b wire_a wire_b j w (Ok got) join at timely h packets =
    let true_w = true_at a.sent a.coming.received wire_a j w join.there.counts at in
    let f = due_at a b from_a to_b wire_a w join.there join.works_b join.back.taken_sent true_w (written_at a from_a wire_a j w join.there.packets at) timely in
    let told = came_due b new w.bytes (Ok got) a.setup.seg_size from_a to_b f.packet w.segment w.acks h f.spelled f.is in
    record {
      there = takes a b new from_a to_b wire_a w.segment w.acks join.there true_w.segment told.1 told.2;
      back = hears b new a from_b to_a wire_b w.segment w.acks join.back true_w.acks told.1 packets;
      works_a = join.works_a;
      works_b = told.1.failed ∙ join.works_b;
    }
comes a b new from_a from_b to_a to_b wire_a wire_b j w (Err e) join at timely h packets =
    let true_w = true_at a.sent a.coming.received wire_a j w join.there.counts at in
    let f = due_at a b from_a to_b wire_a w join.there join.works_b join.back.taken_sent true_w (written_at a from_a wire_a j w join.there.packets at) timely in
    let told = came_due b new w.bytes (Err e) a.setup.seg_size from_a to_b f.packet w.segment w.acks h f.spelled f.is in
    subst (λ (v : LinkValue). AreJoined a v from_a from_b to_a to_b wire_a wire_b) (sym told.1) join

-- ---- An end does something by itself.

-- messages came that left, more is queued, and more was sent
abbrev pub moved : LinkValue → (inbox : List (List ℕ)) → List Piece → ℕ → LinkValue
moved v inbox queue sent = record (with_inbox v inbox) { queue = queue; sent = sent }

pub record LinkMoved (v : LinkValue) (inbox : List (List ℕ)) (queue : List Piece) (sent : ℕ) : Type 0 where
  pub more : v.sent ≤ sent
  pub within : sent ≤ v.acked + v.setup.window

pub works : (a b : LinkValue) (from_a from_b to_a to_b more given : List (List ℕ)) (wire_a wire_b ws : List WrittenPacket) (inbox : List (List ℕ)) (queue : List Piece) (sent : ℕ) → AreJoined a b from_a from_b to_a to_b wire_a wire_b → LinkMoved a inbox queue sent
    → AreShort a more → Stands (moved a inbox queue sent) b.setup.seg_size from_b given → AreWrittenOf (moved a inbox queue sent) (from_a ++ more) (wire_a ++ ws) → AreTrue sent a.coming.received ws
    → AreJoined (moved a inbox queue sent) b (from_a ++ more) from_b given to_b (wire_a ++ ws) wire_b
works a b from_a from_b to_a to_b more given wire_a wire_b ws inbox queue sent j m short stands packets counts =
    let h = j.there in
    let k = j.back in
    record {
      there = record {
        positive = h.positive;
        there = h.there;
        back = h.back;
        limit = h.limit;
        stands = stands_more b a.setup.seg_size from_a more to_b h.stands;
        short = All-append (λ m. length m ≤ b.setup.max_message) from_a more h.short (subst (λ (n : ℕ). All (λ m. length m ≤ n) more) h.limit short);
        packets = packets;
        counts = true_all sent a.coming.received wire_a ws (true_more a.sent sent a.coming.received a.coming.received wire_a m.more (omega arith) h.counts) counts;
        acked_taken = h.acked_taken;
        taken_sent = omega (arith, h.taken_sent, m.more);
        within = m.within;
        window = h.window;
        held = sent_more a.sent sent b.held m.more h.held;
      };
      back = record {
        positive = k.positive;
        there = k.there;
        back = k.back;
        limit = k.limit;
        stands = stands;
        short = k.short;
        packets = k.packets;
        counts = k.counts;
        acked_taken = k.acked_taken;
        taken_sent = k.taken_sent;
        within = k.within;
        window = k.window;
        held = k.held;
      };
      works_a = j.works_a;
      works_b = j.works_b;
    }

pub counts_numbered : (v : LinkValue) (packets : List (List ℕ)) → AreTrue (v.sent + length packets) v.coming.received (numbered_packets (v.sent + 1) v.coming.received packets)
counts_numbered v packets = true_numbered (v.sent + 1) (v.sent + length packets) v.coming.received packets (omega arith)
