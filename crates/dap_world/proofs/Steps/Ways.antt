-- A way stays a way when one of its ends moves.
use Rattle.std.proofs.Common.{◌≡◌, ℕ, ◌≤◌, ◌<◌, refl, sym, ◌∙◌, subst, ap, List, [], ◌∷◌, ◌++◌, length}
use Rattle.std.specs.Prelude.{Option}
use Rattle.std.specs.List.{AllByRecursion}
use Rattle.dap_msg.specs.Blocked.{NspMessage, all_joined}
use Rattle.nsp_link.specs.Limits.{max_segments}
use Rattle.nsp_link.specs.Cutting.{cut}
use Rattle.nsp_link.specs.declared.link.LinkSetup.{LinkSetup}
use Rattle.nsp_link.specs.Link.{LinkValue, Sends, Stands, Writes, IsWrittenPacket}
use Rattle.nsp_link.specs.Due.{DeliversPacket}
use Rattle.dap_world.specs.declared.side.Wired.{Wired}
use Rattle.dap_world.specs.Inner.Sides.{SideValue, AreWithinLimit}
use Rattle.dap_world.specs.Inner.Ways.{IsWay}
use Rattle.dap_world.specs.Inner.Parts.{IsCarried, IsToldBy}

-- the end counts this many segments as sent, and wrote one packet more
abbrev pub wrote_side : SideValue → ℕ → Wired → SideValue
wrote_side s sent w = record s { link = record s.link { sent = sent }; wire = s.wire ++ w ∷ [] }

-- the taking link took a packet in
pub takes : (from : SideValue) (v v' : LinkValue) (messages given : List (List ℕ)) (k : Option ℕ) (a : ℕ)
    → IsWay from v messages given → DeliversPacket v v' k a → Stands v' from.link.setup.seg_size messages given → IsWay from v' messages given
takes from v v' messages given k a way took stands =
    let d = took in
    record {
      size = way.size;
      running = way.running;
      listening = d.failed ∙ way.listening;
      there = way.there ∙ sym (ap (λ (s : LinkSetup). s.remote) d.setup);
      back = way.back ∙ sym (ap (λ (s : LinkSetup). s.local) d.setup);
      sends = way.sends;
      stands = stands;
      short = subst (λ (s : LinkSetup). AreWithinLimit s.max_message messages) (sym d.setup) way.short;
      few = way.few;
      wire = way.wire;
    }

pub same_writes : (v v' : LinkValue) (messages : List (List ℕ)) → v'.setup ≡ v.setup
    → (wire : List Wired) → AllByRecursion (λ w. Writes v messages w.segment w.acks w.packet.items) wire → AllByRecursion (λ w. Writes v' messages w.segment w.acks w.packet.items) wire
same_writes v v' messages same [] h = tt
same_writes v v' messages same (w ∷ wire) h = (
  subst (λ (s : LinkSetup). IsWrittenPacket s.local s.remote (cut s.seg_size messages) w.segment w.acks w.packet.items) (sym same) h.0,
  same_writes v v' messages same wire h.1,
)

-- the sending link took a packet in: it sends what it sent
pub gives : (from : SideValue) (v' to : LinkValue) (messages given : List (List ℕ)) (k : Option ℕ) (a : ℕ)
    → IsWay from to messages given → DeliversPacket from.link v' k a → Sends v' messages → IsWay (record from { link = v' }) to messages given
gives from v' to messages given k a way took sends =
    let d = took in
    record {
      size = subst (λ (s : LinkSetup). 0 < s.seg_size) (sym d.setup) way.size;
      running = d.failed ∙ way.running;
      listening = way.listening;
      there = ap (λ (s : LinkSetup). s.local) d.setup ∙ way.there;
      back = ap (λ (s : LinkSetup). s.remote) d.setup ∙ way.back;
      sends = sends;
      stands = subst (λ (s : LinkSetup). Stands to s.seg_size messages given) (sym d.setup) way.stands;
      short = way.short;
      few = subst (λ (s : LinkSetup). length (cut s.seg_size messages) ≤ max_segments) (sym d.setup) way.few;
      wire = same_writes from.link v' messages d.setup from.wire way.wire;
    }

all_push : {X : Type 0} (P : X → Type 0) → (xs : List X) (x : X) → AllByRecursion P xs → P x → AllByRecursion P (xs ++ x ∷ [])
all_push P [] x h p = (p, tt)
all_push P (y ∷ xs) x h p = (h.0, all_push P xs x h.1 p)

-- the sending link wrote a packet
writes_more : (from : SideValue) (to : LinkValue) (messages given : List (List ℕ)) (sent : ℕ) (w : Wired)
    → IsWay from to messages given → Writes from.link messages w.segment w.acks w.packet.items → IsWay (wrote_side from sent w) to messages given
writes_more from to messages given sent w way written =
    record {
      size = way.size;
      running = way.running;
      listening = way.listening;
      there = way.there;
      back = way.back;
      sends = record { queue = way.sends.queue; acked = way.sends.acked; part = way.sends.part };
      stands = way.stands;
      short = way.short;
      few = way.few;
      wire = all_push _ from.wire w (same_writes from.link (record from.link { sent = sent }) messages refl from.wire way.wire) written;
    }

-- the taking link moved only what it sends: it stands where it stood
pub stands_same : (v w : LinkValue) (size : ℕ) (messages given : List (List ℕ)) → w ≡ record v { sent = w.sent; acked = w.acked; queue = w.queue } → Stands v size messages given → Stands w size messages given
stands_same v w size messages given same stands =
    subst (λ (x : LinkValue). Stands x size messages given) (sym same)
    (record { taken = stands.taken; held = stands.held })

pub still_way : (from : SideValue) (v w : LinkValue) (messages given : List (List ℕ)) → w ≡ record v { sent = w.sent; acked = w.acked; queue = w.queue } → IsWay from v messages given → IsWay from w messages given
still_way from v w messages given same way =
    record {
      size = way.size;
      running = way.running;
      listening = ap (λ (x : LinkValue). x.failed) same ∙ way.listening;
      there = way.there ∙ sym (ap (λ (x : LinkValue). x.setup.remote) same);
      back = way.back ∙ sym (ap (λ (x : LinkValue). x.setup.local) same);
      sends = way.sends;
      stands = stands_same v w from.link.setup.seg_size messages given same way.stands;
      short = subst (λ (n : ℕ). AreWithinLimit n messages) (sym (ap (λ (x : LinkValue). x.setup.max_message) same)) way.short;
      few = way.few;
      wire = way.wire;
    }

-- ---- What is told of a direction.

-- it is told of another way
pub told_with : {n offset most count : ℕ} {outbox : List (List ℕ)} {packets : List NspMessage} {Way Now : List (List ℕ) → List (List ℕ) → Type 0}
    → (h : IsToldBy n offset most outbox packets count Way) → Now h.handed (all_joined h.gone) → IsToldBy n offset most outbox packets count Now
told_with h way = record { handed = h.handed; posted = h.posted; gone = h.gone; among = h.among; way = way; bytes = h.bytes; fit = h.fit; short = h.short }

module _ (packets : List NspMessage) (count : ℕ) (from to : SideValue) (h : IsCarried from to packets count) where
  pub told_writes : (sent : ℕ) (w : Wired) → Writes from.link h.handed w.segment w.acks w.packet.items → IsCarried (wrote_side from sent w) to packets count
  told_writes sent w written = told_with h (writes_more from to.link h.handed _ sent w h.way written)

  pub told_sent : (sent : ℕ) (w : Wired) → IsCarried from (wrote_side to sent w) packets count
  told_sent sent w = told_with h (still_way from to.link (record to.link { sent = sent }) h.handed _ refl h.way)

  pub told_gives : (v : LinkValue) (k : Option ℕ) (a : ℕ) → DeliversPacket from.link v k a → Sends v h.handed → IsCarried (record from { link = v }) to packets count
  told_gives v k a d sends =
      subst (λ (most : ℕ). IsToldBy from.posted to.offset most from.outbox packets count (IsWay (record from { link = v }) to.link)) (sym (ap (λ (s : LinkSetup). s.max_message) d.setup))
      (told_with h (gives from v to.link h.handed _ k a h.way d sends))

  pub told_takes : (v : LinkValue) → ((messages given : List (List ℕ)) → IsWay from to.link messages given → IsWay from v messages given) → IsCarried from (record to { link = v }) packets count
  told_takes v on = told_with h (on h.handed _ h.way)
