-- What stands on a wire.
use Rattle.std.proofs.Common.{◌≡◌, ℕ, ◌+◌, ◌-◌, ◌<◌, arith, refl, sym, subst, ap, ◌∙◌, true, List, [], ◌∷◌, ◌++◌, length, take, map, inl, inr}
use Rattle.std.specs.Prelude.{◌⊎◌, nat_le}
use Rattle.std.proofs.lemmas.Bool.{le-leb, lt-leb}
use Rattle.std.proofs.lemmas.List.{length-append}
use Rattle.std.specs.List.{AllByRecursion}
use Rattle.dap_msg.specs.declared.message.Message.{Message}
use Rattle.dap_msg.specs.Blocked.{NspMessage, all_joined, messages_in}
use Rattle.nsp_link.specs.Cutting.{cut}
use Rattle.nsp_link.specs.Coming.{Coming, nothing_came, with_all_taken}
use Rattle.nsp_link.specs.Link.{LinkValue, Sends, Stands, Writes, IsWrittenPacket}
use Rattle.dap_end.specs.Histories.{AreFull}
use Rattle.dap_events.specs.declared.event.End.{End}
use Rattle.dap_events.specs.declared.event.End.TheVariants.{A, B}
use Rattle.dap_world.specs.declared.side.Wired.{Wired}
use Rattle.dap_world.specs.Machine.{State, end_of, other_end}
use Rattle.dap_world.specs.Inner.Links.{IsLinkOf, AreWired}
use Rattle.dap_world.specs.Wires.{end_address, sending_of, IsOnWire}
use Rattle.dap_world.specs.Links.{came_to, coming_to, left_link, whole_among}
use Rattle.dap_world.specs.Inner.Sides.{SideValue}
use Rattle.dap_world.specs.Inner.Parts.{Parts, AreParts, IsAmong, IsCarried, asked_messages, answers, served_items, state_of, side}
use Rattle.dap_world.proofs.Headline.Blocks.{asked-full}
use Rattle.dap_world.proofs.Steps.Serving.{full-take}
use Rattle.dap_world.proofs.Plain.{answers_full}
use Rattle.dap_world.proofs.Steps.Counting.{handed-bytes}

-- what a link writes is what the end writes
record IsSideOf (s : State) (end : End) (v : LinkValue) (messages : List (List ℕ)) : Type 0 where
  local : v.setup.local ≡ end_address end
  remote : v.setup.remote ≡ end_address (other_end end)
  size : v.setup.seg_size ≡ s.seg_size
  messages_are : messages ≡ all_joined (end_of s end).handed

packet_of : (s : State) (end : End) (v : LinkValue) (messages : List (List ℕ)) (w : Wired) → IsSideOf s end v messages
    → Writes v messages w.segment w.acks w.packet.items → IsOnWire s end (sending_of w) w.packet.items
unfolding IsOnWire
packet_of s end v messages w is h =
    subst (λ (l : List (List ℕ)). IsWrittenPacket (end_address end) (end_address (other_end end)) (cut s.seg_size l) w.segment w.acks w.packet.items) is.messages_are
    (subst (λ (n : ℕ). IsWrittenPacket (end_address end) (end_address (other_end end)) (cut n messages) w.segment w.acks w.packet.items) is.size
    (subst (λ (n : ℕ). IsWrittenPacket (end_address end) n (cut v.setup.seg_size messages) w.segment w.acks w.packet.items) is.remote
    (subst (λ (n : ℕ). IsWrittenPacket n v.setup.remote (cut v.setup.seg_size messages) w.segment w.acks w.packet.items) is.local h)))

packets_of : (s : State) (end : End) (v : LinkValue) (messages : List (List ℕ)) (wire : List Wired) → IsSideOf s end v messages
    → AllByRecursion (λ w. Writes v messages w.segment w.acks w.packet.items) wire → AllByRecursion (λ w. IsOnWire s end (sending_of w) w.packet.items) wire
packets_of s end v messages [] is h = tt
packets_of s end v messages (w ∷ wire) is h = (packet_of s end v messages w is h.0, packets_of s end v messages wire is h.1)

is_side_a : (p : Parts) (h : AreParts p) → IsSideOf (state_of p) A p.a.link h.from_a.handed
is_side_a p h =
    record { local = h.alike.here; remote = h.alike.there; size = refl; messages_are = handed-bytes p.a.posted h.from_a.handed p.a.outbox (asked_messages p) h.from_a.posted h.from_a.bytes }

is_side_b : (p : Parts) (h : AreParts p) → IsSideOf (state_of p) B p.b.link h.from_b.handed
is_side_b p h =
    record {
      local = sym h.from_a.way.back ∙ h.alike.there;
      remote = sym h.from_a.way.there ∙ h.alike.here;
      size = h.alike.size;
      messages_are = handed-bytes p.b.posted h.from_b.handed p.b.outbox (answers p) h.from_b.posted h.from_b.bytes;
    }

pub wire_of : (p : Parts) (end : End) (wire : List Wired) → AreParts p → wire ≡ (side p end).wire → AreWired (state_of p) end wire
wire_of p A wire h is =
    record {
      sendings = ap (map sending_of) is;
      packets = packets_of (state_of p) A p.a.link h.from_a.handed wire (is_side_a p h)
          (subst (λ (l : List Wired). AllByRecursion (λ w. Writes p.a.link h.from_a.handed w.segment w.acks w.packet.items) l) (sym is) h.from_a.way.wire);
    }
wire_of p B wire h is =
    record {
      sendings = ap (map sending_of) is;
      packets = packets_of (state_of p) B p.b.link h.from_b.handed wire (is_side_b p h)
          (subst (λ (l : List Wired). AllByRecursion (λ w. Writes p.b.link h.from_b.handed w.segment w.acks w.packet.items) l) (sym is) h.from_b.way.wire);
    }

-- ---- What left a link.

not_whole : (n : ℕ) (packet : NspMessage) (packets : List NspMessage) → n < length packet → whole_among n (packet ∷ packets) ≡ []
not_whole n packet packets less = rw (lt-leb (length packet) n less) refl

no_more : (n : ℕ) (packets : List NspMessage) → AreFull packets → n ≡ 0 → whole_among n packets ≡ []
no_more n [] full none = refl
no_more n ([] ∷ packets) full none = absurd (full.0 refl)
no_more n ((m ∷ ms) ∷ packets) full none = not_whole n (m ∷ ms) packets (omega (arith, none))

-- NSP messages of which every message was handled, before others, are those that are whole among the messages handled
gone_whole : (gone rest : List NspMessage) (begun : List Message) (count : ℕ) → AreFull (gone ++ rest) → count ≡ length (messages_in gone) + length begun
    → (begun ≡ []) ⊎ ((m : Message) × (more : List Message) × (later : List NspMessage) × (rest ≡ (begun ++ m ∷ more) ∷ later))
    → whole_among count (gone ++ rest) ≡ gone
gone_whole [] rest begun count full handled (inl none) = no_more count rest full (omega (arith, handled, ap length none))
gone_whole [] rest begun count full handled (inr (m, more, later, is)) =
    rw is (not_whole count (begun ++ m ∷ more) later (omega (arith, handled, length-append begun (m ∷ more))))
gone_whole (packet ∷ gone) rest begun count full handled stays =
    let all : length (messages_in (packet ∷ gone)) ≡ length packet + length (messages_in gone) = length-append packet (messages_in gone) in
    let fits : nat_le (length packet) count ≡ true = le-leb (length packet) count (omega (arith, handled, all)) in
    rw fits (ap (λ (l : List NspMessage). packet ∷ l) (gone_whole gone rest begun (count - length packet) full.1 (omega (arith, handled, all)) stays))

among_whole : (packets : List NspMessage) (count offset : ℕ) (gone : List NspMessage) → AreFull packets → IsAmong packets count offset gone → gone ≡ whole_among count packets
among_whole packets count offset gone full h =
    sym (gone_whole gone h.rest h.begun count (subst AreFull h.split full) h.handled h.stays) ∙ ap (whole_among count) (sym h.split)

-- the link stands after what was passed on, and gave away what was processed
stands_shown : (from to : SideValue) (packets : List NspMessage) (count size : ℕ) → AreFull (take from.posted packets) → from.link.setup.seg_size ≡ size → IsCarried from to packets count
    → Stands to.link size (all_joined (take from.posted packets)) (all_joined (whole_among count (take from.posted packets)))
stands_shown from to packets count size full same h =
    let handed = handed-bytes from.posted h.handed from.outbox packets h.posted h.bytes in
    subst (λ (g : List NspMessage). Stands to.link size (all_joined (take from.posted packets)) (all_joined g)) (among_whole (take from.posted packets) count to.offset h.gone full h.among)
    (subst (λ (l : List (List ℕ)). Stands to.link size l (all_joined h.gone)) handed
    (subst (λ (n : ℕ). Stands to.link n h.handed (all_joined h.gone)) same h.way.stands))

-- the link of an end is that of the machine
pub link_of : (p : Parts) (end : End) → AreParts p → IsLinkOf (state_of p) end (side p end).link
link_of p A h =
    let is = is_side_a p h in
    record {
      local = is.local;
      remote = is.remote;
      size = is.size;
      window = refl;
      sent = refl;
      acked = refl;
      queued = subst (Sends p.a.link) is.messages_are h.from_a.way.sends;
      received = refl;
      held = refl;
      limit = h.limit;
      stands = stands_shown p.b p.a (answers p) p.read p.a.link.setup.seg_size (full-take p.b.posted (answers p) (answers_full p.accessed.own [] (served_items p))) h.alike.size h.from_b;
      running = h.from_a.way.running;
    }
link_of p B h =
    let is = is_side_b p h in
    record {
      local = is.local;
      remote = is.remote;
      size = is.size;
      window = h.alike.window;
      sent = refl;
      acked = refl;
      queued = subst (Sends p.b.link) is.messages_are h.from_b.way.sends;
      received = refl;
      held = refl;
      limit = h.alike.limit ∙ h.limit;
      stands = stands_shown p.a p.b (asked_messages p) p.served p.a.link.setup.seg_size (full-take p.a.posted (asked_messages p) (asked-full p.accessing.own p.accessed.own p.requests)) refl h.from_a;
      running = h.from_b.way.running;
    }

-- as it is shown
pub shown_link : (p : Parts) (end : End) (s : State) (at : End) (v : LinkValue) → AreParts p → state_of p ≡ s → at ≡ end → v ≡ (side p end).link → IsLinkOf s at v
shown_link p end s at v h is same link =
    subst (λ (x : State). IsLinkOf x at v) is (subst (λ (e : End). IsLinkOf (state_of p) e v) (sym same) (subst (λ (l : LinkValue). IsLinkOf (state_of p) end l) (sym link) (link_of p end h)))

-- what the segments that it took come to
abbrev came : State → End → LinkValue → Type 0
came s end v = came_to s end ≡ record v.coming { inbox = left_link s end ++ v.coming.inbox }

came_is : (s : State) (end : End) (v : LinkValue) → IsLinkOf s end v → came s end v
came_is s end v h = ap (λ (n : ℕ). with_all_taken nothing_came (take n (coming_to s end))) (sym h.received) ∙ h.stands.taken

pub came_partial : (s : State) (end : End) (v : LinkValue) → IsLinkOf s end v → v.coming.partial ≡ (came_to s end).partial
came_partial s end v h = sym (ap (λ (c : Coming). c.partial) (came_is s end v h))

pub came_inbox : (s : State) (end : End) (v : LinkValue) → IsLinkOf s end v → left_link s end ++ v.coming.inbox ≡ (came_to s end).inbox
came_inbox s end v h = sym (ap (λ (c : Coming). c.inbox) (came_is s end v h))
