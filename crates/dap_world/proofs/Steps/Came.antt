-- A packet that is delivered is a step of the machine.
use Rattle.std.proofs.Common.{◌≡◌, ℕ, zero, suc, ◌+◌, ◌≤◌, ◌<◌, arith, refl, sym, ◌∙◌, subst, ap, true, false, List, [], ◌∷◌, length, map, inl, inr, lt-ltb, le-ltb, eq-eqb}
use Rattle.std.specs.Prelude.{◌⊎◌, max, nat_lt, Option, Some, None, IfSome, Result, Ok, Err, slice_get}
use Rattle.std.specs.Option.{option_map}
use Rattle.std.proofs.lemmas.Option.{slice_get-map}
use Rattle.std.proofs.lemmas.Bool.{cases_lt, cases_eq, ne_eqb}
use Rattle.nsp_link.specs.Cutting.{Piece, cut}
use Rattle.nsp_link.specs.Holding.{closed_up, following}
use Rattle.std.specs.Map.{keys_of}
use Rattle.nsp_link.specs.Limits.{max_segments, max_window, max_limit}
use Rattle.nsp_link.specs.declared.link.LinkSetup.{LinkSetup}
use Rattle.nsp_link.specs.Link.{LinkValue, Sends, KeepsEarly, got_of, held_after}
use Rattle.nsp_link.specs.Due.{DeliversPacket, MayRefuse, taken_after}
use Rattle.nsp_link.specs.declared.link.Got.{Got}
use Rattle.nsp_link.specs.declared.fault.LinkFault.{LinkFault}
use Rattle.dap_end.specs.Ports.{PortValue}
use Rattle.dap_end.specs.Moved.{with_link as port_with}
use Rattle.nsp_link.specs.Receiving.{Receives}
use Rattle.dap_end.specs.Asking.{HasAsked}
use Rattle.dap_end.specs.Done.{AskingValue}
use Rattle.dap_end.specs.Serving.{IsAfter}
use Rattle.dap_end.specs.Done.{ServingValue}
use Rattle.nsp_link.proofs.ForCallers.{closes, keeps, came_due}
use Rattle.dap_events.specs.declared.event.End.{End}
use Rattle.dap_events.specs.declared.event.End.TheVariants.{A, B}
use Rattle.dap_events.specs.declared.event.Event.TheVariants as event
use Rattle.dap_events.specs.declared.event.Step.{Step}
use Rattle.dap_events.specs.declared.event.Step.TheVariants as step
use Rattle.dap_events.specs.declared.event.WorldFault.{WorldFault}
use Rattle.dap_events.specs.declared.event.WorldFault.TheVariants as fault
use Rattle.dap_world.specs.Machine.{reports_by_a, State, EndState, other_end, end_of, with_end, is_stale, taken_and_held, end_after_delivery, Steps, RefusesEvent}
use Rattle.dap_world.specs.Runs.{TakesMemory, ComesTo}
use Rattle.dap_world.specs.Inner.Worlds.{IsWorld, AreTrue, AreEarly, WasSent}
use Rattle.dap_world.specs.declared.side.Wired.{Wired}
use Rattle.dap_world.specs.Wires.{sending_of}
use Rattle.dap_world.specs.Inner.Sides.{SideValue, port_of, side_of}
use Rattle.dap_world.specs.Inner.Ways.{IsWay, Delivery, NotDue, delivered_as, is_old_wired}
use Rattle.dap_world.specs.Inner.Parts.{Parts, AreParts, AreAlike, asked_messages, answers, asking_end, serving_end, end_state, state_of, side, with_side}
use Rattle.dap_msg.specs.Blocked.{NspMessage}
use Rattle.dap_world.proofs.Steps.Counting.{segments-handed}
use Rattle.dap_world.proofs.Steps.Directions.{closed}
use Rattle.dap_world.proofs.Headline.Kept.{kept-step}
use Rattle.dap_world.proofs.Steps.Ways.{takes, told_gives, told_takes}
use Rattle.dap_world.proofs.Steps.Arriving.{AllNear, IsDueAs, due}
use Rattle.dap_world.proofs.Steps.Wrote.{AreAfter, AreThen, StaysAt, asking_parts, serving_parts, at_a, at_b, none_more}
use Rattle.dap_end.specs.Histories.{Still}

-- ---- What is near.

-- what is taken once the segment came was sent
taken_sent : (v : LinkValue) (k : Option ℕ) (sent : ℕ) → WasSent sent k → v.coming.received ≤ sent → AreEarly (v.coming.received + 1) sent (keys_of v.held) → taken_after v k ≤ sent
taken_sent v None sent was le early = le
taken_sent v (Some k) sent was le early =
    elim (cases_eq k (v.coming.received + 1)) [
      | inl same ↦
          let c = closed (keys_of v.held) k sent was.1 (subst (λ (n : ℕ). AreEarly n sent (keys_of v.held)) (sym same) early) in
          let goes : (closed_up k (keys_of v.held)).0 ≡ k + length (following k v.held) = ap (λ (x : ℕ × List ℕ). x.0) (closes k v.held) in
          rw (eq-eqb k (v.coming.received + 1) same) (omega (arith, c.1, goes))
      | inr apart ↦ rw (ne_eqb k (v.coming.received + 1) apart) le
    ]

near_one : (k : Option ℕ) (sent n : ℕ) → WasSent sent k → sent ≤ n → IfSome k (λ k. k ≤ n)
near_one None sent n was le = tt
near_one (Some k) sent n was le = omega (arith, was.1)

near_all : (v : LinkValue) (sent acked : ℕ) (wire : List Wired) → AreTrue sent acked (map sending_of wire) → sent ≤ v.coming.received + max_window → sent ≤ max_segments → acked ≤ v.sent
    → v.coming.received ≤ sent → AreEarly (v.coming.received + 1) sent (keys_of v.held) → AllNear v wire
near_all v sent acked [] h near few le low early = tt
near_all v sent acked (w ∷ wire) h near few le low early =
    let most = taken_sent v w.segment sent h.0 low early in (
      record { segment = near_one w.segment sent (v.coming.received + max_window) h.0 near; few = omega (arith, most, few); acks = omega (arith, h.1) },
      near_all v sent acked wire h.2 near few le low early,
    )

pub all_near : (p : Parts) (end : End) → AreParts p → AllNear (side p end).link (side p (other_end end)).wire
all_near p A h =
    let there = segments-handed p.a.link.setup.seg_size p.b.posted h.from_b.handed p.b.outbox (answers p) h.from_b.posted h.from_b.bytes in
    let few : length _ ≤ max_segments = subst (λ (n : ℕ). length (cut n h.from_b.handed) ≤ max_segments) h.alike.size h.from_b.way.few in
    let counts = h.world.from_b.counts in
    let back = h.world.from_a.counts in
    near_all p.a.link p.b.link.sent p.b.link.coming.received p.b.wire h.world.from_b.wire
    (omega (arith, counts.within_window, counts.acked_taken, h.world.window)) (omega (arith, counts.sent_there, there, few)) (omega (arith, back.taken_sent)) counts.taken_sent h.world.from_b.early
all_near p B h =
    let there = segments-handed p.a.link.setup.seg_size p.a.posted h.from_a.handed p.a.outbox (asked_messages p) h.from_a.posted h.from_a.bytes in
    let few = h.from_a.way.few in
    let counts = h.world.from_a.counts in
    let back = h.world.from_b.counts in
    near_all p.b.link p.a.link.sent p.a.link.coming.received p.a.wire h.world.from_a.wire
    (omega (arith, counts.within_window, counts.acked_taken, h.world.window)) (omega (arith, counts.sent_there, there, few)) (omega (arith, back.taken_sent)) counts.taken_sent h.world.from_a.early

-- ---- What comes.

-- the machine takes in what the link does, and keeps what it keeps
came_is : (v : LinkValue) (k : Option ℕ) (p : Piece) → IfSome k (λ n. n < v.coming.received + 1 + v.setup.window)
    → taken_and_held true v.coming.received (keys_of v.held) k ≡ (taken_after v k, keys_of (held_after v k p))
came_is v None p near = refl
came_is v (Some k) p near =
    elim (cases_eq k (v.coming.received + 1)) [
      | inl same ↦ rw (eq-eqb k (v.coming.received + 1) same) (closes k v.held)
      | inr apart ↦ elim (cases_lt v.coming.received k) [
        | inl lt ↦
            let below : nat_lt k (v.coming.received + 1 + v.setup.window) ≡ true = lt-ltb k (v.coming.received + 1 + v.setup.window) near in
            rw (ne_eqb k (v.coming.received + 1) apart, lt-ltb v.coming.received k lt, below) (ap (λ (l : List ℕ). (v.coming.received, l)) (sym (keeps k p v.held)))
        | inr le ↦ rw (ne_eqb k (v.coming.received + 1) apart, le-ltb v.coming.received k le) refl
      ]
    ]

below_one : (k : Option ℕ) (sent n : ℕ) → WasSent sent k → sent < n → IfSome k (λ k. k < n)
below_one None sent n was lt = tt
below_one (Some k) sent n was lt = omega (arith, was.1)

true_at : (wire : List Wired) (j : ℕ) (w : Wired) (n t : ℕ) → AreTrue n t (map sending_of wire) → slice_get wire j ≡ Some w → WasSent n w.segment
true_at [] j w n t h e = let no : ⊥ = cc in absurd no
true_at (x ∷ wire) zero w n t h e = let same : x ≡ w = cc in subst (λ (x : Wired). WasSent n x.segment) same h.0
true_at (x ∷ wire) (suc j) w n t h e = true_at wire j w n t h.2 e

-- every segment on the wire is below the window of the link to which it goes
below : (p : Parts) (end : End) (j : ℕ) (w : Wired) → AreParts p → slice_get (side p (other_end end)).wire j ≡ Some w → IfSome w.segment (λ n. n < (side p end).link.coming.received + 1 + (side p end).link.setup.window)
below p A j w h at =
    let counts = h.world.from_b.counts in
    below_one w.segment p.b.link.sent (p.a.link.coming.received + 1 + p.a.link.setup.window) (true_at p.b.wire j w p.b.link.sent p.b.link.coming.received h.world.from_b.wire at)
    (omega (arith, counts.within_window, counts.acked_taken))
below p B j w h at =
    let counts = h.world.from_a.counts in
    let window = h.alike.window in
    below_one w.segment p.a.link.sent (p.b.link.coming.received + 1 + p.b.link.setup.window) (true_at p.a.wire j w p.a.link.sent p.a.link.coming.received h.world.from_a.wire at)
    (omega (arith, counts.within_window, counts.acked_taken, window))

at_wire : (wire : List Wired) (j : ℕ) (o : Option Wired) → slice_get wire j ≡ o → slice_get (map sending_of wire) j ≡ option_map sending_of o
at_wire wire j o at = slice_get-map sending_of wire j ∙ ap (option_map sending_of) at

there : (p : Parts) (end : End) (j : ℕ) (o : Option Wired) → slice_get (side p end).wire j ≡ o → slice_get (end_of (state_of p) end).wire j ≡ option_map sending_of o
there p A j o at = at_wire p.a.wire j o at
there p B j o at = at_wire p.b.wire j o at

stale_is : (p : Parts) (end : End) (w : Wired) → is_stale (end_of (state_of p) end) (sending_of w) ≡ is_old_wired (side p end).link w
stale_is p A w = refl
stale_is p B w = refl

abbrev with_link : Parts → End → LinkValue → Parts
with_link p end v = with_side p end (record (side p end) { link = v })

-- the state after a delivery
comes_to : (s : SideValue) (packets : List NspMessage) (w : Wired) (v : LinkValue) → IfSome w.segment (λ n. n < s.link.coming.received + 1 + s.link.setup.window) → DeliversPacket s.link v w.segment w.acks
    → end_after_delivery true (end_state s packets) (sending_of w) ≡ end_state (record s { link = v }) packets
comes_to s packets w v near d =
    ap (λ (c : ℕ × List ℕ). record (end_state s packets) { acked = max s.link.acked w.acks; taken = c.0; held = c.1 }) (came_is s.link w.segment d.held.0 near)
    ∙ rw (d.sent, d.acked, d.received, d.held.1) refl

delivered_is : (p : Parts) (end : End) (w : Wired) (v : LinkValue) → IfSome w.segment (λ n. n < (side p end).link.coming.received + 1 + (side p end).link.setup.window)
    → DeliversPacket (side p end).link v w.segment w.acks → with_end (state_of p) end (end_after_delivery true (end_of (state_of p) end) (sending_of w)) ≡ state_of (with_link p end v)
delivered_is p A w v near d = ap (λ (e : EndState). with_end (state_of p) A e) (comes_to p.a (asked_messages p) w v near d) ∙ rw d.setup refl
delivered_is p B w v near d = ap (λ (e : EndState). with_end (state_of p) B e) (comes_to p.b (answers p) w v near d)

parts_came : (p : Parts) (end : End) (w : Wired) (v : LinkValue) → AreParts p → DeliversPacket (side p end).link v w.segment w.acks
    → ((messages given : List (List ℕ)) → IsWay (side p (other_end end)) (side p end).link messages given → IsWay (side p (other_end end)) v messages given)
    → ((messages : List (List ℕ)) → Sends (side p end).link messages → Sends v messages)
    → StaysAt p end (record (side p end) { link = v }) → IsWorld (state_of (with_link p end v)) → AreParts (with_link p end v)
unfolding reports_by_a
parts_came p A w v h d on sends still world =
    let same = d.setup in
    record {
      world = world;
      plain_a = h.plain_a;
      plain_b = h.plain_b;
      alike = subst (λ (s : LinkSetup). AreAlike p.b.link.setup s) (sym same) h.alike;
      limit = ap (λ (s : LinkSetup). s.max_message) same ∙ h.limit;
      most = subst (λ (s : LinkSetup). s.max_message ≤ max_limit) (sym same) h.most;
      from_a = told_gives (asked_messages p) p.served p.a p.b h.from_a v w.segment w.acks d (sends h.from_a.handed h.from_a.way.sends);
      from_b = told_takes (answers p) p.read p.b p.a h.from_b v on;
      sent_is = h.sent_is;
      reports_is = h.reports_is;
      asking = (h.asking.0, still _ h.asking.1);
      serving = h.serving;
    }
parts_came p B w v h d on sends still world =
    record {
      world = world;
      plain_a = h.plain_a;
      plain_b = h.plain_b;
      alike = subst (λ (s : LinkSetup). AreAlike s p.a.link.setup) (sym d.setup) h.alike;
      limit = h.limit;
      most = h.most;
      from_a = told_takes (asked_messages p) p.served p.a p.b h.from_a v on;
      from_b = told_gives (answers p) p.read p.b p.a h.from_b v w.segment w.acks d (sends h.from_b.handed h.from_b.way.sends);
      sent_is = h.sent_is;
      reports_is = h.reports_is;
      asking = h.asking;
      serving = (h.serving.0, still _ h.serving.1);
    }

taken_is : (p : Parts) (end : End) → (end_of (state_of p) end).taken ≡ (side p end).link.coming.received
taken_is p A = refl
taken_is p B = refl

-- it is a step
steps : (p : Parts) (end : End) (j : ℕ) (w : Wired) → slice_get (side p (other_end end)).wire j ≡ Some w → is_old_wired (side p end).link w ≡ false
    → Steps (state_of p) (event.Deliver end j) (step.Delivered (got_of (side p end).link.coming.received w.segment)) (with_end (state_of p) end (end_after_delivery true (end_of (state_of p) end) (sending_of w)))
unfolding Steps
steps p end j w at young =
    (sending_of w, (there p (other_end end) j (Some w) at, stale_is p end w ∙ young), ap (λ (n : ℕ). step.Delivered (got_of n w.segment)) (sym (taken_is p end)), refl)

-- the segment is the next, or an early one that the link keeps
abbrev TakesIn : LinkValue → Option ℕ → Type 0
TakesIn v None = ⊥
TakesIn v (Some k) = (k ≡ v.coming.received + 1) ⊎ KeepsEarly v k

-- a packet that the link takes in may take memory
takes_some : (v : LinkValue) (k : Option ℕ) → TakesIn v k → TakesMemory (step.Delivered (got_of v.coming.received k))
takes_some v None takes = absurd takes
takes_some v (Some k) (inl next) = rw (eq-eqb k (v.coming.received + 1) next) tt
takes_some v (Some k) (inr keeps) = rw (ne_eqb k (v.coming.received + 1) (λ same. omega (arith, same, keeps.0)), lt-ltb v.coming.received k (omega (arith, keeps.0))) tt

-- only memory was wanting
not_exhausted : (v : LinkValue) (k : Option ℕ) (f : LinkFault) → taken_after v k ≤ max_segments → MayRefuse v k f → TakesIn v k
not_exhausted v None f few refused = absurd refused
not_exhausted v (Some k) f few (inl memory) = memory.1
not_exhausted v (Some k) f few (inr many) = absurd (omega (arith, few, many.2))

any_way : (p : Parts) (end : End) → AreParts p → (messages : List (List ℕ)) × (given : List (List ℕ)) × IsWay (side p (other_end end)) (side p end).link messages given
any_way p A h = (_, _, h.from_b.way)
any_way p B h = (_, _, h.from_a.way)

not_due : (p : Parts) (end : End) (j : ℕ) (f : WorldFault) → NotDue (side p end).link (side p (other_end end)).wire j f → RefusesEvent (state_of p) (event.Deliver end j) f
unfolding RefusesEvent
not_due p end j fault.NoSuchPacket none = there p (other_end end) j None none
not_due p end j fault.Stale old = (sending_of old.0, there p (other_end end) j (Some old.0) old.1, stale_is p end old.0 ∙ old.2)
not_due p end j fault.NoMemory never = absurd never
not_due p end j fault.NothingToDo never = absurd never
not_due p end j (fault.Ask f) never = absurd never
not_due p end j fault.Exhausted never = absurd never
not_due p end j fault.BadSetup never = absurd never

went_not : (p : Parts) (end : End) (j : ℕ) (f : WorldFault) → NotDue (side p end).link (side p (other_end end)).wire j f → ComesTo (state_of p) (event.Deliver end j) (Err f) (state_of p)
went_not p end j fault.NoSuchPacket none = (not_due p end j fault.NoSuchPacket none, refl)
went_not p end j fault.Stale old = (not_due p end j fault.Stale old, refl)
went_not p end j fault.NoMemory never = absurd never
went_not p end j fault.NothingToDo never = absurd never
went_not p end j (fault.Ask f) never = absurd never
went_not p end j fault.Exhausted never = absurd never
went_not p end j fault.BadSetup never = absurd never

module _ (p : Parts) (end : End) (j : ℕ) (h : AreParts p) (w : Wired) (at : slice_get (side p (other_end end)).wire j ≡ Some w) (young : is_old_wired (side p end).link w ≡ false) where
  due_so : (messages given : List (List ℕ)) → IsWay (side p (other_end end)) (side p end).link messages given → IsDueAs (side p end).link (side p (other_end end)).link.setup.seg_size messages given w
  due_so messages given way = due (side p (other_end end)) (side p end).link messages given j w way (all_near p end h) at young

  took : (v : LinkValue) (r : Result Got LinkFault) → Receives (side p end).link v w.packet.items r → StaysAt p end (record (side p end) { link = v })
      → AreAfter p end (event.Deliver end j) (record (side p end) { link = v }) (delivered_as r)
  unfolding Steps RefusesEvent
  took v (Ok got) receives still =
      let way = any_way p end h in
      let d = due_so way.0 way.1 way.2 in
      let came = came_due _ v _ (Ok got) _ way.0 way.1 d.value w.segment w.acks receives d.spelled d.due in
      let on : (messages given : List (List ℕ)) → IsWay (side p (other_end end)) (side p end).link messages given → IsWay (side p (other_end end)) v messages given =
      λ messages given way. (let d = due_so messages given way in
      takes (side p (other_end end)) (side p end).link v messages given w.segment w.acks way came.1 (came_due _ v _ (Ok got) _ messages given d.value w.segment w.acks receives d.spelled d.due).2) in
      let went : Steps (state_of p) (event.Deliver end j) (step.Delivered got) (state_of (with_link p end v)) =
      subst (λ (x : State). Steps (state_of p) (event.Deliver end j) (step.Delivered got) x) (delivered_is p end w v (below p end j w h at) came.1)
      (subst (λ (g : Got). Steps (state_of p) (event.Deliver end j) (step.Delivered g) (with_end (state_of p) end (end_after_delivery true (end_of (state_of p) end) (sending_of w)))) (sym came.0) (steps p end j w at young)) in
      (parts_came p end w v h came.1 on receives.sends still (kept-step (state_of p) (state_of (with_link p end v)) (event.Deliver end j) (step.Delivered got) went h.world), went)
  took v (Err f) receives still =
      let way = any_way p end h in
      let d = due_so way.0 way.1 way.2 in
      let none = came_due _ v _ (Err f) _ way.0 way.1 d.value w.segment w.acks receives d.spelled d.due in
      none_more p end (event.Deliver end j) (record (side p end) { link = v }) fault.NoMemory h (ap (λ (x : LinkValue). record (side p end) { link = x }) none.1)
      ((_, _, steps p end j w at young, takes_some (side p end).link w.segment (not_exhausted (side p end).link w.segment f d.few none.0)), refl)

delivered_to : (p : Parts) (end : End) (j : ℕ) (v : LinkValue) (r : Result Step WorldFault) → AreParts p → Delivery (side p end).link v (side p (other_end end)).wire j r
    → StaysAt p end (record (side p end) { link = v }) → AreAfter p end (event.Deliver end j) (record (side p end) { link = v }) r
delivered_to p end j v r h (inl none) still =
    subst (λ (x : Result Step WorldFault). AreAfter p end (event.Deliver end j) (record (side p end) { link = v }) x) (sym none.2)
    (none_more p end (event.Deliver end j) (record (side p end) { link = v }) none.0 h (ap (λ (x : LinkValue). record (side p end) { link = x }) none.3) (went_not p end j none.0 none.1))
delivered_to p end j v r h (inr some) still =
    subst (λ (x : Result Step WorldFault). AreAfter p end (event.Deliver end j) (record (side p end) { link = v }) x) (sym some.5)
    (took p end j h some.0 some.1 some.2 v some.3 some.4 still)

pub delivered_a : (p : Parts) (v : AskingValue) (j : ℕ) (r : Result Step WorldFault) → AreParts p → v ≡ record (asking_end p) { port = port_with (port_of p.a) v.port.link }
    → Delivery p.a.link v.port.link p.b.wire j r → Still HasAsked (asking_end p) v → AreThen p (event.Deliver A j) (asking_parts p v p.a.posted p.a.wire) r
delivered_a p v j r h rest comes still =
    let port : v.port ≡ port_with (port_of p.a) v.port.link = ap (λ (x : AskingValue). x.port) rest in
    let is : side_of v.port p.a.posted p.a.wire ≡ record p.a { link = v.port.link } = ap (λ (x : PortValue). side_of x p.a.posted p.a.wire) port in
    let moved : v ≡ record (asking_end p) { port = v.port } = rest ∙ ap (λ (x : PortValue). record (asking_end p) { port = x }) (sym port) in
    at_a p (event.Deliver A j) v p.a.wire r moved still
    (λ stays. subst (λ (s : SideValue). AreAfter p A (event.Deliver A j) s r) (sym is)
    (delivered_to p A j v.port.link r h comes (subst (λ (s : SideValue). StaysAt p A s) is stays)))

pub delivered_b : (p : Parts) (v : ServingValue) (j : ℕ) (r : Result Step WorldFault) → AreParts p → v ≡ record (serving_end p) { port = port_with (port_of p.b) v.port.link }
    → Delivery p.b.link v.port.link p.a.wire j r → Still IsAfter (serving_end p) v → AreThen p (event.Deliver B j) (serving_parts p v p.b.posted p.b.wire) r
delivered_b p v j r h rest comes still =
    let port : v.port ≡ port_with (port_of p.b) v.port.link = ap (λ (x : ServingValue). x.port) rest in
    let is : side_of v.port p.b.posted p.b.wire ≡ record p.b { link = v.port.link } = ap (λ (x : PortValue). side_of x p.b.posted p.b.wire) port in
    let moved : v ≡ record (serving_end p) { port = v.port } = rest ∙ ap (λ (x : PortValue). record (serving_end p) { port = x }) (sym port) in
    at_b p (event.Deliver B j) v p.b.wire r moved still
    (λ stays. subst (λ (s : SideValue). AreAfter p B (event.Deliver B j) s r) (sym is)
    (delivered_to p B j v.port.link r h comes (subst (λ (s : SideValue). StaysAt p B s) is stays)))
