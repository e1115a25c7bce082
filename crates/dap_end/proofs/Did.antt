-- How a turn of serving ends, by the step at which it ends, and what all of them come to.
use Rattle.std.proofs.Common.{◌≡◌, ℕ, ◌≤◌, ◌<◌, arith, refl, sym, ◌∙◌, subst, ap, [], inl, inr, false, true}
use Rattle.std.specs.Prelude.{Bool, Ok, Err, Result, Option, Some, None, MatchOption, is_some}
use Rattle.nsp_link.specs.declared.fault.LinkFault.{LinkFault}
use Rattle.nsp_link.specs.declared.fault.LinkFault.TheVariants as fault
use Rattle.nsp_link.specs.Cutting.{total_length}
use Rattle.nsp_link.specs.Link.{IsLink, waiting_bytes}
use Rattle.nsp_link.specs.Sending.{SendAllFault}
use Rattle.dap_end.specs.declared.fault.EndFault.TheVariants as end_fault
use Rattle.dap_end.specs.Ports.{EndValue, HandsOver, PortValue, bytes_waiting}
use Rattle.dap_end.specs.By.{ServedBy, ServesAt, TurnsBy, MayServeAt, HaltsBy, serves_by, end_with}
use Rattle.dap_end.specs.Turns.{DidAll}
use Rattle.dap_end.specs.Inner.Answered.{ended_by}
use Rattle.dap_end.specs.Inner.Turned.{Paused, Turned}
use Rattle.dap_end.proofs.ByTurns.{falls, inbox_posted, left, none_left, none_waits, on_more, waiting_here}

-- what waits at a port at which no message waits
no_outbox : (told : ℕ) (p : PortValue) → told ≡ waiting_bytes p.link → p.outbox ≡ [] → told ≡ bytes_waiting p
no_outbox told p value none =
    let none_there = ap total_length none in
    omega (arith, value, none_there)

-- An end with port p, then q once what waited was passed on, of which the link tells this many bytes.
module _ {P : Type 0} (serves : ServesAt P) (most told : ℕ) (p q : PortValue) (s : P) (n : ℕ)
    (hands : HandsOver (end_with p s) (end_with q s) n) (value : told ≡ waiting_bytes q.link) (valid : IsLink q.link) where
  here : told ≡ bytes_waiting p
  here = waiting_here told q.link (end_with p s) (end_with q s) n value valid refl hands

  idle : q.outbox ≡ []
  idle = none_waits (end_with p s) (end_with q s) n hands

  -- as many bytes wait as may
  pub by_limit : most ≤ told → Turned serves most (end_with p s) (end_with q s) (Ok false)
  by_limit full =
      let then = no_outbox told q value idle in
      record { count = n; hands = hands; before = inr (omega (arith, full, here)); rests = inr (omega (arith, full, then)) }

  paused : (MayServeAt q → ⊥) → Paused most (end_with p s) (end_with q s)
  paused none =
      let left = none_left q idle none in
      let came = inbox_posted (end_with p s) (end_with q s) n hands in
      record { count = n; hands = hands; before = inl (sym came ∙ left); rests = inl left }

  -- an item was served, or nothing that came is left
  pub by_item : (r : PortValue) (t : P) (o : Option ℕ) (b : Bool) → told < most
      → MatchOption o ((r ≡ q) × (t ≡ s) × (MayServeAt q → ⊥)) (λ n. ServedBy serves (end_with q s) (end_with r t) n)
      → b ≡ is_some o → Turned serves most (end_with p s) (end_with r t) (Ok b)
  by_item r t None b room h is =
      subst (λ (c : Bool). Turned serves most (end_with p s) (end_with r t) (Ok c)) (sym is)
      (subst (λ (x : PortValue). Paused most (end_with p s) (end_with x t)) (sym h.0)
      (subst (λ (y : P). Paused most (end_with p s) (end_with q y)) (sym h.1) (paused h.2)))
  by_item r t (Some m) b room h is =
      subst (λ (c : Bool). Turned serves most (end_with p s) (end_with r t) (Ok c)) (sym is)
      (record { posted = end_with q s; count = n; hands = hands; room = omega (arith, room, here); answered = m; served = h })

  -- memory to serve the next item is refused
  pub by_want : (r : PortValue) (t : P) → told < most → (r ≡ q) × (t ≡ s) × MayServeAt q → Turned serves most (end_with p s) (end_with r t) (Err fault.NoMemory)
  by_want r t room none =
      subst (λ (x : PortValue). HaltsBy most (end_with p s) (end_with x t) (end_fault.Link fault.NoMemory)) (sym none.0)
      (subst (λ (y : P). HaltsBy most (end_with p s) (end_with q y) (end_fault.Link fault.NoMemory)) (sym none.1)
      (inr (refl, omega (arith, room, here), (n, hands), none.2)))

-- what waits is refused
pub by_refused : {P : Type 0} (serves : ServesAt P) (most : ℕ) (p q : PortValue) (s : P) (f : LinkFault) → (q ≡ p) × SendAllFault p.link p.outbox f → Turned serves most (end_with p s) (end_with q s) (Err f)
by_refused serves most p q s f h = inl (ap (λ (x : PortValue). end_with x s) h.0, h.1)

-- ---- All turns.

module _ {P : Type 0} (serves : ServesAt P) (most : ℕ) (old : EndValue P) where
  -- one turn more
  pub turns_more : (a b : EndValue P) (r : Bool) → r ≡ true → TurnsBy serves most old a → Turned serves most a b (Ok r) → TurnsBy serves most old b
  turns_more a b true is turns t = on_more serves most old a t.posted b t.count t.answered turns t.hands t.room t.served
  turns_more a b false is turns t = absurd (let none : ⊥ = cc in none)

  -- less is left after it
  pub turn_falls : (a b : EndValue P) (r : Bool) → r ≡ true → Turned serves most a b (Ok r) → left b.port < left a.port
  turn_falls a b true is t =
      subst (λ (k : ℕ). left b.port < k) (ap (λ (x : EndValue P). left x.port) t.hands.1) (falls serves t.posted b t.answered t.served)
  turn_falls a b false is t = absurd (let none : ⊥ = cc in none)

  -- the last one
  pub turns_end : (a b : EndValue P) (r : Bool) → r ≡ false → TurnsBy serves most old a → Turned serves most a b (Ok r) → DidAll (serves_by serves most) old b (Ok tt)
  turns_end a b true is turns t = absurd (let none : ⊥ = cc in none)
  turns_end a b false is turns t = (a, t.count, turns, t.before, t.hands)

  -- one that fails
  pub turns_fail : (a b : EndValue P) (r : Result (Unit {0}) LinkFault) (f : LinkFault) → r ≡ Err f → TurnsBy serves most old a → Turned serves most a b (Err f) → DidAll (serves_by serves most) old b (ended_by r)
  turns_fail a b r f is turns t =
      subst (λ (q : Result (Unit {0}) LinkFault). DidAll (serves_by serves most) old b (ended_by q)) (sym is) (a, turns, t)
