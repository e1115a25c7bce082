-- What going on and a packet leave on one link of a node, and what is answered, follow from the node, out of memory
-- aside.
use Rattle.std.proofs.Common.{◌≡◌, ◌≢◌, ℕ, ◌≤◌, arith, refl, sym, ◌∙◌, subst, ap, Bool, false, true≢false, List, [], ◌∷◌, ◌++◌, length, inl, inr}
use Rattle.std.specs.Prelude.{IsTrue, Option, Some, None, Result, Ok, Err}
use Rattle.std.specs.Option.{option_to_list}
use Rattle.std.specs.Global.{Vec}
use Rattle.hex.specs.Hex.{IsBytes as AreBytes}
use Rattle.dap_msg.specs.declared.items.Item.{Item}
use Rattle.dap_msg.specs.Items.{ItemAt}
use Rattle.dap_msg.specs.Blocked.{bodies}
use Rattle.dap_msg.proofs.ForCallers.{one_item}
use Rattle.nsp_link.specs.declared.link.Got.{Got}
use Rattle.nsp_link.specs.declared.fault.LinkFault.{LinkFault}
use Rattle.nsp_link.specs.declared.fault.LinkFault.TheVariants as fault
use Rattle.nsp_link.specs.Link.{Sends}
use Rattle.nsp_link.specs.Sending.{may_queue, SendAllFault}
use Rattle.nsp_link.proofs.ForCallers.{sends_all}
use Rattle.dap_accessed.specs.Standing.{Files}
use Rattle.dap_accessed.specs.declared.setup.ServerSetup.{ServerSetup}
use Rattle.dap_shared.specs.Nodes.{Event, Serves, node_after}
use Rattle.dap_shared.specs.Noted.{LeastOf, NotedServed, NotedServes, NotedValue}
use Rattle.dap_shared.specs.Shared.{SharedAfter, SharedValue, shared_of}
use Rattle.dap_end.specs.declared.fault.EndFault.{EndFault}
use Rattle.dap_end.specs.declared.fault.EndFault.TheVariants as end_fault
use Rattle.dap_end.specs.declared.fault.TakeFault.{TakeFault}
use Rattle.dap_end.specs.Ports.{HandsOver, PortValue, gone_on}
use Rattle.dap_end.specs.Moved.{with_outbox_sent}
use Rattle.dap_end.specs.By.{PortRests, ServedBy, TurnsBy, no_turn, one_turn}
use Rattle.dap_end.specs.Node.{NodeLinkValue, serves_on}
use Rattle.dap_end.specs.Taking.{HasRoom}
use Rattle.dap_end.specs.Turns.{DidAll, WentOn, TakesPacket}
use Rattle.dap_end.specs.Inner.Wanting.{went_wanting, took_wanting}
use Rattle.dap_end.proofs.ForCallers.{DoAlike, may_or_not, no_want, refused_one, took_same, went_same}
use Rattle.dap_live.specs.Inner.OneText.{HasCarried}

-- ---- One item.

-- what is kept of all links follows from the history
pub shared_one : (first : Files) (events : List Event) (one two : SharedValue) → one.setup ≡ two.setup → length one.sessions ≡ length two.sessions → SharedAfter first events one → SharedAfter first events two → one ≡ two
shared_one first events one two own links a b =
    a.stands ∙ ap (λ (s : ServerSetup). shared_of s (node_after s first (length one.sessions) events)) own
    ∙ ap (λ (k : ℕ). shared_of two.setup (node_after two.setup first k events)) links ∙ sym b.stands

passes : (b : Bool) → b ≡ false → IsTrue b → ⊥
passes b none some = true≢false (sym some ∙ none)

least_one : (test : ℕ → Bool) (number : ℕ → ℕ) (count : ℕ) (o p : Option ℕ) → LeastOf test number count o → LeastOf test number count p → o ≡ p
least_one test number count None None h k = refl
least_one test number count None (Some m) h k = absurd (passes (test k.0.0) (h k.0.0 k.0.1) k.0.2)
least_one test number count (Some n) None h k = absurd (passes (test h.0.0) (k h.0.0 h.0.1) h.0.2)
least_one test number count (Some n) (Some m) h k =
    let low : n ≤ number k.0.0 = h.1 k.0.0 k.0.1 k.0.2 in
    let other : m ≤ number h.0.0 = k.1 h.0.0 h.0.1 h.0.2 in
    let same : n ≡ m = omega (arith, low, other, h.0.3, k.0.3) in
    ap (λ (i : ℕ). Some i) same

pub noted_parts : (one two : NotedValue) → one.shared ≡ two.shared → one.addresses ≡ two.addresses → one.locked ≡ two.locked → one ≡ two
noted_parts one two shared addresses locked =
    ap (λ (s : SharedValue). record one { shared = s }) shared
    ∙ ap (λ (l : List ℕ). record one { shared = two.shared; addresses = l }) addresses
    ∙ ap (λ (l : List ℕ). record two { locked = l }) locked

noted_one : (link : ℕ) (item : Item) (old one two : NotedValue) (x y : Vec (Vec ℕ)) (first : Files) (events : List Event) → SharedAfter first events old.shared
    → NotedServes link item old one x → NotedServes link item old two y → (one ≡ two) × (bodies x.items ≡ bodies y.items)
noted_one link item old one two x y first events h a b =
    let low = a.noted first events h in
    let other = b.noted first events h in
    let lowest = least_one _ _ _ low.0 other.0 low.1 other.1 in
    let shared = shared_one first (events ++ Serves link item ∷ []) one.shared two.shared (a.shared.same_setup ∙ sym b.shared.same_setup) (a.shared.same_links ∙ sym b.shared.same_links)
    (a.shared.stands first events h) (b.shared.stands first events h) in (
      noted_parts one two shared (a.same_addresses ∙ sym b.same_addresses)
          (low.2 ∙ ap (λ (o : Option ℕ). old.locked ++ option_to_list o) lowest ∙ sym other.2),
      (a.shared.answered first events h).bytes ∙ sym (b.shared.answered first events h).bytes,
    )

abbrev with_port : NodeLinkValue → PortValue → NodeLinkValue
with_port v p = record v { port = p }

item_one : (link : ℕ) (old one two : NodeLinkValue) (n m : ℕ) → HasCarried old → ServedBy (NotedServed link) old one n → ServedBy (NotedServed link) old two m → (one ≡ two) × (n ≡ m)
item_one link old one two n m k a b =
    let bytes : b.one.bytes ≡ a.one.bytes = (let both = sym b.one.came ∙ a.one.came in cc) in
    let later : b.one.later ≡ a.one.later = (let both = sym b.one.came ∙ a.one.came in cc) in
    let same = one_item a.one.bytes old.port.offset a.by.item b.by.item a.served.next b.served.next a.one.fits a.by.reads (subst (λ (l : List ℕ). ItemAt l old.port.offset b.by.item b.served.next) bytes b.by.reads) in
    let other : NotedServes link a.by.item old.present two.present b.served.answers = subst (λ (i : Item). NotedServes link i old.present two.present b.served.answers) same.0 b.by.serves in
    let both = noted_one link a.by.item old.present one.present two.present a.served.answers b.served.answers k.0 k.1 k.2 a.by.serves other in
    let next : a.one.next ≡ b.one.next = sym a.next ∙ sym same.1 ∙ b.next in
    let port : one.port ≡ two.port =
    a.port ∙ ap (λ (l : List (List ℕ)). record (gone_on old.port a.one.bytes a.one.later a.one.next) { outbox = l }) both.1
    ∙ ap (λ (i : ℕ). record (gone_on old.port a.one.bytes a.one.later i) { outbox = bodies b.served.answers.items }) next
    ∙ ap (λ (l : List ℕ). record (gone_on old.port l a.one.later b.one.next) { outbox = bodies b.served.answers.items }) (sym bytes)
    ∙ ap (λ (l : List (List ℕ)). record (gone_on old.port b.one.bytes l b.one.next) { outbox = bodies b.served.answers.items }) (sym later)
    ∙ sym b.port in
    (ap (with_port one) port ∙ ap (λ (x : NotedValue). record two { present = x }) both.0, a.count ∙ ap (λ (p : PortValue). length p.outbox) port ∙ sym b.count)

-- ---- What is known of a link.

posted_is : (old new : NodeLinkValue) (n : ℕ) → HandsOver old new n → new ≡ record old { port = with_outbox_sent old.port }
posted_is old new n h = h.1

posted_carried : (old new : NodeLinkValue) (n : ℕ) → HandsOver old new n → HasCarried old → HasCarried new
posted_carried old new n h k =
    subst HasCarried (sym h.1) (k.0, k.1, k.2, (k.3.0 ++ old.port.outbox, sends_all old.port.link k.3.0 old.port.outbox k.3.1))

served_carried : (link : ℕ) (old new : NodeLinkValue) (n : ℕ) → ServedBy (NotedServed link) old new n → HasCarried old → HasCarried new
served_carried link old new n s k = (
  k.0,
  k.1 ++ Serves link s.by.item ∷ [],
  s.by.serves.shared.stands k.0 k.1 k.2,
  (k.3.0, subst (λ (p : PortValue). Sends p.link k.3.0) (sym s.port) (record { queue = k.3.1.queue; acked = k.3.1.acked; part = k.3.1.part })),
)

turns_carried : (link most : ℕ) (old new : NodeLinkValue) → TurnsBy (NotedServed link) most old new → HasCarried old → HasCarried new
turns_carried link most old new no_turn k = k
turns_carried link most old new (one_turn p m count n x room y on) k = turns_carried link most m new on (served_carried link p m n y (posted_carried old p count x k))

all_carried : (link most : ℕ) (old new : NodeLinkValue) (r : Result (Unit {0}) EndFault) → DidAll (serves_on link most) old new r → HasCarried old → HasCarried new
all_carried link most old new (Ok u) d k = posted_carried d.0 new d.1 d.4 (turns_carried link most old d.0 d.2 k)
all_carried link most old new (Err (end_fault.Link f)) (mid, on, inl (is, h)) k = subst HasCarried (sym is) (turns_carried link most old mid on k)
all_carried link most old new (Err (end_fault.Link f)) (mid, on, inr (want, room, p, may)) k = posted_carried mid new p.0 p.1 (turns_carried link most old mid on k)
all_carried link most old new (Err (end_fault.Read f)) d k = absurd d.2

-- ---- All of it.

-- no item is served from here
abbrev Stops : (link most : ℕ) → NodeLinkValue → Type 0
Stops link most v = (mid new : NodeLinkValue) (count n : ℕ) → HandsOver v mid count → HasRoom most v.port → ServedBy (NotedServed link) mid new n → ⊥

turns_one : (link most : ℕ) (old one two : NodeLinkValue) → HasCarried old → TurnsBy (NotedServed link) most old one → TurnsBy (NotedServed link) most old two → Stops link most one → Stops link most two → one ≡ two
turns_one link most old one two k no_turn no_turn a b = refl
turns_one link most old one two k no_turn (one_turn p m c n x has y on) a b = absurd (a p m c n x has y)
turns_one link most old one two k (one_turn p m c n x has y on) no_turn a b = absurd (b p m c n x has y)
turns_one link most old one two k (one_turn p m c n x has y on) (one_turn q l j i z room w other) a b =
    let same_posted : q ≡ p = posted_is old q j z ∙ sym (posted_is old p c x) in
    let after = posted_carried old p c x k in
    let same = item_one link p m l n i after y (subst (λ (v : NodeLinkValue). ServedBy (NotedServed link) v l i) same_posted w) in
    turns_one link most m one two (served_carried link p m n y after) on (subst (λ (v : NodeLinkValue). TurnsBy (NotedServed link) most v two) (sym same.0) other) a b

no_next : (bytes : List ℕ) (later : List (List ℕ)) → [] ≡ bytes ∷ later → ⊥
no_next bytes later e = cc

stops_resting : (link most : ℕ) (v : NodeLinkValue) → PortRests most v.port → Stops link most v
stops_resting link most v (inl none) = λ mid new c n x room y. no_next y.one.bytes y.one.later (sym (ap (λ (w : NodeLinkValue). w.port.link.coming.inbox) (posted_is v mid c x) ∙ none) ∙ y.one.came)
stops_resting link most v (inr full) = λ mid new c n x room y. omega (arith, full, room)

stops_refused : (link most : ℕ) (v : NodeLinkValue) (f : LinkFault) → f ≢ fault.NoMemory → SendAllFault v.port.link v.port.outbox f → Stops link most v
stops_refused link most v f want h = λ mid new c n x room y. may_or_not v.port.link v.port.outbox f want x.0 h

-- nothing was left to serve, and then what waits was passed on
abbrev Up : (link most : ℕ) → NodeLinkValue → NodeLinkValue → Type 0
Up link most old new = (last : NodeLinkValue) × (n : ℕ) × TurnsBy (NotedServed link) most old last × PortRests most last.port × HandsOver last new n

up_one : (link most : ℕ) (old one two : NodeLinkValue) → HasCarried old → Up link most old one → Up link most old two → one ≡ two
up_one link most old one two k a b =
    let last = turns_one link most old a.0 b.0 k a.2 b.2 (stops_resting link most a.0 a.3) (stops_resting link most b.0 b.3) in
    posted_is a.0 one a.1 a.4 ∙ ap (λ (v : NodeLinkValue). record v { port = with_outbox_sent v.port }) last ∙ sym (posted_is b.0 two b.1 b.4)

-- what waits is refused
abbrev Stopped : (link most : ℕ) → NodeLinkValue → NodeLinkValue → LinkFault → Type 0
Stopped link most old new f = TurnsBy (NotedServed link) most old new × SendAllFault new.port.link new.port.outbox f

stopped_of : (link most : ℕ) (old new : NodeLinkValue) (f : LinkFault) → f ≢ fault.NoMemory → DidAll (serves_on link most) old new (Err (end_fault.Link f)) → Stopped link most old new f
stopped_of link most old new f want (mid, on, inl (is, h)) = subst (λ (v : NodeLinkValue). Stopped link most old v f) (sym is) (on, h)
stopped_of link most old new f want (mid, on, inr h) = absurd (want h.0)

up_or_not : (link most : ℕ) (old one two : NodeLinkValue) (f : LinkFault) → HasCarried old → f ≢ fault.NoMemory → Up link most old one → Stopped link most old two f → ⊥
up_or_not link most old one two f k want a b =
    let last = turns_one link most old a.0 two k a.2 b.0 (stops_resting link most a.0 a.3) (stops_refused link most two f want b.1) in
    may_or_not two.port.link two.port.outbox f want (subst (λ (v : NodeLinkValue). IsTrue (may_queue v.port.link v.port.outbox)) last a.4.0) b.1

stopped_one : (link most : ℕ) (old one two : NodeLinkValue) (f g : LinkFault) → HasCarried old → f ≢ fault.NoMemory → g ≢ fault.NoMemory → Stopped link most old one f → Stopped link most old two g → (one ≡ two) × (f ≡ g)
stopped_one link most old one two f g k nf ng a b =
    let last = turns_one link most old one two k a.0 b.0 (stops_refused link most one f nf a.1) (stops_refused link most two g ng b.1) in
    (last, refused_one two.port.link two.port.outbox f g nf ng (subst (λ (v : NodeLinkValue). SendAllFault v.port.link v.port.outbox f) last a.1) b.1)

abbrev failed_by : LinkFault → Result (Unit {0}) EndFault
failed_by f = Err (end_fault.Link f)

all_one : (link most : ℕ) (old one two : NodeLinkValue) (r s : Result (Unit {0}) EndFault) → HasCarried old → went_wanting r ≡ false → went_wanting s ≡ false → DidAll (serves_on link most) old one r → DidAll (serves_on link most) old two s
    → (one ≡ two) × (r ≡ s)
all_one link most old one two (Ok u) (Ok w) k nr ns a b = (up_one link most old one two k a b, refl)
all_one link most old one two (Ok u) (Err (end_fault.Link g)) k nr ns a b =
    absurd (up_or_not link most old one two g k (no_want g ns) a (stopped_of link most old two g (no_want g ns) b))
all_one link most old one two (Ok u) (Err (end_fault.Read g)) k nr ns a b = absurd b.2
all_one link most old one two (Err (end_fault.Link f)) (Ok w) k nr ns a b =
    absurd (up_or_not link most old two one f k (no_want f nr) b (stopped_of link most old one f (no_want f nr) a))
all_one link most old one two (Err (end_fault.Link f)) (Err (end_fault.Link g)) k nr ns a b =
    let same = stopped_one link most old one two f g k (no_want f nr) (no_want g ns) (stopped_of link most old one f (no_want f nr) a) (stopped_of link most old two g (no_want g ns) b) in (same.0, ap failed_by same.1)
all_one link most old one two (Err (end_fault.Link f)) (Err (end_fault.Read g)) k nr ns a b = absurd b.2
all_one link most old one two (Err (end_fault.Read f)) s k nr ns a b = absurd a.2

all_alike : (link most : ℕ) (old other one two : NodeLinkValue) (r s : Result (Unit {0}) EndFault) → HasCarried old → old ≡ other → went_wanting r ≡ false → went_wanting s ≡ false → DidAll (serves_on link most) old one r → DidAll (serves_on link most) other two s
    → (one ≡ two) × (r ≡ s) × Unit {0} × HasCarried one
all_alike link most old other one two r s k e nr ns a b =
    let t = all_one link most old one two r s k nr ns a (subst (λ (v : NodeLinkValue). DidAll (serves_on link most) v two s) (sym e) b) in
    (t.0, t.1, tt, all_carried link most old one r a k)

link_alike : (link most : ℕ) → DoAlike (serves_on link most) (serves_on link most) (λ one two. one ≡ two) HasCarried (Unit {0})
link_alike link most =
    record {
      port = λ a b e. ap (λ (v : NodeLinkValue). v.port) e;
      moved = λ a b p q e same. ap (with_port a) same ∙ ap (λ (v : NodeLinkValue). with_port v q) e;
      sends = λ v k. k.3;
      took = λ old new bytes r k h rest. subst HasCarried (sym rest) (k.0, k.1, k.2, (k.3.0, h.sends k.3.0 k.3.1));
      wrote = λ old new n k rest. subst HasCarried (sym rest) (k.0, k.1, k.2, (k.3.0, record { queue = k.3.1.queue; acked = k.3.1.acked; part = k.3.1.part }));
      all = all_alike link most;
      quiet = λ a b. tt;
    }

-- ---- Going on, and taking.

pub going_same : (link most : ℕ) (old one two : NodeLinkValue) (xs ys : List (List ℕ)) (r s : Result (Unit {0}) EndFault) → HasCarried old → went_wanting r ≡ false → went_wanting s ≡ false
    → WentOn (serves_on link most) old one [] xs r → WentOn (serves_on link most) old two [] ys s → (one ≡ two) × (r ≡ s) × (xs ≡ ys) × HasCarried one
going_same link most old one two xs ys r s k nr ns a b =
    let t = went_same _ _ _ _ _ (link_alike link most) old old one two [] xs ys r s k refl nr ns a b in (t.0, t.1, t.2, t.4)

pub taking_same : (link most : ℕ) (old one two : NodeLinkValue) (bytes : List ℕ) (r s : Result Got TakeFault) (xs ys : List (List ℕ)) → AreBytes bytes → HasCarried old → took_wanting r ≡ false → took_wanting s ≡ false
    → TakesPacket (serves_on link most) old one bytes [] xs r → TakesPacket (serves_on link most) old two bytes [] ys s → (one ≡ two) × (r ≡ s) × (xs ≡ ys) × HasCarried one
taking_same link most old one two bytes r s xs ys fits k nr ns a b =
    let t = took_same _ _ _ _ _ (link_alike link most) old old one two bytes [] xs ys r s fits k refl nr ns a b in (t.0, t.1, t.2, t.4)
