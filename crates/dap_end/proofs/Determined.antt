-- What a call answers and leaves follows from what the end did and what came, out of memory aside.
use Rattle.std.proofs.Common.{◌≡◌, ◌≢◌, ℕ, arith, refl, sym, ◌∙◌, subst, ap, false, true≢false, List, [], ◌∷◌, ◌++◌, length, inl, inr}
use Rattle.std.specs.Prelude.{Bool, IsTrue, Result, Ok, Err}
use Rattle.dap_accessed.specs.declared.setup.ServerSetup.{ServerSetup}
use Rattle.dap_fields.specs.Spelling.{AreBytes}
use Rattle.dap_msg.specs.declared.items.Item.{Item}
use Rattle.dap_msg.specs.Items.{ItemAt}
use Rattle.dap_msg.specs.Blocked.{all_joined}
use Rattle.nsp_link.specs.declared.link.Got.{Got}
use Rattle.nsp_link.specs.declared.fault.LinkFault.{LinkFault}
use Rattle.nsp_link.specs.declared.fault.LinkFault.TheVariants as fault
use Rattle.nsp_link.specs.Link.{LinkValue}
use Rattle.nsp_link.specs.Sending.{may_queue, SendAllFault}
use Rattle.dap_accessed.specs.Standing.{Files}
use Rattle.dap_accessed.specs.Present.{Present, present_of}
use Rattle.dap_accessed.specs.Groups.{stands_after}
use Rattle.dap_end.specs.Histories.{history_after_item}
use Rattle.dap_end.specs.declared.fault.EndFault.{EndFault}
use Rattle.dap_end.specs.declared.fault.EndFault.TheVariants as end_fault
use Rattle.dap_end.specs.declared.fault.TakeFault.{TakeFault}
use Rattle.dap_end.specs.Ports.{HandsOver, gone_on}
use Rattle.dap_end.specs.Moved.{with_outbox_sent}
use Rattle.dap_end.specs.Going.{StandFrom}
use Rattle.dap_end.specs.Serving.{IsAfter, ServedOne}
use Rattle.dap_end.specs.Taking.{ServedInTurn, begins, goes}
use Rattle.dap_end.specs.Done.{ServingValue, ServerHistory, answers_to}
use Rattle.dap_end.specs.Taking.{HasRoom, RestsAt, serves}
use Rattle.dap_end.specs.Turns.{DidAll, WentOn, TakesPacket}
use Rattle.dap_end.specs.Inner.Wanting.{went_wanting, took_wanting}
use Rattle.dap_msg.proofs.ForCallers.{one_item}
use Rattle.nsp_link.proofs.ForCallers.{may_queue_parts}
use Rattle.dap_end.proofs.Taking.{grown}
use Rattle.dap_end.proofs.Afterwards.{after_received, posted_is, posted_history}
use Rattle.dap_end.proofs.Proceeding.{all_grew, still_sent}
use Rattle.dap_end.proofs.Turning.{DoAlike, no_want, went_same, took_same}
use Rattle.dap_end.specs.Inner.ServingView.{with_port}

-- ---- Lists.

pub same_back : (front xs ys : List (List ℕ)) → front ++ xs ≡ front ++ ys → xs ≡ ys
same_back [] xs ys e = e
same_back (x ∷ front) xs ys e = same_back front xs ys (let tails : front ++ xs ≡ front ++ ys = cc in tails)

-- ---- Serving one.

pub present_one : (first : Files) (items more : List Item) (one two : Present) → items ≡ more → one.setup ≡ two.setup → one ≡ present_of one.setup (stands_after one.setup first items) → two ≡ present_of two.setup (stands_after two.setup first more) → one ≡ two
present_one first items more one two same own a b =
    a ∙ ap (λ (n : ServerSetup). present_of n (stands_after n first items)) own ∙ ap (λ (l : List Item). present_of two.setup (stands_after two.setup first l)) same ∙ sym b

outbox_one : (first : Files) (handed xs ys : List (List ℕ)) (items more : List Item) (own other : ServerSetup) → items ≡ more → own ≡ other → handed ++ xs ≡ all_joined (answers_to own first [] items) → handed ++ ys ≡ all_joined (answers_to other first [] more)
    → xs ≡ ys
outbox_one first handed xs ys items more own other same e a b =
    same_back handed xs ys
    (a ∙ ap (λ (n : ServerSetup). all_joined (answers_to n first [] items)) e ∙ ap (λ (l : List Item). all_joined (answers_to other first [] l)) same ∙ sym b)

pub serving_one : (past : ServerHistory) (old one two : ServingValue) (n m : ℕ) → IsAfter past old → ServedOne old one n → ServedOne old two m → (one ≡ two) × (n ≡ m)
serving_one past old one two n m h a b =
    let bytes : b.one.bytes ≡ a.one.bytes = (let both = sym b.one.came ∙ a.one.came in cc) in
    let later : b.one.later ≡ a.one.later = (let both = sym b.one.came ∙ a.one.came in cc) in
    let same = one_item a.one.bytes old.port.offset a.one.item b.one.item a.one.next b.one.next a.one.fits a.one.reads (subst (λ (l : List ℕ). ItemAt l old.port.offset b.one.item b.one.next) bytes b.one.reads) in
    let items : past.items ++ a.one.item ∷ [] ≡ past.items ++ b.one.item ∷ [] = ap (λ (i : Item). past.items ++ i ∷ []) (sym same.0) in
    let own : one.present.setup ≡ two.present.setup = a.setup ∙ sym b.setup in
    let ha = a.past past h in
    let hb = b.past past h in
    let accessed : one.present ≡ two.present = present_one past.first (past.items ++ a.one.item ∷ []) (past.items ++ b.one.item ∷ []) one.present two.present items own ha.serving hb.serving in
    let outbox : one.port.outbox ≡ two.port.outbox =
    outbox_one past.first past.handed one.port.outbox two.port.outbox (past.items ++ a.one.item ∷ []) (past.items ++ b.one.item ∷ []) one.present.setup two.present.setup items own ha.answers hb.answers in
    let port : one.port ≡ two.port =
    a.port ∙ ap (λ (l : List (List ℕ)). record (gone_on old.port a.one.bytes a.one.later a.one.next) { outbox = l }) outbox
    ∙ ap (λ (k : ℕ). record (gone_on old.port a.one.bytes a.one.later k) { outbox = two.port.outbox }) (sym same.1)
    ∙ ap (λ (l : List ℕ). record (gone_on old.port l a.one.later b.one.next) { outbox = two.port.outbox }) (sym bytes)
    ∙ ap (λ (l : List (List ℕ)). record (gone_on old.port b.one.bytes l b.one.next) { outbox = two.port.outbox }) (sym later)
    ∙ sym b.port in
    (ap (with_port one) port ∙ ap (λ (x : Present). record two { present = x }) accessed, a.count ∙ ap length outbox ∙ sym b.count)

-- ---- Serving all.

no_front : (items : List Item) (at to : ℕ) → StandFrom [] at items to → (items ≡ []) × (at ≡ to)
no_front [] at to h = (refl, h)
no_front (x ∷ items) at to h = absurd (omega (arith, h.1))

-- no item is served from here
abbrev Stops : (most : ℕ) → ServingValue → Type 0
Stops most v = (posted mid : ServingValue) (count n : ℕ) → HandsOver v posted count → HasRoom most v.port → ServedOne posted mid n → ⊥

serves_once : (most : ℕ) (past : ServerHistory) (old one two : ServingValue) → IsAfter past old → ServedInTurn most old one → ServedInTurn most old two → Stops most one → Stops most two → one ≡ two
serves_once most past old one two h begins begins a b = refl
serves_once most past old one two h begins (goes p m k n x has y on) a b = absurd (a p m k n x has y)
serves_once most past old one two h (goes p m k n x has y on) begins a b = absurd (b p m k n x has y)
serves_once most past old one two h (goes p m k n x has y on) (goes q l j i z room w other) a b =
    let posted : q ≡ p = posted_is old q j z ∙ sym (posted_is old p k x) in
    let now = record past { handed = past.handed ++ old.port.outbox } in
    let after = posted_history old p k x past h in
    let same = serving_one now p m l n i after y (subst (λ (v : ServingValue). ServedOne v l i) posted w) in
    serves_once most (history_after_item now y.one.bytes y.one.item y.one.next) m one two (y.past now after) on (subst (λ (v : ServingValue). ServedInTurn most v two) (sym same.0) other) a b

pub no_next : (bytes : List ℕ) (later : List (List ℕ)) → [] ≡ bytes ∷ later → ⊥
no_next bytes later e = cc

-- nothing that came is left
stops_empty : (most : ℕ) (v : ServingValue) → v.port.link.coming.inbox ≡ [] → Stops most v
stops_empty most v none = λ posted mid k n x room y. no_next y.one.bytes y.one.later (sym (ap (λ (w : ServingValue). w.port.link.coming.inbox) (posted_is v posted k x) ∙ none) ∙ y.one.came)

-- or as many bytes wait as may
stops_resting : (most : ℕ) (v : ServingValue) → RestsAt most v → Stops most v
stops_resting most v (inl none) = stops_empty most v none
stops_resting most v (inr full) = λ posted mid k n x room y. omega (arith, full, room)

pub running : (b : Bool) → IsTrue b → b ≡ false → ⊥
running b t e = true≢false (sym t ∙ e)

-- what may be passed on isn't refused
pub may_or_not : (v : LinkValue) (messages : List (List ℕ)) (f : LinkFault) → f ≢ fault.NoMemory → IsTrue (may_queue v messages) → SendAllFault v messages f → ⊥
may_or_not v messages fault.Failed want may h = running v.failed h (may_queue_parts v messages may).0
may_or_not v messages fault.MessageTooLong want may h = omega (arith, (may_queue_parts v messages may).1 h.1.0 [] h.1.1, h.1.2)
may_or_not v messages fault.Exhausted want may h = omega (arith, (may_queue_parts v messages may).2, h.2)
may_or_not v messages fault.NoMemory want may h = want refl
may_or_not v messages f want may h = absurd h

pub refused_one : (v : LinkValue) (messages : List (List ℕ)) (f g : LinkFault) → f ≢ fault.NoMemory → g ≢ fault.NoMemory → SendAllFault v messages f → SendAllFault v messages g → f ≡ g
refused_one v messages fault.Failed fault.Failed nf ng a b = refl
refused_one v messages fault.Failed fault.MessageTooLong nf ng a b = absurd (running v.failed a b.0)
refused_one v messages fault.Failed fault.Exhausted nf ng a b = absurd (running v.failed a b.0)
refused_one v messages fault.Failed fault.NoMemory nf ng a b = absurd (ng refl)
refused_one v messages fault.Failed g nf ng a b = absurd b
refused_one v messages fault.MessageTooLong fault.Failed nf ng a b = absurd (running v.failed b a.0)
refused_one v messages fault.MessageTooLong fault.MessageTooLong nf ng a b = refl
refused_one v messages fault.MessageTooLong fault.Exhausted nf ng a b = absurd (omega (arith, b.1 a.1.0 [] a.1.1, a.1.2))
refused_one v messages fault.MessageTooLong fault.NoMemory nf ng a b = absurd (ng refl)
refused_one v messages fault.MessageTooLong g nf ng a b = absurd b
refused_one v messages fault.Exhausted fault.Failed nf ng a b = absurd (running v.failed b a.0)
refused_one v messages fault.Exhausted fault.MessageTooLong nf ng a b = absurd (omega (arith, a.1 b.1.0 [] b.1.1, b.1.2))
refused_one v messages fault.Exhausted fault.Exhausted nf ng a b = refl
refused_one v messages fault.Exhausted fault.NoMemory nf ng a b = absurd (ng refl)
refused_one v messages fault.Exhausted g nf ng a b = absurd b
refused_one v messages fault.NoMemory g nf ng a b = absurd (nf refl)
refused_one v messages f g nf ng a b = absurd a

stops_refused : (most : ℕ) (v : ServingValue) (f : LinkFault) → f ≢ fault.NoMemory → SendAllFault v.port.link v.port.outbox f → Stops most v
stops_refused most v f want h = λ posted mid k n x room y. may_or_not v.port.link v.port.outbox f want x.0 h

-- nothing was left to serve, and then what waits was passed on
abbrev Up : (most : ℕ) → ServingValue → ServingValue → Type 0
Up most old new = (last : ServingValue) × (n : ℕ) × ServedInTurn most old last × RestsAt most last × HandsOver last new n

up_one : (most : ℕ) (past : ServerHistory) (old one two : ServingValue) → IsAfter past old → Up most old one → Up most old two → one ≡ two
up_one most past old one two h a b =
    let last = serves_once most past old a.0 b.0 h a.2 b.2 (stops_resting most a.0 a.3) (stops_resting most b.0 b.3) in
    posted_is a.0 one a.1 a.4 ∙ ap (λ (v : ServingValue). record v { port = with_outbox_sent v.port }) last ∙ sym (posted_is b.0 two b.1 b.4)

-- what waits is refused
abbrev Stopped : (most : ℕ) → ServingValue → ServingValue → LinkFault → Type 0
Stopped most old new f = ServedInTurn most old new × SendAllFault new.port.link new.port.outbox f

stopped_of : (most : ℕ) (old new : ServingValue) (f : LinkFault) → f ≢ fault.NoMemory → DidAll (serves most) old new (Err (end_fault.Link f)) → Stopped most old new f
stopped_of most old new f want (mid, on, inl (is, h)) = subst (λ (v : ServingValue). Stopped most old v f) (sym is) (on, h)
stopped_of most old new f want (mid, on, inr h) = absurd (want h.0)

up_or_not : (most : ℕ) (past : ServerHistory) (old one two : ServingValue) (f : LinkFault) → IsAfter past old → f ≢ fault.NoMemory → Up most old one → Stopped most old two f → ⊥
up_or_not most past old one two f h want a b =
    let last = serves_once most past old a.0 two h a.2 b.0 (stops_resting most a.0 a.3) (stops_refused most two f want b.1) in
    may_or_not two.port.link two.port.outbox f want (subst (λ (v : ServingValue). IsTrue (may_queue v.port.link v.port.outbox)) last a.4.0) b.1

stopped_one : (most : ℕ) (past : ServerHistory) (old one two : ServingValue) (f g : LinkFault) → IsAfter past old → f ≢ fault.NoMemory → g ≢ fault.NoMemory → Stopped most old one f → Stopped most old two g → (one ≡ two) × (f ≡ g)
stopped_one most past old one two f g h nf ng a b =
    let last = serves_once most past old one two h a.0 b.0 (stops_refused most one f nf a.1) (stops_refused most two g ng b.1) in
    (last, refused_one two.port.link two.port.outbox f g nf ng (subst (λ (v : ServingValue). SendAllFault v.port.link v.port.outbox f) last a.1) b.1)

abbrev failed_by : LinkFault → Result (Unit {0}) EndFault
failed_by f = Err (end_fault.Link f)

pub all_one : (most : ℕ) (past : ServerHistory) (old one two : ServingValue) (r s : Result (Unit {0}) EndFault) → IsAfter past old → went_wanting r ≡ false → went_wanting s ≡ false → DidAll (serves most) old one r → DidAll (serves most) old two s → (one ≡ two) × (r ≡ s)
all_one most past old one two (Ok u) (Ok w) h nr ns a b = (up_one most past old one two h a b, refl)
all_one most past old one two (Ok u) (Err (end_fault.Link g)) h nr ns a b = absurd (up_or_not most past old one two g h (no_want g ns) a (stopped_of most old two g (no_want g ns) b))
all_one most past old one two (Ok u) (Err (end_fault.Read g)) h nr ns a b = absurd b.2
all_one most past old one two (Err (end_fault.Link f)) (Ok w) h nr ns a b = absurd (up_or_not most past old two one f h (no_want f nr) b (stopped_of most old one f (no_want f nr) a))
all_one most past old one two (Err (end_fault.Link f)) (Err (end_fault.Link g)) h nr ns a b =
    let same = stopped_one most past old one two f g h (no_want f nr) (no_want g ns) (stopped_of most old one f (no_want f nr) a) (stopped_of most old two g (no_want g ns) b) in (same.0, ap failed_by same.1)
all_one most past old one two (Err (end_fault.Link f)) (Err (end_fault.Read g)) h nr ns a b = absurd b.2
all_one most past old one two (Err (end_fault.Read f)) s h nr ns a b = absurd a.2

all_after : (most : ℕ) (past : ServerHistory) (old new : ServingValue) (r : Result (Unit {0}) EndFault) → IsAfter past old → DidAll (serves most) old new r → (now : ServerHistory) × IsAfter now new
all_after most past old new r h d = let g = (all_grew most old new r d).past past h in (g.0, g.1.is)

-- ---- Going on, and taking.

-- the end is as after some past
abbrev IsSome : ServingValue → Type 0
IsSome v = (past : ServerHistory) × IsAfter past v

all_alike : (most : ℕ) (old other one two : ServingValue) (r s : Result (Unit {0}) EndFault) → IsSome old → old ≡ other → went_wanting r ≡ false → went_wanting s ≡ false → DidAll (serves most) old one r → DidAll (serves most) other two s
    → (one ≡ two) × (r ≡ s) × Unit {0} × IsSome one
all_alike most old other one two r s k e nr ns a b =
    let t = all_one most k.0 old one two r s k.1 nr ns a (subst (λ (v : ServingValue). DidAll (serves most) v two s) (sym e) b) in
    (t.0, t.1, tt, all_after most k.0 old one r k.1 a)

serves_alike : (most : ℕ) → DoAlike (serves most) (serves most) (λ one two. one ≡ two) IsSome (Unit {0})
serves_alike most =
    record {
      port = λ a b e. ap (λ (v : ServingValue). v.port) e;
      moved = λ a b p q e same. ap (with_port a) same ∙ ap (λ (v : ServingValue). with_port v q) e;
      sends = λ v k. (k.0.handed, k.1.sends);
      took = λ old new bytes r k h rest. (k.0, subst (IsAfter k.0) (sym rest) (after_received k.0 old new.port.link (grown old.port.link new.port.link bytes r h) h.sends k.1));
      wrote = λ old new n k rest. (k.0, subst (IsAfter k.0) (sym rest) (still_sent old n k.0 k.1));
      all = all_alike most;
      quiet = λ a b. tt;
    }

pub going_one : (most : ℕ) (past : ServerHistory) (old one two : ServingValue) (out xs ys : List (List ℕ)) (r s : Result (Unit {0}) EndFault) → IsAfter past old → went_wanting r ≡ false → went_wanting s ≡ false → WentOn (serves most) old one out xs r → WentOn (serves most) old two out ys s
    → (one ≡ two) × (r ≡ s) × (xs ≡ ys)
going_one most past old one two out xs ys r s h nr ns a b =
    let t = went_same _ _ _ _ _ (serves_alike most) old old one two out xs ys r s (past, h) refl nr ns a b in (t.0, t.1, t.2)

pub taking_one : (most : ℕ) (past : ServerHistory) (old one two : ServingValue) (bytes : List ℕ) (r s : Result Got TakeFault) (out xs ys : List (List ℕ)) → AreBytes bytes → IsAfter past old → took_wanting r ≡ false → took_wanting s ≡ false
    → TakesPacket (serves most) old one bytes out xs r → TakesPacket (serves most) old two bytes out ys s → (one ≡ two) × (r ≡ s) × (xs ≡ ys)
taking_one most past old one two bytes r s out xs ys fits h nr ns a b =
    let t = took_same _ _ _ _ _ (serves_alike most) old old one two bytes out xs ys r s fits (past, h) refl nr ns a b in (t.0, t.1, t.2)
