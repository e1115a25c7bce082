-- Serving, handing over and writing, one after another.
use Rattle.std.proofs.Common.{◌≡◌, ℕ, ◌+◌, ◌-◌, ◌<◌, ◌≤◌, arith, refl, sym, ◌∙◌, subst, ap, append_assoc, List, [], ◌∷◌, ◌++◌, length, inl, inr, eq-eqb, false, IsTrue}
use Rattle.std.specs.Prelude.{All, ◌==◌, if◌then◌else◌, Result, Ok, Err, OnOk, IfErr}
use Rattle.std.proofs.lemmas.Bool.{cases_eq, ne_eqb}
use Rattle.std.proofs.lemmas.List.{append-nil}
use Rattle.std.proofs.lemmas.List.Elements.{All-append}
use Rattle.dap_msg.specs.declared.items.Item.{Item}
use Rattle.dap_msg.specs.Items.{IsOffset}
use Rattle.nsp_link.specs.declared.fault.LinkFault.{LinkFault}
use Rattle.nsp_link.specs.declared.fault.LinkFault.TheVariants as fault
use Rattle.nsp_link.specs.declared.link.LinkSetup.{LinkSetup}
use Rattle.nsp_link.specs.Link.{LinkValue, IsLink, Stands, may_send, waiting_bytes, with_inbox, AreShort}
use Rattle.dap_accessed.specs.Standing.{Files}
use Rattle.dap_end.specs.Histories.{history_after_item}
use Rattle.dap_end.specs.declared.fault.EndFault.{EndFault}
use Rattle.dap_end.specs.declared.fault.EndFault.TheVariants as end_fault
use Rattle.dap_end.specs.Ports.{HandsOver, PortValue, bytes_waiting}
use Rattle.dap_end.specs.Moved.{with_outbox_sent}
use Rattle.dap_end.specs.Serving.{IsAfter, ServedOne, MayServe}
use Rattle.dap_end.specs.Taking.{ServedInTurn, begins, goes}
use Rattle.dap_end.specs.Done.{ServingValue, ServerHistory}
use Rattle.dap_end.specs.Writing.{Extends, WroteMore}
use Rattle.dap_end.specs.Moved.{sent_more}
use Rattle.dap_end.specs.Taking.{HasRoom, serves}
use Rattle.dap_end.specs.Calls.{WorkedOn, nothing_done, item_served, outbox_posted}
use Rattle.dap_end.specs.Inner.Running.{Grew, ServedMore}
use Rattle.dap_end.proofs.Afterwards.{posted_is, posted_history}
use Rattle.dap_end.proofs.ServingOne.{port_given}
use Rattle.dap_end.proofs.Turning.{went_by}
use Rattle.dap_end.proofs.Going.{item_ends}
use Rattle.dap_end.specs.Going.{NextItem}
use Rattle.dap_end.specs.Turns.{DidAll, WentOn}
use Rattle.std.specs.Result.{result_map_both}
use Rattle.dap_end.specs.Histories.{Still}
use Rattle.dap_end.specs.Inner.ServingView.{with_port}
use Rattle.nsp_link.proofs.ForCallers.{bytes_queued, may_queue_parts}

-- ---- Serving and handing over.

pub none_short : (v : LinkValue) → AreShort v []
none_short v = λ k d lt. absurd (omega arith)

pub more_none : (v : ServingValue) → ServedMore v v
more_none v =
    record {
      link = refl;
      own = refl;
      setup = refl;
      past = λ past h. (past, record { is = h; first = refl; items = ([], sym (append-nil past.items)); handed = ([], sym (append-nil past.handed), none_short v.port.link); given = refl; stands = λ size messages s. s });
    }

-- what came and what is queued may have moved
abbrev SameCounts : LinkValue → LinkValue → Type 0
SameCounts old new = new ≡ record (with_inbox old new.coming.inbox) { queue = new.queue }

counts_trans : (a b c : LinkValue) → SameCounts a b → SameCounts b c → SameCounts a c
counts_trans a b c ab bc = bc ∙ ap (λ (l : LinkValue). record (with_inbox l c.coming.inbox) { queue = c.queue }) ab

grew_trans : (p q r : ServerHistory) (a b c : ServingValue) → SameCounts a.port.link b.port.link → Grew p q a b → Grew q r b c → Grew p r a c
grew_trans p q r a b c counts g h =
    let limit : b.port.link.setup.max_message ≡ a.port.link.setup.max_message = ap (λ (l : LinkValue). l.setup.max_message) counts in
    record {
      is = h.is;
      first = h.first ∙ g.first;
      items = (g.items.0 ++ h.items.0, h.items.1 ∙ ap (λ (l : List Item). l ++ h.items.0) g.items.1 ∙ append_assoc p.items g.items.0 h.items.0);
      handed = (
        g.handed.0 ++ h.handed.0,
        h.handed.1 ∙ ap (λ (l : List (List ℕ)). l ++ h.handed.0) g.handed.1 ∙ append_assoc p.handed g.handed.0 h.handed.0,
        All-append (λ m. length m ≤ a.port.link.setup.max_message) g.handed.0 h.handed.0 g.handed.2 (subst (λ (n : ℕ). All (λ m. length m ≤ n) h.handed.0) limit h.handed.2),
      );
      given = h.given ∙ g.given;
      stands = λ size messages s. h.stands size messages (g.stands size messages s);
    }

pub more_trans : (a b c : ServingValue) → ServedMore a b → ServedMore b c → ServedMore a c
more_trans a b c ab bc =
    record {
      link = counts_trans a.port.link b.port.link c.port.link ab.link bc.link;
      own = bc.own ∙ ab.own;
      setup = bc.setup ∙ ab.setup;
      past = λ past h. (let one = ab.past past h in let two = bc.past one.0 one.1.is in (two.0, grew_trans past one.0 two.0 a b c ab.link one.1 two.1));
    }

posted_grew : (past : ServerHistory) (v : ServingValue) → AreShort v.port.link v.port.outbox → IsAfter (record past { handed = past.handed ++ v.port.outbox }) (record v { port = with_outbox_sent v.port })
    → Grew past (record past { handed = past.handed ++ v.port.outbox }) v (record v { port = with_outbox_sent v.port })
posted_grew past v short h =
    record { is = h; first = refl; items = ([], sym (append-nil past.items)); handed = (v.port.outbox, refl, short); given = refl; stands = λ size messages s. record { taken = s.taken; held = s.held } }

pub more_posted : (v new : ServingValue) (n : ℕ) → HandsOver v new n → ServedMore v new
more_posted v new n p =
    subst (ServedMore v) (sym (posted_is v new n p))
    (record {
      link = refl;
      own = refl;
      setup = refl;
      past = λ past h. (record past { handed = past.handed ++ v.port.outbox }, posted_grew past v (may_queue_parts v.port.link v.port.outbox p.0).1 (subst (IsAfter (record past { handed = past.handed ++ v.port.outbox })) (posted_is v new n p) (posted_history v new n p past h)));
    })

-- what left, and what is left
split_given : (given inbox later : List (List ℕ)) (bytes : List ℕ) (next : ℕ) → inbox ≡ bytes ∷ later →
    let ends = next == length bytes in (if ends then given ++ bytes ∷ [] else given) ++ (if ends then later else inbox) ≡ given ++ inbox
split_given given inbox later bytes next came =
    elim (cases_eq next (length bytes)) [
      | inl end ↦ rw (eq-eqb next (length bytes) end) (append_assoc given (bytes ∷ []) later ∙ ap (λ (l : List (List ℕ)). given ++ l) (sym came))
      | inr inside ↦ rw (ne_eqb next (length bytes) inside) refl
    ]

pub more_served : (old new : ServingValue) (n : ℕ) → ServedOne old new n → ServedMore old new
more_served old new n s =
    let link : new.port.link ≡ with_inbox old.port.link (if s.one.next == length s.one.bytes then s.one.later else old.port.link.coming.inbox) = ap (λ (p : PortValue). p.link) s.port in
    record {
      link = subst (SameCounts old.port.link) (sym link) refl;
      own = s.own;
      setup = s.setup;
      past = λ past h. (
        history_after_item past s.one.bytes s.one.item s.one.next,
        record {
          is = s.past past h;
          first = refl;
          items = (s.one.item ∷ [], refl);
          handed = ([], sym (append-nil past.handed), none_short old.port.link);
          given = subst (λ (l : LinkValue). (history_after_item past s.one.bytes s.one.item s.one.next).given ++ l.coming.inbox ≡ past.given ++ old.port.link.coming.inbox) (sym link)
              (split_given past.given old.port.link.coming.inbox s.one.later s.one.bytes s.one.next s.one.came);
          stands = λ size messages t. subst (λ (l : LinkValue). Stands l size messages (history_after_item past s.one.bytes s.one.item s.one.next).given) (sym link)
              (port_given old.port s.one.bytes s.one.later s.one.next size messages past.given s.one.came t);
        },
      );
    }

-- ---- One after another.

pub on_more : (most : ℕ) (a b posted c : ServingValue) (count n : ℕ) → ServedInTurn most a b → HandsOver b posted count → HasRoom most b.port → ServedOne posted c n → ServedInTurn most a c
on_more most a b posted c count n begins p room s = goes posted c count n p room s begins
on_more most a b posted c count n (goes first mid k m q has t on) p room s = goes first mid k m q has t (on_more most mid b posted c count n on p room s)

pub turn_grew : (most : ℕ) (a b : ServingValue) → ServedInTurn most a b → ServedMore a b
turn_grew most a b begins = more_none a
turn_grew most a b (goes posted mid count n p room s on) = more_trans a mid b (more_trans a posted mid (more_posted a posted count p) (more_served posted mid n s)) (turn_grew most mid b on)

pub all_grew : (most : ℕ) (a b : ServingValue) (r : Result (Unit {0}) EndFault) → DidAll (serves most) a b r → ServedMore a b
all_grew most a b (Ok u) d = more_trans a d.0 b (turn_grew most a d.0 d.2) (more_posted d.0 b d.1 d.4)
all_grew most a b (Err (end_fault.Link f)) (mid, on, inl (is, h)) = subst (ServedMore a) (sym is) (turn_grew most a mid on)
all_grew most a b (Err (end_fault.Link f)) (mid, on, inr (want, room, p, may)) = more_trans a mid b (turn_grew most a mid on) (more_posted mid b p.0 p.1)
all_grew most a b (Err (end_fault.Read f)) d = absurd d.2

-- ---- Served and passed on, in any order.

pub worked_grew : (a b : ServingValue) → WorkedOn a b → ServedMore a b
worked_grew a b nothing_done = more_none a
worked_grew a b (item_served mid n s on) = more_trans a mid b (more_served a mid n s) (worked_grew mid b on)
worked_grew a b (outbox_posted mid n p on) = more_trans a mid b (more_posted a mid n p) (worked_grew mid b on)

pub one_served : (a b : ServingValue) (n : ℕ) → ServedOne a b n → WorkedOn a b
one_served a b n s = item_served b n s nothing_done

pub one_posted : (a b : ServingValue) (n : ℕ) → HandsOver a b n → WorkedOn a b
one_posted a b n p = outbox_posted b n p nothing_done

turn_worked : (most : ℕ) (a b c : ServingValue) → ServedInTurn most a b → WorkedOn b c → WorkedOn a c
turn_worked most a b c begins w = w
turn_worked most a b c (goes posted mid count n p room s on) w = outbox_posted posted count p (item_served mid n s (turn_worked most mid b c on w))

pub all_worked : (most : ℕ) (a b : ServingValue) (r : Result (Unit {0}) EndFault) → DidAll (serves most) a b r → WorkedOn a b
all_worked most a b (Ok u) d = turn_worked most a d.0 b d.2 (one_posted d.0 b d.1 d.4)
all_worked most a b (Err (end_fault.Link f)) (mid, on, inl (is, h)) = subst (WorkedOn a) (sym is) (turn_worked most a mid mid on nothing_done)
all_worked most a b (Err (end_fault.Link f)) (mid, on, inr (want, room, p, may)) = turn_worked most a mid b on (one_posted mid b p.0 p.1)
all_worked most a b (Err (end_fault.Read f)) d = absurd d.2

-- what was served on counts after what the end did
pub counted : (past : ServerHistory) (old new : ServingValue) → IsAfter past old → ServedMore old new → (given handed : List (List ℕ)) × (items : List Item)
    × IsAfter (record past { given = given; items = past.items ++ items; handed = past.handed ++ handed }) new × (given ++ new.port.link.coming.inbox ≡ past.given ++ old.port.link.coming.inbox)
counted past old new h m =
    let (now, g) = m.past past h in
    let first : IsAfter (record now { first = past.first }) new = subst (λ (f : Files). IsAfter (record now { first = f }) new) g.first g.is in
    let items : IsAfter (record now { first = past.first; items = past.items ++ g.items.0 }) new = subst (λ (l : List Item). IsAfter (record now { first = past.first; items = l }) new) g.items.1 first in
    (now.given, g.handed.0, g.items.0, subst (λ (l : List (List ℕ)). IsAfter (record now { first = past.first; items = past.items ++ g.items.0; handed = l }) new) g.handed.1 items, g.given)

no_more : (v : ServingValue) (inbox : List (List ℕ)) → v.port.link.coming.inbox ≡ inbox → v.port.outbox ≡ [] → (MayServe v → ⊥) → inbox ≡ []
no_more v [] is idle none = refl
no_more v (m ∷ inbox) is idle none = absurd (none (idle, (let long = ap length is in omega arith)))

pub none_left : (v : ServingValue) → v.port.outbox ≡ [] → (MayServe v → ⊥) → v.port.link.coming.inbox ≡ []
none_left v idle none = no_more v v.port.link.coming.inbox refl idle none

-- what came stays
pub inbox_posted : (v new : ServingValue) (n : ℕ) → HandsOver v new n → new.port.link.coming.inbox ≡ v.port.link.coming.inbox
inbox_posted v new n p = ap (λ (x : ServingValue). x.port.link.coming.inbox) (posted_is v new n p)

pub none_waits : (v new : ServingValue) (n : ℕ) → HandsOver v new n → new.port.outbox ≡ []
none_waits v new n p = ap (λ (x : ServingValue). x.port.outbox) (posted_is v new n p)

-- a link to which something was handed runs
pub works_here : (old new : ServingValue) (n : ℕ) → HandsOver old new n → new.port.link.failed ≡ false
works_here old new n p = ap (λ (v : ServingValue). v.port.link.failed) (posted_is old new n p) ∙ (may_queue_parts old.port.link old.port.outbox p.0).0

-- ---- How much is left to serve.

abbrev pub work : List (List ℕ) → ℕ
work [] = 0
work (m ∷ inbox) = length m + 1 + work inbox

abbrev pub left : ServingValue → ℕ
left v = work v.port.link.coming.inbox - v.port.offset

less_ends : (later : List (List ℕ)) (bytes : List ℕ) (offset : ℕ) → IsOffset offset bytes → work later - 0 < work (bytes ∷ later) - offset
less_ends later bytes offset (inl lt) = omega arith
less_ends later bytes offset (inr none) = omega (arith, none.0, none.1)

less_inside : (later : List (List ℕ)) (bytes : List ℕ) (offset next : ℕ) → IsOffset offset bytes → (offset < length bytes → offset < next) → next < length bytes → work (bytes ∷ later) - next < work (bytes ∷ later) - offset
less_inside later bytes offset next (inl lt) onward inside = let h = onward lt in omega arith
less_inside later bytes offset next (inr none) onward inside = absurd (omega (arith, none.1))

less_left : (inbox later : List (List ℕ)) (bytes : List ℕ) (offset next : ℕ) → inbox ≡ bytes ∷ later → IsOffset offset bytes → (offset < length bytes → offset < next) → next ≤ length bytes →
    let ends = next == length bytes in work (if ends then later else inbox) - (if ends then 0 else next) < work inbox - offset
less_left inbox later bytes offset next came at onward within =
    elim (cases_eq next (length bytes)) [
      | inl end ↦ rw (eq-eqb next (length bytes) end, came) (less_ends later bytes offset at)
      | inr inside ↦ rw (ne_eqb next (length bytes) inside, came) (less_inside later bytes offset next at onward (omega (arith, within, inside)))
    ]

pub item_left : (p : PortValue) (one : NextItem p) →
    let ends = one.next == length one.bytes in work (if ends then one.later else p.link.coming.inbox) - (if ends then 0 else one.next) < work p.link.coming.inbox - p.offset
item_left p one =
    let goes = item_ends one.bytes p.offset one.item one.next one.offset one.reads in
    less_left p.link.coming.inbox one.later one.bytes p.offset one.next one.came one.offset goes.0 goes.1

pub falls : (old new : ServingValue) (n : ℕ) → ServedOne old new n → left new < left old
falls old new n s =
    subst (λ (p : PortValue). work p.link.coming.inbox - p.offset < left old) (sym s.port)
    (item_left old.port s.one)

-- ---- Writing.

pub still_sent : (v : ServingValue) (n : ℕ) → Still IsAfter v (with_port v (sent_more v.port n))
still_sent v n = λ past h. record { serving = h.serving; gone = h.gone; sends = record { queue = h.sends.queue; acked = h.sends.acked; part = h.sends.part }; answers = h.answers; fit = h.fit }

pub still_by : (v : ServingValue) (port : PortValue) (n : ℕ) → port ≡ sent_more v.port n → Still IsAfter v (with_port v port)
still_by v port n e = subst (λ (p : PortValue). Still IsAfter v (with_port v p)) (sym e) (still_sent v n)

-- all was served, and then segments were written
pub gone_by : (most : ℕ) (old served : ServingValue) (port : PortValue) (out all : List (List ℕ)) (r : Result (Unit {0}) LinkFault) → DidAll (serves most) old served (Ok tt) → Extends out all (WroteMore served.port port) → OnOk r (may_send port.link ≡ false)
    → IfErr r (λ f. (f ≡ fault.NoMemory) × IsTrue (may_send port.link)) → WentOn (serves most) old (with_port served port) out all (result_map_both (λ done. done) end_fault.Link r)
gone_by most old served port out all (Ok u) d w full why = went_by (serves most) old served (with_port served port) out all (Ok u) d refl w full why
gone_by most old served port out all (Err f) d w full why = went_by (serves most) old served (with_port served port) out all (Err f) d refl w full why

-- ---- How much waits.

-- what is passed on waits still
pub bytes_posted : (old new : ServingValue) (n : ℕ) → HandsOver old new n → 0 < old.port.link.setup.seg_size → bytes_waiting new.port ≡ bytes_waiting old.port
bytes_posted old new n p pos =
    let same = ap (λ (v : ServingValue). bytes_waiting v.port) (posted_is old new n p) in
    let queued = bytes_queued old.port.link old.port.outbox pos in
    omega (arith, same, queued)

-- by the number that the link tells
pub waiting_here : (told : ℕ) (link : LinkValue) (old new : ServingValue) (n : ℕ) → told ≡ waiting_bytes link → IsLink link → link ≡ new.port.link → HandsOver old new n → told ≡ bytes_waiting old.port
waiting_here told link old new n value valid is p =
    let sized : link.setup ≡ old.port.link.setup = ap (λ (l : LinkValue). l.setup) is ∙ ap (λ (v : ServingValue). v.port.link.setup) (posted_is old new n p) in
    let pos : 0 < old.port.link.setup.seg_size = subst (λ (s : LinkSetup). 0 < s.seg_size) sized (omega (arith, valid.setup.0)) in
    let queued = bytes_queued old.port.link old.port.outbox pos in
    let here = ap (λ (l : LinkValue). waiting_bytes l) is ∙ ap (λ (v : ServingValue). waiting_bytes v.port.link) (posted_is old new n p) in
    omega (arith, value, here, queued)
