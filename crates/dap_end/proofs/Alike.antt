-- What a call of an asking end answers and leaves follows from what it did and what came, out of memory aside.
use Rattle.std.proofs.Common.{◌≡◌, ◌≢◌, ℕ, refl, sym, ◌∙◌, subst, ap, true, false, true≢false, List, [], ◌∷◌, ◌++◌, length, inl, inr, IsTrue}
use Rattle.std.specs.Prelude.{Option, Some, None, Result, Ok, Err, option_map, option_to_list}
use Rattle.dap_fields.specs.Spelling.{AreBytes}
use Rattle.dap_msg.specs.declared.items.Item.{Item}
use Rattle.dap_msg.specs.Items.{ItemAt}
use Rattle.dap_msg.specs.Blocked.{Blocked, all_joined}
use Rattle.dap_msg.proofs.ForCallers.{one_item}
use Rattle.nsp_link.specs.declared.link.Got.{Got}
use Rattle.nsp_link.specs.declared.fault.LinkFault.{LinkFault}
use Rattle.nsp_link.specs.Link.{Sends}
use Rattle.nsp_link.specs.Sending.{may_queue, SendAllFault}
use Rattle.nsp_link.proofs.ForCallers.{sends_all}
use Rattle.dap_accessing.specs.Request.{Request}
use Rattle.dap_accessing.specs.declared.report.Report.{Report}
use Rattle.dap_accessing.specs.declared.pending.Pending.{Pending}
use Rattle.dap_accessing.specs.declared.fault.ReadFault.{ReadFault}
use Rattle.dap_accessing.specs.declared.fault.ReadFault.TheVariants as read_fault
use Rattle.dap_accessing.specs.Told.{Told, Due, NothingDue, AnswersDue, Wrong, due_after, is_unexpected}
use Rattle.dap_accessing.specs.Asked.{messages_of}
use Rattle.dap_accessing.specs.Each.{IsBatch, put_back, reported_after}
use Rattle.dap_accessing.specs.Present.{ClientState, ClientAfter, FitsDue, failed_after}
use Rattle.dap_accessing.proofs.ForCallers.{one_present}
use Rattle.dap_end.specs.Histories.{with_answer_read}
use Rattle.dap_end.specs.declared.fault.EndFault.{EndFault}
use Rattle.dap_end.specs.declared.fault.EndFault.TheVariants as end_fault
use Rattle.dap_end.specs.declared.fault.TakeFault.{TakeFault}
use Rattle.dap_end.specs.Ports.{HandsOver, PortValue, gone_on}
use Rattle.dap_end.specs.Moved.{with_outbox_sent, with_link}
use Rattle.dap_end.specs.Asking.{HasAsked, AskedOne, ReadOne, ReadNone, HasDone}
use Rattle.dap_end.specs.Hearing.{ReadOn, ReadsAll, hears}
use Rattle.dap_end.specs.Hearing.{nothing_read, one_read}
use Rattle.dap_end.specs.Done.{AskingValue, ClientHistory}
use Rattle.dap_end.specs.Each.{with_told}
use Rattle.dap_end.specs.Writing.{Extends}
use Rattle.dap_end.specs.Moved.{sent_more}
use Rattle.dap_end.specs.Turns.{DidAll, WentOn, TakesPacket}
use Rattle.dap_end.specs.Histories.{Still}
use Rattle.dap_end.specs.Wanting.{is_want}
use Rattle.dap_end.specs.Inner.Wanting.{went_wanting, took_wanting}
use Rattle.dap_end.proofs.Taking.{grown}
use Rattle.dap_end.proofs.Asked.{asked_history, handed_is, handed_history, read_grows, still_received, still_sent}
use Rattle.dap_end.specs.Histories.{asked_one}
use Rattle.dap_end.proofs.Determined.{may_or_not, refused_one, no_next}
use Rattle.dap_end.proofs.Untold.{batch_or_kept, one_kept, one_reported}
use Rattle.dap_end.proofs.Turning.{DoAlike, no_want, went_same, took_same}

-- ---- Asking.

pub asking_one : (past : ClientHistory) (request : Request) (old one two : AskingValue) (n m : ℕ) → HasAsked past old → AskedOne request old one n → AskedOne request old two m → (one ≡ two) × (n ≡ m)
asking_one past request old one two n m h a b =
    let limit : a.asks.limit ≡ b.asks.limit = a.asks.is_limit past.requests past.answers h.asking ∙ sym (b.asks.is_limit past.requests past.answers h.asking) in
    let messages : a.messages ≡ b.messages = a.asks.spelled ∙ ap (λ (n : ℕ). all_joined (Blocked n (messages_of old.present.identity request))) limit ∙ sym b.asks.spelled in
    let now = asked_one past old.present.identity request in
    let present : one.present ≡ two.present = one_present now.requests now.answers one.present two.present (asked_history request old one n a past h).asking (asked_history request old two m b past h).asking (a.identity ∙ sym b.identity) in
    let port : one.port ≡ two.port = a.port ∙ ap (λ (l : List (List ℕ)). record old.port { outbox = old.port.outbox ++ l }) messages ∙ sym b.port in (
      ap (λ (p : PortValue). record one { port = p }) port ∙ ap (λ (x : ClientState). record two { present = x }) present,
      a.count ∙ ap length messages ∙ sym b.count,
    )

-- ---- Reading one.

one_option : (r s : Option Report) → option_to_list r ≡ option_to_list s → r ≡ s
one_option None None e = refl
one_option None (Some s) e = let no : ⊥ = cc in absurd no
one_option (Some r) None e = let no : ⊥ = cc in absurd no
one_option (Some r) (Some s) e = let same : r ≡ s = cc in ap (λ (x : Report). Some x) same

back_of : (front xs ys : List Report) → front ++ xs ≡ front ++ ys → xs ≡ ys
back_of [] xs ys e = e
back_of (x ∷ front) xs ys e = back_of front xs ys (let tails : front ++ xs ≡ front ++ ys = cc in tails)

pub reading_one : (past : ClientHistory) (old one two : AskingValue) (r s : Option Report) → HasAsked past old → ReadOne old one r → ReadOne old two s → (one ≡ two) × (r ≡ s)
reading_one past old one two r s h a b =
    let bytes : b.one.bytes ≡ a.one.bytes = (let both = sym b.one.came ∙ a.one.came in cc) in
    let later : b.one.later ≡ a.one.later = (let both = sym b.one.came ∙ a.one.came in cc) in
    let same = one_item a.one.bytes old.port.offset a.one.item b.one.item a.one.next b.one.next a.one.fits a.one.reads (subst (λ (l : List ℕ). ItemAt l old.port.offset b.one.item b.one.next) bytes b.one.reads) in
    let answers : past.answers ++ b.one.item ∷ [] ≡ past.answers ++ a.one.item ∷ [] = ap (λ (i : Item). past.answers ++ i ∷ []) same.0 in
    let present : one.present ≡ two.present =
    one_present past.requests (past.answers ++ a.one.item ∷ []) one.present two.present (a.past past h).asking (subst (λ (l : List Item). ClientAfter past.requests l two.present) answers (b.past past h).asking) (a.identity ∙ sym b.identity) in
    let port : one.port ≡ two.port =
    a.port ∙ ap (λ (k : ℕ). gone_on old.port a.one.bytes a.one.later k) (sym same.1)
    ∙ ap (λ (l : List ℕ). gone_on old.port l a.one.later b.one.next) (sym bytes)
    ∙ ap (λ (l : List (List ℕ)). gone_on old.port b.one.bytes l b.one.next) (sym later)
    ∙ sym b.port in
    let told : option_to_list r ≡ option_to_list s =
    back_of (Told past.requests past.answers) (option_to_list r) (option_to_list s) (sym (a.told past h) ∙ ap (Told past.requests) (sym answers) ∙ b.told past h) in (
      ap (λ (p : PortValue). record one { port = p }) port ∙ ap (λ (x : ClientState). record two { present = x }) present,
      one_option r s told,
    )

-- while a batch is under way of which these records were taken out
reading_batch : (told : List (ℕ × List ℕ)) (past : ClientHistory) (old one two : AskingValue) (r s : Option Report) → IsBatch old.present → HasAsked past (with_told told old) → ReadOne old one r → ReadOne old two s → (one ≡ two) × (r ≡ s)
reading_batch told past old one two r s batch h a b =
    let bytes : b.one.bytes ≡ a.one.bytes = (let both = sym b.one.came ∙ a.one.came in cc) in
    let later : b.one.later ≡ a.one.later = (let both = sym b.one.came ∙ a.one.came in cc) in
    let same = one_item a.one.bytes old.port.offset a.one.item b.one.item a.one.next b.one.next a.one.fits a.one.reads (subst (λ (l : List ℕ). ItemAt l old.port.offset b.one.item b.one.next) bytes b.one.reads) in
    let answers : past.answers ++ b.one.item ∷ [] ≡ past.answers ++ a.one.item ∷ [] = ap (λ (i : Item). past.answers ++ i ∷ []) same.0 in
    let whole : put_back told one.present ≡ put_back told two.present =
    one_present past.requests (past.answers ++ a.one.item ∷ []) (put_back told one.present) (put_back told two.present) (a.past_on told past batch h).asking
    (subst (λ (l : List Item). ClientAfter past.requests l (put_back told two.present)) answers (b.past_on told past batch h).asking) (a.identity ∙ sym b.identity) in
    let port : one.port ≡ two.port =
    a.port ∙ ap (λ (k : ℕ). gone_on old.port a.one.bytes a.one.later k) (sym same.1)
    ∙ ap (λ (l : List ℕ). gone_on old.port l a.one.later b.one.next) (sym bytes)
    ∙ ap (λ (l : List (List ℕ)). gone_on old.port b.one.bytes l b.one.next) (sym later)
    ∙ sym b.port in
    let reported : option_to_list (option_map (reported_after told) r) ≡ option_to_list (option_map (reported_after told) s) =
    back_of (Told past.requests past.answers) (option_to_list (option_map (reported_after told) r)) (option_to_list (option_map (reported_after told) s))
    (sym (a.told_on told past batch h) ∙ ap (Told past.requests) (sym answers) ∙ b.told_on told past batch h) in (
      ap (λ (p : PortValue). record one { port = p }) port ∙ ap (λ (x : ClientState). record two { present = x }) (one_kept told one.present two.present whole),
      one_reported told r s (one_option _ _ reported),
    )

-- whatever records were taken out
pub reading_told : (told : List (ℕ × List ℕ)) (past : ClientHistory) (old one two : AskingValue) (r s : Option Report) → HasAsked past (with_told told old) → ReadOne old one r → ReadOne old two s → (one ≡ two) × (r ≡ s)
reading_told told past old one two r s h a b = elim (batch_or_kept told old.present.pending) [
  | inl batch ↦ reading_batch told past old one two r s batch h a b
  | inr kept ↦ reading_one past old one two r s (subst (HasAsked past) (ap (λ (o : Option Pending). record old { present = record old.present { pending = o } }) kept) h) a b
]

-- ---- Ends that are alike.

-- they are one
abbrev AreAlike : AskingValue → AskingValue → Type 0
AreAlike one two = one ≡ two

same_port : (one two : AskingValue) → AreAlike one two → one.port ≡ two.port
same_port one two h = ap (λ (v : AskingValue). v.port) h

alike_port : (one two : AskingValue) (p q : PortValue) → AreAlike one two → p ≡ q → AreAlike (record one { port = p }) (record two { port = q })
alike_port one two p q h e = ap (λ (v : AskingValue). record v { port = p }) h ∙ ap (λ (x : PortValue). record two { port = x }) e

pub alike_done : (one two : AskingValue) → AreAlike one two → HasDone one → HasDone two
alike_done one two h d = subst HasDone h d

pub has_sent : (v : AskingValue) → HasDone v → (handed : List (List ℕ)) × Sends v.port.link handed
has_sent v (inl d) = (d.0.handed, d.1.sends)
has_sent v (inr d) = d.1

-- ---- Reading as far as it goes.

abbrev Stops : AskingValue → Type 0
Stops v = (next : AskingValue) (report : Option Report) → ReadOne v next report → ⊥

reads_once : (past : ClientHistory) (old one two : AskingValue) (rs ss : List Report) → HasAsked past old → ReadOn old one rs → ReadOn old two ss → Stops one → Stops two → (one ≡ two) × (rs ≡ ss)
reads_once past old one two rs ss h nothing_read nothing_read a b = (refl, refl)
reads_once past old one two rs ss h nothing_read (one_read n s more y other js) a b = absurd (a n s y)
reads_once past old one two rs ss h (one_read m r more x on is) nothing_read a b = absurd (b m r x)
reads_once past old one two rs ss h (one_read m r more x on is) (one_read n s rest y other js) a b =
    let same = reading_one past old m n r s h x y in
    let next = reads_once (with_answer_read past x.one.bytes x.one.item x.one.next) m one two more rest (x.past past h) on (subst (λ (v : AskingValue). ReadOn v two rest) (sym same.0) other) a b in
    (next.0, is ∙ ap (λ (l : List Report). option_to_list r ++ l) next.1 ∙ ap (λ (o : Option Report). option_to_list o ++ rest) same.1 ∙ sym js)

-- an end that failed reads nothing
failed_reads : (old one : AskingValue) (rs : List Report) → old.present.failed ≡ true → ReadOn old one rs → (one ≡ old) × (rs ≡ [])
failed_reads old one rs e nothing_read = (refl, refl)
failed_reads old one rs e (one_read m r more x on is) = absurd (true≢false (sym e ∙ x.works))

read_past : (past : ClientHistory) (old new : AskingValue) (rs : List Report) → HasAsked past old → ReadOn old new rs → (now : ClientHistory) × HasAsked now new
read_past past old new rs h on = let g = (read_grows old new rs on).past past h in (g.0, g.1.is)

stops_empty : (v : AskingValue) → v.port.link.coming.inbox ≡ [] → Stops v
stops_empty v none = λ next report r. no_next r.one.bytes r.one.later (sym none ∙ r.one.came)

not_wrong : (d : Due) (p : Option Pending) → elim d [ NothingDue ↦ false | AnswersDue request so_far ↦ false | Wrong ↦ true ] ≡ true → FitsDue d p → ⊥
not_wrong NothingDue p e h = true≢false (sym e)
not_wrong (AnswersDue request so_far) p e h = true≢false (sym e)
not_wrong Wrong None e h = h
not_wrong Wrong (Some p) e h = h

-- an answer that is out of sequence is read by nobody
stays_out_of_sequence : (past : ClientHistory) (v new next : AskingValue) (report : Option Report) → HasAsked past v → ReadNone v new read_fault.Unexpected → ReadOne v next report → ⊥
stays_out_of_sequence past v new next report h n r =
    let there = n.refused.3 in
    let bytes : n.bytes ≡ r.one.bytes = (let both = sym n.came ∙ r.one.came in cc) in
    let same = one_item r.one.bytes v.port.offset r.one.item there.0 r.one.next there.1 r.one.fits r.one.reads (subst (λ (l : List ℕ). ItemAt l v.port.offset there.0 there.1) bytes there.2) in
    let unexpected : is_unexpected past.requests past.answers r.one.item ≡ true =
    subst (λ (i : Item). is_unexpected past.requests past.answers i ≡ true) same.0 (there.3 past.requests past.answers h.asking) in
    not_wrong (due_after past.requests (past.answers ++ r.one.item ∷ [])) next.present.pending unexpected (r.past past h).asking.pending

stops_unread : (v new : AskingValue) (f : ReadFault) → f ≢ read_fault.NoMemory → ReadNone v new f → ((past : ClientHistory) × HasAsked past v) → Stops v
stops_unread v new read_fault.Failed want n p = λ next report r. true≢false (sym n.refused.0 ∙ r.works)
stops_unread v new read_fault.Unexpected want n p = λ next report r. stays_out_of_sequence p.0 v new next report p.1 n r
stops_unread v new read_fault.NoMemory want n p = absurd (want refl)

read_alike : (old other one two : AskingValue) (before xs ys : List Report) → HasDone old → AreAlike old other → Extends before xs (ReadOn old one) → Extends before ys (ReadOn other two)
    → (((past : ClientHistory) × HasAsked past one) → Stops one) → (((past : ClientHistory) × HasAsked past two) → Stops two) → AreAlike one two × (xs ≡ ys) × HasDone one
read_alike old other one two before xs ys (inl d) like ra rb sa sb =
    let rc : Extends before ys (ReadOn old two) = subst (λ (v : AskingValue). Extends before ys (ReadOn v two)) (sym like) rb in
    let pa = read_past d.0 old one ra.0 d.1 ra.2 in
    let pb = read_past d.0 old two rc.0 d.1 rc.2 in
    let s = reads_once d.0 old one two ra.0 rc.0 d.1 ra.2 rc.2 (sa pa) (sb pb) in
    (s.0, ra.1 ∙ ap (λ (l : List Report). before ++ l) s.1 ∙ sym rc.1, inl pa)
read_alike old other one two before xs ys (inr d) like ra rb sa sb =
    let fa = failed_reads old one ra.0 d.0 ra.2 in
    let fb = failed_reads other two rb.0 (sym (ap (λ (v : AskingValue). v.present.failed) like) ∙ d.0) rb.2 in (
      subst (λ (v : AskingValue). AreAlike v two) (sym fa.0) (subst (λ (v : AskingValue). AreAlike old v) (sym fb.0) like),
      ra.1 ∙ ap (λ (l : List Report). before ++ l) (fa.1 ∙ sym fb.1) ∙ sym rb.1,
      subst HasDone (sym fa.0) (inr d),
    )

-- ---- Reading all, and handing over.

no_read_want : (f : ReadFault) → is_want (end_fault.Read f) ≡ false → f ≢ read_fault.NoMemory
no_read_want f e k = true≢false (sym (ap (λ (x : ReadFault). is_want (end_fault.Read x)) k) ∙ e)

-- where reading stopped at one that was refused
abbrev Unread : (old new : AskingValue) → (before all : List Report) → ReadFault → Type 0
Unread old new before all f = (mid : AskingValue) × Extends before all (ReadOn old mid) × ReadNone mid new f

unread : (old new : AskingValue) (before all : List Report) (f : ReadFault) → f ≢ read_fault.NoMemory → ReadsAll old new before all (Err f) → Unread old new before all f
unread old new before all f want u = u

-- where all was read, and what waits is refused
abbrev Left : (old new : AskingValue) → (before all : List Report) → LinkFault → Type 0
Left old new before all f = Extends before all (ReadOn old new) × (new.port.link.coming.inbox ≡ []) × SendAllFault new.port.link new.port.outbox f

left_of : (old new : AskingValue) (before all : List Report) (f : LinkFault) → DidAll (hears before all) old new (Err (end_fault.Link f)) → Left old new before all f
left_of old new before all f (mid, on, (is, none, h)) = subst (λ (v : AskingValue). Left old v before all f) (sym is) (on, none, h)

handed_done : (v new : AskingValue) (n : ℕ) → HandsOver v new n → HasDone v → HasDone new
handed_done v new n h (inl d) = inl (_, handed_history v new n h d.0 d.1)
handed_done v new n h (inr d) =
    subst HasDone (sym (handed_is v new n h)) (inr (d.0, (d.1.0 ++ v.port.outbox, sends_all v.port.link d.1.0 v.port.outbox d.1.1)))

heard_alike : (old other one two : AskingValue) (before xs ys : List Report) → HasDone old → AreAlike old other → DidAll (hears before xs) old one (Ok tt) → DidAll (hears before ys) other two (Ok tt) → AreAlike one two × (xs ≡ ys) × HasDone one
heard_alike old other one two before xs ys d like a b =
    let t = read_alike old other a.0 b.0 before xs ys d like a.2 b.2 (λ p. stops_empty a.0 a.3) (λ p. stops_empty b.0 b.3) in
    let there = alike_port a.0 b.0 (with_outbox_sent a.0.port) (with_outbox_sent b.0.port) t.0 (ap with_outbox_sent (same_port a.0 b.0 t.0)) in (
      subst (λ (v : AskingValue). AreAlike v two) (sym (handed_is a.0 one a.1 a.4)) (subst (λ (v : AskingValue). AreAlike (record a.0 { port = with_outbox_sent a.0.port }) v) (sym (handed_is b.0 two b.1 b.4)) there),
      t.1,
      handed_done a.0 one a.1 a.4 t.2,
    )

-- all that came was read, or reading stopped
empty_apart : (old other one mid two : AskingValue) (before xs ys : List Report) (f : ReadFault) → HasDone old → AreAlike old other → f ≢ read_fault.NoMemory → Extends before xs (ReadOn old one) → one.port.link.coming.inbox ≡ [] → Extends before ys (ReadOn other mid)
    → ReadNone mid two f → ⊥
empty_apart old other one mid two before xs ys f d like want ra none rb n =
    let t = read_alike old other one mid before xs ys d like ra rb (λ p. stops_empty one none) (λ p. stops_unread mid two f want n p) in
    no_next n.bytes n.later (sym none ∙ ap (λ (v : AskingValue). v.port.link.coming.inbox) t.0 ∙ n.came)

heard_apart : (old other one two : AskingValue) (before xs ys : List Report) (f : EndFault) → HasDone old → AreAlike old other → is_want f ≡ false → DidAll (hears before xs) old one (Ok tt) → DidAll (hears before ys) other two (Err f) → ⊥
heard_apart old other one two before xs ys (end_fault.Link f) d like want a b =
    let l = left_of other two before ys f b in
    let t = read_alike old other a.0 two before xs ys d like a.2 l.0 (λ p. stops_empty a.0 a.3) (λ p. stops_empty two l.1) in
    may_or_not two.port.link two.port.outbox f (no_want f want) (subst (λ (v : AskingValue). IsTrue (may_queue v.port.link v.port.outbox)) t.0 a.4.0) l.2
heard_apart old other one two before xs ys (end_fault.Read f) d like want a b =
    let u = unread other two before ys f (no_read_want f want) b in
    empty_apart old other a.0 u.0 two before xs ys f d like (no_read_want f want) a.2 a.3 u.1 u.2

left_alike : (a b one two : AskingValue) (f g : ReadFault) → f ≢ read_fault.NoMemory → g ≢ read_fault.NoMemory → AreAlike a b → HasDone a → ReadNone a one f → ReadNone b two g → AreAlike one two × (f ≡ g) × HasDone one
left_alike a b one two read_fault.Failed read_fault.Failed nf ng like d x y =
    let ea : one ≡ a = ap (λ (p : PortValue). record one { port = p }) x.port ∙ ap (λ (k : ClientState). record a { present = k }) x.refused.1 in
    let eb : two ≡ b = ap (λ (p : PortValue). record two { port = p }) y.port ∙ ap (λ (k : ClientState). record b { present = k }) y.refused.1 in
    (subst (λ (v : AskingValue). AreAlike v two) (sym ea) (subst (λ (v : AskingValue). AreAlike a v) (sym eb) like), refl, subst HasDone (sym ea) d)
left_alike a b one two read_fault.Unexpected read_fault.Unexpected nf ng like d x y =
    let sent = has_sent a d in (
      ap (λ (p : PortValue). record one { port = p }) (x.port ∙ same_port a b like ∙ sym y.port)
          ∙ ap (λ (k : ClientState). record two { present = k }) (x.refused.2 ∙ ap (λ (v : AskingValue). failed_after v.present) like ∙ sym y.refused.2),
      refl,
      inr (x.refused.1, (sent.0, subst (λ (p : PortValue). Sends p.link sent.0) (sym x.port) sent.1)),
    )
left_alike a b one two read_fault.Failed read_fault.Unexpected nf ng like d x y = absurd (true≢false (sym x.refused.0 ∙ ap (λ (v : AskingValue). v.present.failed) like ∙ y.refused.0))
left_alike a b one two read_fault.Unexpected read_fault.Failed nf ng like d x y = absurd (true≢false (sym y.refused.0 ∙ sym (ap (λ (v : AskingValue). v.present.failed) like) ∙ x.refused.0))
left_alike a b one two read_fault.NoMemory g nf ng like d x y = absurd (nf refl)
left_alike a b one two f read_fault.NoMemory nf ng like d x y = absurd (ng refl)

unread_alike : (old other one two : AskingValue) (before xs ys : List Report) (f g : ReadFault) → HasDone old → AreAlike old other
    → f ≢ read_fault.NoMemory → g ≢ read_fault.NoMemory → ReadsAll old one before xs (Err f) → ReadsAll other two before ys (Err g)
    → AreAlike one two × (f ≡ g) × (xs ≡ ys) × HasDone one
unread_alike old other one two before xs ys f g d like nf ng a b =
    let ua = unread old one before xs f nf a in
    let ub = unread other two before ys g ng b in
    let t = read_alike old other ua.0 ub.0 before xs ys d like ua.1 ub.1 (λ p. stops_unread ua.0 one f nf ua.2 p) (λ p. stops_unread ub.0 two g ng ub.2 p) in
    let left = left_alike ua.0 ub.0 one two f g nf ng t.0 t.2 ua.2 ub.2 in
    (left.0, left.1, t.1, left.2)

abbrev not_read : ReadFault → Result (Unit {0}) ReadFault
not_read f = Err f

pub reading_alike : (old other one two : AskingValue) (before xs ys : List Report) (r s : Result (Unit {0}) ReadFault) → HasDone old
    → AreAlike old other → r ≢ Err read_fault.NoMemory → s ≢ Err read_fault.NoMemory → ReadsAll old one before xs r
    → ReadsAll other two before ys s → AreAlike one two × (r ≡ s) × (xs ≡ ys) × HasDone one
reading_alike old other one two before xs ys (Ok u) (Ok w) d like nr ns a b =
    let t = read_alike old other one two before xs ys d like a.0 b.0 (λ p. stops_empty one a.1) (λ p. stops_empty two b.1) in
    (t.0, refl, t.1, t.2)
reading_alike old other one two before xs ys (Ok u) (Err g) d like nr ns a b =
    let want : g ≢ read_fault.NoMemory = λ k. ns (ap not_read k) in
    let n = unread other two before ys g want b in
    absurd (empty_apart old other one n.0 two before xs ys g d like want a.0 a.1 n.1 n.2)
reading_alike old other one two before xs ys (Err f) (Ok w) d like nr ns a b =
    let want : f ≢ read_fault.NoMemory = λ k. nr (ap not_read k) in
    let n = unread old one before xs f want a in
    absurd
    (empty_apart other old two n.0 one before ys xs f (alike_done old other like d) (sym like) want b.0 b.1 n.1 n.2)
reading_alike old other one two before xs ys (Err f) (Err g) d like nr ns a b =
    let t = unread_alike old other one two before xs ys f g d like (λ k. nr (ap not_read k)) (λ k. ns (ap not_read k)) a b in
    (t.0, ap not_read t.1, t.2, t.3)

stopped_alike : (old other one two : AskingValue) (before xs ys : List Report) (f g : EndFault) → HasDone old → AreAlike old other → is_want f ≡ false → is_want g ≡ false → DidAll (hears before xs) old one (Err f) → DidAll (hears before ys) other two (Err g)
    → AreAlike one two × (f ≡ g) × (xs ≡ ys) × HasDone one
stopped_alike old other one two before xs ys (end_fault.Link f) (end_fault.Link g) d like nf ng a b =
    let l = left_of old one before xs f a in
    let m = left_of other two before ys g b in
    let t = read_alike old other one two before xs ys d like l.0 m.0 (λ p. stops_empty one l.1) (λ p. stops_empty two m.1) in
    let same = refused_one two.port.link two.port.outbox f g (no_want f nf) (no_want g ng) (subst (λ (v : AskingValue). SendAllFault v.port.link v.port.outbox f) t.0 l.2) m.2 in
    (t.0, ap (λ (x : LinkFault). end_fault.Link x) same, t.1, t.2)
stopped_alike old other one two before xs ys (end_fault.Link f) (end_fault.Read g) d like nf ng a b =
    let l = left_of old one before xs f a in
    let u = unread other two before ys g (no_read_want g ng) b in
    absurd (empty_apart old other one u.0 two before xs ys g d like (no_read_want g ng) l.0 l.1 u.1 u.2)
stopped_alike old other one two before xs ys (end_fault.Read f) (end_fault.Link g) d like nf ng a b =
    let u = unread old one before xs f (no_read_want f nf) a in
    let m = left_of other two before ys g b in
    absurd (empty_apart other old two u.0 one before ys xs f (alike_done old other like d) (sym like) (no_read_want f nf) m.0 m.1 u.1 u.2)
stopped_alike old other one two before xs ys (end_fault.Read f) (end_fault.Read g) d like nf ng a b =
    let t = unread_alike old other one two before xs ys f g d like (no_read_want f nf) (no_read_want g ng) a b in
    (t.0, ap (λ (x : ReadFault). end_fault.Read x) t.1, t.2, t.3)

abbrev not_done : EndFault → Result (Unit {0}) EndFault
not_done f = Err f

all_alike : (old other one two : AskingValue) (before xs ys : List Report) (r s : Result (Unit {0}) EndFault) → HasDone old → AreAlike old other → went_wanting r ≡ false → went_wanting s ≡ false → DidAll (hears before xs) old one r → DidAll (hears before ys) other two s
    → AreAlike one two × (r ≡ s) × (xs ≡ ys) × HasDone one
all_alike old other one two before xs ys (Ok u) (Ok w) d like nr ns a b = let t = heard_alike old other one two before xs ys d like a b in (t.0, refl, t.1, t.2)
all_alike old other one two before xs ys (Ok u) (Err g) d like nr ns a b = absurd (heard_apart old other one two before xs ys g d like ns a b)
all_alike old other one two before xs ys (Err f) (Ok w) d like nr ns a b = absurd (heard_apart other old two one before ys xs f (alike_done old other like d) (sym like) nr b a)
all_alike old other one two before xs ys (Err f) (Err g) d like nr ns a b =
    let t = stopped_alike old other one two before xs ys f g d like nr ns a b in (t.0, ap not_done t.1, t.2, t.3)

-- ---- Going on, and taking.

stays_done : (old new : AskingValue) (port : PortValue) → HasDone old → new ≡ record old { port = port } → Still HasAsked old (record old { port = port }) → ((handed : List (List ℕ)) → Sends old.port.link handed → Sends port.link handed) → HasDone new
stays_done old new port (inl d) rest still sends = inl (d.0, subst (HasAsked d.0) (sym rest) (still d.0 d.1))
stays_done old new port (inr d) rest still sends =
    inr (ap (λ (v : AskingValue). v.present.failed) rest ∙ d.0, (d.1.0, subst (λ (v : AskingValue). Sends v.port.link d.1.0) (sym rest) (sends d.1.0 d.1.1)))

asks_alike : (before rs ss : List Report) → DoAlike (hears before rs) (hears before ss) AreAlike HasDone (rs ≡ ss)
asks_alike before rs ss =
    record {
      port = same_port;
      moved = λ a b p q like same. alike_port a b p q like same;
      sends = has_sent;
      took = λ old new bytes r d h rest. (
          let g = grown old.port.link new.port.link bytes r h in
          stays_done old new (with_link old.port new.port.link) d rest (still_received old new.port.link g h.sends) h.sends
          );
      wrote = λ old new n d rest. stays_done old new (sent_more old.port n) d rest (still_sent old (sent_more old.port n) n refl) (λ handed s. record { queue = s.queue; acked = s.acked; part = s.part });
      all = λ old other one two r s d like nr ns a b. all_alike old other one two before rs ss r s d like nr ns a b;
      quiet = λ a b. a ∙ sym b;
    }

pub going_alike : (old other one two : AskingValue) (out xs ys : List (List ℕ)) (before rs ss : List Report) (r s : Result (Unit {0}) EndFault) → HasDone old → AreAlike old other → went_wanting r ≡ false → went_wanting s ≡ false
    → WentOn (hears before rs) old one out xs r → WentOn (hears before ss) other two out ys s → AreAlike one two × (r ≡ s) × (xs ≡ ys) × (rs ≡ ss) × HasDone one
going_alike old other one two out xs ys before rs ss r s d like nr ns a b = went_same _ _ _ _ _ (asks_alike before rs ss) old other one two out xs ys r s d like nr ns a b

pub taking_alike : (old other one two : AskingValue) (bytes : List ℕ) (r s : Result Got TakeFault) (out xs ys : List (List ℕ)) (before rs ss : List Report) → AreBytes bytes → HasDone old → AreAlike old other → took_wanting r ≡ false → took_wanting s ≡ false
    → TakesPacket (hears before rs) old one bytes out xs r → TakesPacket (hears before ss) other two bytes out ys s → AreAlike one two × (r ≡ s) × (xs ≡ ys) × (rs ≡ ss) × HasDone one
taking_alike old other one two bytes r s out xs ys before rs ss fits d like nr ns a b = took_same _ _ _ _ _ (asks_alike before rs ss) old other one two bytes out xs ys r s fits d like nr ns a b
