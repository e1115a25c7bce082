-- What a link stands after is what came to the machine.
use Rattle.std.proofs.Common.{◌≡◌, ◌≢◌, ℕ, zero, suc, ◌+◌, ◌-◌, ◌≤◌, ◌<◌, arith, refl, sym, ◌∙◌, subst, ap, append_assoc, true, false, List, [], ◌∷◌, ◌++◌, length, take, add-one, inl, inr, eq-eqb}
use Rattle.std.specs.Prelude.{nat_le, if◌then◌else◌, Some, None, slice_get, ◌⊎◌}
use Rattle.std.proofs.lemmas.List.{length-append, length-map, append-nil, map-append}
use Rattle.std.proofs.lemmas.Bool.{ne_eqb}
use Rattle.std.proofs.lemmas.Option.{slice_get_past, slice_get-get_or}
use Rattle.std.proofs.lemmas.Grind.{common_steps}
use Rattle.dap_msg.specs.declared.message.Message.{Message}
use Rattle.dap_msg.specs.Canon.{canon}
use Rattle.dap_msg.specs.Blocked.{NspMessage, blocked_bytes, all_joined, messages_in, AllFit}
use Rattle.nsp_link.specs.Cutting.{cut, count_of}
use Rattle.nsp_link.specs.Link.{LinkValue, with_inbox}
use Rattle.nsp_link.specs.Inner.Whole.{AreWholeIn, HasWhole}
use Rattle.nsp_link.proofs.ForCallers.{whole_of, stands_given}
use Rattle.dap_world.specs.Machine.{arrived_messages}
use Rattle.dap_world.specs.Inner.Sides.{SideValue, port_of, side_of}
use Rattle.dap_world.specs.Inner.Ways.{IsWay}
use Rattle.dap_world.specs.Inner.Parts.{IsCarried}
use Rattle.dap_end.specs.Histories.{AreFull}
use Rattle.dap_end.specs.Ports.{gone_on}
use Rattle.dap_end.proofs.ForCallers.{back_fit, prefix_fit, in_append}
use Rattle.dap_world.proofs.Steps.Counting.{segments-first, cut-none, handed-bytes}
use Rattle.dap_world.proofs.Headline.Reading.{ends_at, fit_at, joined-one}
use Rattle.dap_world.proofs.Headline.Splits.{some_bytes}

-- ---- The NSP messages whose segments were all taken.

-- of the first r segments just those of the first n messages are whole
record IsJust (size : ℕ) (messages : List (List ℕ)) (r n : ℕ) : Type 0 where
  some : n ≤ length messages
  whole : length (cut size (take n messages)) ≤ r
  next : n < length messages → r < length (cut size (take (suc n) messages))

just : (size : ℕ) (messages : List (List ℕ)) (r n : ℕ) → AreWholeIn size messages r n → IsJust size messages r n
just size messages r n w =
    record { some = w.some; whole = w.whole; next = λ lt. subst (λ (k : ℕ). r < length (cut size (take k messages))) (add-one n) (w.next lt) }

came : (size r n : ℕ) (xs : List NspMessage) → IsJust size (all_joined xs) r n → arrived_messages size r xs ≡ take n xs
came size r zero [] w = refl
came size r (suc n) [] w = refl
came size r zero (x ∷ xs) w =
    let k = count_of size (length (blocked_bytes x)) in
    let first = segments-first size (blocked_bytes x) [] in
    let none = cut-none size in
    let past : r < length (cut size (blocked_bytes x ∷ [])) = w.next (omega arith) in
    let later : r < k = omega arith in
    elim (nat_le k r) as (λ b. nat_le k r ≡ b → (if b then x ∷ arrived_messages size (r - k) xs else []) ≡ []) [
      | true ↦ λ e. let wrong : ⊥ = grind (arith, e, later) in absurd wrong
      | false ↦ λ e. refl
    ] refl
came size r (suc n) (x ∷ xs) w =
    let k = count_of size (length (blocked_bytes x)) in
    let whole = w.whole in
    let first = segments-first size (blocked_bytes x) (take n (all_joined xs)) in
    let next = segments-first size (blocked_bytes x) (take (suc n) (all_joined xs)) in
    let some = w.some in
    let rest : IsJust size (all_joined xs) (r - k) n =
    record { some = omega arith; whole = omega arith; next = λ lt. (let past = w.next (omega arith) in omega arith) } in
    elim (nat_le k r) as (λ b. nat_le k r ≡ b → (if b then x ∷ arrived_messages size (r - k) xs else []) ≡ x ∷ take n xs) [
      | true ↦ λ e. ap (λ l. x ∷ l) (came size (r - k) n xs rest)
      | false ↦ λ e. let none : ⊥ = grind (arith, e, first, whole) in absurd none
    ] refl

pub arrived_is : (size r n : ℕ) (xs : List NspMessage) → AreWholeIn size (all_joined xs) r n → arrived_messages size r xs ≡ take n xs
arrived_is size r n xs w = came size r n xs (just size (all_joined xs) r n w)

-- ---- The front of a list.

record FrontOf {X : Type 0} (g l r : List X) (b : X) (c : ℕ) : Type 0 where
  more : ℕ
  count : c ≡ length g + suc more
  rest : b ∷ l ≡ take (suc more) r

front_of : {X : Type 0} (g l r : List X) (b : X) (c : ℕ) → g ++ b ∷ l ≡ take c (g ++ r) → FrontOf g l r b c
front_of [] l r b zero e = let none : ⊥ = cc in absurd none
front_of [] l r b (suc c) e = record { more = c; count = omega arith; rest = e }
front_of (x ∷ g) l r b zero e = let none : ⊥ = cc in absurd none
front_of {X} (x ∷ g) l r b (suc c) e =
    let tail : ◌≡◌ {A = List X} (g ++ b ∷ l) (take c (g ++ r)) = cc in
    let f = front_of g l r b c tail in
    record { more = f.more; count = omega (arith, f.count); rest = f.rest }

front_none : {X : Type 0} (g r : List X) (c : ℕ) → c ≤ length (g ++ r) → g ++ [] ≡ take c (g ++ r) → c ≡ length g
front_none [] r c le e = let long = ap length e in omega (arith, long, length_take c r le)
  where
    length_take : {X : Type 0} (c : ℕ) (r : List X) → c ≤ length r → length (take c r) ≡ c
    length_take c r le = grind (arith, common_steps, le)
front_none (x ∷ g) r zero le e = let none : ⊥ = cc in absurd none
front_none {X} (x ∷ g) r (suc c) le e =
    let tail : ◌≡◌ {A = List X} (g ++ []) (take c (g ++ r)) = cc in
    omega (arith, front_none g r c (omega (arith, le)) tail)

past_front : {X : Type 0} (g r : List X) (p : X) (k : ℕ) → take (length g + suc k) (g ++ p ∷ r) ≡ g ++ p ∷ take k r
past_front {X} [] r p k = let none : length {A = X} [] + suc k ≡ suc k = omega arith in ap (λ (n : ℕ). take n (p ∷ r)) none
past_front {X} (x ∷ g) r p k =
    let goes : length (x ∷ g) + suc k ≡ suc (length g + suc k) = omega arith in
    ap (λ (n : ℕ). take n (x ∷ (g ++ p ∷ r))) goes ∙ ap (λ (l : List X). x ∷ l) (past_front g r p k)

here : {X : Type 0} (xs : List X) (n : ℕ) (y : X) (ys : List X) → length xs ≡ n → slice_get (xs ++ y ∷ ys) n ≡ Some y
here {X} xs n y ys e = slice_get-get_or (xs ++ y ∷ ys) n y (omega (arith, length-append xs (y ∷ ys))) ∙ ap (λ (z : X). Some z) (grind (arith, common_steps, e))

-- ---- The next message that the link hands out is the machine's next.

pub record Next (from to : SideValue) (packets : List NspMessage) (count : ℕ) (bytes : List ℕ) : Type 0 where
  pub handed : List (List ℕ)
  pub posted : from.posted ≡ length handed
  pub handed_are : handed ++ from.outbox ≡ all_joined packets
  pub gone : List NspMessage
  pub begun : List Message
  pub m : Message
  pub more : List Message
  pub rest : List NspMessage
  pub split : take from.posted packets ≡ gone ++ (begun ++ m ∷ more) ∷ rest
  pub bytes_are : bytes ≡ blocked_bytes (begun ++ m ∷ more)
  pub handled : count ≡ length (messages_in gone) + length begun
  pub offset_is : to.offset ≡ length (blocked_bytes begun)
  pub way : IsWay from to.link handed (all_joined gone)
  pub fit : AllFit (begun ++ m ∷ more)
  pub next : slice_get (messages_in (arrived_messages from.link.setup.seg_size to.link.coming.received (take from.posted packets))) count ≡ Some m

-- what an NSP message has, where the first messages were handled
record Opened (begun : List Message) (p : NspMessage) : Type 0 where
  m : Message
  more : List Message
  split : p ≡ begun ++ m ∷ more

opened : (begun : List Message) (p : NspMessage) (rest : List NspMessage) → p ≢ []
    → (begun ≡ []) ⊎ ((m : Message) × (more : List Message) × (later : List NspMessage) × (p ∷ rest ≡ (begun ++ m ∷ more) ∷ later)) → Opened begun p
opened begun [] rest full (inl none) = absurd (full refl)
opened begun (m ∷ more) rest full (inl none) = record { m = m; more = more; split = ap (λ (l : List Message). l ++ m ∷ more) (sym none) }
opened begun p rest full (inr some) = let e = some.3 in record { m = some.0; more = some.1; split = (cc) }

full-back : (xs ys : List NspMessage) → AreFull (xs ++ ys) → AreFull ys
full-back [] ys h = h
full-back (x ∷ xs) ys h = full-back xs ys h.1

fit-of : (xs ys : List NspMessage) → AllFit (messages_in (xs ++ ys)) → AllFit (messages_in ys)
fit-of xs ys h = back_fit (messages_in xs) (messages_in ys) (subst AllFit (in_append xs ys) h)

-- the first NSP message that the link didn't hand out is the one that waits
record Waits (gone rest : List NspMessage) (bytes : List ℕ) (c : ℕ) : Type 0 where
  p : NspMessage
  after : List NspMessage
  k : ℕ
  is : rest ≡ p ∷ after
  bytes_are : bytes ≡ blocked_bytes p
  count : c ≡ length gone + suc k

waits : (gone rest : List NspMessage) (bytes : List ℕ) (later : List (List ℕ)) (c : ℕ) → FrontOf (all_joined gone) later (all_joined rest) bytes c → Waits gone rest bytes c
waits gone [] bytes later c f = let e = f.rest in let none : ⊥ = cc in absurd none
waits gone (p ∷ after) bytes later c f =
    let e = f.rest in
    record { p = p; after = after; k = f.more; is = refl; bytes_are = (cc); count = f.count ∙ ap (λ (n : ℕ). n + suc f.more) (length-map gone blocked_bytes) }

next_is : (gone after : List NspMessage) (begun more : List Message) (m : Message) (k count : ℕ) → count ≡ length (messages_in gone) + length begun
    → slice_get (messages_in (gone ++ (begun ++ m ∷ more) ∷ take k after)) count ≡ Some m
next_is gone after begun more m k count is =
    let last = messages_in (take k after) in
    let all : messages_in (gone ++ (begun ++ m ∷ more) ∷ take k after) ≡ (messages_in gone ++ begun) ++ m ∷ (more ++ last) =
    in_append gone ((begun ++ m ∷ more) ∷ take k after)
    ∙ ap (λ (l : List Message). messages_in gone ++ l) (append_assoc begun (m ∷ more) last)
    ∙ sym (append_assoc (messages_in gone) begun (m ∷ (more ++ last))) in
    ap (λ (l : List Message). slice_get l count) all ∙ here (messages_in gone ++ begun) count m (more ++ last) (length-append (messages_in gone) begun ∙ sym is)

module _ (from to : SideValue) (packets : List NspMessage) (count : ℕ) (h : IsCarried from to packets count) where
  handed : List NspMessage
  handed = take from.posted packets

  handed_are : h.handed ≡ all_joined (take from.posted packets)
  handed_are = handed-bytes from.posted h.handed from.outbox packets h.posted h.bytes

  -- what came, by the messages
  whole : HasWhole to.link.coming from.link.setup.seg_size h.handed (all_joined h.gone)
  whole = whole_of to.link.coming from.link.setup.seg_size h.handed (all_joined h.gone) h.way.size h.way.stands.taken

  -- what was given away and waits is a front of what was passed on
  given_and : all_joined h.gone ++ to.link.coming.inbox ≡ take whole.count (all_joined h.gone ++ all_joined h.among.rest)
  given_and =
      whole.inbox ∙ ap (take whole.count) (handed_are ∙ ap all_joined h.among.split ∙ map-append blocked_bytes h.gone h.among.rest)

  came_whole : arrived_messages from.link.setup.seg_size to.link.coming.received (take from.posted packets) ≡ take whole.count (take from.posted packets)
  came_whole =
      arrived_is from.link.setup.seg_size to.link.coming.received whole.count (take from.posted packets)
      (subst (λ (l : List (List ℕ)). AreWholeIn from.link.setup.seg_size l to.link.coming.received whole.count) handed_are whole.whole)

  -- the oldest that waits has the next message
  pub find_next : (bytes : List ℕ) (later : List (List ℕ)) → AreFull (take from.posted packets) → AllFit (messages_in (take from.posted packets)) → to.link.coming.inbox ≡ bytes ∷ later → Next from to packets count bytes
  find_next bytes later full fit inbox =
      let c = whole.count in
      let front = front_of (all_joined h.gone) later (all_joined h.among.rest) bytes c (subst (λ (l : List (List ℕ)). all_joined h.gone ++ l ≡ take c (all_joined h.gone ++ all_joined h.among.rest)) inbox given_and) in
      let w = waits h.gone h.among.rest bytes later c front in
      let split : take from.posted packets ≡ h.gone ++ w.p ∷ w.after = h.among.split ∙ ap (λ (l : List NspMessage). h.gone ++ l) w.is in
      let nonempty : w.p ≢ [] = (full-back h.gone (w.p ∷ w.after) (subst AreFull split full)).0 in
      let o = opened h.among.begun w.p w.after nonempty
      (subst (λ (l : List NspMessage). (h.among.begun ≡ []) ⊎ ((m : Message) × (more : List Message) × (later : List NspMessage) × (l ≡ (h.among.begun ++ m ∷ more) ∷ later))) w.is h.among.stays) in
      let fits : AllFit (w.p ++ messages_in w.after) = fit-of h.gone (w.p ∷ w.after) (subst (λ (l : List NspMessage). AllFit (messages_in l)) split fit) in
      let split' : take from.posted packets ≡ h.gone ++ (h.among.begun ++ o.m ∷ o.more) ∷ w.after = split ∙ ap (λ (l : NspMessage). h.gone ++ l ∷ w.after) o.split in
      let all : take c (take from.posted packets) ≡ h.gone ++ (h.among.begun ++ o.m ∷ o.more) ∷ take w.k w.after =
      ap (λ (n : ℕ). take n (take from.posted packets)) w.count ∙ ap (take (length h.gone + suc w.k)) split'
      ∙ past_front h.gone w.after (h.among.begun ++ o.m ∷ o.more) w.k in
      record {
        handed = h.handed;
        posted = h.posted;
        handed_are = h.bytes;
        gone = h.gone;
        begun = h.among.begun;
        m = o.m;
        more = o.more;
        rest = w.after;
        split = split';
        bytes_are = w.bytes_are ∙ ap blocked_bytes o.split;
        handled = h.among.handled;
        offset_is = h.among.offset_is;
        way = h.way;
        fit = subst AllFit o.split (prefix_fit w.p (messages_in w.after) fits);
        next = ap (λ (l : List NspMessage). slice_get (messages_in l) count) (came_whole ∙ all)
            ∙ next_is h.gone w.after h.among.begun o.more o.m w.k count h.among.handled;
      }

  -- nothing waits: there is no next message
  pub none_next : to.link.coming.inbox ≡ [] → slice_get (messages_in (arrived_messages from.link.setup.seg_size to.link.coming.received (take from.posted packets))) count ≡ None
  none_next empty =
      let c = whole.count in
      let some = whole.whole.some in
      let front : all_joined h.gone ++ [] ≡ take c (all_joined h.gone ++ all_joined h.among.rest) = subst (λ (l : List (List ℕ)). all_joined h.gone ++ l ≡ take c (all_joined h.gone ++ all_joined h.among.rest)) empty given_and in
      let long : length h.handed ≡ length (all_joined h.gone ++ all_joined h.among.rest) = ap length (handed_are ∙ ap all_joined h.among.split ∙ map-append blocked_bytes h.gone h.among.rest) in
      let is : c ≡ length h.gone = front_none (all_joined h.gone) (all_joined h.among.rest) c (omega (arith, some, long)) front ∙ length-map h.gone blocked_bytes in
      let all : take c (take from.posted packets) ≡ h.gone = ap (λ (n : ℕ). take n (take from.posted packets)) is ∙ ap (take (length h.gone)) h.among.split ∙ first h.gone h.among.rest in
      ap (λ (l : List NspMessage). slice_get (messages_in l) count) (came_whole ∙ all)
      ∙ slice_get_past (messages_in h.gone) count (omega (arith, h.among.handled))
    where
      first : (a b : List NspMessage) → take (length a) (a ++ b) ≡ a
      first [] b = refl
      first (x ∷ a) b = ap (λ (l : List NspMessage). x ∷ l) (first a b)

-- ---- A message was handled.

-- the offset moves on, or, at its end, the NSP message leaves the link
abbrev pub handled_side : SideValue → (bytes : List ℕ) (later : List (List ℕ)) → (next : ℕ) → SideValue
handled_side s bytes later next = side_of (gone_on (port_of s) bytes later next) s.posted s.wire

-- the oldest left the inbox: it is given away
gave : (from : SideValue) (v : LinkValue) (given messages : List (List ℕ)) (bytes : List ℕ) (later : List (List ℕ)) → v.coming.inbox ≡ bytes ∷ later → IsWay from v messages given
    → IsWay from (with_inbox v later) messages (given ++ bytes ∷ [])
gave from v given messages bytes later inbox way =
    record {
      size = way.size;
      running = way.running;
      listening = way.listening;
      there = way.there;
      back = way.back;
      sends = way.sends;
      stands = stands_given v bytes later from.link.setup.seg_size messages given inbox way.stands;
      short = way.short;
      few = way.few;
      wire = way.wire;
    }

told_by_more : (from to : SideValue) (packets : List NspMessage) (count : ℕ) (bytes : List ℕ) (later : List (List ℕ)) (next : ℕ) (told : IsCarried from to packets count)
    (handed : List (List ℕ)) → from.posted ≡ length handed → handed ++ from.outbox ≡ all_joined packets → (gone rest : List NspMessage) (begun more : List Message) (m : Message) → take from.posted packets ≡ gone ++ (begun ++ m ∷ more) ∷ rest → bytes ≡ blocked_bytes (begun ++ m ∷ more)
    → count ≡ length (messages_in gone) + length begun → IsWay from to.link handed (all_joined gone) → AllFit (begun ++ m ∷ more)
    → to.link.coming.inbox ≡ bytes ∷ later → length (blocked_bytes begun) + length (canon m) ≡ next → IsCarried from (handled_side to bytes later next) packets (count + 1)
told_by_more from to packets count bytes later next told handed posted handed_are gone rest begun [] m split bytes_are handled way fit inbox goes =
    let p = begun ++ m ∷ [] in
    let end : next ≡ length bytes = sym (ap length bytes_are ∙ ends_at begun [] m ∙ (omega (arith, goes))) in
    rw (eq-eqb next (length bytes) end) (record {
      handed = handed;
      posted = posted;
      gone = gone ++ p ∷ [];
      among = record {
        begun = [];
        rest = rest;
        split = split ∙ sym (append_assoc gone (p ∷ []) rest);
        handled = let one = ap length (in_append gone (p ∷ []) ∙ ap (λ (l : List Message). messages_in gone ++ l) (append-nil p)) in
            omega (arith, one, handled, length-append (messages_in gone) p, length-append begun (m ∷ []));
        offset_is = refl;
        stays = inl refl;
      };
      way = subst (λ (l : List (List ℕ)). IsWay from (with_inbox to.link later) handed l) (ap (λ (b : List ℕ). all_joined gone ++ b ∷ []) bytes_are ∙ sym (map-append blocked_bytes gone (p ∷ [])))
          (gave from to.link (all_joined gone) handed bytes later inbox way);
      bytes = handed_are;
      fit = told.fit;
      short = told.short;
    })
told_by_more from to packets count bytes later next told handed posted handed_are gone rest begun (m' ∷ more) m split bytes_are handled way fit inbox goes =
    let long = ap length bytes_are ∙ ends_at begun (m' ∷ more) m in
    let some = some_bytes m' (fit_at (begun ++ m ∷ []) more m' (subst AllFit (sym (append_assoc begun (m ∷ []) (m' ∷ more))) fit)) in
    let inside : next ≢ length bytes = λ e. omega (arith, e, goes, long, some, length-append (canon m') (blocked_bytes more)) in
    rw (ne_eqb next (length bytes) inside)
    (record {
      handed = handed;
      posted = posted;
      gone = gone;
      among = record {
        begun = begun ++ m ∷ [];
        rest = (begun ++ m ∷ m' ∷ more) ∷ rest;
        split = split;
        handled = omega (arith, handled, length-append begun (m ∷ []));
        offset_is = sym goes ∙ sym (length-append (blocked_bytes begun) (canon m)) ∙ ap length (sym (joined-one begun m));
        stays = inr (m', more, rest, ap (λ (l : NspMessage). l ∷ rest) (sym (append_assoc begun (m ∷ []) (m' ∷ more))));
      };
      way = way;
      bytes = handed_are;
      fit = told.fit;
      short = told.short;
    })

pub handled_one : (from to : SideValue) (packets : List NspMessage) (count : ℕ) (bytes : List ℕ) (later : List (List ℕ)) (next : ℕ) → IsCarried from to packets count → (n : Next from to packets count bytes)
    → to.link.coming.inbox ≡ bytes ∷ later → length (blocked_bytes n.begun) + length (canon n.m) ≡ next → IsCarried from (handled_side to bytes later next) packets (count + 1)
handled_one from to packets count bytes later next told n inbox goes =
    told_by_more from to packets count bytes later next told n.handed n.posted n.handed_are n.gone n.rest n.begun n.more n.m n.split n.bytes_are n.handled n.way n.fit inbox goes
