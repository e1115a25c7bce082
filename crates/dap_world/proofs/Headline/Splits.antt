-- Going through the messages of an NSP message.
use Rattle.std.proofs.Common.{◌≡◌, ◌≢◌, ℕ, zero, suc, ◌+◌, ◌-◌, ◌≤◌, ◌<◌, arith, refl, sym, ◌∙◌, subst, ap, append_assoc, List, [], ◌∷◌, ◌++◌, length, take, drop, map}
use Rattle.std.specs.Prelude.{Some, slice_get}
use Rattle.std.proofs.lemmas.List.{append-nil, length-append, map-append}
use Rattle.std.proofs.Common.{add-one}
use Rattle.dap_fields.specs.Spelling.{AreBytes}
use Rattle.dap_msg.specs.declared.message.Message.{Message}
use Rattle.dap_msg.specs.declared.items.Item.{Item}
use Rattle.dap_msg.specs.declared.items.Item.TheVariants.{Whole}
use Rattle.dap_msg.specs.Items.{ItemAt}
use Rattle.dap_msg.specs.Canon.{canon, Fits}
use Rattle.dap_msg.specs.Blocked.{NspMessage, blocked_bytes, all_joined, messages_in, AllFit}
use Rattle.dap_msg.proofs.ForCallers.{one_item, stands_some}
use Rattle.dap_end.proofs.ForCallers.{back_fit, prefix_fit, in_append}
use Rattle.dap_end.specs.Histories.{AreFull}
use Rattle.dap_world.specs.Inner.Splitting.{SplitsOne}
use Rattle.dap_world.proofs.Headline.Reading.{at_item, fit_at, ends_at, bytes_at, joined-one}

-- the item that was read at the offset is the only one there
abbrev pub IsOnly : List ℕ → ℕ → Item → ℕ → Type 0
IsOnly bytes at found next = (item : Item) (n : ℕ) → ItemAt bytes at item n → (item ≡ found) × (n ≡ next)

pub only_item : (bytes : List ℕ) (at : ℕ) (item : Item) (next : ℕ) → AreBytes bytes → ItemAt bytes at item next → IsOnly bytes at item next
only_item bytes at item next fits here = λ other n there. one_item bytes at item other next n fits here there

-- where a message begins, it is what is read
pub one_there : (bytes : List ℕ) (at next : ℕ) (found : Item) (begun more : List Message) (m : Message) → AllFit (begun ++ m ∷ more) → bytes ≡ blocked_bytes (begun ++ m ∷ more) → at ≡ length (blocked_bytes begun)
    → IsOnly bytes at found next → (Whole m ≡ found) × (length (blocked_bytes begun) + length (canon m) ≡ next)
one_there bytes at next found begun more m fit is offset only =
    only (Whole m) (length (blocked_bytes begun) + length (canon m))
    (subst (λ (n : ℕ). ItemAt bytes n (Whole m) (length (blocked_bytes begun) + length (canon m))) (sym offset)
    (subst (λ (l : List ℕ). ItemAt l (length (blocked_bytes begun)) (Whole m) (length (blocked_bytes begun) + length (canon m))) (sym is) (at_item begun more m (fit_at begun more m fit))))

pub body_there : (bytes : List ℕ) (at next : ℕ) (begun more : List Message) (m : Message) → bytes ≡ blocked_bytes (begun ++ m ∷ more) → at ≡ length (blocked_bytes begun) → length (blocked_bytes begun) + length (canon m) ≡ next
    → take (next - at) (drop at bytes) ≡ canon m
body_there bytes at next begun more m is offset goes =
    let n : next - at ≡ length (canon m) = omega arith in
    ap (λ (k : ℕ). take k (drop at bytes)) n ∙ ap (λ (k : ℕ). take (length (canon m)) (drop k bytes)) offset
    ∙ ap (λ (l : List ℕ). take (length (canon m)) (drop (length (blocked_bytes begun)) l)) is ∙ bytes_at begun more m

-- a message has bytes
pub some_bytes : (m : Message) → Fits m → 2 ≤ length (canon m)
some_bytes m fits = let here = at_item [] [] m fits in let some = stands_some m here.0 _ here.1 in omega (arith, some, here.2)

pub none_more : (more : List Message) → AllFit more → length (blocked_bytes more) ≡ 0 → more ≡ []
none_more [] fit e = refl
none_more (m ∷ more) fit e = absurd (omega (arith, e, some_bytes m fit.0, length-append (canon m) (blocked_bytes more)))

-- ---- Splitting.

-- of any messages that were joined into the bytes, those before the offset are added, and one is left
abbrev pub SplitSoFar : List ℕ → ℕ → List (List ℕ) → List (List ℕ) → Type 0
SplitSoFar bytes at old out =
    (packet : NspMessage) → packet ≢ [] → AllFit packet → bytes ≡ blocked_bytes packet →
    (begun : List Message) × (m : Message) × (more : List Message) × (packet ≡ begun ++ m ∷ more) × (at ≡ length (blocked_bytes begun)) × (out ≡ old ++ map canon begun)

pub split_begins : (bytes : List ℕ) (old : List (List ℕ)) → SplitSoFar bytes 0 old old
split_begins bytes old [] full fit is = absurd (full refl)
split_begins bytes old (m ∷ more) full fit is = ([], m, more, refl, refl, sym (append-nil old))

added_one : (old : List (List ℕ)) (begun : List Message) (m : Message) → (old ++ map canon begun) ++ canon m ∷ [] ≡ old ++ map canon (begun ++ m ∷ [])
added_one old begun m = append_assoc old (map canon begun) (canon m ∷ []) ∙ ap (λ (l : List (List ℕ)). old ++ l) (sym (map-append canon begun (m ∷ [])))

pub split_ends : (bytes : List ℕ) (at next : ℕ) (found : Item) (old out new : List (List ℕ)) (body : List ℕ) → SplitSoFar bytes at old out → IsOnly bytes at found next → next ≡ length bytes
    → body ≡ take (next - at) (drop at bytes) → new ≡ out ++ body ∷ [] → SplitsOne bytes old new
split_ends bytes at next found old out new body so_far only end slice gained = λ packet full fit is.
    let here = so_far packet full fit is in
    let begun = here.0 in
    let m = here.1 in
    let more = here.2 in
    let fit' : AllFit (begun ++ m ∷ more) = subst AllFit here.3 fit in
    let is' : bytes ≡ blocked_bytes (begun ++ m ∷ more) = is ∙ ap blocked_bytes here.3 in
    let one = one_there bytes at next found begun more m fit' is' here.4 only in
    let long = ap length is' in
    let none : more ≡ [] = none_more more (back_fit (m ∷ []) more (back_fit begun (m ∷ more) fit')) (omega (arith, one.1, end, long, ends_at begun more m)) in
    let body_is : body ≡ canon m = slice ∙ body_there bytes at next begun more m is' here.4 one.1 in
    gained ∙ ap (λ (b : List ℕ). out ++ b ∷ []) body_is ∙ ap (λ (l : List (List ℕ)). l ++ canon m ∷ []) here.5 ∙ added_one old begun m
    ∙ ap (λ (l : List Message). old ++ map canon (begun ++ m ∷ l)) (sym none) ∙ ap (λ (l : List Message). old ++ map canon l) (sym here.3)

split_next : (bytes : List ℕ) (next : ℕ) (old out new : List (List ℕ)) (packet begun more : List Message) (m : Message) → packet ≡ begun ++ m ∷ more → AllFit more → length (blocked_bytes begun) + length (canon m) ≡ next
    → length (blocked_bytes more) ≢ 0 → new ≡ old ++ map canon (begun ++ m ∷ [])
    → (begun' : List Message) × (m' : Message) × (more' : List Message) × (packet ≡ begun' ++ m' ∷ more') × (next ≡ length (blocked_bytes begun')) × (new ≡ old ++ map canon begun')
split_next bytes next old out new packet begun [] m split fit goes some gained = absurd (some refl)
split_next bytes next old out new packet begun (m' ∷ more) m split fit goes some gained = (
  begun ++ m ∷ [],
  m',
  more,
  split ∙ sym (append_assoc begun (m ∷ []) (m' ∷ more)),
  sym goes ∙ sym (length-append (blocked_bytes begun) (canon m)) ∙ ap length (sym (joined-one begun m)),
  gained,
)

pub split_more : (bytes : List ℕ) (at next : ℕ) (found : Item) (old out new : List (List ℕ)) (body : List ℕ) → SplitSoFar bytes at old out → IsOnly bytes at found next → next < length bytes
    → body ≡ take (next - at) (drop at bytes) → new ≡ out ++ body ∷ [] → SplitSoFar bytes next old new
split_more bytes at next found old out new body so_far only below slice gained = λ packet full fit is.
    let here = so_far packet full fit is in
    let begun = here.0 in
    let m = here.1 in
    let more = here.2 in
    let fit' : AllFit (begun ++ m ∷ more) = subst AllFit here.3 fit in
    let is' : bytes ≡ blocked_bytes (begun ++ m ∷ more) = is ∙ ap blocked_bytes here.3 in
    let one = one_there bytes at next found begun more m fit' is' here.4 only in
    let long = ap length is' in
    let body_is : body ≡ canon m = slice ∙ body_there bytes at next begun more m is' here.4 one.1 in
    split_next bytes next old out new packet begun more m here.3 (back_fit (m ∷ []) more (back_fit begun (m ∷ more) fit')) one.1
    (λ none. omega (arith, one.1, below, long, ends_at begun more m, none))
    (gained ∙ ap (λ (b : List ℕ). out ++ b ∷ []) body_is ∙ ap (λ (l : List (List ℕ)). l ++ canon m ∷ []) here.5 ∙ added_one old begun m)

-- ---- Several.

-- the first of these are split
abbrev pub SplitFirst : List (List ℕ) → ℕ → List (List ℕ) → Type 0
SplitFirst list n out = (packets : List NspMessage) → AreFull packets → AllFit (messages_in packets) → list ≡ all_joined packets → out ≡ map canon (messages_in (take n packets))

record Nth (packets : List NspMessage) (n : ℕ) (bytes : List ℕ) : Type 0 where
  packet : NspMessage
  front : take (suc n) packets ≡ take n packets ++ packet ∷ []
  bytes_are : bytes ≡ blocked_bytes packet
  full : packet ≢ []
  fit : AllFit packet

nth : (packets : List NspMessage) (n : ℕ) (bytes : List ℕ) → AreFull packets → AllFit (messages_in packets) → slice_get (all_joined packets) n ≡ Some bytes → Nth packets n bytes
nth [] n bytes full fit at = let none : ⊥ = cc in absurd none
nth (p ∷ packets) zero bytes full fit at = record { packet = p; front = refl; bytes_are = (cc); full = full.0; fit = prefix_fit p (messages_in packets) fit }
nth (p ∷ packets) (suc n) bytes full fit at =
    let later = nth packets n bytes full.1 (back_fit p (messages_in packets) fit) at in
    record { packet = later.packet; front = ap (λ (l : List NspMessage). p ∷ l) later.front; bytes_are = later.bytes_are; full = later.full; fit = later.fit }

pub first_more : (list : List (List ℕ)) (n : ℕ) (bytes : List ℕ) (out new : List (List ℕ)) → SplitFirst list n out → slice_get list n ≡ Some bytes → SplitsOne bytes out new → SplitFirst list (n + 1) new
first_more list n bytes out new first at one = λ packets full fit is.
    let it = nth packets n bytes full fit (subst (λ (l : List (List ℕ)). slice_get l n ≡ Some bytes) is at) in
    let front = take n packets in
    one it.packet it.full it.fit it.bytes_are
    ∙ ap (λ (l : List (List ℕ)). l ++ map canon it.packet) (first packets full fit is)
    ∙ sym (map-append canon (messages_in front) it.packet)
    ∙ ap (λ (l : List Message). map canon (messages_in front ++ l)) (sym (append-nil it.packet))
    ∙ ap (map canon) (sym (in_append front (it.packet ∷ [])))
    ∙ ap (λ (l : List NspMessage). map canon (messages_in l)) (sym it.front ∙ ap (λ (k : ℕ). take k packets) (sym (add-one n)))
