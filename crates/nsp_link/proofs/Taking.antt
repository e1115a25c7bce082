-- What the next segment of the messages is, and how an end stands once it took it.
use Rattle.std.proofs.Common.{◌≡◌, ◌⊎◌, ℕ, zero, suc, ◌+◌, ◌-◌, ◌*◌, ◌<◌, ◌≤◌, max, List, [], ◌∷◌, ◌++◌, length, take, drop, get_or, refl, sym, ap, ◌∙◌, arith, false, Some, None, inl, inr, append_assoc, ◌==◌, cond}
use Rattle.std.specs.Prelude.{unwrap_or, is_none, slice_get, All}
use Rattle.std.specs.Int.{div_ceil}
use Rattle.std.proofs.Math.Nat.{mul-le-mul_right}
use Rattle.std.proofs.lemmas.Bool.{cases_eq, eq-eqb, ne_eqb}
use Rattle.std.proofs.lemmas.Grind.{div_ceil_times, flat_map-append}
use Rattle.std.proofs.lemmas.List.{take_more, take_all, take-take, take-append-drop, drop-take, length-append, length-take, append-nil}
use Rattle.std.proofs.lemmas.List.Concat.{get_or-flat_map}
use Rattle.std.proofs.lemmas.List.Elements.{All-get_or}
use Rattle.std.proofs.lemmas.List.FromFn.{get_or-map-range_with_len}
use Rattle.std.proofs.lemmas.Option.{slice_get_within, get_or_from_slice_get}
use Rattle.nsp_link.specs.Cutting.{Piece, count_of, piece_at, cut_message, cut}
use Rattle.nsp_link.specs.Inner.Whole.{AreWholeIn, HasWhole, begun_bytes}
use Rattle.nsp_link.specs.Coming.{Coming, body_with, with_taken, with_all_taken, AllFitInOrder, Misfits, MisfitsOne, RefusesAll, FitsNext}
use Rattle.nsp_link.specs.declared.fault.LinkFault.{LinkFault}
use Rattle.nsp_link.specs.declared.fault.LinkFault.TheVariants.{BadSetup, Malformed, WrongLink, BadSequence, MessageTooLong, Failed, Exhausted, NoSuchSegment, NoMemory}
use Rattle.nsp_link.specs.Limits.{max_segments}
use Rattle.nsp_link.proofs.Counts.{length-cut_message}

-- the front of a list in two parts
take_two : (n m : ℕ) (xs : List ℕ) → take n xs ++ take m (drop n xs) ≡ take (n + m) xs
take_two n m xs =
    let front : take n (take (n + m) xs) ≡ take n xs = take-take n (n + m) xs (omega arith) in
    let back = drop-take n m xs in
    rw (← front, ← back) (take-append-drop n (take (n + m) xs))

pub count-positive : (size len : ℕ) → 0 < count_of size len
unfolding count_of
count-positive size len = omega arith

-- the last segment reaches the end of the message
count-reaches : (size len : ℕ) → 0 < size → len ≤ size * count_of size len
unfolding count_of
count-reaches size len pos =
    let q = div_ceil len size in
    let bounds = div_ceil_times len size pos in
    let up : q * size ≤ max 1 q * size = mul-le-mul_right size (omega arith) in
    omega arith

pub cut-append : (size : ℕ) (ms more : List (List ℕ)) → cut size (ms ++ more) ≡ cut size ms ++ cut size more
unfolding cut
cut-append size ms more = flat_map-append (cut_message size) ms more

-- the segments of one message more
pub cut-more : (size : ℕ) (messages : List (List ℕ)) (n : ℕ) → n < length messages → cut size (take (n + 1) messages) ≡ cut size (take n messages) ++ cut_message size (get_or messages n [])
unfolding cut
cut-more size messages n lt =
    rw (take_more messages n [] lt, flat_map-append (cut_message size) (take n messages) (get_or messages n [] ∷ []), append-nil) refl

pub length-cut-more : (size : ℕ) (messages : List (List ℕ)) (n : ℕ) → n < length messages → length (cut size (take (n + 1) messages)) ≡ length (cut size (take n messages)) + count_of size (length (get_or messages n []))
length-cut-more size messages n lt =
    ap length (cut-more size messages n lt) ∙ length-append (cut size (take n messages)) (cut_message size (get_or messages n [])) ∙ ap (λ (k : ℕ). length (cut size (take n messages)) + k) (length-cut_message size (get_or messages n []))

-- the i-th segment of the message after the first n
cut-at : (size : ℕ) (messages : List (List ℕ)) (n i : ℕ) (p : Piece) → n < length messages → i < count_of size (length (get_or messages n [])) → slice_get (cut size messages) (length (cut size (take n messages)) + i) ≡ Some p → p ≡ piece_at size (get_or messages n []) i
unfolding cut cut_message
cut-at size messages n i p lt small at =
    let m = get_or messages n [] in
    let long : i < length (cut_message size m) = omega (arith, length-cut_message size m) in
    sym (get_or_from_slice_get (cut size messages) (length (cut size (take n messages)) + i) p p at)
    ∙ get_or-flat_map (cut_message size) messages n i [] p lt long
    ∙ get_or-map-range_with_len (piece_at size m) 0 (count_of size (length m)) i i p small (omega arith)

-- what the next segment of the messages is, by the message to which it belongs
pub record NextIs (size : ℕ) (messages : List (List ℕ)) (r n : ℕ) (p : Piece) : Type 0 where
  pub more : n < length messages
  pub over : ℕ
  pub index : r ≡ length (cut size (take n messages)) + over
  pub within : over < count_of size (length (get_or messages n []))
  pub piece : p ≡ piece_at size (get_or messages n []) over

pub next_is : (size : ℕ) (messages : List (List ℕ)) (r n : ℕ) (p : Piece) → AreWholeIn size messages r n → slice_get (cut size messages) r ≡ Some p → NextIs size messages r n p
next_is size messages r n p w at =
    let inside : r < length (cut size messages) = slice_get_within (cut size messages) r p at in
    let all_of : (length messages ≤ n) → ⊥ = λ h.
    let whole = take_all n messages h in
    let same : length (cut size (take n messages)) ≡ length (cut size messages) = ap (λ (ms : List (List ℕ)). length (cut size ms)) whole in
    let le = w.whole in
    omega arith in
    let more : n < length messages = omega (arith, all_of) in
    let over = r - length (cut size (take n messages)) in
    let le = w.whole in
    let index : r ≡ length (cut size (take n messages)) + over = omega arith in
    let longer = length-cut-more size messages n more in
    let before = w.next more in
    let small : over < count_of size (length (get_or messages n [])) = omega arith in
    record { more = more; over = over; index = index; within = small; piece = cut-at size messages n over p more small (rw (← index) at) }

begun_is : (size : ℕ) (messages : List (List ℕ)) (r n over : ℕ) → r ≡ length (cut size (take n messages)) + over → begun_bytes size messages r n ≡ cond (over == 0) None (Some (take (size * over) (get_or messages n [])))
begun_is size messages r n over index =
    let e : r - length (cut size (take n messages)) ≡ over = omega arith in
    rw e refl

-- the bytes of a message that is begun, and whether one is
so_far : (size over : ℕ) (m : List ℕ) → unwrap_or (cond (over == 0) None (Some (take (size * over) m))) [] ≡ take (size * over) m
so_far size zero m = let z : size * 0 ≡ 0 = omega arith in rw z refl
so_far size (suc over) m = rw (ne_eqb (suc over) 0 (λ e. omega arith)) refl

opens : (over : ℕ) (xs : List ℕ) → is_none (cond (over == 0) None (Some xs)) ≡ (over == 0)
opens zero xs = refl
opens (suc over) xs = rw (ne_eqb (suc over) 0 (λ e. omega arith)) refl

-- what taking the next segment does
pub record TakesNext (v : Coming) (size : ℕ) (messages given : List (List ℕ)) (s : Piece) (limit : ℕ) : Type 0 where
  pub mark : s.first ≡ is_none v.partial
  pub short : length (body_with v s.payload) ≤ limit
  pub stands : HasWhole (with_taken v s) size messages given

module _ (v : Coming) (size : ℕ) (messages given : List (List ℕ)) (s : Piece) (pos : 0 < size) (st : HasWhole v size messages given)
    (at : slice_get (cut size messages) v.received ≡ Some s) (nx : NextIs size messages v.received st.count s) where
  body-is : body_with v s.payload ≡ take (size * (nx.over + 1)) (get_or messages st.count [])
  unfolding piece_at
  body-is =
      let m = get_or messages st.count [] in
      let had : v.partial ≡ cond (nx.over == 0) None (Some (take (size * nx.over) m)) = st.partial ∙ begun_is size messages v.received st.count nx.over nx.index in
      let payload : s.payload ≡ take size (drop (size * nx.over) m) = ap (λ (p : Piece). p.payload) nx.piece in
      let both = take_two (size * nx.over) size m in
      let grown : size * nx.over + size ≡ size * (nx.over + 1) = omega arith in
      rw (had, so_far size nx.over m, payload, both, grown) refl

  mark-is : s.first ≡ is_none v.partial
  unfolding piece_at
  mark-is =
      let m = get_or messages st.count [] in
      let had : v.partial ≡ cond (nx.over == 0) None (Some (take (size * nx.over) m)) = st.partial ∙ begun_is size messages v.received st.count nx.over nx.index in
      let first : s.first ≡ (nx.over == 0) = ap (λ (p : Piece). p.first) nx.piece in
      rw (had, opens nx.over (take (size * nx.over) m)) first

  last-is : s.last ≡ (nx.over + 1 == count_of size (length (get_or messages st.count [])))
  unfolding piece_at
  last-is = ap (λ (p : Piece). p.last) nx.piece

  inside : v.received < length (cut size messages)
  inside = slice_get_within (cut size messages) v.received s at

  stands-part : (nx.over + 1 ≡ count_of size (length (get_or messages st.count [])) → ⊥) → HasWhole (record { received = v.received + 1; partial = Some (body_with v s.payload); inbox = v.inbox }) size messages given
  stands-part part =
      let longer = length-cut-more size messages st.count nx.more in
      let index = nx.index in
      let within = nx.within in
      let le = st.whole.whole in
      let lt = inside in
      let next : v.received + 1 ≡ length (cut size (take st.count messages)) + (nx.over + 1) = omega arith in
      let some : (nx.over + 1 == 0) ≡ false = ne_eqb (nx.over + 1) 0 (λ e. omega arith) in
      record {
        count = st.count;
        whole = record { some = st.whole.some; whole = omega arith; next = λ more. omega arith; all = omega arith };
        inbox = st.inbox;
        partial = rw (begun_is size messages (v.received + 1) st.count (nx.over + 1) next, some, body-is) refl;
      }

  stands-whole : nx.over + 1 ≡ count_of size (length (get_or messages st.count [])) → HasWhole (record { received = v.received + 1; partial = None; inbox = v.inbox ++ body_with v s.payload ∷ [] }) size messages given
  stands-whole done =
      let m = get_or messages st.count [] in
      let longer = length-cut-more size messages st.count nx.more in
      let index = nx.index in
      let lt = inside in
      let next : v.received + 1 ≡ length (cut size (take (st.count + 1) messages)) + 0 = omega arith in
      let reaches = count-reaches size (length m) pos in
      let full : take (size * (nx.over + 1)) m ≡ m = rw done (take_all (size * count_of size (length m)) m reaches) in
      let body : body_with v s.payload ≡ m = body-is ∙ full in
      record {
        count = st.count + 1;
        whole = record {
          some = omega (arith, nx.more);
          whole = omega arith;
          next = λ more. omega (arith, length-cut-more size messages (st.count + 1) more, count-positive size (length (get_or messages (st.count + 1) [])));
          all = omega arith;
        };
        inbox = rw (body, ← append_assoc given v.inbox (m ∷ []), st.inbox) (sym (take_more messages st.count [] nx.more));
        partial = sym (begun_is size messages (v.received + 1) (st.count + 1) 0 next);
      }

pub stands_next : (v : Coming) (size : ℕ) (messages given : List (List ℕ)) (s : Piece) → 0 < size → HasWhole v size messages given → slice_get (cut size messages) v.received ≡ Some s → HasWhole (with_taken v s) size messages given
stands_next v size messages given s pos st at =
    let nx = next_is size messages v.received st.count s st.whole at in
    let m = get_or messages st.count [] in
    let last = last-is v size messages given s pos st at nx in
    elim (cases_eq (nx.over + 1) (count_of size (length m))) [
      | inl done ↦ rw (last, eq-eqb _ _ done) (stands-whole v size messages given s pos st at nx done)
      | inr part ↦ rw (last, ne_eqb _ _ part) (stands-part v size messages given s pos st at nx part)
    ]

pub takes_next : (v : Coming) (size : ℕ) (messages given : List (List ℕ)) (s : Piece) (limit : ℕ) → 0 < size → All (λ m. length m ≤ limit) messages → HasWhole v size messages given → slice_get (cut size messages) v.received ≡ Some s → TakesNext v size messages given s limit
takes_next v size messages given s limit pos short st at =
    let nx = next_is size messages v.received st.count s st.whole at in
    let m = get_or messages st.count [] in
    let few : length m ≤ limit = All-get_or (λ (m : List ℕ). length m ≤ limit) messages st.count [] nx.more short in
    let body = body-is v size messages given s pos st at nx in
    record {
      mark = mark-is v size messages given s pos st at nx;
      short = rw body (omega (arith, few, length-take (size * (nx.over + 1)) m));
      stands = stands_next v size messages given s pos st at;
    }

-- ---- several segments

-- these are the segments from index r on
unfoldable pub AreNext : List Piece → ℕ → List Piece → Type 0
AreNext segments r [] = Unit {0}
AreNext segments r (p ∷ ps) = (slice_get segments r ≡ Some p) × AreNext segments (r + 1) ps

pub fits_all : (c : Coming) (size : ℕ) (messages given : List (List ℕ)) (ps : List Piece) (limit : ℕ) → 0 < size → All (λ m. length m ≤ limit) messages → HasWhole c size messages given → AreNext (cut size messages) c.received ps → AllFitInOrder limit c ps
unfolding AreNext AllFitInOrder
fits_all c size messages given [] limit pos short st are = tt
fits_all c size messages given (p ∷ ps) limit pos short st are =
    let one = takes_next c size messages given p limit pos short st are.0 in
    ((one.mark, one.short), fits_all (with_taken c p) size messages given ps limit pos short one.stands are.1)

pub received-all : (c : Coming) (ps : List Piece) → (with_all_taken c ps).received ≡ c.received + length ps
unfolding with_all_taken
received-all c [] = omega arith
received-all c (p ∷ ps) = received-all (with_taken c p) ps ∙ omega arith

fits-not : (limit : ℕ) (c : Coming) (p : Piece) (e : LinkFault) → FitsNext limit c p → Misfits limit c p e → ⊥
fits-not limit c p BadSequence fits out = out fits.0
fits-not limit c p MessageTooLong fits out = absurd (omega (arith, fits.1, out.1))
fits-not limit c p Exhausted fits out = out
fits-not limit c p NoMemory fits out = out
fits-not limit c p BadSetup fits out = out
fits-not limit c p (Malformed f) fits out = out
fits-not limit c p WrongLink fits out = out
fits-not limit c p Failed fits out = out
fits-not limit c p NoSuchSegment fits out = out

fit-not : (limit : ℕ) (c : Coming) (ps : List Piece) (e : LinkFault) → AllFitInOrder limit c ps → MisfitsOne limit c ps e → ⊥
unfolding AllFitInOrder MisfitsOne
fit-not limit c [] e fit out = out
fit-not limit c (p ∷ ps) e fit (inl out) = fits-not limit c p e fit.0 out
fit-not limit c (p ∷ ps) e fit (inr out) = fit-not limit (with_taken c p) ps e fit.1 out.1

-- segments that fit are refused for want of numbers or memory alone
pub refuses-all : (limit : ℕ) (c : Coming) (ps : List Piece) (e : LinkFault) → AllFitInOrder limit c ps → RefusesAll limit c ps e
    → ((e ≡ NoMemory) × (c.received + length ps ≤ max_segments)) ⊎ ((e ≡ Exhausted) × (max_segments < c.received + length ps))
refuses-all limit c ps BadSequence fit out = absurd (fit-not limit c ps BadSequence fit out)
refuses-all limit c ps MessageTooLong fit out = absurd (fit-not limit c ps MessageTooLong fit out)
refuses-all limit c ps Exhausted fit out = inr (refl, out.1)
refuses-all limit c ps NoMemory fit out = inl (refl, out.1)
refuses-all limit c ps BadSetup fit out = absurd out
refuses-all limit c ps (Malformed f) fit out = absurd out
refuses-all limit c ps WrongLink fit out = absurd out
refuses-all limit c ps Failed fit out = absurd out
refuses-all limit c ps NoSuchSegment fit out = absurd out
