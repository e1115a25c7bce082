-- What is kept of a stream takes no more room when one joins its neighbours, and neighbours stay apart.
use Rattle.std.proofs.Common.{◌≡◌, inl, inr, ℕ, ◌+◌, ◌≤◌, false, List, [], ◌∷◌, ◌++◌, length, take, drop, arith, refl, ap, sym, subst, ◌∙◌, length-append, length-take}
use Rattle.dap_follow.specs.Keeping.Kept.{AbsorbsAfter, AbsorbsBefore, AreEntries, IsApart, IsEntry, StandsBetween, rooms}
use Rattle.dap_follow.specs.declared.kept.Kept.{Kept}
use Rattle.dap_follow.proofs.KeptLemmas.{both_kinds}
use Rattle.dap_follow.proofs.KeptRoomLemmas.{apart_same, entries_back, entries_front, entry_absorbed, last_apart_same, last_is_apart, room_both, room_most, rooms_append, rooms_cons, rooms_cut}

-- ---- front and back

pub take-append_seam : (xs ys : List Kept) → take (length xs) (xs ++ ys) ≡ xs
take-append_seam [] ys = refl
take-append_seam (x ∷ xs) ys = ap (λ (l : List Kept). x ∷ l) (take-append_seam xs ys)

pub drop-append_seam : (xs ys : List Kept) → drop (length xs) (xs ++ ys) ≡ ys
drop-append_seam [] ys = refl
drop-append_seam (x ∷ xs) ys = drop-append_seam xs ys

pub take_exact : (index : ℕ) (old others : List Kept) → index ≤ length old → (take index (take index old ++ others) ≡ take index old) × (drop index (take index old ++ others) ≡ others) × (index ≤ length (take index old ++ others))
take_exact index old others within =
    let size : length (take index old) ≡ index = omega (arith, length-take index old, within) in (
      subst (λ n. take n (take index old ++ others) ≡ take index old) size (take-append_seam (take index old) others),
      subst (λ n. drop n (take index old ++ others) ≡ others) size (drop-append_seam (take index old) others),
      omega (arith, size, length-append (take index old) others),
    )

-- ---- the one after

pub after_kind : (index : ℕ) (old : List Kept) (piece : Kept) (mid : List Kept) (middle : Kept) → AbsorbsAfter index old piece mid middle → middle.listed ≡ piece.listed
after_kind index old piece mid middle (inl (same, is, apart)) = ap (λ (k : Kept). k.listed) is
after_kind index old piece mid middle (inr (next, others, is, same, join, absorbed)) = absorbed.listed

pub after_room : (index : ℕ) (old : List Kept) (piece : Kept) (mid : List Kept) (middle : Kept) → AbsorbsAfter index old piece mid middle → rooms mid + middle.room ≤ rooms old + piece.room
after_room index old piece mid middle (inl (same, is, apart)) =
    let all : rooms mid ≡ rooms old = ap (λ (l : List Kept). rooms l) same in
    let one : middle.room ≡ piece.room = ap (λ (k : Kept). k.room) is in
    omega (arith, all, one)
after_room index old piece mid middle (inr (next, others, is, same, join, absorbed)) =
    let was : rooms old ≡ rooms (take index old) + (next.room + rooms others) =
    rooms_cut index old ∙ ap (λ (l : List Kept). rooms (take index old) + rooms l) is ∙ ap (λ n. rooms (take index old) + n) (rooms_cons next others) in
    let now : rooms mid ≡ rooms (take index old) + rooms others = ap (λ (l : List Kept). rooms l) same ∙ rooms_append (take index old) others in
    let most : middle.room ≤ piece.room + next.room = room_most piece next middle absorbed in
    omega (arith, was, now, most)

pub after_grows : (index : ℕ) (old : List Kept) (piece : Kept) (mid : List Kept) (middle : Kept) → AbsorbsAfter index old piece mid middle → piece.listed ≡ false → piece.room ≤ middle.room
after_grows index old piece mid middle (inl (same, is, apart)) kind = let one : middle.room ≡ piece.room = ap (λ (k : Kept). k.room) is in omega (arith, one)
after_grows index old piece mid middle (inr (next, others, is, same, join, absorbed)) kind = omega (arith, room_both piece next middle absorbed kind)

pub after_entries : (index : ℕ) (old : List Kept) (piece : Kept) (mid : List Kept) (middle : Kept) → index ≤ length old → AbsorbsAfter index old piece mid middle → IsEntry piece
    → AreEntries (take index old) → AreEntries (drop index old) → AreEntries (take index mid) × IsEntry middle × IsApart middle (drop index mid) × AreEntries (drop index mid)
after_entries index old piece mid middle within (inl (same, is, apart)) entry front back = (
  subst (λ (l : List Kept). AreEntries (take index l)) (sym same) front,
  subst (λ (k : Kept). IsEntry k) (sym is) entry,
  subst (λ (k : Kept). IsApart k (drop index mid)) (sym is) (subst (λ (l : List Kept). IsApart piece (drop index l)) (sym same) apart),
  subst (λ (l : List Kept). AreEntries (drop index l)) (sym same) back,
)
after_entries index old piece mid middle within (inr (next, others, is, same, join, absorbed)) entry front back =
    let cut = take_exact index old others within in
    let front_is : take index mid ≡ take index old = ap (λ (l : List Kept). take index l) same ∙ cut.0 in
    let back_is : drop index mid ≡ others = ap (λ (l : List Kept). drop index l) same ∙ cut.1 in
    let those : AreEntries (next ∷ others) = subst (λ (l : List Kept). AreEntries l) is back in (
      subst (λ (l : List Kept). AreEntries l) (sym front_is) front,
      entry_absorbed piece next middle absorbed entry,
      subst (λ (l : List Kept). IsApart middle l) (sym back_is) (apart_same next middle others absorbed.to absorbed.last (absorbed.listed ∙ both_kinds piece next join) those.1),
      subst (λ (l : List Kept). AreEntries l) (sym back_is) those.2,
    )

-- ---- the one in front

pub before_room : (index : ℕ) (mid : List Kept) (middle : Kept) (now : ℕ) (new : List Kept) (joined : Kept) → AbsorbsBefore index mid middle now new joined
    → rooms new + joined.room ≤ rooms mid + middle.room
before_room index mid middle now new joined (inl (same, at, is, apart)) =
    let all : rooms new ≡ rooms mid = ap (λ (l : List Kept). rooms l) same in
    let one : joined.room ≡ middle.room = ap (λ (k : Kept). k.room) is in
    omega (arith, all, one)
before_room index mid middle now new joined (inr (last, others, is, same, at, join, absorbed)) =
    let alone : rooms (last ∷ []) ≡ last.room + rooms [] = rooms_cons last [] in
    let none : rooms [] ≡ 0 = refl in
    let front : rooms (take index mid) ≡ rooms others + rooms (last ∷ []) = ap (λ (l : List Kept). rooms l) is ∙ rooms_append others (last ∷ []) in
    let was : rooms mid ≡ rooms (take index mid) + rooms (drop index mid) = rooms_cut index mid in
    let now_is : rooms new ≡ rooms others + rooms (drop index mid) = ap (λ (l : List Kept). rooms l) same ∙ rooms_append others (drop index mid) in
    let most : joined.room ≤ last.room + middle.room = room_most last middle joined absorbed in
    omega (arith, alone, none, front, was, now_is, most)

pub before_grows : (index : ℕ) (mid : List Kept) (middle : Kept) (now : ℕ) (new : List Kept) (joined : Kept) → AbsorbsBefore index mid middle now new joined → middle.listed ≡ false
    → middle.room ≤ joined.room
before_grows index mid middle now new joined (inl (same, at, is, apart)) kind = let one : joined.room ≡ middle.room = ap (λ (k : Kept). k.room) is in omega (arith, one)
before_grows index mid middle now new joined (inr (last, others, is, same, at, join, absorbed)) kind = omega (arith, room_both last middle joined absorbed (both_kinds last middle join ∙ kind))

pub before_entries : (index : ℕ) (mid : List Kept) (middle : Kept) (now : ℕ) (new : List Kept) (joined : Kept) → AbsorbsBefore index mid middle now new joined
    → AreEntries (take index mid) → IsEntry middle → IsApart middle (drop index mid) → AreEntries (drop index mid) → StandsBetween (take now new) joined (drop now new)
before_entries index mid middle now new joined (inl (same, at, is, apart)) front entry after back =
    subst (λ n. StandsBetween (take n new) joined (drop n new)) (sym at)
    (subst (λ (l : List Kept). StandsBetween (take index l) joined (drop index l)) (sym same)
    (subst (λ (k : Kept). StandsBetween (take index mid) k (drop index mid)) (sym is)
    (record { entry = entry; front_entries = front; before = apart; after = after; back_entries = back })))
before_entries index mid middle now new joined (inr (last, others, is, same, at, join, absorbed)) front entry after back =
    let those : AreEntries (others ++ last ∷ []) = subst (λ (l : List Kept). AreEntries l) is front in
    let front_is : take now new ≡ others = ap (λ n. take n new) at ∙ ap (λ (l : List Kept). take (length others) l) same ∙ take-append_seam others (drop index mid) in
    let back_is : drop now new ≡ drop index mid = ap (λ n. drop n new) at ∙ ap (λ (l : List Kept). drop (length others) l) same ∙ drop-append_seam others (drop index mid) in
    let stands : StandsBetween others joined (drop index mid) = record {
      entry = entry_absorbed last middle joined absorbed (entries_back others (last ∷ []) those).0;
      front_entries = entries_front others (last ∷ []) those;
      before = last_apart_same last joined others absorbed.from absorbed.first absorbed.listed (last_is_apart others last those);
      after = apart_same middle joined (drop index mid) absorbed.to absorbed.last (absorbed.listed ∙ both_kinds last middle join) after;
      back_entries = back;
    } in
    subst (λ (l : List Kept). StandsBetween l joined (drop now new)) (sym front_is) (subst (λ (l : List Kept). StandsBetween others joined l) (sym back_is) stands)
