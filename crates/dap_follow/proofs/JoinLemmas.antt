-- One between others joins those that it is in a row with.
use Rattle.std.proofs.Common.{◌≡◌, ◌&&◌, ◌⊎◌, inl, inr, ℕ, ◌+◌, ◌<◌, ◌≤◌, Bool, true, false, List, [], ◌∷◌, ◌++◌, length, take, drop, insert, arith, refl, ap, sym, subst, ◌∙◌, append-nil, append_assoc, length-append, length-take, Some, None, zero, suc, ◌-◌, get_or, add-one, Result, Ok, Err, IfOk, OnOk}
use Rattle.std.specs.List.{AllByRecursion, filter}
use Rattle.std.proofs.lemmas.Bool.{false≢true}
use Rattle.std.proofs.lemmas.List.Elements.{filter-append}
use Rattle.dap_follow.specs.Joined.{Fragment, is_message, latest, tail}
use Rattle.dap_follow.specs.Keeping.Pieces.{all_segments, glue}
use Rattle.dap_follow.specs.Keeping.Kept.{AbsorbsAfter, AbsorbsBefore, HoldsPieces, IsAbsorbed, AreEntries, IsApart, IsEntry, IsLastApart, IsOpen, Joins, KeepsPieces, Lists, Puts, Regroups, Settles, Stays, do_join, rooms}
use Rattle.dap_follow.specs.Room.{entry_room}
use Rattle.dap_follow.specs.declared.kept.Kept.{Kept}
use Rattle.dap_follow.specs.declared.kept.Whole.{Whole}
use Rattle.dap_follow.proofs.GlueLemmas.{glue_back, glue_front, glue_nil, latest_back, latest_front, segments_glue}
use Rattle.dap_follow.proofs.KeptLemmas.{apart_held, both_kinds, holds_some, joined_held, keeps_append, keeps_cons, keeps_only, keeps_split, message_apart, no_messages, open_too}
use Rattle.dap_follow.proofs.KeptRoomLemmas.{entries_between, rooms_insert}
use Rattle.dap_follow.proofs.JoinRoomLemmas.{after_entries, after_grows, after_kind, after_room, before_entries, before_grows, before_room, drop-append_seam, take-append_seam, take_exact}

-- ---- the one after

apart_all : (piece : Kept) (ys zs : List Fragment) (ks : List Kept) → HoldsPieces piece ys → KeepsPieces zs ks → IsApart piece ks → glue ys zs ≡ ys ++ zs
apart_all piece ys zs [] holds none apart = ap (λ (l : List Fragment). glue ys l) none ∙ glue_nil ys ∙ sym (append-nil ys) ∙ ap (λ (l : List Fragment). ys ++ l) (sym none)
apart_all piece ys zs (k ∷ ks) holds (held, rest, is, stays, keeps) apart =
    let some = holds_some k held stays.0 in
    let whole : zs ≡ (some.0 ∷ some.1) ++ rest = is ∙ ap (λ (l : List Fragment). l ++ rest) some.2 in
    ap (λ (l : List Fragment). glue ys l) whole ∙ glue_front ys some.0 some.1 rest ∙ ap (λ (l : List Fragment). glue ys l ++ rest) (sym some.2)
    ∙ ap (λ (l : List Fragment). l ++ rest) (apart_held piece k ys held holds stays.0 apart) ∙ append_assoc ys held rest ∙ ap (λ (l : List Fragment). ys ++ l) (sym is)

record After (index : ℕ) (old : List Kept) (piece : Kept) (mid : List Kept) (middle : Kept) (ys zs : List Fragment) : Type 0 where
  pub these : List Fragment
  pub those_after : List Fragment
  pub within : index ≤ length mid
  pub front : take index mid ≡ take index old
  pub holds : HoldsPieces middle these
  pub keeps : KeepsPieces those_after (drop index mid)
  pub all : glue ys zs ≡ these ++ those_after
  pub kind : middle.listed ≡ piece.listed
  pub messages : piece.listed ≡ false → filter is_message those_after ≡ filter is_message zs
  pub later : latest (all_segments ys) ≤ latest (all_segments these)

fewer : (held rest zs : List Fragment) → zs ≡ held ++ rest → filter is_message held ≡ [] → filter is_message rest ≡ filter is_message zs
fewer held rest zs is none = sym (ap (λ (l : List Fragment). filter is_message l) is ∙ filter-append is_message held rest ∙ ap (λ (l : List Fragment). l ++ filter is_message rest) none)

longer_latest : (xs ys : List Fragment) → (latest (all_segments xs) ≤ latest (all_segments (glue xs ys))) × (latest (all_segments ys) ≤ latest (all_segments (glue xs ys)))
longer_latest xs ys =
    let same = segments_glue xs ys in (
      subst (λ l. latest (all_segments xs) ≤ latest l) (sym same) (latest_front (all_segments xs) (all_segments ys)),
      subst (λ l. latest (all_segments ys) ≤ latest l) (sym same) (latest_back (all_segments xs) (all_segments ys)),
    )

after_step : (index : ℕ) (old : List Kept) (piece : Kept) (mid : List Kept) (middle : Kept) (ys zs : List Fragment) → index ≤ length old
    → AbsorbsAfter index old piece mid middle → HoldsPieces piece ys → KeepsPieces zs (drop index old) → After index old piece mid middle ys zs
after_step index old piece mid middle ys zs within (inl (same, is, apart)) holds keeps = record {
  these = ys;
  those_after = zs;
  within = subst (λ (l : List Kept). index ≤ length l) (sym same) within;
  front = ap (λ (l : List Kept). take index l) same;
  holds = subst (λ (k : Kept). HoldsPieces k ys) (sym is) holds;
  keeps = subst (λ (l : List Kept). KeepsPieces zs (drop index l)) (sym same) keeps;
  all = apart_all piece ys zs (drop index old) holds keeps apart;
  kind = ap (λ (k : Kept). k.listed) is;
  messages = λ is_open. refl;
  later = omega arith;
}
after_step index old piece mid middle ys zs within (inr (next, others, is, same, join, absorbed)) holds keeps =
    let first : KeepsPieces zs (next ∷ others) = subst (λ (l : List Kept). KeepsPieces zs l) is keeps in
    let held = first.0 in
    let rest = first.1 in
    let stays : Stays next held = first.3 in
    let some = holds_some next held stays.0 in
    let cut = take_exact index old others within in
    let whole : zs ≡ (some.0 ∷ some.1) ++ rest = first.2 ∙ ap (λ (l : List Fragment). l ++ rest) some.2 in
    record {
      these = glue ys held;
      those_after = rest;
      within = subst (λ (l : List Kept). index ≤ length l) (sym same) cut.2;
      front = ap (λ (l : List Kept). take index l) same ∙ cut.0;
      holds = joined_held piece next middle ys held holds stays.0 join absorbed;
      keeps = subst (λ (l : List Kept). KeepsPieces rest l) (sym (ap (λ (l : List Kept). drop index l) same ∙ cut.1)) first.4;
      all = ap (λ (l : List Fragment). glue ys l) whole ∙ glue_front ys some.0 some.1 rest ∙ ap (λ (l : List Fragment). glue ys l ++ rest) (sym some.2);
      kind = absorbed.listed;
      messages = λ is_open. fewer held rest zs first.2 (no_messages held (stays.1 (open_too piece next join is_open)));
      later = (longer_latest ys held).0;
    }

-- ---- the one in front

at_end : (k : Kept) {ks : List Kept} → (ks ≡ []) ⊎ ((others : List Kept) × (last : Kept) × (ks ≡ others ++ last ∷ []))
    → (k ∷ ks ≡ []) ⊎ ((others : List Kept) × (last : Kept) × (k ∷ ks ≡ others ++ last ∷ []))
at_end k (inl none) = inr ([], k, ap (λ (l : List Kept). k ∷ l) none)
at_end k (inr (others, last, is)) = inr (k ∷ others, last, ap (λ (l : List Kept). k ∷ l) is)

snoc_cases : (ks : List Kept) → (ks ≡ []) ⊎ ((others : List Kept) × (k : Kept) × (ks ≡ others ++ k ∷ []))
snoc_cases [] = inl refl
snoc_cases (k ∷ ks) = at_end k (snoc_cases ks)

record Before (index : ℕ) (mid : List Kept) (middle : Kept) (now : ℕ) (new : List Kept) (joined : Kept) (xs these those_after : List Fragment) : Type 0 where
  pub before : List Fragment
  pub all_these : List Fragment
  pub within : now ≤ length new
  pub back : drop now new ≡ drop index mid
  pub holds : HoldsPieces joined all_these
  pub keeps : KeepsPieces before (take now new)
  pub all : glue xs (these ++ those_after) ≡ before ++ (all_these ++ those_after)
  pub kind : joined.listed ≡ middle.listed
  pub messages : middle.listed ≡ false → filter is_message before ≡ filter is_message xs
  pub later : latest (all_segments these) ≤ latest (all_segments all_these)

-- what is in front, its last and these
glue_in_front : (front held these those_after : List Fragment) (k piece : Kept) → HoldsPieces k held → HoldsPieces piece these
    → glue (front ++ held) (these ++ those_after) ≡ front ++ (glue held these ++ those_after)
glue_in_front front held these those_after k piece one two =
    let some = holds_some k held one in
    let first = holds_some piece these two in
    ap (λ (l : List Fragment). glue (front ++ l) (these ++ those_after)) some.2 ∙ glue_back front some.0 some.1 (these ++ those_after)
    ∙ ap (λ (l : List Fragment). front ++ glue l (these ++ those_after)) (sym some.2)
    ∙ ap (λ (l : List Fragment). front ++ glue held (l ++ those_after)) first.2 ∙ ap (λ (l : List Fragment). front ++ l) (glue_front held first.0 first.1 those_after)
    ∙ ap (λ (l : List Fragment). front ++ (glue held l ++ those_after)) (sym first.2)

last_apart : (front : List Kept) (piece : Kept) (xs these those_after : List Fragment) → KeepsPieces xs front → HoldsPieces piece these → IsLastApart front piece
    → (front ≡ []) ⊎ ((others : List Kept) × (k : Kept) × (front ≡ others ++ k ∷ [])) → glue xs (these ++ those_after) ≡ xs ++ (these ++ those_after)
last_apart front piece xs these those_after keeps holds apart (inl none) =
    let no_pieces : xs ≡ [] = subst (λ (l : List Kept). KeepsPieces xs l) none keeps in
    ap (λ (l : List Fragment). glue l (these ++ those_after)) no_pieces ∙ ap (λ (l : List Fragment). l ++ (these ++ those_after)) (sym no_pieces)
last_apart front piece xs these those_after keeps holds apart (inr (others, k, is)) =
    let parts = keeps_split xs others (k ∷ []) (subst (λ (l : List Kept). KeepsPieces xs l) is keeps) in
    let start = parts.0 in
    let held = parts.1 in
    let stays : Stays k held = keeps_only held k parts.4 in
    ap (λ (l : List Fragment). glue l (these ++ those_after)) parts.2 ∙ glue_in_front start held these those_after k piece stays.0 holds
    ∙ ap (λ (l : List Fragment). start ++ (l ++ those_after)) (apart_held k piece held these stays.0 holds (apart others k is))
    ∙ ap (λ (l : List Fragment). start ++ l) (append_assoc held these those_after) ∙ sym (append_assoc start held (these ++ those_after))
    ∙ ap (λ (l : List Fragment). l ++ (these ++ those_after)) (sym parts.2)

before_step : (index : ℕ) (mid : List Kept) (middle : Kept) (now : ℕ) (new : List Kept) (joined : Kept) (xs these those_after : List Fragment) → index ≤ length mid
    → AbsorbsBefore index mid middle now new joined → KeepsPieces xs (take index mid) → HoldsPieces middle these → Before index mid middle now new joined xs these those_after
before_step index mid middle now new joined xs these those_after within (inl (same, at, is, apart)) keeps holds = record {
  before = xs;
  all_these = these;
  within = subst (λ n. n ≤ length new) (sym at) (subst (λ (l : List Kept). index ≤ length l) (sym same) within);
  back = ap (λ n. drop n new) at ∙ ap (λ (l : List Kept). drop index l) same;
  holds = subst (λ (k : Kept). HoldsPieces k these) (sym is) holds;
  keeps = subst (λ n. KeepsPieces xs (take n new)) (sym at) (subst (λ (l : List Kept). KeepsPieces xs (take index l)) (sym same) keeps);
  all = last_apart (take index mid) middle xs these those_after keeps holds apart (snoc_cases (take index mid));
  kind = ap (λ (k : Kept). k.listed) is;
  messages = λ is_open. refl;
  later = omega arith;
}
before_step index mid middle now new joined xs these those_after within (inr (last, others, is, same, at, join, absorbed)) keeps holds =
    let parts = keeps_split xs others (last ∷ []) (subst (λ (l : List Kept). KeepsPieces xs l) is keeps) in
    let start = parts.0 in
    let held = parts.1 in
    let stays : Stays last held = keeps_only held last parts.4 in
    record {
      before = start;
      all_these = glue held these;
      within = omega (arith, at, ap length same, length-append others (drop index mid));
      back = ap (λ n. drop n new) at ∙ ap (λ (l : List Kept). drop (length others) l) same ∙ drop-append_seam others (drop index mid);
      holds = joined_held last middle joined held these stays.0 holds join absorbed;
      keeps = subst (λ (l : List Kept). KeepsPieces start l) (sym (ap (λ n. take n new) at ∙ ap (λ (l : List Kept). take (length others) l) same ∙ take-append_seam others (drop index mid))) parts.3;
      all = ap (λ (l : List Fragment). glue l (these ++ those_after)) parts.2 ∙ glue_in_front start held these those_after last middle stays.0 holds;
      kind = absorbed.listed ∙ both_kinds last middle join;
      messages = λ is_open. sym (ap (λ (l : List Fragment). filter is_message l) parts.2 ∙ filter-append is_message start held
          ∙ ap (λ (l : List Fragment). filter is_message start ++ l) (no_messages held (stays.1 (both_kinds last middle join ∙ is_open))) ∙ append-nil (filter is_message start));
      later = (longer_latest held these).1;
    }

-- ---- both

within_then : (index : ℕ) (old : List Kept) (piece : Kept) (mid : List Kept) (middle : Kept) (now : ℕ) (new : List Kept) (joined : Kept) → index ≤ length old
    → AbsorbsAfter index old piece mid middle → AbsorbsBefore index mid middle now new joined → now ≤ length new
within_then index old piece mid middle now new joined within (inl (same, is, apart)) (inl (same_as, at, joined_is, those_after)) =
    omega (arith, at, ap length same_as, ap length same, within)
within_then index old piece mid middle now new joined within (inr (next, others, is, same, join, absorbed)) (inl (same_as, at, joined_is, those_after)) =
    let cut : index ≤ length (take index old ++ others) = (take_exact index old others within).2 in
    omega (arith, at, ap length same_as, ap length same, cut)
within_then index old piece mid middle now new joined within after (inr (last, others, is, same, at, join, absorbed)) =
    omega (arith, at, ap length same, length-append others (drop index mid))

pub joins_both : (index : ℕ) (old : List Kept) (piece : Kept) (mid : List Kept) (middle : Kept) (now : ℕ) (new : List Kept) (joined : Kept) → index ≤ length old
    → AbsorbsAfter index old piece mid middle → AbsorbsBefore index mid middle now new joined → Joins index old piece now new joined
joins_both index old piece mid middle now new joined within after before = record {
  within = within_then index old piece mid middle now new joined within after before;
  regroups = λ xs ys zs in_front holds at_back.
      let a = after_step index old piece mid middle ys zs within after holds at_back in
      let b = before_step index mid middle now new joined xs a.these a.those_after a.within before (subst (λ (l : List Kept). KeepsPieces xs l) (sym a.front) in_front) a.holds in
      let low : latest (all_segments ys) ≤ latest (all_segments a.these) = a.later in
      let high : latest (all_segments a.these) ≤ latest (all_segments b.all_these) = b.later in
      record {
        before = b.before;
        these = b.all_these;
        those_after = a.those_after;
        front_keeps = b.keeps;
        holds = b.holds;
        back_keeps = subst (λ (l : List Kept). KeepsPieces a.those_after l) (sym b.back) a.keeps;
        all = ap (λ (l : List Fragment). glue xs l) a.all ∙ b.all;
        kind = b.kind ∙ a.kind;
        messages = λ is_open. (b.messages (a.kind ∙ is_open), a.messages is_open);
        later = omega (arith, low, high);
      };
  room =
      let a : rooms mid + middle.room ≤ rooms old + piece.room = after_room index old piece mid middle after in
      let b : rooms new + joined.room ≤ rooms mid + middle.room = before_room index mid middle now new joined before in
      omega (arith, a, b);
  grows = λ kind.
      let a : piece.room ≤ middle.room = after_grows index old piece mid middle after kind in
      let b : middle.room ≤ joined.room = before_grows index mid middle now new joined before (after_kind index old piece mid middle after ∙ kind) in
      omega (arith, a, b);
  entries = λ entry front back.
      let a = after_entries index old piece mid middle within after entry front back in
      before_entries index mid middle now new joined before a.0 a.1 a.2 a.3;
}

-- one put between others
pub inserted : (xs ys zs : List Fragment) (ks : List Kept) (index : ℕ) (k : Kept) → KeepsPieces xs (take index ks) → Stays k ys → KeepsPieces zs (drop index ks)
    → KeepsPieces (xs ++ (ys ++ zs)) (insert ks index k)
inserted xs ys zs ks index k front stays back = keeps_append xs (ys ++ zs) (take index ks) (k ∷ drop index ks) front (keeps_cons ys zs k (drop index ks) stays back)

-- a message between others is kept same_as listed
pub lists_run : (index : ℕ) (old : List Kept) (run : Kept) (now : ℕ) (new : List Kept) (joined : Kept) → Joins index old run now new joined → run.listed ≡ true
    → (xs zs : List Fragment) (m : Fragment) → is_message m ≡ true → run.from ≡ m.head.sequence → run.to ≡ (tail m).sequence → KeepsPieces xs (take index old) → KeepsPieces zs (drop index old)
    → KeepsPieces (xs ++ m ∷ zs) (insert new now joined)
lists_run index old run now new joined joins listed xs zs m is from to front back =
    let r = joins.regroups xs (m ∷ []) zs front (inl (listed, (is, sym from, sym to))) back in
    subst (λ (l : List Fragment). KeepsPieces l (insert new now joined)) (sym r.all ∙ message_apart xs zs m is)
    (inserted r.before r.these r.those_after new now joined r.front_keeps (r.holds, λ is_open. absurd (false≢true (sym is_open ∙ (r.kind ∙ listed)))) r.back_keeps)

pub lists_room : (index : ℕ) (old : List Kept) (run : Kept) (now : ℕ) (mid : List Kept) (joined : Kept) (new : List Kept) → Joins index old run now mid joined → run.room ≡ entry_room → new ≡ insert mid now joined
    → rooms new ≤ rooms old + entry_room
lists_room index old run now mid joined new joins one items =
    let all : rooms new ≡ rooms mid + joined.room = ap (λ (l : List Kept). rooms l) items ∙ rooms_insert now joined mid in
    let most : rooms mid + joined.room ≤ rooms old + run.room = joins.room in
    omega (arith, all, most, one)

pub inserted_entries : (index : ℕ) (old : List Kept) (piece : Kept) (now : ℕ) (mid : List Kept) (joined : Kept) (new : List Kept) → Joins index old piece now mid joined → IsEntry piece → new ≡ insert mid now joined
    → AreEntries (take index old) → AreEntries (drop index old) → AreEntries new
inserted_entries index old piece now mid joined new joins entry items front back =
    subst (λ (l : List Kept). AreEntries l) (sym items) (entries_between (take now mid) joined (drop now mid) (joins.entries entry front back))

-- ---- a segment between others

open_piece : (k : Kept) (ps : List Fragment) → HoldsPieces k ps → k.listed ≡ false → (p : Fragment) × (ps ≡ p ∷ []) × IsOpen k p
open_piece k ps (inl (listed, run)) kind = absurd (false≢true (sym kind ∙ listed))
open_piece k ps (inr one) kind = one

marks_of : (k : Kept) (p : Fragment) → IsOpen k p → is_message p ≡ (k.first && k.last)
marks_of k p one = ap (λ (b : Bool). b && (tail p).last) (sym one.first) ∙ ap (λ (b : Bool). k.first && b) (sym one.last)

alone_later : (n : ℕ) (p : Fragment) (ps : List Fragment) → ps ≡ p ∷ [] → n ≤ latest (all_segments ps) → n ≤ latest (p.head ∷ p.others)
alone_later n p ps is low = subst (λ l. n ≤ latest l) (ap (λ (l : List Fragment). all_segments l) is ∙ append-nil (p.head ∷ p.others)) low

settles_message : (xs ys zs : List Fragment) (piece : Kept) (mid : List Kept) (now : ℕ) (joined : Kept) (new : List Kept) (bytes : List ℕ) (whole : Whole)
    → Regroups xs ys zs piece (take now mid) joined (drop now mid) → piece.listed ≡ false → (joined.first && joined.last) ≡ true → Lists now mid joined new bytes whole
    → Settles xs ys zs new bytes (Some whole)
settles_message xs ys zs piece mid now joined new bytes whole r kind marks lists =
    let one = open_piece joined r.these r.holds (r.kind ∙ kind) in
    let p = one.0 in
    let is_open = one.2 in
    let message : is_message p ≡ true = marks_of joined p is_open ∙ marks in
    record {
      before = r.before;
      piece = p;
      those_after = r.those_after;
      all = r.all ∙ ap (λ (l : List Fragment). r.before ++ (l ++ r.those_after)) one.1;
      keeps = lists.keeps r.before r.those_after p message is_open.from is_open.to r.front_keeps r.back_keeps;
      told = record {
        message = message;
        from = lists.from ∙ is_open.from;
        to = lists.to ∙ is_open.to;
        bytes_are = lists.bytes_are ∙ is_open.bytes;
      };
      messages = r.messages kind;
      later = alone_later (latest (all_segments ys)) p r.these one.1 r.later;
    }

settles_open : (xs ys zs : List Fragment) (piece : Kept) (mid : List Kept) (now : ℕ) (joined : Kept) (bytes : List ℕ)
    → Regroups xs ys zs piece (take now mid) joined (drop now mid) → piece.listed ≡ false → (joined.first && joined.last) ≡ false
    → Settles xs ys zs (insert mid now joined) bytes None
settles_open xs ys zs piece mid now joined bytes r kind marks =
    let one = open_piece joined r.these r.holds (r.kind ∙ kind) in
    let p = one.0 in
    let none : is_message p ≡ false = marks_of joined p one.2 ∙ marks in
    let stays : Stays joined r.these = (r.holds, λ kind_is. subst (λ (l : List Fragment). AllByRecursion (λ q. is_message q ≡ false) l) (sym one.1) (none, tt)) in
    record {
      before = r.before;
      piece = p;
      those_after = r.those_after;
      all = r.all ∙ ap (λ (l : List Fragment). r.before ++ (l ++ r.those_after)) one.1;
      keeps = subst (λ (l : List Fragment). KeepsPieces (r.before ++ (l ++ r.those_after)) (insert mid now joined)) one.1 (inserted r.before r.these r.those_after mid now joined r.front_keeps stays r.back_keeps);
      told = none;
      messages = r.messages kind;
      later = alone_later (latest (all_segments ys)) p r.these one.1 r.later;
    }

-- what isn't listed is an entry
open_entry : (k : Kept) → k.listed ≡ false → IsEntry k
open_entry k kind = λ listed. absurd (false≢true (sym kind ∙ listed))

pub puts_message : (index : ℕ) (old : List Kept) (segment : Kept) (now : ℕ) (mid : List Kept) (piece : Kept) (new : List Kept) (bytes : List ℕ) (whole : Whole) → Joins index old segment now mid piece
    → (piece.first && piece.last) ≡ true → Lists now mid piece new bytes whole → Puts index old segment new bytes (Some whole)
puts_message index old segment now mid piece new bytes whole joins marks lists = record {
  settles = λ xs ys zs kind front holds back. settles_message xs ys zs segment mid now piece new bytes whole (joins.regroups xs ys zs front holds back) kind marks lists;
  room = λ kind least.
      let a : rooms mid + piece.room ≤ rooms old + segment.room = joins.room in
      let b : segment.room ≤ piece.room = joins.grows kind in
      let d : rooms new ≤ rooms mid + entry_room = lists.room in
      omega (arith, a, b, d, least);
  entries = λ kind front back.
      let s = joins.entries (open_entry segment kind) front back in
      lists.entries s.front_entries s.back_entries;
}

pub puts_open : (index : ℕ) (old : List Kept) (segment : Kept) (now : ℕ) (mid : List Kept) (piece : Kept) (new : List Kept) (bytes : List ℕ) → Joins index old segment now mid piece
    → (piece.first && piece.last) ≡ false → new ≡ insert mid now piece → Puts index old segment new bytes None
puts_open index old segment now mid piece new bytes joins marks items = record {
  settles = λ xs ys zs kind front holds back.
      subst (λ (l : List Kept). Settles xs ys zs l bytes None) (sym items) (settles_open xs ys zs segment mid now piece bytes (joins.regroups xs ys zs front holds back) kind marks);
  room = λ kind least.
      let a : rooms mid + piece.room ≤ rooms old + segment.room = joins.room in
      let b : rooms new ≡ rooms mid + piece.room = ap (λ (l : List Kept). rooms l) items ∙ rooms_insert now piece mid in
      omega (arith, a, b);
  entries = λ kind front back. inserted_entries index old segment now mid piece new joins (open_entry segment kind) items front back;
}

-- ---- what the program does

pub if_ok_weaker : {A E : Type 0} {P Q : A → Type 0} (r : Result A E) → ((a : A) → P a → Q a) → IfOk r P → IfOk r Q
if_ok_weaker (Ok a) weaker holds = weaker a holds
if_ok_weaker (Err e) weaker holds = tt

pub if_ok_with : {A E : Type 0} {P Q : A → Type 0} (H : Type 0) (r : Result A E) → ((a : A) → P a → H → Q a) → IfOk r P → OnOk r H → IfOk r Q
if_ok_with H (Ok a) both holds more = both a holds more
if_ok_with H (Err e) both holds more = tt

pub if_ok_on : {A E : Type 0} {P : A → Type 0} {Q : Type 0} (r : Result A E) → ((a : A) → P a → Q) → IfOk r P → OnOk r Q
if_ok_on (Ok a) gives holds = gives a holds
if_ok_on (Err e) gives holds = tt

-- one at an index, whatever stands for none
same_at : (i : ℕ) (ks : List Kept) (d e : Kept) → i < length ks → get_or ks i d ≡ get_or ks i e
same_at i [] d e below = absurd (omega arith)
same_at zero (k ∷ ks) d e below = refl
same_at (suc i) (k ∷ ks) d e below = same_at i ks d e (omega arith)

drop_at : (i : ℕ) (ks : List Kept) (d : Kept) → i < length ks → drop i ks ≡ get_or ks i d ∷ drop (i + 1) ks
drop_at i [] d below = absurd (omega arith)
drop_at zero (k ∷ ks) d below = refl
drop_at (suc i) (k ∷ ks) d below = rw add-one (rw add-one at (drop_at i ks d (omega arith)))

take_at : (i : ℕ) (ks : List Kept) (d : Kept) → i < length ks → take (i + 1) ks ≡ take i ks ++ get_or ks i d ∷ []
take_at i [] d below = absurd (omega arith)
take_at zero (k ∷ ks) d below = refl
take_at (suc i) (k ∷ ks) d below = rw add-one (ap (λ (l : List Kept). k ∷ l) (rw add-one at (take_at i ks d (omega arith))))

pub absorbs_after : (index : ℕ) (old : List Kept) (piece next shown : Kept) (new : List Kept) (joined : Kept) → index < length old → next ≡ get_or old index next → shown ≡ get_or old index shown
    → do_join piece shown ≡ true → new ≡ take index old ++ drop (index + 1) old → IsAbsorbed piece next joined → AbsorbsAfter index old piece new joined
absorbs_after index old piece next shown new joined below is seen join items absorbed =
    let same : shown ≡ next = seen ∙ same_at index old shown next below ∙ sym is in
    inr (next, drop (index + 1) old, drop_at index old next below ∙ ap (λ (k : Kept). k ∷ drop (index + 1) old) (sym is), items, subst (λ (k : Kept). do_join piece k ≡ true) same join, absorbed)

pub absorbs_before : (index : ℕ) (old : List Kept) (piece last shown : Kept) (new : List Kept) (joined : Kept) → 0 < index → index ≤ length old → last ≡ get_or old (index - 1) last
    → shown ≡ get_or old (index - 1) shown → do_join shown piece ≡ true → new ≡ take (index - 1) old ++ drop (index - 1 + 1) old → IsAbsorbed last piece joined
    → AbsorbsBefore index old piece (index - 1) new joined
absorbs_before index old piece last shown new joined some within is seen join items absorbed =
    let below : index - 1 < length old = omega (arith, some, within) in
    let up : index - 1 + 1 ≡ index = omega (arith, some) in
    let same : shown ≡ last = seen ∙ same_at (index - 1) old shown last below ∙ sym is in
    let size : length (take (index - 1) old) ≡ index - 1 = omega (arith, length-take (index - 1) old, below) in
    inr (
      last,
      take (index - 1) old,
      ap (λ n. take n old) (sym up) ∙ take_at (index - 1) old last below ∙ ap (λ (k : Kept). take (index - 1) old ++ k ∷ []) (sym is),
      items ∙ ap (λ n. take (index - 1) old ++ drop n old) up,
      sym size,
      subst (λ (k : Kept). do_join k piece ≡ true) same join,
      absorbed,
    )
