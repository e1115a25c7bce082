-- What is kept of the streams that haven't ended, with one packet more.
use Rattle.std.proofs.Common.{◌≡◌, ℕ, zero, suc, ◌+◌, ◌*◌, ◌<◌, ◌≤◌, ◌==◌, ◌&&◌, Bool, true, false, List, [], ◌∷◌, ◌++◌, fold, max, if◌then◌else◌, Option, Some, None, arith, refl, ap, sym, subst, ◌∙◌, append-nil, filter}
use Rattle.std.specs.List.{AllByRecursion, AllZip, flat_map}
use Rattle.std.proofs.lemmas.Bool.Decides.{nat_tests}
use Rattle.std.proofs.lemmas.List.Elements.{filter-append}
use Rattle.nsp_seg.specs.declared.packet.SegmentFields.{SegmentFields}
use Rattle.dap_follow.specs.Streams.{AreOrdered, AreSequenced, IsOrdered, NumberedSegment, OpenStream, Sequenced, at, continued, first_sequence, is_same_stream, no_more}
use Rattle.dap_follow.specs.Joined.{Fragment, is_message, latest, fragments_of}
use Rattle.dap_follow.specs.Listed.{is_whole_with, whole_at, whole_with}
use Rattle.dap_follow.specs.Segments.{sequenced_at, highest_in}
use Rattle.dap_follow.specs.declared.streams.Stream.{Stream}
use Rattle.dap_follow.specs.Keeping.Pieces.{all_segments}
use Rattle.dap_follow.specs.Keeping.Kept.{AreEntries, AreTold, Found, KeepsPieces, KeepsSequenced, rooms}
use Rattle.dap_follow.specs.Keeping.Streams.{Continues, Entries, KeepsCame, KeepsOpen}
use Rattle.dap_follow.specs.declared.kept.Kept.{Kept}
use Rattle.dap_follow.specs.declared.kept.KeptSegments.{KeptSegments}
use Rattle.dap_follow.specs.declared.kept.Whole.{Whole}
use Rattle.dap_follow.proofs.GlueLemmas.{all_back, all_front, all_weaker, latest_below, segments_pieces}
use Rattle.dap_follow.proofs.OrderLemmas.{all_put, ascending, at-append, at_put, or_else, rises_put, sequenced_more, top_more}

-- ---- messages that are whole with a packet

low_latest : (n : ℕ) (s : Sequenced) (others : List Sequenced) → AllByRecursion (λ t. t.packet < n) (s ∷ others) → latest (s ∷ others) < n
low_latest zero s others all = let one : s.packet < 0 = all.0 in omega (arith, one)
low_latest (suc n) s others all =
    let most = latest_below n (s ∷ others) (all_weaker (λ t. t.packet < suc n) (λ t. t.packet ≤ n) (s ∷ others) (λ t less. omega (arith, less)) all) in
    omega (arith, most)

low_if : (n : ℕ) (p : Fragment) (ps : List Fragment) (b : Bool) → whole_with p < n → AllByRecursion (λ q. whole_with q < n) ps
    → AllByRecursion (λ q. whole_with q < n) (if b then p ∷ ps else ps)
low_if n p ps true one rest = (one, rest)
low_if n p ps false one rest = rest

low_messages : (n : ℕ) (ps : List Fragment) → AllByRecursion (λ t. t.packet < n) (all_segments ps) → AllByRecursion (λ q. whole_with q < n) (filter is_message ps)
low_messages n [] all = tt
low_messages n (p ∷ ps) all =
    low_if n p (filter is_message ps) (is_message p) (low_latest n p.head p.others (all_front (λ t. t.packet < n) (p.head ∷ p.others) (all_segments ps) all))
    (low_messages n ps (all_back (λ t. t.packet < n) (p.head ∷ p.others) (all_segments ps) all))

low_pieces : (n : ℕ) (ordered : List Sequenced) → AllByRecursion (λ t. t.packet < n) ordered → AllByRecursion (λ q. whole_with q < n) (filter is_message (fragments_of ordered))
low_pieces n ordered all = low_messages n (fragments_of ordered) (subst (λ l. AllByRecursion (λ t. t.packet < n) l) (sym (segments_pieces ordered)) all)

abbrev is_with : ℕ → Fragment → Bool
is_with n p = whole_with p == n

apart_test : (a n : ℕ) → a < n → (a == n) ≡ false
apart_test a n below = grind (arith, nat_tests)

same_test : (a n : ℕ) → a ≡ n → (a == n) ≡ true
same_test a n same = grind (arith, nat_tests)

none_with : (n : ℕ) (ps : List Fragment) → AllByRecursion (λ q. whole_with q < n) ps → filter (is_with n) ps ≡ []
none_with n [] all = refl
none_with n (p ∷ ps) all = ap (λ b. if b then p ∷ filter (is_with n) ps else filter (is_with n) ps) (apart_test (whole_with p) n all.0) ∙ none_with n ps all.1

both_tests : (n : ℕ) (p : Fragment) (ps : List Fragment) (b : Bool)
    → (if b && is_with n p then p ∷ filter (is_with n) ps else filter (is_with n) ps) ≡ filter (is_with n) (if b then p ∷ ps else ps)
both_tests n p ps true = refl
both_tests n p ps false = refl

whole_is : (n : ℕ) (ps : List Fragment) → filter (is_whole_with n) ps ≡ filter (is_with n) (filter is_message ps)
whole_is n [] = refl
whole_is n (p ∷ ps) =
    ap (λ (l : List Fragment). if is_message p && is_with n p then p ∷ l else l) (whole_is n ps) ∙ both_tests n p (filter is_message ps) (is_message p)

-- segments of earlier packets have none
pub none_whole : (n : ℕ) (ordered : List Sequenced) → AllByRecursion (λ t. t.packet < n) ordered → whole_at n ordered ≡ []
none_whole n ordered all = whole_is n (fragments_of ordered) ∙ none_with n (filter is_message (fragments_of ordered)) (low_pieces n ordered all)

lows_front : (n : ℕ) (ps qs : List Fragment) → AllByRecursion (λ q. whole_with q < n) (ps ++ qs) → AllByRecursion (λ q. whole_with q < n) ps
lows_front n [] qs all = tt
lows_front n (p ∷ ps) qs all = (all.0, lows_front n ps qs all.1)

lows_back : (n : ℕ) (ps qs : List Fragment) → AllByRecursion (λ q. whole_with q < n) (ps ++ qs) → AllByRecursion (λ q. whole_with q < n) qs
lows_back n [] qs all = all
lows_back n (p ∷ ps) qs all = lows_back n ps qs all.1

told_with : (n : ℕ) (bytes : List ℕ) (found : Option Whole) (ms : List Fragment) → AreTold n bytes found ms → filter (is_with n) ms ≡ ms
told_with n bytes None ms told = ap (λ (l : List Fragment). filter (is_with n) l) told ∙ sym told
told_with n bytes (Some w) ms told =
    let m = told.0 in
    ap (λ (l : List Fragment). filter (is_with n) l) told.1 ∙ ap (λ b. if b then m ∷ [] else []) (same_test (whole_with m) n told.2) ∙ sym told.1

-- a segment more of the packet
whole_more : (n : ℕ) (c : SegmentFields) (ordered : List Sequenced) (old new : KeptSegments) (bytes : List ℕ) (found : Option Whole) → AllByRecursion (λ t. t.packet < n) ordered
    → (f : Found n c ordered old new bytes found) → whole_at n f.later ≡ f.ms
whole_more n c ordered old new bytes found low f =
    let front = f.added.0 in
    let back = f.added.1 in
    let lows = subst (λ l. AllByRecursion (λ q. whole_with q < n) l) f.added.2 (low_pieces n ordered low) in
    whole_is n (fragments_of f.later) ∙ ap (λ (l : List Fragment). filter (is_with n) l) f.added.3
    ∙ filter-append (is_with n) front (f.ms ++ back) ∙ ap (λ (l : List Fragment). filter (is_with n) front ++ l) (filter-append (is_with n) f.ms back)
    ∙ ap (λ (l : List Fragment). l ++ (filter (is_with n) f.ms ++ filter (is_with n) back)) (none_with n front (lows_front n front back lows))
    ∙ ap (λ (l : List Fragment). l ++ filter (is_with n) back) (told_with n bytes found f.ms f.told)
    ∙ ap (λ (l : List Fragment). f.ms ++ l) (none_with n back (lows_back n front back lows)) ∙ append-nil f.ms

-- ---- a stream

pub is_ordered : (n : ℕ) (came : List NumberedSegment) (ordered : List Sequenced) (p : KeptSegments) → KeepsCame n came ordered p → IsOrdered came ordered
is_ordered n came ordered p k = record {
  sequenced = k.sequenced;
  are_sequenced = subst (λ (l : List NumberedSegment). AreSequenced (first_sequence l) l k.sequenced) (sym k.are) k.are_sequenced;
  ascending = ascending ordered k.keeps.rises;
  same = k.same;
}

later_came : (n : ℕ) (came : List NumberedSegment) (ordered : List Sequenced) (p : KeptSegments) → KeepsCame n came ordered p → KeepsCame (n + 1) came ordered p
later_came n came ordered p k = record {
  first = k.first;
  others = k.others;
  are = k.are;
  sequenced = k.sequenced;
  are_sequenced = k.are_sequenced;
  same = k.same;
  highest = k.highest;
  keeps = record {
    keeps = k.keeps.keeps;
    rises = k.keeps.rises;
    numbered = all_weaker (λ t. t.packet < n) (λ t. t.packet < n + 1) ordered (λ t low. omega (arith, low)) k.keeps.numbered;
    low = k.keeps.low;
    held = k.keeps.held;
    measured = k.keeps.measured;
    entries = k.keeps.entries;
  };
  most = omega (arith, k.most);
  last = k.last;
  recent = omega (arith, k.recent);
}

-- the packet of the last segment that came
last_more : (start : ℕ) (came : List NumberedSegment) (c : NumberedSegment) → fold (λ before d. d.0) start (came ++ c ∷ []) ≡ c.0
last_more start [] c = refl
last_more start (d ∷ came) c = last_more d.0 came c

-- the segments of the stream before the packet
pub record Ready (n : ℕ) (c : SegmentFields) (before : List NumberedSegment) (ordered : List Sequenced) (p : KeptSegments) : Type 0 where
  pub first : NumberedSegment
  pub others : List NumberedSegment
  pub begins : before ++ (n, c) ∷ [] ≡ first ∷ others
  pub sequenced : List Sequenced
  pub are_sequenced : AreSequenced (first.1.number + 4096) before sequenced
  pub same : (sequence : ℕ) → at sequence ordered ≡ at sequence sequenced
  pub highest : p.highest ≡ highest_in (first.1.number + 4096) sequenced
  pub keeps : KeepsSequenced n ordered p
  pub most : p.highest ≤ 8192 + 2048 * n

ready_known : (n : ℕ) (c : SegmentFields) (came : List NumberedSegment) (ordered : List Sequenced) (p : KeptSegments) → KeepsCame n came ordered p → Ready n c came ordered p
ready_known n c came ordered p k = record {
  first = k.first;
  others = k.others ++ (n, c) ∷ [];
  begins = ap (λ (l : List NumberedSegment). l ++ (n, c) ∷ []) k.are;
  sequenced = k.sequenced;
  are_sequenced = subst (λ (l : List NumberedSegment). AreSequenced (k.first.1.number + 4096) l k.sequenced) (sym k.are) k.are_sequenced;
  same = k.same;
  highest = k.highest;
  keeps = k.keeps;
  most = k.most;
}

pub ready_new : (n : ℕ) (c : SegmentFields) (p : KeptSegments) → p.highest ≡ c.number + 4096 → c.number < 4096 → p.kept.items ≡ [] → p.held ≡ 0 → Ready n c [] [] p
ready_new n c p highest small empty none = record {
  first = (n, c);
  others = [];
  begins = refl;
  sequenced = [];
  are_sequenced = no_more;
  same = λ sequence. refl;
  highest = highest;
  keeps = record {
    keeps = subst (λ (l : List Kept). KeepsPieces [] l) (sym empty) refl;
    rises = tt;
    numbered = tt;
    low = omega (arith, highest);
    held = none;
    measured = none ∙ ap (λ (l : List Kept). rooms l) (sym empty);
    entries = subst (λ (l : List Kept). AreEntries l) (sym empty) tt;
  };
  most = omega (arith, highest, small);
}

ready_done : (n : ℕ) (c : SegmentFields) (before : List NumberedSegment) (ordered : List Sequenced) (old new : KeptSegments) (bytes : List ℕ) (found : Option Whole)
    → Ready n c before ordered old → (f : Found n c ordered old new bytes found) → new.last_packet ≡ n → KeepsCame (n + 1) (before ++ (n, c) ∷ []) f.later new
ready_done n c before ordered old new bytes found r f last =
    let start : ℕ = r.first.1.number + 4096 in
    let sequence : ℕ = f.sequence in
    let here = sequenced_at sequence (n, c) in
    let low : highest_in start r.sequenced ≤ sequence + 2047 = rw r.highest at f.near.0 in
    let high : sequence ≤ highest_in start r.sequenced + 2048 = rw r.highest at f.near.1 in
    let up : sequence ≤ old.highest + 2048 = f.near.1 in
    let was = r.keeps in
    let low_was : 4096 ≤ old.highest = was.low in
    record {
      first = r.first;
      others = r.others;
      are = r.begins;
      sequenced = r.sequenced ++ here ∷ [];
      are_sequenced = subst (λ (l : List NumberedSegment). AreSequenced start l (r.sequenced ++ here ∷ [])) r.begins (sequenced_more (n, c) sequence r.are_sequenced low high f.near.2);
      same = λ p. at_put p ordered here f.later f.put ∙ ap (λ (o : Option Sequenced). or_else o (at p (here ∷ []))) (r.same p) ∙ sym (at-append p r.sequenced (here ∷ []));
      highest = f.highest ∙ ap (λ (h : ℕ). max h sequence) r.highest ∙ sym (top_more start r.sequenced here);
      keeps = record {
        keeps = f.keeps;
        rises = rises_put ordered here f.later f.put was.rises;
        numbered = all_put (λ t. t.packet < n + 1) ordered here f.later f.put (all_weaker (λ t. t.packet < n) (λ t. t.packet < n + 1) ordered (λ t less. omega (arith, less)) was.numbered) (omega arith);
        low = omega (arith, f.highest, low_was);
        held = f.held;
        measured = f.measured;
        entries = f.entries;
      };
      most = omega (arith, f.highest, up, r.most);
      last = last ∙ sym (last_more 0 before (n, c));
      recent = omega (arith, last);
    }

-- ---- streams that the packet isn't of

record Stay (n : ℕ) (opens : List OpenStream) (entries : Entries) : Type 0 where
  pub ordered : List (List Sequenced)
  pub are_ordered : AllZip AreOrdered opens ordered
  pub none : flat_map (whole_at n) ordered ≡ []
  pub keeps : AllZip (KeepsOpen (n + 1)) opens entries

stay : (n : ℕ) (opens : List OpenStream) (entries : Entries) → AllZip (KeepsOpen n) opens entries → Stay n opens entries
stay n [] [] all = record { ordered = []; are_ordered = tt; none = refl; keeps = tt }
stay n [] (e ∷ entries) all = absurd all
stay n (o ∷ opens) [] all = absurd all
stay n (o ∷ opens) (e ∷ entries) all =
    let k = all.0.2 in
    let rest = stay n opens entries all.1 in
    record {
      ordered = all.0.1 ∷ rest.ordered;
      are_ordered = (is_ordered n o.came all.0.1 e.1 k, rest.are_ordered);
      none = ap (λ (l : List Fragment). l ++ flat_map (whole_at n) rest.ordered) (none_whole n all.0.1 k.keeps.numbered) ∙ rest.none;
      keeps = ((all.0.0, all.0.1, later_came n o.came all.0.1 e.1 k), rest.keeps);
    }

-- a packet that is no segment
pub aside : (n : ℕ) (opens : List OpenStream) (entries : Entries) → AllZip (KeepsOpen n) opens entries
    → (ordered : List (List Sequenced)) × AllZip AreOrdered opens ordered × (flat_map (whole_at n) ordered ≡ []) × AllZip (KeepsOpen (n + 1)) opens entries
aside n opens entries all = let s = stay n opens entries all in (s.ordered, s.are_ordered, s.none, s.keeps)

-- ---- its own

-- the program's call on what is kept of it
abbrev pub FindsIn : ℕ → SegmentFields → KeptSegments → KeptSegments → List ℕ → Option Whole → Type 0
FindsIn n c old new bytes found = (new.last_packet ≡ n) × ((ordered : List Sequenced) → KeepsSequenced n ordered old → old.highest ≤ 8192 + 2048 * n → Found n c ordered old new bytes found)

own : (n : ℕ) (stream : Stream) (c : SegmentFields) (came : List NumberedSegment) (ordered : List Sequenced) (opens : List OpenStream) (back : Entries) (old new : KeptSegments) (bytes : List ℕ) (found : Option Whole)
    → (name : Stream) → Ready n c came ordered old → Stay n opens back → FindsIn n c old new bytes found
    → (all : List OpenStream) → all ≡ record { name = stream; came = came ++ (n, c) ∷ [] } ∷ opens → stream ≡ name
    → (laters : List (List Sequenced)) × AllZip (KeepsOpen (n + 1)) all ((name, new) ∷ back) × AllZip AreOrdered all laters
    × (ms : List Fragment) × (flat_map (whole_at n) laters ≡ ms) × AreTold n bytes found ms
own n stream c came ordered opens back old new bytes found name ready s finds all is same =
    let f = finds.1 ordered ready.keeps ready.most in
    let done = ready_done n c came ordered old new bytes found ready f finds.0 in
    let one : OpenStream = record { name = stream; came = came ++ (n, c) ∷ [] } in (
      f.later ∷ s.ordered,
      subst (λ (l : List OpenStream). AllZip (KeepsOpen (n + 1)) l ((name, new) ∷ back)) (sym is) ((same, f.later, done), s.keeps),
      subst (λ (l : List OpenStream). AllZip AreOrdered l (f.later ∷ s.ordered)) (sym is) (is_ordered (n + 1) one.came f.later new done, s.are_ordered),
      f.ms,
      ap (λ (l : List Fragment). l ++ flat_map (whole_at n) s.ordered) (whole_more n c ordered old new bytes found ready.keeps.numbered f)
          ∙ ap (λ (l : List Fragment). f.ms ++ l) s.none ∙ append-nil f.ms,
      f.told,
    )

continued_here : (stream : Stream) (c : NumberedSegment) (o : OpenStream) (others : List OpenStream) → is_same_stream stream o.name ≡ true
    → continued stream c (o ∷ others) ≡ record { name = o.name; came = o.came ++ c ∷ [] } ∷ others
continued_here stream c o others same = rw same refl

continued_past : (stream : Stream) (c : NumberedSegment) (o : OpenStream) (others : List OpenStream) → is_same_stream stream o.name ≡ false
    → continued stream c (o ∷ others) ≡ o ∷ continued stream c others
continued_past stream c o others apart = rw apart refl

past : (n : ℕ) (stream : Stream) (c : SegmentFields) (o : OpenStream) (opens : List OpenStream) (e : Stream × KeptSegments) (entries : Entries) (bytes : List ℕ) (found : Option Whole)
    → KeepsOpen n o e → is_same_stream stream e.0 ≡ false → Continues n stream c opens entries bytes found → Continues n stream c (o ∷ opens) (e ∷ entries) bytes found
past n stream c o opens e entries bytes found k apart rest =
    let is = continued_past stream (n, c) o opens (ap (λ (s : Stream). is_same_stream stream s) k.0 ∙ apart) in
    record {
      keeps = subst (λ (l : List OpenStream). AllZip (KeepsOpen (n + 1)) l (e ∷ entries)) (sym is) ((k.0, k.1, later_came n o.came k.1 e.1 k.2), rest.keeps);
      ordered = k.1 ∷ rest.ordered;
      are_ordered = subst (λ (l : List OpenStream). AllZip AreOrdered l (k.1 ∷ rest.ordered)) (sym is) (is_ordered n o.came k.1 e.1 k.2, rest.are_ordered);
      ms = rest.ms;
      whole = ap (λ (l : List Fragment). l ++ flat_map (whole_at n) rest.ordered) (none_whole n k.1 k.2.keeps.numbered) ∙ rest.whole;
      told = rest.told;
    }

pub comes_known : (n : ℕ) (stream : Stream) (c : SegmentFields) (front back : Entries) (name : Stream) (old new : KeptSegments) (bytes : List ℕ) (found : Option Whole) (opens : List OpenStream)
    → is_same_stream stream name ≡ true → AllByRecursion (λ e. is_same_stream stream e.0 ≡ false) front → FindsIn n c old new bytes found
    → AllZip (KeepsOpen n) opens (front ++ (name, old) ∷ back) → Continues n stream c opens (front ++ (name, new) ∷ back) bytes found
comes_known n stream c [] back name old new bytes found [] same apart finds all = absurd all
comes_known n stream c [] back name old new bytes found (o ∷ opens) same apart finds all =
    let k = all.0 in
    let here = continued_here stream (n, c) o opens (ap (λ (s : Stream). is_same_stream stream s) k.0 ∙ same) in
    let d = own n o.name c o.came k.1 opens back old new bytes found name (ready_known n c o.came k.1 old k.2) (stay n opens back all.1) finds (continued stream (n, c) (o ∷ opens)) here k.0 in
    record { keeps = d.1; ordered = d.0; are_ordered = d.2; ms = d.3; whole = d.4; told = d.5 }
comes_known n stream c (e ∷ front) back name old new bytes found [] same apart finds all = absurd all
comes_known n stream c (e ∷ front) back name old new bytes found (o ∷ opens) same apart finds all =
    past n stream c o opens e (front ++ (name, new) ∷ back) bytes found all.0 apart.0 (comes_known n stream c front back name old new bytes found opens same apart.1 finds all.1)

pub comes_new : (n : ℕ) (stream : Stream) (c : SegmentFields) (front : Entries) (old new : KeptSegments) (bytes : List ℕ) (found : Option Whole) (opens : List OpenStream)
    → old.highest ≡ c.number + 4096 → c.number < 4096 → old.kept.items ≡ [] → old.held ≡ 0 → AllByRecursion (λ e. is_same_stream stream e.0 ≡ false) front → FindsIn n c old new bytes found
    → AllZip (KeepsOpen n) opens front → Continues n stream c opens (front ++ (stream, new) ∷ []) bytes found
comes_new n stream c [] old new bytes found [] highest small empty none apart finds all =
    let d = own n stream c [] [] [] [] old new bytes found stream (ready_new n c old highest small empty none) (stay n [] [] tt) finds (continued stream (n, c) []) refl refl in
    record { keeps = d.1; ordered = d.0; are_ordered = d.2; ms = d.3; whole = d.4; told = d.5 }
comes_new n stream c [] old new bytes found (o ∷ opens) highest small empty none apart finds all = absurd all
comes_new n stream c (e ∷ front) old new bytes found [] highest small empty none apart finds all = absurd all
comes_new n stream c (e ∷ front) old new bytes found (o ∷ opens) highest small empty none apart finds all =
    past n stream c o opens e (front ++ (stream, new) ∷ []) bytes found all.0 apart.0 (comes_new n stream c front old new bytes found opens highest small empty none apart.1 finds all.1)
