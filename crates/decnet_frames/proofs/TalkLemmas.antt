-- What a talk over the lines of a capture comes to.
use Rattle.std.proofs.Common.{◌≡◌, ◌≢◌, ◌⊎◌, inl, inr, ℕ, suc, ◌+◌, ◌-◌, ◌<◌, ◌≤◌, ◌||◌, nat_lt, nat_le, is_err, Bool, true, false, List, [], ◌∷◌, ◌++◌, length, length-append, take, Option, Some, None, Ok, Err, IfSome, arith, refl, ap, sym, subst, ◌∙◌, append-nil, append_assoc, ◌&&◌, ◌==◌}
use Rattle.std.specs.Prelude.{filter}
use Rattle.std.specs.List.{AllByRecursion, list_any}
use Rattle.std.specs.Option.{option_map_or}
use Rattle.std.specs.Result.{result_unwrap_or}
use Rattle.std.specs.Io.KnownBytes.{Appends, Keeps}
use Rattle.std.specs.Io.BufRead.{drop_through, first_line, take_through}
use Rattle.std.specs.Str.Lines.{lines}
use Rattle.std.proofs.KnownBytes.{Appends-nil, Appends-trans}
use Rattle.std.proofs.Math.Seq.{take-append-add}
use Rattle.std.proofs.lemmas.Bool.{false≢true}
use Rattle.std.proofs.lemmas.Bool.Decides.{nat_tests}
use Rattle.std.proofs.lemmas.List.Elements.{filter-append}
use Rattle.std.proofs.lemmas.List.Folds.{list_any-append}
use Rattle.capture_file.specs.Files.{bounded_count}
use Rattle.linewise.specs.Output.{WritesFront}
use Rattle.linewise.specs.Talks.{AnswersLine, Fails, AnswersInput, is_bad, is_skipped, max_line, said_of}
use Rattle.linewise.specs.declared.talking.Became.{Became}
use Rattle.linewise.specs.declared.talking.Became.TheVariants.{Done, BadLine, NoMemory}
use Rattle.linewise.specs.declared.fault.CaptureFault.{CaptureFault}
use Rattle.linewise.specs.declared.fault.CaptureFault.TheVariants.{BadLine as BadLineFault, TooLarge, ReadFailed, WriteFailed, NoMemory as OutOfMemory}
use Rattle.texts.specs.Words.{is_hex_text}
use Rattle.dap_listing.specs.Lines.{Capture, Line, capture_line, digits_line, line_of}
use Rattle.dap_listing.specs.Listing.{packet_limit}
use Rattle.dap_listing.specs.declared.lines.Direction.{Direction}
use Rattle.dap_listing.specs.declared.lines.Direction.TheVariants.{Right, Left}
use Rattle.decnet_frames.specs.Found.{FoundPacket, TakesAll, Taking}
use Rattle.decnet_frames.specs.Founds.{counts_by}
use Rattle.decnet_frames.specs.Lines.{HasFounds, LinesFail, LinesListed, capture_in, comment_origin, counts_of_lines, found_in, founds_of_lines, is_refused, takes_packet, packets_after, packets_of_lines}
use Rattle.decnet_frames.specs.Origins.{PacketOrigin, origin_of}
use Rattle.decnet_frames.specs.declared.lines.Listing.{Listing}
use Rattle.decnet_frames.specs.declared.tally.Counts.{Counts}
use Rattle.decnet_frames.specs.declared.ways.Between.{Between}
use Rattle.decnet_frames.specs.Inner.Lines.{ListsLine, PassesBy, LinesStart, answered, line_founds, waiting}
use Rattle.decnet_frames.specs.Inner.Progress.{taken_with}
use Rattle.decnet_frames.proofs.BoolLemmas.{by_bool}
use Rattle.decnet_frames.proofs.CommentLemmas.{none_by_bad, none_by_packet, told_long, told_short}
use Rattle.decnet_frames.proofs.LineLemmas.{line_more, through_all}
use Rattle.decnet_frames.proofs.ListingLemmas.{counts_are_both, taken_is}
use Rattle.decnet_frames.proofs.TakingLemmas.{takes_append}

-- ---- a line

refused_more : (rest : List ℕ) → 0 < length rest → list_any is_refused (lines rest) ≡ (is_refused (first_line rest) || list_any is_refused (lines (drop_through 10 rest)))
refused_more rest some = ap (λ l. list_any is_refused l) (line_more rest some)

over : (n : ℕ) → 8192 < n → nat_le n 8192 ≡ false
over n long = grind (arith, nat_tests)

-- a line that is too long has no packet
long_digits : (direction : Direction) (digits : List ℕ) → 8192 < length digits → result_unwrap_or (digits_line packet_limit direction digits) None ≡ None
long_digits direction digits long =
    by_bool (is_hex_text digits)
    (λ t. rw t (rw (over (length digits) long) refl))
    (λ f. rw f refl)

long_capture : (line : List ℕ) → max_line < length line → result_unwrap_or (capture_line packet_limit line) None ≡ None
long_capture [] long = refl
long_capture (x ∷ []) long = refl
long_capture (x ∷ y ∷ digits) long =
    by_bool (x == 62 && y == 32)
    (λ t. rw t (long_digits Right digits (omega arith)))
    (λ f. rw f (by_bool (x == 60 && y == 32) (λ t. rw t (long_digits Left digits (omega arith))) (λ g. rw g refl)))

long_line : (line : List ℕ) → max_line < length line → capture_in line ≡ None
long_line line long =
    by_bool (is_skipped line)
    (λ t. rw t refl)
    (λ f. rw f (long_capture line long))

not_long : (n : ℕ) → n ≤ max_line → nat_lt max_line n ≡ false
not_long n short = grind (arith, nat_tests)

is_long : (n : ℕ) → max_line < n → nat_lt max_line n ≡ true
is_long n long = grind (arith, nat_tests)

good_line : (line : List ℕ) → length line ≤ max_line → is_err (line_of packet_limit line) ≡ false → is_refused line ≡ false
good_line line short good = ap (λ b. b || is_err (line_of packet_limit line)) (not_long (length line) short) ∙ good

long_refused : (line : List ℕ) → max_line < length line → is_refused line ≡ true
long_refused line long = ap (λ b. b || is_err (line_of packet_limit line)) (is_long (length line) long)

or_true : (b : Bool) → (b || true) ≡ true
or_true true = refl
or_true false = refl

bad_line : (line : List ℕ) → is_err (line_of packet_limit line) ≡ true → is_refused line ≡ true
bad_line line is = ap (λ b. nat_lt max_line (length line) || b) is ∙ or_true (nat_lt max_line (length line))

no_packet_at : (r : Line) → is_err r ≡ true → result_unwrap_or r None ≡ None
no_packet_at (Ok o) is = absurd (cc)
no_packet_at (Err e) is = refl

or_none : (b : Bool) → (b || false) ≡ b
or_none true = refl
or_none false = refl

or_assoc : (a b c : Bool) → (a || (b || c)) ≡ ((a || b) || c)
or_assoc true b c = refl
or_assoc false b c = refl

-- a line more that was bad or not
bad_step : (rest : List ℕ) → 0 < length rest → (were : List (Option Became)) (became : Option Became) → is_bad became ≡ is_refused (first_line rest)
    → (list_any is_bad were || list_any is_refused (lines rest)) ≡ (list_any is_bad (were ++ became ∷ []) || list_any is_refused (lines (drop_through 10 rest)))
bad_step rest some were became same =
    let others = list_any is_refused (lines (drop_through 10 rest)) in
    ap (λ b. list_any is_bad were || b) (refused_more rest some) ∙ ap (λ b. list_any is_bad were || (b || others)) (sym same)
    ∙ or_assoc (list_any is_bad were) (is_bad became) others
    ∙ ap (λ b. (list_any is_bad were || b) || others) (sym (or_none (is_bad became)))
    ∙ ap (λ b. b || others) (sym (list_any-append is_bad were (became ∷ [])))

-- ---- the packets of lines

-- the first line has no packet
packets_aside : (origin after : Option PacketOrigin) (rest : List ℕ) → 0 < length rest → capture_in (first_line rest) ≡ None → after ≡ comment_origin (first_line rest)
    → packets_after origin (lines rest) ≡ packets_after after (lines (drop_through 10 rest))
packets_aside origin after rest some none same =
    let others = lines (drop_through 10 rest) in
    ap (λ l. packets_after origin l) (line_more rest some)
    ∙ ap (λ (o : Option Capture). option_map_or (λ capture. found_in origin capture ∷ []) o [] ++ packets_after (comment_origin (first_line rest)) others) none
    ∙ ap (λ (t : Option PacketOrigin). packets_after t others) (sym same)

-- it has one
packets_found : (origin : Option PacketOrigin) (rest : List ℕ) (capture : Capture) → 0 < length rest → capture_in (first_line rest) ≡ Some capture → comment_origin (first_line rest) ≡ None
    → packets_after origin (lines rest) ≡ found_in origin capture ∷ packets_after None (lines (drop_through 10 rest))
packets_found origin rest capture some is none =
    let others = lines (drop_through 10 rest) in
    ap (λ l. packets_after origin l) (line_more rest some)
    ∙ ap (λ (o : Option Capture). option_map_or (λ c. found_in origin c ∷ []) o [] ++ packets_after (comment_origin (first_line rest)) others) is
    ∙ ap (λ (t : Option PacketOrigin). found_in origin capture ∷ packets_after t others) none

-- ---- how far a talk has come

record TakenSo {T : Type 0} (taken : Taking T) (between : Between) (first : T) (input rest said : List ℕ) (lines_were : List (Option Became)) (start now : Listing T) : Type 0 where
  pub front : List ℕ
  pub joined : input ≡ front ++ rest
  pub packets : List FoundPacket
  pub are : packets_of_lines input ≡ packets ++ packets_after (origin_of now.kept.now.before.items) (lines rest)
  pub takes : TakesAll taken first (filter (takes_packet between) packets) now.taker.now said
  pub between_is : now.kept.now.between ≡ between
  pub count : now.kept.now.count ≡ bounded_count (length packets)
  pub taken_so : now.kept.now.taken ≡ bounded_count (length (filter (takes_packet between) packets))
  pub same : now.taker.ghost_name ≡ start.taker.ghost_name
  pub bad : list_any is_refused (lines input) ≡ (list_any is_bad lines_were || list_any is_refused (lines rest))

joined_on : (input front rest : List ℕ) → input ≡ front ++ rest → input ≡ (front ++ take_through 10 rest) ++ drop_through 10 rest
joined_on input front rest is = is ∙ ap (λ l. front ++ l) (sym (through_all rest)) ∙ sym (append_assoc front (take_through 10 rest) (drop_through 10 rest))

-- a line that has no packet, and tells this
aside : {T : Type 0} (taken : Taking T) (between : Between) (first : T) (input rest said line : List ℕ) (were : List (Option Became)) (start now new : Listing T) (became : Option Became) (more : List ℕ)
    → TakenSo taken between first input rest said were start now → 0 < length rest
    → PassesBy line now new → comment_origin (first_line rest) ≡ origin_of line → more ≡ [] → capture_in (first_line rest) ≡ None → is_bad became ≡ is_refused (first_line rest)
    → TakenSo taken between first input (drop_through 10 rest) (said ++ more) (were ++ became ∷ []) start new
aside {T} taken between first input rest said line were start now new became more w some p told none no_packet bad = record {
  front = w.front ++ take_through 10 rest;
  joined = joined_on input w.front rest w.joined;
  packets = w.packets;
  are = w.are ∙ ap (λ (l : List FoundPacket). w.packets ++ l)
      (packets_aside (origin_of now.kept.now.before.items) (origin_of new.kept.now.before.items) rest some no_packet (p.before ∙ sym told));
  takes = subst (λ (l : List ℕ). TakesAll taken first (filter (takes_packet between) w.packets) new.taker.now l) (sym (ap (λ l. said ++ l) none ∙ append-nil said))
      (subst (λ (t : T). TakesAll taken first (filter (takes_packet between) w.packets) t said) (sym p.taker) w.takes);
  between_is = p.between ∙ w.between_is;
  count = p.count ∙ w.count;
  taken_so = p.taken_is ∙ w.taken_so;
  same = p.same ∙ w.same;
  bad = w.bad ∙ bad_step rest some were became bad;
}

-- how many packets there are with one more
one_more : (packets : List FoundPacket) (found : FoundPacket) (n : ℕ) → n ≡ bounded_count (length packets) → bounded_count (n + 1) ≡ bounded_count (length (packets ++ found ∷ []))
one_more packets found n is = omega (arith, is, length-append packets (found ∷ []))

some_more : (founds others : List FoundPacket) (n : ℕ) → n ≡ bounded_count (length founds) → taken_with n others ≡ bounded_count (length (founds ++ others))
some_more founds others n is =
    ap (λ k. taken_with k others) is ∙ taken_is (length founds) others ∙ ap bounded_count (sym (length-append founds others))

-- a line with a packet
listed : {T : Type 0} (taken : Taking T) (between : Between) (first : T) (input rest said : List ℕ) (were : List (Option Became)) (start now new : Listing T) (more : List ℕ) (capture : Capture)
    → TakenSo taken between first input rest said were start now → 0 < length rest
    → length (first_line rest) ≤ max_line → line_of packet_limit (first_line rest) ≡ Ok (Some capture) → ListsLine taken capture now new more
    → TakenSo taken between first input (drop_through 10 rest) (said ++ more) (were ++ Some Done ∷ []) start new
listed {T} taken between first input rest said were start now new more capture w some short is goes =
    let found = found_in (origin_of now.kept.now.before.items) capture in
    let others = packets_after None (lines (drop_through 10 rest)) in
    let here : packets_after (origin_of now.kept.now.before.items) (lines rest) ≡ found ∷ others =
    packets_found (origin_of now.kept.now.before.items) rest capture some (ap (λ (r : Line). result_unwrap_or r None) is) (none_by_packet packet_limit (first_line rest) capture short is) in
    let split = filter-append (takes_packet between) w.packets (found ∷ []) in
    let founds_same : line_founds now.kept.now capture ≡ filter (takes_packet between) (found ∷ []) = ap (λ b. filter (takes_packet b) (found ∷ [])) w.between_is in
    let took = subst (λ (fs : List FoundPacket). TakesAll taken now.taker.now fs new.taker.now more) founds_same goes.0.takes in
    record {
      front = w.front ++ take_through 10 rest;
      joined = joined_on input w.front rest w.joined;
      packets = w.packets ++ found ∷ [];
      are = w.are ∙ ap (λ (l : List FoundPacket). w.packets ++ l) here ∙ sym (append_assoc w.packets (found ∷ []) others)
          ∙ ap (λ (b : List ℕ). (w.packets ++ found ∷ []) ++ packets_after (origin_of b) (lines (drop_through 10 rest))) (sym goes.0.before);
      takes = subst (λ (fs : List FoundPacket). TakesAll taken first fs new.taker.now (said ++ more)) (sym split)
          (takes_append taken first now.taker.now new.taker.now (filter (takes_packet between) w.packets) (filter (takes_packet between) (found ∷ [])) said more w.takes took);
      between_is = goes.0.between ∙ w.between_is;
      count = goes.0.count ∙ one_more w.packets found now.kept.now.count w.count;
      taken_so = goes.0.taken_is ∙ ap (λ (fs : List FoundPacket). taken_with now.kept.now.taken fs) founds_same
          ∙ some_more (filter (takes_packet between) w.packets) (filter (takes_packet between) (found ∷ [])) now.kept.now.taken w.taken_so
          ∙ ap (λ (fs : List FoundPacket). bounded_count (length fs)) (sym split);
      same = goes.1 ∙ w.same;
      bad = w.bad ∙ bad_step rest some were (Some Done) (sym (good_line (first_line rest) short (ap (λ (r : Line). is_err r) is)));
    }

step : {T : Type 0} (taken : Taking T) (between : Between) (first : T) (input rest said : List ℕ) (were : List (Option Became)) (start now new : Listing T) (became : Option Became) (text : List ℕ)
    → TakenSo taken between first input rest said were start now → 0 < length rest
    → became ≢ Some NoMemory → AnswersLine (answered taken) waiting now (first_line rest) new text became
    → TakenSo taken between first input (drop_through 10 rest) (said ++ said_of text became None) (were ++ became ∷ []) start new
step taken between first input rest said were start now new None text w some want (given, short, same, none) = absurd (false≢true (sym given))
step taken between first input rest said were start now new (Some became) text w some want (inl (inl (bad, long), missed, none)) =
    aside taken between first input rest said [] were start now new (Some became) (text ++ []) w some missed (told_long (first_line rest) long) (append-nil text ∙ none) (long_line (first_line rest) long)
    (ap (λ (b : Became). is_bad (Some b)) bad ∙ sym (long_refused (first_line rest) long))
step taken between first input rest said were start now new (Some became) text w some want (inl (inr memory, same, none)) = absurd (want (ap (λ (b : Became). Some b) memory))
step taken between first input rest said were start now new (Some Done) text w some want (inr (given, short, inl (is, passes_by, none))) =
    aside taken between first input rest said (first_line rest) were start now new (Some Done) (text ++ []) w some passes_by (told_short (first_line rest) short) (append-nil text ∙ none)
    (ap (λ (r : Line). result_unwrap_or r None) is) (sym (good_line (first_line rest) short (ap (λ (r : Line). is_err r) is)))
step taken between first input rest said were start now new (Some Done) text w some want (inr (given, short, inr (capture, is, goes))) =
    subst (λ l. TakenSo taken between first input (drop_through 10 rest) (said ++ l) (were ++ Some Done ∷ []) start new) (sym (append-nil text))
    (listed taken between first input rest said were start now new text capture w some short is goes)
step taken between first input rest said were start now new (Some BadLine) text w some want (inr (given, short, (is, passes_by, none))) =
    aside taken between first input rest said [] were start now new (Some BadLine) (text ++ []) w some passes_by (none_by_bad packet_limit (first_line rest) short is) (append-nil text ∙ none)
    (no_packet_at (line_of packet_limit (first_line rest)) is) (sym (bad_line (first_line rest) is))
step taken between first input rest said were start now new (Some NoMemory) text w some want (inr (given, short, none)) = absurd (want refl)

all_front : (xs ys : List (Option Became)) → AllByRecursion (λ became. became ≢ Some NoMemory) (xs ++ ys) → AllByRecursion (λ became. became ≢ Some NoMemory) xs
all_front [] ys all = tt
all_front (x ∷ xs) ys all = (all.0, all_front xs ys all.1)

all_back : (xs ys : List (Option Became)) → AllByRecursion (λ became. became ≢ Some NoMemory) (xs ++ ys) → AllByRecursion (λ became. became ≢ Some NoMemory) ys
all_back [] ys all = all
all_back (x ∷ xs) ys all = all_back xs ys all.1

taken_so_far : {T : Type 0} (taken : Taking T) (start now : Listing T) (input rest said : List ℕ) (were : List (Option Became))
    → AnswersInput (answered taken) waiting start input now rest said were → LinesStart start
    → AllByRecursion (λ became. became ≢ Some NoMemory) were → TakenSo taken start.kept.now.between start.taker.now input rest said were start now
taken_so_far {T} taken start now input rest said were AnswersInput.no_line_more s never = record {
  front = [];
  joined = refl;
  packets = [];
  are = ap (λ (b : List ℕ). packets_after (origin_of b) (lines input)) (sym s.before);
  takes = (refl, refl);
  between_is = refl;
  count = s.count;
  taken_so = s.taken_is;
  same = refl;
  bad = refl;
}
taken_so_far taken start new input rest said were (AnswersInput.one_line_more now left before_said more before became talked some says) s never =
    let w = taken_so_far taken start now input left before_said before talked s (all_front before (became ∷ []) never) in
    let one = (all_back before (became ∷ []) never).0 in
    subst (λ l. TakenSo taken start.kept.now.between start.taker.now input (drop_through 10 left) (before_said ++ l) (before ++ became ∷ []) start new) (sym says.says)
    (step taken start.kept.now.between start.taker.now input left before_said before start now new became says.text w some one says.answers)

-- ---- where a talk ends

front_behind : (old mid new : Option (List ℕ)) (first second : List ℕ) → Appends old mid first → WritesFront mid new second → WritesFront old new (first ++ second)
front_behind old mid new first second before front = (
  length first + front.0,
  omega (arith, front.1, length-append first second),
  rw (take-append-add first second front.0) (Appends-trans old mid new first (take front.0 second) before front.2),
)

-- what is known where a talk ended with its input
abbrev pub HasEnded : {T : Type 0} → Taking T → (start now : Listing T) → (unread held mid : Option (List ℕ)) → Bool → Type 0
HasEnded {T} taken start now unread held mid bad = IfSome unread (λ input. (text : List ℕ) × (were : List (Option Became)) × AnswersInput (answered taken) waiting start input now [] text were
    × Appends held mid text × (bad ≡ list_any is_bad were) × (((e : Listing T) → waiting e ≡ None) → AllByRecursion (λ became. became ≢ Some NoMemory) were))

pub gives : {T : Type 0} (taken : Taking T) (start now : Listing T) (unread held mid : Option (List ℕ)) (bad : Bool) (counts : Counts) → LinesStart start
    → HasEnded taken start now unread held mid bad → counts.taken ≡ now.kept.now.taken → counts.passed ≡ now.kept.now.count - now.kept.now.taken
    → IfSome unread (λ input. LinesListed taken start.kept.now.between start.taker.now input now.taker.now held mid counts)
gives taken start now None held mid bad counts s ended count passed = tt
gives {T} taken start now (Some input) held mid bad counts s (text, were, talked, held_so, is, unbroken) count passed =
    let w = taken_so_far taken start now input [] text were talked s (unbroken (λ e. refl)) in
    let all : packets_of_lines input ≡ w.packets = w.are ∙ append-nil w.packets in
    let founds : founds_of_lines start.kept.now.between input ≡ filter (takes_packet start.kept.now.between) w.packets = ap (filter (takes_packet start.kept.now.between)) all in
    let number = ap (λ (ps : List FoundPacket). bounded_count (length ps)) all in
    let many = ap (λ (fs : List FoundPacket). bounded_count (length fs)) founds in (
      text,
      subst (λ (fs : List FoundPacket). TakesAll taken start.taker.now fs now.taker.now text) (sym founds) w.takes,
      held_so,
      counts_are_both counts (bounded_count (length (founds_of_lines start.kept.now.between input))) (bounded_count (length (packets_of_lines input)) - bounded_count (length (founds_of_lines start.kept.now.between input)))
          (count ∙ w.taken_so ∙ sym many)
          (passed ∙ ap (λ n. n - now.kept.now.taken) w.count ∙ ap (λ n. bounded_count (length w.packets) - n) w.taken_so
          ∙ ap (λ n. n - bounded_count (length (filter (takes_packet start.kept.now.between) w.packets))) (sym number) ∙ ap (λ n. bounded_count (length (packets_of_lines input)) - n) (sym many)),
    )

pub tells_bad : {T : Type 0} (taken : Taking T) (start now : Listing T) (unread held mid : Option (List ℕ)) (bad : Bool) → LinesStart start
    → HasEnded taken start now unread held mid bad → IfSome unread (λ input. bad ≡ list_any is_refused (lines input))
tells_bad taken start now None held mid bad s ended = tt
tells_bad taken start now (Some input) held mid bad s (text, were, talked, held_so, is, unbroken) =
    let w = taken_so_far taken start now input [] text were talked s (unbroken (λ e. refl)) in
    is ∙ sym (w.bad ∙ or_none (list_any is_bad were))

-- ---- where a talk fails

-- the packets so far
has_founds : {T : Type 0} (taken : Taking T) (between : Between) (first : T) (input rest said : List ℕ) (were : List (Option Became)) (start now : Listing T) → (w : TakenSo taken between first input rest said were start now)
    → HasFounds between input rest (filter (takes_packet between) w.packets)
has_founds taken between first input rest said were start now w = record {
  front = w.front;
  joined = w.joined;
  origin = origin_of now.kept.now.before.items;
  are = ap (filter (takes_packet between)) w.are ∙ filter-append (takes_packet between) w.packets (packets_after (origin_of now.kept.now.before.items) (lines rest));
}

-- a line to which memory is refused has no text
no_text : {T : Type 0} (taken : Taking T) (now : Listing T) (line : List ℕ) (new : Listing T) (text : List ℕ) → AnswersLine (answered taken) waiting now line new text (Some NoMemory) → text ≡ []
no_text taken now line new text (inl (which, same, none)) = none
no_text taken now line new text (inr (spoken, short, (none, same))) = none

snoc_is : (xs ys : List (Option Became)) (a b : Option Became) → xs ++ a ∷ [] ≡ ys ++ b ∷ [] → (xs ≡ ys) × (a ≡ b)
snoc_is [] [] a b e = (refl, (let same : a ≡ b = cc in same))
snoc_is [] (y ∷ ys) a b e = absurd (omega (arith, ap length e, length-append ys (b ∷ [])))
snoc_is (x ∷ xs) [] a b e = absurd (omega (arith, ap length e, length-append xs (a ∷ [])))
snoc_is (x ∷ xs) (y ∷ ys) a b e =
    let head : x ≡ y = cc in
    let tail : xs ++ a ∷ [] ≡ ys ++ b ∷ [] = cc in
    let rest = snoc_is xs ys a b tail in
    (ap (λ z. z ∷ xs) head ∙ ap (λ l. y ∷ l) rest.0, rest.1)

-- the packets that were taken of some lines, and their text
abbrev pub TookSome : {T : Type 0} → Taking T → Between → T → (input said : List ℕ) → Type 0
TookSome {T} taken between first input said =
    (rest : List ℕ) × (founds : List FoundPacket) × (now : T) × HasFounds between input rest founds × TakesAll taken first founds now said

took_some : {T : Type 0} (taken : Taking T) (between : Between) (first : T) (input rest said : List ℕ) (were : List (Option Became)) (start now : Listing T) → TakenSo taken between first input rest said were start now
    → TookSome taken between first input said
took_some taken between first input rest said were start now w =
    (rest, filter (takes_packet between) w.packets, now.taker.now, has_founds taken between first input rest said were start now w, w.takes)

memory_last : {T : Type 0} (taken : Taking T) (start now : Listing T) (input rest said : List ℕ) (all were : List (Option Became))
    → AnswersInput (answered taken) waiting start input now rest said all → all ≡ were ++ Some NoMemory ∷ [] → LinesStart start
    → AllByRecursion (λ became. became ≢ Some NoMemory) were → TookSome taken start.kept.now.between start.taker.now input said
memory_last taken start now input rest said all were AnswersInput.no_line_more is s never = absurd (omega (arith, ap length is, length-append were (Some NoMemory ∷ [])))
memory_last taken start new input rest said all were (AnswersInput.one_line_more now left before_said more before became talked some says) is s never =
    let same = snoc_is before were became (Some NoMemory) is in
    let w = taken_so_far taken start now input left before_said before talked s (subst (λ (l : List (Option Became)). AllByRecursion (λ b. b ≢ Some NoMemory) l) (sym same.0) never) in
    let answers = subst (λ (b : Option Became). AnswersLine (answered taken) waiting now (first_line left) new says.text b) same.1 says.answers in
    let none : more ≡ [] = says.says ∙ ap (λ (b : Option Became). said_of says.text b None) same.1 ∙ append-nil says.text ∙ no_text taken now (first_line left) new says.text answers in
    subst (λ l. TookSome taken start.kept.now.between start.taker.now input l) (sym (ap (λ l. before_said ++ l) none ∙ append-nil before_said)) (took_some taken start.kept.now.between start.taker.now input left before_said before start now w)

-- nothing is said where no line is left
nothing_said : {T : Type 0} (taken : Taking T) (now new : Listing T) (became : Option Became) (text : List ℕ) → AnswersLine (answered taken) waiting now [] new text became → said_of text became None ≡ []
nothing_said taken now new None text answers = refl
nothing_said taken now new (Some became) text (inl (which, same, none)) = append-nil text ∙ none
nothing_said taken now new (Some Done) text (inr (given, short, inl (is, passes_by, none))) = append-nil text ∙ none
nothing_said taken now new (Some Done) text (inr (given, short, inr (capture, is, goes))) = let wrong : ◌≡◌ {A = Line} (Ok None) (Ok (Some capture)) = is in absurd (cc)
nothing_said taken now new (Some BadLine) text (inr (given, short, (is, passes_by, none))) = append-nil text ∙ none
nothing_said taken now new (Some NoMemory) text (inr (given, short, (none, same))) = append-nil text ∙ none

-- a prefix of what was made of some packets was written
abbrev pub WroteFront : {T : Type 0} → Taking T → Between → T → (input : List ℕ) → (held holds : Option (List ℕ)) → Type 0
WroteFront taken between first input held holds = (text : List ℕ) × TookSome taken between first input text × WritesFront held holds text

-- the text so far, and a prefix of the next answer
breaks : {T : Type 0} (taken : Taking T) (between : Between) (first : T) (input rest said : List ℕ) (were : List (Option Became)) (start now new : Listing T) (became : Option Became) (text : List ℕ) (held mid holds : Option (List ℕ))
    → TakenSo taken between first input rest said were start now
    → Appends held mid said → AnswersLine (answered taken) waiting now (first_line rest) new text became → WritesFront mid holds (said_of text became None) → WroteFront taken between first input held holds
breaks taken between first input [] said were start now new became text held mid holds w held_so answers front =
    let none = nothing_said taken now new became text answers in (
      said,
      took_some taken between first input [] said were start now w,
      subst (λ l. WritesFront held holds l) (ap (λ l. said ++ l) none ∙ append-nil said) (front_behind held mid holds said (said_of text became None) held_so front),
    )
breaks taken between first input (x ∷ rest) said were start now new None text held mid holds w held_so answers front = absurd (false≢true (sym answers.0))
breaks taken between first input (x ∷ rest) said were start now new (Some NoMemory) text held mid holds w held_so answers front =
    let none : text ++ [] ≡ [] = append-nil text ∙ no_text taken now (first_line (x ∷ rest)) new text answers in (
      said,
      took_some taken between first input (x ∷ rest) said were start now w,
      subst (λ l. WritesFront held holds l) (ap (λ l. said ++ l) none ∙ append-nil said) (front_behind held mid holds said (text ++ []) held_so front),
    )
breaks taken between first input (x ∷ rest) said were start now new (Some Done) text held mid holds w held_so answers front =
    let after = step taken between first input (x ∷ rest) said were start now new (Some Done) text w (omega arith) (λ e. absurd (cc)) answers in (
      said ++ (text ++ []),
      took_some taken between first input (drop_through 10 (x ∷ rest)) (said ++ (text ++ [])) (were ++ Some Done ∷ []) start new after,
      front_behind held mid holds said (text ++ []) held_so front,
    )
breaks taken between first input (x ∷ rest) said were start now new (Some BadLine) text held mid holds w held_so answers front =
    let after = step taken between first input (x ∷ rest) said were start now new (Some BadLine) text w (omega arith) (λ e. absurd (cc)) answers in (
      said ++ (text ++ []),
      took_some taken between first input (drop_through 10 (x ∷ rest)) (said ++ (text ++ [])) (were ++ Some BadLine ∷ []) start new after,
      front_behind held mid holds said (text ++ []) held_so front,
    )

pub fails : {T : Type 0} (taken : Taking T) (start now : Listing T) (unread left held holds : Option (List ℕ)) (f : CaptureFault) → LinesStart start
    → IfSome unread (λ input. Fails (answered taken) waiting start input now left held holds f)
    → IfSome unread (λ input. LinesFail taken start.kept.now.between start.taker.now input now.taker.now left held holds f)
fails taken start now None left held holds f s failed = tt
fails taken start now (Some input) left held holds ReadFailed s (rest, said, were, talked, held_so, unbroken, reads) =
    let w = taken_so_far taken start now input rest said were talked s (unbroken (λ e. refl)) in
    (rest, filter (takes_packet start.kept.now.between) w.packets, said, has_founds taken start.kept.now.between start.taker.now input rest said were start now w, reads, w.takes, held_so)
fails taken start now (Some input) left held holds OutOfMemory s (rest, said, were, talked, held_so, none, unbroken, is_left) =
    let t = memory_last taken start now input rest said (were ++ Some NoMemory ∷ []) were talked refl s (unbroken (λ e. refl)) in
    (t.0, t.1, t.2, said, t.3, t.4, held_so)
fails taken start new (Some input) left held holds WriteFailed s (now, mid, rest, said, more, were, became, talked, held_so, says, front, unbroken, is_left) =
    let w = taken_so_far taken start now input rest said were talked s (unbroken (λ e. refl)) in
    let b = breaks taken start.kept.now.between start.taker.now input rest said were start now new became says.text held mid holds w held_so says.answers (subst (λ l. WritesFront mid holds l) says.says front) in
    let t = b.1 in
    (t.0, t.1, t.2, b.0, t.3, t.4, b.2)
fails taken start now (Some input) left held holds TooLarge s failed = absurd failed
fails taken start now (Some input) left held holds (BadLineFault number) s failed = absurd failed

-- ---- the reference to the taker stays

same_line : {T : Type 0} (taken : Taking T) (now new : Listing T) (line text : List ℕ) (became : Option Became) → AnswersLine (answered taken) waiting now line new text became
    → new.taker.ghost_name ≡ now.taker.ghost_name
same_line taken now new line text None (given, short, same, none) = ap (λ l. l.taker.ghost_name) same
same_line taken now new line text (Some became) (inl (which, missed, none)) = missed.same
same_line taken now new line text (Some Done) (inr (given, short, inl (is, passes_by, none))) = passes_by.same
same_line taken now new line text (Some Done) (inr (given, short, inr (capture, is, goes))) = goes.1
same_line taken now new line text (Some BadLine) (inr (given, short, (is, passes_by, none))) = passes_by.same
same_line taken now new line text (Some NoMemory) (inr (given, short, (none, same))) = same

same_all : {T : Type 0} (taken : Taking T) (start now : Listing T) (input rest said : List ℕ) (were : List (Option Became)) → AnswersInput (answered taken) waiting start input now rest said were
    → now.taker.ghost_name ≡ start.taker.ghost_name
same_all taken start now input rest said were AnswersInput.no_line_more = refl
same_all taken start new input rest said were (AnswersInput.one_line_more now left before_said more before became talked some says) =
    same_line taken now new (first_line left) says.text became says.answers ∙ same_all taken start now input left before_said before talked

pub same_ended : {T : Type 0} (taken : Taking T) (start now : Listing T) (unread held mid : Option (List ℕ)) (bad : Bool)
    → HasEnded taken start now unread held mid bad → IfSome unread (λ input. now.taker.ghost_name ≡ start.taker.ghost_name)
same_ended taken start now None held mid bad ended = tt
same_ended taken start now (Some input) held mid bad (text, were, talked, held_so, is, unbroken) = same_all taken start now input [] text were talked

pub same_failed : {T : Type 0} (taken : Taking T) (start now : Listing T) (unread left held holds : Option (List ℕ)) (f : CaptureFault)
    → IfSome unread (λ input. Fails (answered taken) waiting start input now left held holds f) → IfSome unread (λ input. now.taker.ghost_name ≡ start.taker.ghost_name)
same_failed taken start now None left held holds f failed = tt
same_failed taken start now (Some input) left held holds ReadFailed (rest, said, were, talked, held_so, unbroken, reads) = same_all taken start now input rest said were talked
same_failed taken start now (Some input) left held holds OutOfMemory (rest, said, were, talked, held_so, none, unbroken, is_left) = same_all taken start now input rest said (were ++ Some NoMemory ∷ []) talked
same_failed taken start new (Some input) left held holds WriteFailed (now, mid, rest, said, more, were, became, talked, held_so, says, front, unbroken, is_left) =
    same_line taken now new (first_line rest) says.text became says.answers ∙ same_all taken start now input rest said were talked
same_failed taken start now (Some input) left held holds TooLarge failed = absurd failed
same_failed taken start now (Some input) left held holds (BadLineFault number) failed = absurd failed
