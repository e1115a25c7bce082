-- What the lister appends is what is listed.
use mathlib.Core.Path.{fun_ext}
use Rattle.std.proofs.Common.{◌≡◌, ℕ, ◌+◌, ◌^◌, ◌<◌, Bool, true, false, not, List, [], ◌∷◌, ◌++◌, filter, Some, None, Ok, Err, arith, refl, ap, sym, subst, ◌∙◌, append-nil}
use Rattle.std.specs.Prelude.{IfErr, IfOk, MatchBool}
use Rattle.std.specs.List.{AllByRecursion, AllZip, flat_map, zip}
use Rattle.nsp_seg.specs.declared.packet.SegmentFields.{SegmentFields}
use Rattle.nsp_seg.specs.Packets.{HasFault, Spells}
use Rattle.dap_listing.specs.Packets.{DecodedPacket, IsSeen}
use Rattle.decnet_frames.specs.Found.{FoundPacket, TakesAll}
use Rattle.dap_follow.specs.Streams.{AreOrdered, OpenStream, continued, with_packet}
use Rattle.dap_follow.specs.Ends.{streams_ended, is_ended_by, left_by}
use Rattle.dap_follow.specs.Joined.{Fragment, fragments_of}
use Rattle.dap_follow.specs.Lines.{IsMessageText, packet_line, rest_lines}
use Rattle.dap_follow.specs.Room.{EndsForRoom, FitRoom, IsShortPacket}
use Rattle.dap_follow.specs.Listed.{ArePacketTexts, AreRestTexts, AreWholeTexts, IsJoinedText, PacketsAreListed, IsFoundText, IsSingleText}
use Rattle.dap_follow.specs.declared.initiate.Initiate.{Initiate}
use Rattle.dap_follow.specs.declared.kept.Whole.{Whole}
use Rattle.dap_follow.specs.declared.lister.Chosen.{Chosen}
use Rattle.dap_follow.specs.declared.lister.Lister.{Lister}
use Rattle.dap_follow.specs.declared.streams.Stream.{Stream}
use Rattle.dap_follow.specs.declared.streams.Streams.{Streams}
use Rattle.dap_follow.specs.Keeping.Kept.{AreTold}
use Rattle.dap_follow.specs.Keeping.Lister.{EndsCrowd, EndsStreams, HasRoomFor, IsToldText, Keeps, KeepsAll, KeepsWithinRoom, ListerStarts, TellsJoined, TellsSingle, TellsWhole, rest_of, takes}
use Rattle.dap_follow.specs.Keeping.Rest.{rest_of_each}
use Rattle.dap_follow.specs.Keeping.Room.{AreWithinRoom}
use Rattle.dap_follow.specs.Keeping.Streams.{Continues, Entries, ends_stream}
use Rattle.dap_follow.proofs.BoundLemmas.{room_fits, small_of}
use Rattle.dap_follow.proofs.GrowLemmas.{aside}
use Rattle.dap_follow.proofs.PlaceLemmas.{within_left}
use Rattle.dap_follow.proofs.RestLemmas.{keeps_some, some_rest}

-- ---- a packet's line

pub seen_by : (seen : DecodedPacket) (bytes : List ℕ) → IfOk seen (λ packet. Spells packet bytes) → IfErr seen (λ fault. HasFault fault bytes) → IsSeen seen bytes
seen_by (Ok packet) bytes found fault = found
seen_by (Err e) bytes found fault = fault

-- ---- streams that end

none_zip : (opens : List OpenStream) → [] ≡ flat_map (λ (o, segments). rest_lines o.name (fragments_of segments)) (zip opens [])
none_zip [] = refl
none_zip (o ∷ opens) = refl

pub ends_some : (packet : FoundPacket) (i : Initiate) (old : Entries) → ((s : Stream) → ends_stream i s ≡ is_ended_by packet s)
    → EndsStreams packet old (filter (λ e. not (ends_stream i e.0)) old) (rest_of_each (λ e. ends_stream i e.0) old)
ends_some packet i old each = λ number opens keeps.
    let same : ends_stream i ≡ is_ended_by packet = fun_ext each in (
      subst (λ (t : Stream → Bool). AreRestTexts (filter (λ o. t o.name) opens) (rest_of_each (λ e. ends_stream i e.0) old)) same (some_rest number (ends_stream i) opens old keeps),
      subst (λ (t : Stream → Bool). KeepsAll number (filter (λ o. not (t o.name)) opens) (filter (λ e. not (ends_stream i e.0)) old)) same
          (keeps_some number (λ s. not (ends_stream i s)) opens old keeps),
      λ within. within_left (λ e. not (ends_stream i e.0)) old within,
    )

none_ended : (opens : List OpenStream) → filter (λ (o : OpenStream). false) opens ≡ []
none_ended [] = refl
none_ended (o ∷ opens) = none_ended opens

all_left : (opens : List OpenStream) → filter (λ (o : OpenStream). true) opens ≡ opens
all_left [] = refl
all_left (o ∷ opens) = ap (λ (l : List OpenStream). o ∷ l) (all_left opens)

pub ends_none : (packet : FoundPacket) (old : Entries) → ((s : Stream) → false ≡ is_ended_by packet s) → EndsStreams packet old old []
ends_none packet old each = λ number opens keeps.
    let same : (λ (s : Stream). false) ≡ is_ended_by packet = fun_ext each in
    let ended : streams_ended packet opens ≡ [] = ap (λ (t : Stream → Bool). filter (λ o. t o.name) opens) (sym same) ∙ none_ended opens in
    let left : left_by packet opens ≡ opens = ap (λ (t : Stream → Bool). filter (λ o. not (t o.name)) opens) (sym same) ∙ all_left opens in (
      record { ordered = []; are_ordered = subst (λ (l : List OpenStream). AllZip AreOrdered l []) (sym ended) tt; joined = none_zip (streams_ended packet opens) },
      subst (λ (l : List OpenStream). KeepsAll number l old) (sym left) keeps,
      λ within. within,
    )

-- what is no segment needs no room
pub crowds_none : (packet : FoundPacket) (seen : DecodedPacket) (n : ℕ) (old : Entries) → ((opens : List OpenStream) → EndsForRoom n packet seen opens [] opens)
    → (AreWithinRoom old → HasRoomFor packet seen old) → EndsCrowd packet seen n old old []
crowds_none packet seen n old none has = λ opens few keeps. ([], opens, none opens, record { ordered = []; are_ordered = tt; joined = refl }, keeps, λ small within. has within)

-- ---- messages

pub tells_none : (in_words : Bool) (n : ℕ) (stream : Stream) (c : SegmentFields) (opens : List OpenStream) (new : Entries) (bytes : List ℕ) → Continues n stream c opens new bytes None
    → AreWholeTexts in_words n (continued stream (n, c) opens) []
tells_none in_words n stream c opens new bytes k =
    let told : k.ms ≡ [] = k.told in
    record {
      ordered = k.ordered;
      texts = [];
      are_ordered = k.are_ordered;
      are_texts = subst (λ (l : List Fragment). AllZip (IsMessageText in_words) l []) (sym (k.whole ∙ told)) tt;
      joined = refl;
    }

pub tells_some : (in_words : Bool) (n : ℕ) (stream : Stream) (c : SegmentFields) (opens : List OpenStream) (new : Entries) (bytes : List ℕ) (w : Whole) (text : List ℕ)
    → Continues n stream c opens new bytes (Some w) → IsToldText in_words bytes w text → AreWholeTexts in_words n (continued stream (n, c) opens) text
tells_some in_words n stream c opens new bytes w text k said =
    let told : AreTold n bytes (Some w) k.ms = k.told in
    record {
      ordered = k.ordered;
      texts = text ∷ [];
      are_ordered = k.are_ordered;
      are_texts = subst (λ (l : List Fragment). AllZip (IsMessageText in_words) l (text ∷ [])) (sym (k.whole ∙ told.1)) (said told.0 told.3, tt);
      joined = sym (append-nil text);
    }

pub tells_aside : (in_words : Bool) (n : ℕ) (packet : FoundPacket) (seen : DecodedPacket) (old : Entries) → ((opens : List OpenStream) → with_packet n packet seen opens ≡ opens)
    → (HasRoomFor packet seen old → AreWithinRoom old) → TellsWhole in_words n packet seen old old []
tells_aside in_words n packet seen old none has = λ opens few keeps.
    let s = aside n opens old keeps in (
      subst (λ (l : List OpenStream). AreWholeTexts in_words n l []) (sym (none opens)) (record {
        ordered = s.0;
        texts = [];
        are_ordered = s.1;
        are_texts = subst (λ (l : List Fragment). AllZip (IsMessageText in_words) l []) (sym s.2) tt;
        joined = refl;
      }),
      subst (λ (l : List OpenStream). KeepsAll (n + 1) l old) (sym (none opens)) s.3,
      has,
    )

-- ---- a packet

pub joins_text : (old : Lister) (between : Entries) (mid new : Lister) (packet : FoundPacket) (seen : DecodedPacket) (rest more messages text : List ℕ) → mid.chosen ≡ old.chosen → mid.packets ≡ old.packets
    → EndsStreams packet old.streams.live.entries between rest → EndsCrowd packet seen old.packets between mid.streams.live.entries more
    → TellsWhole mid.chosen.in_words mid.packets packet seen mid.streams.live.entries new.streams.live.entries messages
    → text ≡ rest ++ (more ++ (packet_line mid.chosen.in_words mid.packets packet seen ++ messages)) → TellsJoined packet seen old new text
joins_text old between mid new packet seen rest more messages text chosen count ends crowds tells is = λ opens seen_is few keeps.
    let tell = subst (λ n. TellsWhole old.chosen.in_words n packet seen mid.streams.live.entries new.streams.live.entries messages) count
    (subst (λ (ch : Chosen). TellsWhole ch.in_words mid.packets packet seen mid.streams.live.entries new.streams.live.entries messages) chosen tells) in
    let end = ends old.packets opens keeps in
    let room = crowds (left_by packet opens) few end.1 in
    let whole = tell room.1 few room.4 in (
      with_packet old.packets packet seen room.1,
      record {
        seen = seen;
        crowd = room.0;
        left = room.1;
        rest = rest;
        rest_of_crowd = more;
        messages = messages;
        is_seen = seen_is;
        are_rest = end.0;
        room = room.2;
        are_rest_of_crowd = room.3;
        is_after = refl;
        are_messages = whole.0;
        joined = is ∙ ap (λ (ch : Chosen). rest ++ (more ++ (packet_line ch.in_words mid.packets packet seen ++ messages))) chosen
            ∙ ap (λ n. rest ++ (more ++ (packet_line old.chosen.in_words n packet seen ++ messages))) count;
      },
      whole.1,
      λ small within. whole.2 (room.5 small (end.2 within)),
    )

packet_joined : (chosen : Chosen) (n : ℕ) (packet : FoundPacket) (opens after : List OpenStream) (text : List ℕ) → chosen.is_joined ≡ true → IsJoinedText chosen.in_words n packet opens after text
    → IsFoundText chosen n packet opens after text
packet_joined chosen n packet opens after text h is =
    subst (λ b. MatchBool b (IsJoinedText chosen.in_words n packet opens after text) (IsSingleText chosen.in_words n packet opens after text)) (sym h) is

packet_single : (chosen : Chosen) (n : ℕ) (packet : FoundPacket) (opens after : List OpenStream) (text : List ℕ) → chosen.is_joined ≡ false → IsSingleText chosen.in_words n packet opens after text
    → IsFoundText chosen n packet opens after text
packet_single chosen n packet opens after text h is =
    subst (λ b. MatchBool b (IsJoinedText chosen.in_words n packet opens after text) (IsSingleText chosen.in_words n packet opens after text)) (sym h) is

pub takes_joined : (old mid new : Lister) (packet : FoundPacket) (seen : DecodedPacket) (text : List ℕ) → mid.chosen ≡ old.chosen → mid.packets ≡ old.packets + 1 → mid.streams ≡ old.streams
    → old.packets < 2 ^ 50 → old.chosen.is_joined ≡ true → IsSeen seen packet.bytes → new.chosen ≡ mid.chosen → new.packets ≡ mid.packets → TellsJoined packet seen mid new text
    → takes old packet new text
takes_joined old mid new packet seen text chosen_is count streams_is few joined seen_is new_chosen new_count tells = λ chosen number opens k.
    let number_is : number ≡ mid.packets = k.number_is ∙ sym count in
    let keeps : KeepsAll mid.packets opens mid.streams.live.entries =
    subst (λ (s : Streams). KeepsAll mid.packets opens s.live.entries) (sym streams_is) (subst (λ n. KeepsAll n opens old.streams.live.entries) number_is k.streams) in
    let t = tells opens seen_is (omega (arith, few, count)) keeps in
    let are : mid.chosen ≡ chosen = chosen_is ∙ k.chosen_are in
    let is_joined : mid.chosen.is_joined ≡ true = ap (λ (ch : Chosen). ch.is_joined) chosen_is ∙ joined in (
      t.0,
      record {
        chosen_are = new_chosen ∙ are;
        number_is = omega (arith, number_is, new_count);
        streams = subst (λ n. KeepsAll (n + 1) t.0 new.streams.live.entries) (sym number_is) t.2;
      },
      subst (λ n. IsFoundText chosen n packet opens t.0 text) (sym number_is)
          (subst (λ (ch : Chosen). IsFoundText ch mid.packets packet opens t.0 text) are (packet_joined mid.chosen mid.packets packet opens t.0 text is_joined t.1)),
      λ short within. t.3 (small_of seen packet.bytes seen_is short) (subst (λ (s : Streams). AreWithinRoom s.live.entries) (sym streams_is) within),
    )

pub takes_single : (old mid new : Lister) (packet : FoundPacket) (seen : DecodedPacket) (text : List ℕ) → mid.chosen ≡ old.chosen → mid.packets ≡ old.packets + 1 → mid.streams ≡ old.streams
    → old.chosen.is_joined ≡ false → IsSeen seen packet.bytes → new ≡ mid → TellsSingle packet seen mid text → takes old packet new text
takes_single old mid new packet seen text chosen_is count streams_is single seen_is same tells = λ chosen number opens k.
    let number_is : number ≡ mid.packets = k.number_is ∙ sym count in
    let later : KeepsAll (number + 1) opens mid.streams.live.entries =
    subst (λ (s : Streams). KeepsAll (number + 1) opens s.live.entries) (sym streams_is) (aside number opens old.streams.live.entries k.streams).3 in
    let are : mid.chosen ≡ chosen = chosen_is ∙ k.chosen_are in
    let is_single : mid.chosen.is_joined ≡ false = ap (λ (ch : Chosen). ch.is_joined) chosen_is ∙ single in (
      opens,
      subst (λ (l : Lister). Keeps chosen (number + 1) opens l) (sym same) (record {
        chosen_are = are;
        number_is = ap (λ n. n + 1) number_is;
        streams = later;
      }),
      subst (λ n. IsFoundText chosen n packet opens opens text) (sym number_is)
          (subst (λ (ch : Chosen). IsFoundText ch mid.packets packet opens opens text) are (packet_single mid.chosen mid.packets packet opens opens text is_single (tells seen_is opens))),
      λ short within. subst (λ (l : Lister). KeepsWithinRoom l) (sym same) (subst (λ (s : Streams). AreWithinRoom s.live.entries) (sym streams_is) within),
    )

-- ---- all packets

listed_from : (chosen : Chosen) (packets : List FoundPacket) (number : ℕ) (opens : List OpenStream) (now end : Lister) (text : List ℕ) → Keeps chosen number opens now → TakesAll takes now packets end text
    → (after : List OpenStream) × (last : ℕ) × ArePacketTexts chosen number packets opens after text × Keeps chosen last after end
listed_from chosen [] number opens now end text k (same, none) = (opens, number, (refl, none), subst (λ (l : Lister). Keeps chosen number opens l) (sym same) k)
listed_from chosen (packet ∷ packets) number opens now end text k (next, first, others, one, more, joined) =
    let t = one chosen number opens k in
    let rest = listed_from chosen packets (number + 1) t.0 next end others t.1 more in
    (rest.0, rest.1, (t.0, first, others, t.2, rest.2, joined), rest.3)

-- the listing, and what is kept of the streams that are open at its end
listed_end : (packets : List FoundPacket) (start end : Lister) (written : List ℕ) → ListerStarts start → TakesAll takes start packets end written
    → (listed : PacketsAreListed start.chosen packets written (rest_of end)) × (last : ℕ) × KeepsAll last listed.opens end.streams.live.entries
listed_end packets start end written starts all =
    let l = listed_from start.chosen packets 1 [] start end written starts all in (
      record {
        opens = l.0;
        are_texts = l.2;
        are_rest = subst (λ (o : List OpenStream). AreRestTexts o (rest_of end)) (all_left l.0) (some_rest l.1 (λ s. true) l.0 end.streams.live.entries l.3.streams);
      },
      l.1,
      l.3.streams,
    )

pub is_listed : (packets : List FoundPacket) (start end : Lister) (written : List ℕ) → ListerStarts start → TakesAll takes start packets end written → PacketsAreListed start.chosen packets written (rest_of end)
is_listed packets start end written starts all = (listed_end packets start end written starts all).0

-- ---- within the room

none_kept : (n : ℕ) (es : Entries) → KeepsAll n [] es → AreWithinRoom es
none_kept n [] all = (omega arith, omega arith)
none_kept n (e ∷ es) all = absurd all

within_from : (chosen : Chosen) (packets : List FoundPacket) (number : ℕ) (opens : List OpenStream) (now end : Lister) (text : List ℕ) → Keeps chosen number opens now → KeepsWithinRoom now
    → AllByRecursion IsShortPacket packets → TakesAll takes now packets end text → KeepsWithinRoom end
within_from chosen [] number opens now end text k within short (same, none) = subst (λ (l : Lister). KeepsWithinRoom l) (sym same) within
within_from chosen (packet ∷ packets) number opens now end text k within short (next, first, others, one, more, joined) =
    let t = one chosen number opens k in
    within_from chosen packets (number + 1) t.0 next end others t.1 (t.3 short.0 within) short.1 more

pub is_within : (packets : List FoundPacket) (start end : Lister) (written : List ℕ) → ListerStarts start → AllByRecursion IsShortPacket packets → TakesAll takes start packets end written → KeepsWithinRoom end
is_within packets start end written starts short all =
    within_from start.chosen packets 1 [] start end written starts (none_kept 1 start.streams.live.entries starts.streams) short all

pub fits_listed : (packets : List FoundPacket) (start end : Lister) (written : List ℕ) → ListerStarts start → AllByRecursion IsShortPacket packets → TakesAll takes start packets end written
    → (listed : PacketsAreListed start.chosen packets written (rest_of end)) × FitRoom listed.opens
fits_listed packets start end written starts short all =
    let e = listed_end packets start end written starts all in
    (e.0, room_fits e.1 e.0.opens end.streams.live.entries e.2 (is_within packets start end written starts short all))
