-- With neither words nor joined segments the listing is that of `show`.
use Rattle.std.proofs.Common.{◌≡◌, ℕ, ◌+◌, false, List, [], ◌∷◌, ◌++◌, Option, Ok, Err, refl, ap, sym, subst, ◌∙◌, append-nil, append_assoc}
use Rattle.std.specs.Prelude.{MatchBool}
use Rattle.std.specs.List.{AllZip}
use Rattle.nsp_seg.specs.declared.packet.Packet.TheVariants.{Segment, DataAck}
use Rattle.dap_listing.specs.Lines.{Capture}
use Rattle.dap_listing.specs.Listing.{CaptureLines, heading, no_capture_more, one_capture_more}
use Rattle.dap_listing.specs.Packets.{DecodedPacket, SeenMessages, seen_line}
use Rattle.dap_listing.specs.declared.listing.Listed.TheVariants.{Packets}
use Rattle.decnet_frames.specs.Found.{FoundPacket}
use Rattle.decnet_frames.specs.Nodes.{nodes_text}
use Rattle.decnet_frames.specs.declared.addresses.Nodes.{Nodes}
use Rattle.dap_follow.specs.Streams.{OpenStream}
use Rattle.dap_follow.specs.Lines.{IsOwnText}
use Rattle.dap_follow.specs.Listed.{ArePacketTexts, AreRestTexts, IsJoinedText, IsLine, PacketsAreListed, IsFoundText, IsSingleText}
use Rattle.dap_follow.specs.declared.lister.Chosen.{Chosen}

own_shown : (seen : DecodedPacket) (messages : List ℕ) → IsOwnText false seen messages → SeenMessages seen messages
own_shown (Ok (Segment s)) messages is = is
own_shown (Ok (DataAck a)) messages is = is
own_shown (Err fault) messages is = is

single : (chosen : Chosen) (number : ℕ) (packet : FoundPacket) (opens after : List OpenStream) (text : List ℕ) → chosen.in_words ≡ false → chosen.is_joined ≡ false
    → IsFoundText chosen number packet opens after text → IsSingleText false number packet opens after text
single chosen number packet opens after text words joined is =
    subst (λ w. IsSingleText w number packet opens after text) words
    (subst (λ b. MatchBool b (IsJoinedText chosen.in_words number packet opens after text) (IsSingleText chosen.in_words number packet opens after text)) joined is)

shown_from : (chosen : Chosen) → chosen.in_words ≡ false → chosen.is_joined ≡ false → (captured : List Capture) (packets : List FoundPacket) (number : ℕ) (opens after : List OpenStream) (text : List ℕ)
    → AllZip IsLine captured packets → ArePacketTexts chosen number packets opens after text → CaptureLines Packets number captured text × (after ≡ opens)
shown_from chosen words joined [] [] number opens after text all (same, none) = (subst (λ t. CaptureLines Packets number [] t) (sym none) no_capture_more, same)
shown_from chosen words joined [] (packet ∷ packets) number opens after text all texts = absurd all
shown_from chosen words joined (capture ∷ captured) [] number opens after text all texts = absurd all
shown_from chosen words joined ((way, digits) ∷ captured) (packet ∷ packets) number opens after text ((way_is, nodes_are, decoded), all) (between, first, others, one, more, is) =
    let s = single chosen number packet opens between first words joined one in
    let rest = shown_from chosen words joined captured packets (number + 1) between after others all more in
    let line = seen_line s.seen in
    let said : first ≡ heading number way ++ (line ++ s.messages) =
    s.joined ∙ ap (λ (n : Option Nodes). (heading number packet.way ++ (nodes_text n ++ line)) ++ s.messages) nodes_are
    ∙ ap (λ w. (heading number w ++ line) ++ s.messages) way_is ∙ append_assoc (heading number way) line s.messages in (
      subst (λ t. CaptureLines Packets number ((way, digits) ∷ captured) t) (sym (is ∙ ap (λ (l : List ℕ). l ++ others) said))
          (one_capture_more packet.bytes (line ++ s.messages) others decoded
          (record { seen = s.seen; messages = s.messages; is = s.is_seen; listed = own_shown s.seen s.messages s.are_messages; joined = refl }) rest.0),
      rest.1 ∙ s.is_after,
    )

no_rest : (opens : List OpenStream) (rest : List ℕ) → opens ≡ [] → AreRestTexts opens rest → rest ≡ []
no_rest opens rest none are =
    let r = subst (λ (l : List OpenStream). AreRestTexts l rest) none are in
    r.joined

pub shown : (chosen : Chosen) (captured : List Capture) (packets : List FoundPacket) (written rest : List ℕ) → chosen.in_words ≡ false → chosen.is_joined ≡ false → AllZip IsLine captured packets
    → PacketsAreListed chosen packets written rest → CaptureLines Packets 1 captured (written ++ rest)
shown chosen captured packets written rest words joined all l =
    let s = shown_from chosen words joined captured packets 1 [] l.opens written all l.are_texts in
    subst (λ t. CaptureLines Packets 1 captured t) (sym (ap (λ (r : List ℕ). written ++ r) (no_rest l.opens rest s.1 l.are_rest) ∙ append-nil written)) s.0
