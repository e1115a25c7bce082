-- A record's bytes may be any others: what stands before them says nothing of them but how many they are.
use Rattle.std.proofs.Common.{◌≡◌, ℕ, ◌+◌, Bool, List, [], ◌++◌, length, take, drop, Option, refl, sym, ap, subst, ◌∙◌, append_assoc, arith}
use Rattle.std.proofs.lemmas.Bool.Decides.{nat_tests}
use Rattle.std.proofs.lemmas.List.{append-nil, length-append, length-take-le, length-drop, take_at, take-append-drop, take-take}
use Rattle.dap_msg.specs.Decoding.{HasLength, StandsInFront}
use Rattle.dap_msg.specs.Formats.{operand, file_data_format}
use Rattle.dap_msg.specs.Grammar.{Grammar, SpellsFormat}
use Rattle.dap_msg.specs.Message.{Message, Filedata, length_of}
use Rattle.dap_msg.proofs.Messages.{header_any}
use Rattle.dap_msg.proofs.Values.{values}

-- where a Filedata is spelled, its record stands at the end, and may be any other
abbrev IsOpen : Grammar Message → Type 0
IsOpen g =
    (recnum payload bytes : List ℕ) → SpellsFormat g (Filedata recnum payload) bytes []
    → (front : List ℕ) × (bytes ≡ front ++ payload) × ((body : List ℕ) → SpellsFormat g (Filedata recnum body) (front ++ body) [])

open_file_data : IsOpen file_data_format
unfolding file_data_format
open_file_data recnum payload bytes (recnum', front, back, joined, image, (payload', rest, none, split, remainder, (done, end))) =
    let recnums : recnum ≡ recnum' = cc in
    let payloads : payload ≡ payload' = cc in
    let all : back ≡ payload = split ∙ ap (λ (n : List ℕ). rest ++ n) end ∙ append-nil rest ∙ remainder.0 ∙ sym payloads in (
      front,
      joined ∙ ap (λ (b : List ℕ). front ++ b) all,
      λ body. (recnum', front, body, refl, image, (body, body, [], sym (append-nil body), (refl, refl), (ap (λ (r : List ℕ). Filedata r body) recnums, refl))),
    )

same_extent : (o : Option ℕ) (body changed : List ℕ) (closed : Bool) → length changed ≡ length body → HasLength o body closed → HasLength o changed closed
same_extent o body changed closed same extent = grind (arith, same, extent)

-- A record is the last of its message. Bytes that begin as the message does up to the record, and go on for as long,
-- begin with such a message of the record that stands there.
pub other_record : (recnum payload one : List ℕ) (n : ℕ) → StandsInFront (Filedata recnum payload) n one
    → (start : ℕ) × (start + length payload ≡ n)
    × ((two : List ℕ) → length two ≡ length one → take start two ≡ take start one → StandsInFront (Filedata recnum (drop start (take n two))) n two)
other_record recnum payload one n h =
    let s = h.spelled.start in
    let type : 8 ≡ s.head.number = grind (arith, nat_tests, (values (Filedata recnum payload) (take n one) h.closed h.spelled).1.2) in
    let o = subst (λ k. IsOpen (operand k)) type open_file_data recnum payload s.rest h.spelled.operand in
    let head : List ℕ = s.front ++ o.0 in
    let start : ℕ = length head in
    let whole : take n one ≡ head ++ payload = s.joined ∙ ap (λ (b : List ℕ). s.front ++ b) o.1 ∙ sym (append_assoc s.front o.0 payload) in
    let size : start + length payload ≡ n = omega (arith, length-take-le n one h.there, ap length whole, length-append head payload) in (
      start,
      size,
      λ two long same.
          let body : List ℕ = drop start (take n two) in
          let resized : length (take n two) ≡ n = length-take-le n two (omega (arith, h.there, long)) in
          let front : take start (take n two) ≡ head =
          take-take start n two (omega (arith, size)) ∙ same ∙ sym (take-take start n one (omega (arith, size)))
          ∙ ap (take start) whole ∙ take_at head payload start refl in
          let joined : take n two ≡ s.front ++ (o.0 ++ body) =
          sym (take-append-drop start (take n two)) ∙ ap (λ (f : List ℕ). f ++ body) front ∙ append_assoc s.front o.0 body in
          let equal : length body ≡ length payload = omega (arith, length-drop start (take n two), resized, size) in
          let lengths : length (o.0 ++ body) ≡ length s.rest = omega (arith, length-append o.0 body, length-append o.0 payload, ap length o.1, equal) in record {
            closed = h.closed;
            there = omega (arith, h.there, long);
            spelled = record {
              start = record { head = s.head; front = s.front; rest = o.0 ++ body; joined = joined; header = header_any s.head s.front s.rest (o.0 ++ body) s.header };
              operand = o.2 body;
              extent = same_extent (length_of s.head.low s.head.high) s.rest (o.0 ++ body) h.closed lengths h.spelled.extent;
            };
            open_is_all = λ not_closed. h.open_is_all not_closed ∙ sym long;
          },
    )
