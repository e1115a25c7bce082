-- What is left of the streams, by what the program keeps of them.
use Rattle.std.specs.Prelude.{ℕ, ◌+◌, ◌-◌, nat_lt, Bool, List, [], ◌∷◌, ◌++◌, codes, if◌then◌else◌}
use Rattle.std.specs.List.{filter, flat_map}
use Rattle.texts.specs.Text.{line_feed}
use Rattle.dap_follow.specs.Lines.{length_text, range_text, stream_text}
use Rattle.dap_follow.specs.declared.streams.Stream.{Stream}
use Rattle.dap_follow.specs.Keeping.Kept.{kept_bytes}
use Rattle.dap_follow.specs.Keeping.Streams.{Entries}
use Rattle.dap_follow.specs.declared.kept.Kept.{Kept}
use Rattle.dap_follow.specs.declared.kept.KeptSegments.{KeptSegments}

-- the line of what is kept, unless its messages are listed
abbrev pub kept_part : Stream → Kept → List ℕ
kept_part stream k =
    if k.listed then [] else codes "part" ++ (stream_text stream ++ (range_text k.from k.to ++ length_text (kept_bytes k)))

-- the line of the sequence numbers that are missing after it
abbrev pub kept_gap : Stream → Kept → List Kept → List ℕ
kept_gap stream k [] = []
kept_gap stream k (next ∷ others) =
    if nat_lt (k.to + 1) next.from then codes "gap" ++ (stream_text stream ++ (range_text (k.to + 1) (next.from - 1) ++ line_feed)) else []

-- what is left of a stream
abbrev pub kept_rest : Stream → List Kept → List ℕ
kept_rest stream [] = []
kept_rest stream (k ∷ others) = kept_part stream k ++ kept_gap stream k others ++ kept_rest stream others

-- of a stream, if it is chosen
abbrev pub rest_if : Bool → Stream → List Kept → List ℕ
rest_if chosen stream ks = if chosen then kept_rest stream ks else []

-- of each stream that is chosen
abbrev pub rest_of_each : (Stream × KeptSegments → Bool) → Entries → List ℕ
rest_of_each chosen entries = flat_map (λ e. kept_rest e.0 e.1.kept.items) (filter chosen entries)
