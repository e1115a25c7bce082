-- Whether the words give an option a value, by what `clap` found.
use Rattle.std.proofs.Common.{◌≡◌, ◌∙◌, refl, ap, sym, false, Option, Some, None}
use Rattle.std.specs.Prelude.{option_and_then, option_map}
use Rattle.std.specs.Option.{option_map_or}
use Rattle.std.specs.List.{find}
use Rattle.std.specs.Str.{bytes_eq}
use Rattle.clap.specs.Facts.{Entry}
use Rattle.clap.specs.declared.parser.matches.Found.{Found}
use Rattle.clap.specs.declared.parser.matches.MatchedArg.{MatchedArg}
use Rattle.clap.specs.Walk.{Row, Text, row_of, rows_of}
use Rattle.clap.specs.Matches.{matched_of}
use Rattle.clap.proofs.WalkLemmas.{find_row}
use Rattle.live_cli.specs.Words.{has_value, is_word}

pub given_rows : (f : Found) (id : Text) → is_word (option_and_then (λ (a : MatchedArg). a.source) (matched_of f id)) ≡ has_value id (rows_of f)
given_rows f id = go (find (λ (e : Entry). bytes_eq e.0.now id) f.entries.items) ∙ ap (λ (o : Option Row). option_map_or (λ (row : Row). is_word row.source) o false) (sym (find_row f.entries.items id))
  where
    go : (o : Option Entry) → is_word (option_and_then (λ (a : MatchedArg). a.source) (option_map (λ (e : Entry). e.1) o)) ≡ option_map_or (λ (row : Row). is_word row.source) (option_map row_of o) false
    go None = refl
    go (Some e) = refl
