-- What holds of links over one table.
use Rattle.std.specs.Prelude.{◌≡◌, ℕ, ◌<◌, false, List, [], ◌∷◌, length, get_or, Option, Some}
use Rattle.rec_file.specs.Files.{FileVal}
use Rattle.dap_accessed.specs.declared.phase.OpenFile.{OpenFile}
use Rattle.dap_accessed.specs.Standing.{Files, plain_shape, new_file}
use Rattle.dap_shared.specs.Sharing.{are_apart}
use Rattle.dap_shared.specs.Nodes.{Node, Event, Serves, Begins, exchange_at, open_on}

-- the events are of links that the node has
abbrev pub AreOf : (links : ℕ) → List Event → Type 0
AreOf links [] = Unit {0}
AreOf links (Serves link item ∷ events) = (link < links) × AreOf links events
AreOf links (Begins link most ∷ events) = (link < links) × AreOf links events
AreOf links (event ∷ events) = AreOf links events

-- two links may have these open at once
abbrev pub AreApart : Option OpenFile → Option OpenFile → Type 0
AreApart (Some one) (Some two) = are_apart one two ≡ false
AreApart one two = Unit {0}

-- the name and the file at an index of the table
abbrev pub entry_at : ℕ → Files → List ℕ × FileVal
entry_at at files = get_or files at ([], new_file plain_shape)

-- the link still has open what it had, under the same name and with the same records, wherever in the table it is then
abbrev pub HoldsStill : (link : ℕ) → (old new : Node) → (held : OpenFile) → Type 0
HoldsStill link old new held =
    (then : OpenFile) × (open_on (exchange_at link new) ≡ Some then) × (then ≡ record held { at = then.at }) × (then.at < length new.files)
    × (entry_at then.at new.files ≡ entry_at held.at old.files)
