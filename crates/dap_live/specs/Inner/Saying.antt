-- What is said after a text.
use Rattle.std.specs.Prelude.{◌≡◌, ℕ, List, [], ◌∷◌, codes}
use Rattle.std.specs.List.{concat}
use Rattle.std.specs.Fmt.{decimal}
use Rattle.std.specs.Global.{Vec}
use Rattle.texts.specs.Adding as adding
use Rattle.texts.specs.Text.{line_feed}
use Rattle.linewise.specs.declared.talking.Became.{Became}
use Rattle.dap_live.specs.Texts.{LineAnswer, refused_with}
use Rattle.dap_live.specs.declared.asking.Front.{Front}
use Rattle.dap_live.specs.declared.asking.Front.TheVariants.{Asked, Busy}

-- the text of what is said is added, and this is what it became
abbrev pub AddsSaid : (old new : Vec ℕ) → LineAnswer → Became → Type 0
AddsSaid old new said became = adding.Adds old new said.0 × (became ≡ said.1)

-- what is said before what going on comes to
abbrev pub front_text : Front → List ℕ
front_text (Asked count) = concat (codes "asked " ∷ decimal count ∷ line_feed ∷ [])
front_text Busy = (refused_with (codes "ask-busy")).0
