-- Whether the first bytes of an input tell its form.
use Rattle.std.specs.Prelude.{◌≡◌, ◌⊎◌, ℕ, List, [], ◌∷◌, ◌++◌, IsSome}
use Rattle.capture_file.specs.Units.{file_kind_of}

-- What comes after these bytes may say more: that it is a file of captured frames, or, after 1f, that it is compressed.
abbrev pub MayTellMore : List ℕ → Type 0
MayTellMore front = ((more : List ℕ) × IsSome (file_kind_of (front ++ more))) ⊎ (front ≡ 31 ∷ [])
