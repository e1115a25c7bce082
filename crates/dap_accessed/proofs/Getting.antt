-- A GET of a record that is too long for the peer.
use Rattle.std.proofs.Common.{◌≡◌, ℕ, Bool, false, List, [], ◌∷◌, Option, Some, Result, Ok, ap, ◌∙◌}
use Rattle.std.specs.Prelude.{if◌then◌else◌, unwrap_or}
use Rattle.std.specs.FinMap as map
use Rattle.rec_file.specs.declared.picks.Pick.{Pick}
use Rattle.rec_file.specs.declared.refusals.Refusal.{Refusal}
use Rattle.rec_file.specs.Acts.{StreamVal, act, get_record}
use Rattle.dap_accessed.specs.declared.phase.OpenFile.{OpenFile}
use Rattle.dap_accessed.specs.Standing.{Scene, Effect, enters, Connected, the_file}
use Rattle.dap_accessed.specs.Replies.{too_large}
use Rattle.dap_accessed.specs.Records.{filedata_of, fits_limit, got, record_got, stream_without_current}

module _ (scene : Scene) (o : OpenFile) (s : StreamVal) where
  abbrev refuses : Effect
  refuses = enters scene (Connected o (stream_without_current s)) (too_large ∷ [])

  -- what a GET does, by what is under its number
  abbrev finds : (n : ℕ) → Option (List ℕ) → (after : StreamVal) → Effect
  finds n there after =
      let r : ℕ × List ℕ = (n, unwrap_or there []) in
      if fits_limit scene.limit r then enters scene (Connected o after) (filedata_of r ∷ []) else refuses

  pub got-large : (pick : Result Pick Refusal) (x : Pick) (n : ℕ) (body : List ℕ) → pick ≡ Ok x
      → (act (get_record x) (the_file scene.files o) s).reply ≡ Ok n
      → map.get (the_file scene.files o).records n ≡ Some body → fits_limit scene.limit (n, body) ≡ false
      → record_got pick scene o s ≡ refuses
  got-large pick x n body picked replied there large =
      let outcome = act (get_record x) (the_file scene.files o) s in
      ap (λ (q : Result Pick Refusal). record_got q scene o s) picked
      ∙ ap (λ (r : Result ℕ Refusal). got r scene o s outcome.stream) replied
      ∙ ap (λ (b : Option (List ℕ)). finds n b outcome.stream) there
      ∙ ap (λ (b : Bool). if b then enters scene (Connected o outcome.stream) (filedata_of (n, body) ∷ []) else refuses) large
