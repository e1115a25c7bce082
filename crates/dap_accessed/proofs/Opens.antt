-- What a Store does, and results.
use Rattle.std.proofs.Common.{◌≡◌, ℕ, Bool, true, false, refl, Result, Ok, Err, IfOk}
use Rattle.std.specs.Prelude.{if◌then◌else◌}
use Rattle.dap_msg.specs.declared.items.Item.{Item}
use Rattle.rec_file.specs.Acts.{StreamVal}
use Rattle.dap_accessed.specs.declared.phase.OpenFile.{OpenFile}
use Rattle.dap_accessed.specs.declared.phase.Phase.{Phase}
use Rattle.dap_accessed.specs.declared.phase.Phase.TheVariants as phases
use Rattle.dap_accessed.specs.Standing.{Store}
use Rattle.dap_accessed.specs.Present.{Present}
use Rattle.dap_accessed.specs.Inner.Moves.{between, move_in, store_memory}

pub if_ok : {A E : Type 0} {P Q : A → Type 0} (r : Result A E) → IfOk r P → ((a : A) → P a → Q a) → IfOk r Q
if_ok (Ok a) h f = f a h
if_ok (Err e) h f = tt

-- the phase of a Store, which may drop what comes
abbrev pub store_phase : (dropping : Bool) → OpenFile → StreamVal → ℕ → Phase
store_phase dropping opened stream ordinal =
    if dropping then phases.Dropping opened stream ordinal else phases.Storing opened stream ordinal

-- a Store, whether it drops what comes or not
pub store-moves : (d : Bool) (o : OpenFile) (s : StreamVal) (n : ℕ) (p : Present) (item : Item) → move_in (store_phase d o s n) p item ≡ between p (store_memory p.kept d n) (Store o s) item
store-moves true o s n p item = refl
store-moves false o s n p item = refl
