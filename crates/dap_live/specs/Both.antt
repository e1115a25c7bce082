-- What both ends have in common.
use Rattle.std.specs.Prelude.{◌≡◌, ◌⊎◌, ℕ, List, []}
use Rattle.linewise.specs.declared.talking.Became.{Became}
use Rattle.linewise.specs.declared.talking.Became.TheVariants.{Done}
use Rattle.dap_live.specs.Texts.{LineAnswer}

-- It is done, and nothing is answered; or the end is as before, and the reason is answered.
abbrev pub DoneOr : {E C F : Type 0} → (ends : Became → C) → (IsDone : Type 0) → (Why : F → Type 0) → (told : F → LineAnswer) → (old new : E) → List ℕ → C → Type 0
DoneOr {E} {C} {F} ends IsDone Why told old new text came =
    (IsDone × (text ≡ []) × (came ≡ ends Done))
    ⊎ ((f : F) × Why f × (new ≡ old) × (text ≡ (told f).0) × (came ≡ ends (told f).1))

-- the end is as before, and this became of the line
abbrev pub LeavesEnd : {E C : Type 0} → (was : C) → (old new : E) → C → Type 0
LeavesEnd was old new came = (new ≡ old) × (came ≡ was)
