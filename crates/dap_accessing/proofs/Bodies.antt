-- A record that was added to a batch was heard.
use Rattle.std.proofs.Common.{◌≡◌, ℕ, refl, ap, subst, sym, inl, List, [], ◌∷◌, ◌++◌}
use Rattle.dap_msg.specs.declared.message.Message.TheVariants.{Filedata}
use Rattle.dap_msg.specs.declared.items.Item.TheVariants.{Whole}
use Rattle.dap_msg.specs.BothEnds.{number_of}
use Rattle.dap_accessing.specs.declared.pending.Pending.TheVariants as pending
use Rattle.dap_accessing.specs.declared.pending.Heard.{Heard}
use Rattle.dap_accessing.specs.declared.pending.Heard.TheVariants as heard
use Rattle.dap_accessing.specs.Inner.Gathers.{gather_batch}
use Rattle.dap_accessing.specs.Inner.Hears.{Hears, AddsBody}

pub body_heard : (bodies : List (ℕ × List ℕ)) (recnum payload : List ℕ) (number : ℕ) (result : Heard) → number ≡ number_of recnum → AddsBody bodies number payload result → Hears (pending.Batch bodies) (Whole (Filedata recnum payload)) result
body_heard bodies recnum payload number (heard.NoMemory same) e a = (a, inl (pending.Batch (bodies ++ (number_of recnum, payload) ∷ []), λ rest. refl))
body_heard bodies recnum payload number (heard.Waits next) e a =
    subst (λ r. Hears (pending.Batch bodies) (Whole (Filedata recnum payload)) r) (sym a) (λ rest. ap (λ n. gather_batch (bodies ++ (n, payload) ∷ []) rest) (sym e))
body_heard bodies recnum payload number (heard.Reports done) e a = absurd cc
body_heard bodies recnum payload number heard.Unexpected e a = absurd cc
