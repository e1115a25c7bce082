-- A client from which no record is taken out stays as it is.
use Rattle.std.proofs.Common.{◌≡◌, ℕ, refl, sym, ap, List, [], Some}
use Rattle.std.specs.Prelude.{Option}
use Rattle.dap_accessing.specs.declared.pending.Pending.{Pending}
use Rattle.dap_accessing.specs.declared.pending.Pending.TheVariants as pending
use Rattle.dap_accessing.specs.Each.{none_kept, records_kept}

pub none_taken : (o : Option Pending) → records_kept o ≡ [] → none_kept o ≡ o
none_taken (Some (pending.Batch records)) e = ap (λ (l : List (ℕ × List ℕ)). Some (pending.Batch l)) (sym e)
none_taken o e = refl
