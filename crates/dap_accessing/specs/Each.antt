-- Records of a batch that are reported one by one, as they come. A client from which they are taken out is as one that
-- keeps them, but that the report of the batch has the others alone.
use Rattle.std.specs.Prelude.{ℕ, ◌≡◌, List, [], ◌∷◌, ◌++◌, Option, Some, option_map, option_to_list}
use Rattle.dap_msg.specs.Items.{ItemAt}
use Rattle.dap_msg.specs.declared.items.Item.{Item}
use Rattle.dap_accessing.specs.Request.{Request}
use Rattle.dap_accessing.specs.declared.fault.ReadStep.{ReadStep}
use Rattle.dap_accessing.specs.declared.report.Report.{Report}
use Rattle.dap_accessing.specs.declared.report.Report.TheVariants as report
use Rattle.dap_accessing.specs.declared.pending.Pending.{Pending}
use Rattle.dap_accessing.specs.declared.pending.Pending.TheVariants as pending
use Rattle.dap_accessing.specs.Told.{Told}
use Rattle.dap_accessing.specs.Present.{ClientState, ClientAfter}

-- the records that are kept of a batch under way
abbrev pub records_kept : Option Pending → List (ℕ × List ℕ)
records_kept (Some (pending.Batch records)) = records
records_kept _ = []

-- what is pending, without the records of a batch under way
abbrev pub none_kept : Option Pending → Option Pending
none_kept (Some (pending.Batch records)) = Some (pending.Batch [])
none_kept o = o

-- with these records before those that are kept of a batch under way
abbrev pub kept_after : (told : List (ℕ × List ℕ)) → Option Pending → Option Pending
kept_after told (Some (pending.Batch records)) = Some (pending.Batch (told ++ records))
kept_after told o = o

-- a client in whose batch these records are put back
abbrev pub put_back : (told : List (ℕ × List ℕ)) → ClientState → ClientState
put_back told p = record p { pending = kept_after told p.pending }

-- a report of a batch with these records before its records
abbrev pub reported_after : (told : List (ℕ × List ℕ)) → Report → Report
reported_after told (report.Batch records ending) = report.Batch (told ++ records) ending
reported_after told done = done

-- a batch is under way
abbrev pub IsBatch : ClientState → Type 0
IsBatch p = (records : List (ℕ × List ℕ)) × (p.pending ≡ Some (pending.Batch records))

-- The answer at this offset was read while a batch was under way. Whatever records had been taken out before, the
-- client is as one that keeps them, and reports the batch without them.
pub record ReadsOn (bytes : List ℕ) (at : ℕ) (old new : ClientState)
    (read : ReadStep) : Type 0 where
  pub answer : Item
  pub reads : ItemAt bytes at answer read.next
  pub stands : (told : List (ℕ × List ℕ)) (requests : List Request) (answers : List Item) → IsBatch old → ClientAfter requests answers (put_back told old) →
      ClientAfter requests (answers ++ answer ∷ []) (put_back told new)
  pub told : (told : List (ℕ × List ℕ)) (requests : List Request) (answers : List Item) → IsBatch old → ClientAfter requests answers (put_back told old) →
      Told requests (answers ++ answer ∷ []) ≡ Told requests answers ++ option_to_list (option_map (reported_after told) read.report)
