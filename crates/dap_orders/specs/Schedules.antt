-- The lines of a schedule.
use Rattle.std.specs.Prelude.{◌≡◌, ℕ, List, [], ◌∷◌, if◌then◌else◌, not, filter, is_some, slice_get, Option, Some, None, Result, MatchResult}
use Rattle.std.specs.List.{filter_map, enumerate_from, cons_option}
use Rattle.std.specs.Str.Lines.{lines}
use Rattle.linewise.specs.Talks.{is_skipped}
use Rattle.dap_orders.specs.Orders.{event_of, world_setup_of}
use Rattle.linewise.specs.declared.fault.CaptureFault.{CaptureFault}
use Rattle.linewise.specs.declared.fault.CaptureFault.TheVariants.{BadLine}

-- a line and its number
abbrev pub Numbered : Type 0
Numbered = ℕ × List ℕ

-- the lines that aren't skipped, each with its number; the first of all lines has this one
abbrev pub said_from : ℕ → List ℕ → List Numbered
said_from number input = filter (λ line. not (is_skipped line.1)) (enumerate_from number (lines input))

-- those of a whole input, whose first line has number 1
abbrev pub numbered_lines : List ℕ → List Numbered
numbered_lines = said_from 1

-- the fault of a line that isn't what it has to be
abbrev pub fault_unless : {X : Type 0} → ℕ → Option X → Option CaptureFault
fault_unless number said = if is_some said then None else Some (BadLine number)

-- the fault of a line that has to be an event
abbrev pub event_fault : Numbered → Option CaptureFault
event_fault line = fault_unless line.0 (event_of line.1)

-- what is wrong with the lines: the first has to be the setup, and the others events
abbrev pub schedule_faults : List Numbered → List CaptureFault
schedule_faults [] = []
schedule_faults (first ∷ others) =
    cons_option (fault_unless first.0 (world_setup_of first.1)) (filter_map event_fault others)

-- it succeeds where there are no faults, and otherwise fails with the first of them
abbrev pub GivesFirstFault : {X : Type 0} → Result X CaptureFault → List CaptureFault → Type 0
GivesFirstFault result faults = MatchResult result (λ _. faults ≡ []) (λ fault. slice_get faults 0 ≡ Some fault)
