-- What a check of lines returns.
use Rattle.std.specs.Prelude.{◌≡◌, ◌⊎◌, List, [], Result, MatchResult}
use Rattle.linewise.specs.Firsts.{IsFirst}
use Rattle.linewise.specs.declared.fault.CaptureFault.{CaptureFault}
use Rattle.linewise.specs.declared.fault.CaptureFault.TheVariants.{NoMemory}

-- the first of the faults, where there is one and memory sufficed up to it
abbrev pub GivesFirstFaultOrNoMemory : {X : Type 0} → Result X CaptureFault → List CaptureFault → Type 0
GivesFirstFaultOrNoMemory result faults =
    MatchResult result (λ _. faults ≡ []) (λ fault. (fault ≡ NoMemory) ⊎ IsFirst faults fault)

-- the first of the faults, where there is one; only else out of memory
abbrev pub GivesFirstFaultThenNoMemory : {X : Type 0} → Result X CaptureFault → List CaptureFault → Type 0
GivesFirstFaultThenNoMemory result faults =
    MatchResult result (λ _. faults ≡ []) (λ fault. ((fault ≡ NoMemory) × (faults ≡ [])) ⊎ IsFirst faults fault)
