-- Why a node isn't given a file or a record, and how many links it has then.
use Rattle.std.proofs.Common.{◌≡◌, ◌∙◌, ap, length, ℕ, List}
use Rattle.std.specs.Prelude.{Result, Ok, Err, IfErr, OnErr, OnOk}
use Rattle.std.proofs.lemmas.List.{length-map}
use Rattle.dap_accessed.specs.declared.fault.AddFault.{AddFault}
use Rattle.dap_accessed.specs.declared.fault.AddFault.TheVariants as fault
use Rattle.dap_accessed.specs.Sessions.{SessionValue}
use Rattle.dap_shared.specs.declared.fault.RemoveFault.{RemoveFault}
use Rattle.dap_shared.specs.Nodes.{GivesRecord}
use Rattle.dap_shared.specs.Noted.{NotedValue}
use Rattle.dap_shared.specs.Shared.{AtFile, NotAdded, RecordNotAdded, SharedDrops, SharedGiven, session_without}
use Rattle.dap_end.specs.Node.{NodeNotGiven, NodeValue, NoneHasCome}

refused-file : (v : NodeValue) (name : List ℕ) (f : AddFault) → NoneHasCome v.ports → NotAdded v.noted.shared.setup.names v.noted.shared.files name f → NodeNotGiven v (NotAdded v.noted.shared.setup.names v.noted.shared.files name) f
refused-file v name fault.Busy none h = absurd h
refused-file v name fault.FileExists none h = (none, h)
refused-file v name fault.NoMemory none h = (none, h)
refused-file v name fault.NoFile none h = absurd h
refused-file v name (fault.Record r) none h = absurd h

refused-record : (v : NodeValue) (name : List ℕ) (n : ℕ) (body : List ℕ) (f : AddFault) → NoneHasCome v.ports → RecordNotAdded v.noted.shared name n body f → NodeNotGiven v (RecordNotAdded v.noted.shared name n body) f
refused-record v name n body fault.Busy none h = absurd h
refused-record v name n body fault.FileExists none h = absurd h
refused-record v name n body fault.NoFile none h = (none, h)
refused-record v name n body fault.NoMemory none h = (none, h)
refused-record v name n body (fault.Record r) none h = (none, h)

pub file-refused : (v : NodeValue) (name : List ℕ) (r : Result (Unit {0}) AddFault) → NoneHasCome v.ports → IfErr r (NotAdded v.noted.shared.setup.names v.noted.shared.files name) → IfErr r (NodeNotGiven v (NotAdded v.noted.shared.setup.names v.noted.shared.files name))
file-refused v name (Ok u) none h = tt
file-refused v name (Err f) none h = refused-file v name f none h

pub record-refused : (v : NodeValue) (name : List ℕ) (n : ℕ) (body : List ℕ) (r : Result (Unit {0}) AddFault) → NoneHasCome v.ports → IfErr r (RecordNotAdded v.noted.shared name n body) → IfErr r (NodeNotGiven v (RecordNotAdded v.noted.shared name n body))
record-refused v name n body (Ok u) none h = tt
record-refused v name n body (Err f) none h = refused-record v name n body f none h

pub on-ok : {T E P : Type 0} (r : Result T E) → P → OnOk r P
on-ok (Ok u) p = p
on-ok (Err f) p = tt

-- a record was given, or a file dropped: there are as many links
pub record-links : (name : List ℕ) (n : ℕ) (body : List ℕ) (old new : NotedValue) (r : Result (Unit {0}) AddFault) → OnOk r (AtFile name old.shared (λ at. SharedGiven (GivesRecord at n body) old.shared new.shared)) → OnErr r (new ≡ old)
    → length new.shared.sessions ≡ length old.shared.sessions
record-links name n body old new (Ok u) ok err = let g = ok.2 in ap (λ (l : List SessionValue). length l) g.same_sessions
record-links name n body old new (Err f) ok err = ap (λ (v : NotedValue). length v.shared.sessions) err

pub drop-links : (name : List ℕ) (old new : NotedValue) (r : Result (Unit {0}) RemoveFault) → OnOk r (AtFile name old.shared (λ at. SharedDrops at old.shared new.shared)) → OnErr r (new ≡ old)
    → length new.shared.sessions ≡ length old.shared.sessions
drop-links name old new (Ok u) ok err = let d = ok.2 in ap (λ (l : List SessionValue). length l) d.sessions ∙ length-map old.shared.sessions (session_without ok.0)
drop-links name old new (Err f) ok err = ap (λ (v : NotedValue). length v.shared.sessions) err
