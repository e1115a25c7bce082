-- Files and records that a node may be given.
use Rattle.std.specs.Prelude.{◌<◌, List, [], ◌∷◌, length}
use Rattle.dap_accessed.specs.Asked.{IsAsked}
use Rattle.dap_accessed.specs.Adding.{MayGive, MayStore}
use Rattle.dap_accessed.specs.declared.setup.ServerSetup.{ServerSetup}
use Rattle.dap_accessed.specs.Standing.{file_at}
use Rattle.dap_shared.specs.Nodes.{Event, Gives, GivesRecord, Node, after_event}

-- a file may be given under its name, and be made so, and a record is one that its file takes
abbrev pub IsGiven : ServerSetup → Node → Event → Type 0
IsGiven own node (Gives name asked) = IsAsked asked × MayGive own.names name node.files
IsGiven own node (GivesRecord at number body) = (at < length node.files) × MayStore (file_at at node.files) number body
IsGiven own node event = Unit {0}

-- each of these is, after those before it
abbrev pub AreGiven : ServerSetup → Node → List Event → Type 0
AreGiven own node [] = Unit {0}
AreGiven own node (event ∷ events) = IsGiven own node event × AreGiven own (after_event own node event) events
