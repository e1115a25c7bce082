-- What `daplive` does with an input, and its exit status.
use Rattle.std.specs.Prelude.{◌≡◌, ◌⊎◌, ℕ, Bool, true, List, [], if◌then◌else◌, Option}
use Rattle.std.specs.List.{list_any}
use Rattle.std.specs.Io.KnownBytes.{Appends, Keeps}
use Rattle.nsp_link.specs.declared.link.LinkSetup.{LinkSetup}
use Rattle.dap_msg.specs.BothEnds.{plain_identity}
use Rattle.dap_msg.specs.declared.message.Configuration.{Configuration}
use Rattle.dap_accessed.specs.declared.setup.ServerSetup.{ServerSetup}
use Rattle.dap_accessed.specs.Setup.{all_rights}
use Rattle.nsp_link.specs.Limits.{max_limit}
use Rattle.linewise.specs.Gives.{TellsFault}
use Rattle.linewise.specs.Talks.{Answering, AnswersInput, Fails, is_bad}
use Rattle.linewise.specs.declared.talking.Became.{Became}
use Rattle.linewise.specs.declared.fault.CaptureFault.{CaptureFault}
use Rattle.linewise.specs.declared.fault.CaptureFault.TheVariants.{NoMemory}
use Rattle.dap_live.specs.declared.node.Node.{Node}
use Rattle.dap_live.specs.declared.asking.Asking.{Asking}
use Rattle.dap_live.specs.Node as node
use Rattle.dap_live.specs.Asking as asking
use Rattle.live_cli.specs.declared.words.Options.{Options}
use Rattle.live_cli.specs.declared.words.Role.{Role}
use Rattle.live_cli.specs.declared.words.Role.TheVariants.{Serve, Ask}

-- how the link is set up
abbrev pub link_setup : Options → LinkSetup
link_setup o = record { local = o.local; remote = o.remote; seg_size = o.segment; window = o.window; max_message = max_limit }

-- The end answers all lines of the input, and the status is 1 if some line was bad and 0 otherwise; or the reader or
-- the writer fails, and it is 3: then the reader has left what `Fails` says.
abbrev pub AnswersAll : {E : Type 0} → Answering E → (E → Option ℕ) → E → List ℕ → (left written holds : Option (List ℕ)) → ℕ → Type 0
AnswersAll {E} answered waiting first input left written holds status =
    ((last : E) × (text : List ℕ) × (lines : List (Option Became)) × AnswersInput answered waiting first input last [] text lines
    × Appends written holds text × (status ≡ (if list_any is_bad lines then 1 else 0)))
    ⊎ ((last : E) × (fault : CaptureFault) × Fails answered waiting first input last left written holds fault × (status ≡ 3))

-- what an end says of itself: the version is that of the definitions
abbrev pub identity_of : Options → Configuration
identity_of o = record (plain_identity o.buffer) { ostype = o.ostype; filesys = o.filesys; syscap = o.syscap }

-- how the server is set up: an Access may ask for every right, unless its link has fewer
abbrev pub server_of : Options → ServerSetup
server_of o = record { identity = identity_of o; names = o.names; most = all_rights; full = true }

-- a new server without files answers: its only link is there; or it has room for several, and none is
abbrev pub ServesLines : Options → List ℕ → (left written holds : Option (List ℕ)) → ℕ → Type 0
ServesLines o input left written holds status =
    (first : Node) × node.IsNewNode (server_of o) o.links (link_setup o) o.waiting first × AnswersAll node.answered node.waiting first input left written holds status

-- a new end with these options, without files, answers
abbrev pub GivesAs : Role → Options → List ℕ → (left written holds : Option (List ℕ)) → ℕ → Type 0
GivesAs Serve o input left written holds status = ServesLines o input left written holds status
GivesAs Ask o input left written holds status =
    (first : Asking) × asking.IsNewAsking (link_setup o) (identity_of o) first × AnswersAll asking.answered asking.waiting first input left written holds status

-- An end answers; or memory is refused before there is one, which is told, nothing is written, and the status is 3.
-- This is what the reader has left, and what both writers hold before and after.
abbrev pub EndGives : Options → List ℕ → (left written holds told tells : Option (List ℕ)) → ℕ → Type 0
EndGives o input left written holds told tells status =
    GivesAs o.role o input left written holds status ⊎ (Keeps written holds × (status ≡ 3) × TellsFault NoMemory told tells)
