-- The state of a server between two groups of messages (DAP 5.6.0, message sequences).
use Rattle.std.specs.Prelude.{ℕ, List, [], get_or, set, Option, bytes_eq}
use Rattle.std.specs.List.{position}
use Rattle.dap_msg.specs.BothEnds.{min_buffer}
use Rattle.dap_msg.specs.declared.message.Message.{Message}
use Rattle.dap_msg.specs.declared.items.Item.{Item}
use Rattle.rec_file.specs.declared.shapes.Shape.{Shape}
use Rattle.rec_file.specs.declared.shapes.Org.TheVariants.{Seq}
use Rattle.rec_file.specs.declared.shapes.Format.TheVariants.{Variable}
use Rattle.rec_file.specs.Files.{FileVal, empty_file}
use Rattle.rec_file.specs.Looks.{plain_look}
use Rattle.rec_file.specs.Acts.{StreamVal}
use Rattle.dap_accessed.specs.declared.phase.OpenFile.{OpenFile}

-- the files, each with its name, in the order in which they were made
abbrev pub Files : Type 0
Files = List (List ℕ × FileVal)

-- the index of the first file with this name
abbrev pub index_of : List ℕ → Files → Option ℕ
index_of name files = position (λ (f : List ℕ × FileVal). bytes_eq f.0 name) files

-- the shape of a file that isn't there: sequential, variable, without limits
abbrev pub plain_shape : Shape
plain_shape = record { org = Seq; format = Variable; mrs = 0; mrn = 0 }

-- a file without records, of which nothing else is kept
abbrev pub new_file : Shape → FileVal
new_file shape = empty_file shape plain_look

-- the name of the file at an index, empty if there is none
abbrev pub name_at : ℕ → Files → List ℕ
name_at n files = (get_or files n ([], new_file plain_shape)).0

-- the file at an index, without records if there is none
abbrev pub file_at : ℕ → Files → FileVal
file_at n files = (get_or files n ([], new_file plain_shape)).1

-- the files with another file at an index, under the same name
abbrev pub with_file : ℕ → FileVal → Files → Files
with_file n file files = set files n (name_at n files, file)

-- the file that is open
abbrev pub the_file : Files → OpenFile → FileVal
the_file files opened = file_at opened.at files

-- The phase between groups: before the peer's Configuration; without a file; with a file; with a stream; in a
-- sequential file transfer to this end; and in one to the peer that has stopped at a record too large.
pub data ServerState : Type 0 where
  Fresh : ServerState
  Ready : ServerState
  Opened : OpenFile → ServerState
  Connected : OpenFile → StreamVal → ServerState
  Store : OpenFile → StreamVal → ServerState
  Stopped : OpenFile → StreamVal → ServerState

-- a group that is over: the phase in which it was served, its first item, and its answers
pub record Group : Type 0 where
  pub state : ServerState
  pub first : Item
  pub answers : List Message

-- the maximum length of a message to the peer, and the files
pub record Scene : Type 0 where
  pub limit : ℕ
  pub files : Files

-- a state: the limit and the files, the phase, and the groups so far, the newest first
pub record Standing : Type 0 where
  pub scene : Scene
  pub state : ServerState
  pub past : List Group

-- what a group leaves: the limit and the files, the phase after it, and its answers
pub record Effect : Type 0 where
  pub scene : Scene
  pub state : ServerState
  pub answers : List Message

-- such an effect
abbrev pub enters : Scene → ServerState → List Message → Effect
enters scene state answers = record { scene = scene; state = state; answers = answers }

-- The first state: these files, no Configuration of the peer, and the minimum limit.
abbrev pub start : Files → Standing
start files = record { scene = record { limit = min_buffer; files = files }; state = Fresh; past = [] }
