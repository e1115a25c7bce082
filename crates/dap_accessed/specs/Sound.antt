-- What is true of a server after any items.
use Rattle.std.specs.Prelude.{◌<◌, ◌≤◌, length, IfSome, bytes_eq}
use Rattle.std.specs.List.{AllByRecursion, IsDistinct}
use Rattle.dap_msg.specs.BothEnds.{max_nsp_message, min_buffer}
use Rattle.rec_file.specs.Files.{IsFile}
use Rattle.dap_accessed.specs.Standing.{Files, Scene, ServerState, Fresh, Ready, Opened, Connected, Store, Stopped}
use Rattle.dap_accessed.specs.Groups.{GroupedItems}

-- the open file is in the table
abbrev pub IsOpenAt : Files → ServerState → Type 0
IsOpenAt files Fresh = Unit {0}
IsOpenAt files Ready = Unit {0}
IsOpenAt files (Opened opened) = opened.at < length files
IsOpenAt files (Connected opened stream) = opened.at < length files
IsOpenAt files (Store opened stream) = opened.at < length files
IsOpenAt files (Stopped opened stream) = opened.at < length files

-- files that a server may have at first
pub record AreFiles (table : Files) : Type 0 where
  -- each obeys its shape, which is one that the check gives
  pub files : AllByRecursion (λ f. IsFile f.1) table
  -- no two have the same name
  pub distinct : IsDistinct (λ f g. bytes_eq f.0 g.0) table

-- the files are sound, the open file is in the table, and the peer's limit is from 64 to 65,535
pub record IsSoundAt (scene : Scene) (state : ServerState) : Type 0 where
  pub files : AreFiles scene.files
  pub opened : IsOpenAt scene.files state
  -- what a peer takes is not less than the minimum, and not more than the maximum
  pub least : min_buffer ≤ scene.limit
  pub most : scene.limit ≤ max_nsp_message

-- the state is sound so, and inside a group of two the open file of its first message is in the table too
pub record IsSound (c : GroupedItems) : Type 0 where
  pub standing : IsSoundAt c.standing.scene c.standing.state
  pub begun : IfSome c.begun (λ b. b.opened.at < length c.standing.scene.files)
