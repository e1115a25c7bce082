-- What a server keeps of the items that it served. It is as after any items that leave this.
use Rattle.std.specs.Prelude.{ℕ, ◌≡◌, Bool, ◌&&◌, if◌then◌else◌, List, Option, Some, None}
use Rattle.dap_msg.specs.declared.items.Item.{Item}
use Rattle.dap_accessed.specs.declared.asked.Asked.{Asked}
use Rattle.rec_file.specs.Acts.{StreamVal}
use Rattle.dap_accessed.specs.declared.setup.ServerSetup.{ServerSetup}
use Rattle.dap_accessed.specs.declared.phase.OpenFile.{OpenFile}
use Rattle.dap_accessed.specs.declared.phase.Phase.{Phase}
use Rattle.dap_accessed.specs.declared.phase.Phase.TheVariants as phases
use Rattle.dap_accessed.specs.Standing.{Files, ServerState, Group, Standing, Fresh, Ready, Opened, Connected, Store, Stopped}
use Rattle.dap_accessed.specs.Past.{is_store, is_dropping, ordinal_so_far, kept_attributes, asked_file}
use Rattle.dap_accessed.specs.Records.{Change, Putting, Updating}
use Rattle.dap_accessed.specs.Effects.{Begun}
use Rattle.dap_accessed.specs.Groups.{GroupedItems, stands_after}

-- what a server keeps
pub record Present : Type 0 where
  -- the server's BUFSIZ
  pub own : ℕ
  -- what it is set up with, this BUFSIZ too
  pub setup : ServerSetup
  -- how long a message the peer takes
  pub limit : ℕ
  pub files : Files
  -- what an Access would give a new file now, if its attributes are good
  pub kept : Option Asked
  pub phase : Phase

-- what counts of the past: what an Access would give a new file, whether a Store drops Data messages, and its ordinal
pub record Memory : Type 0 where
  pub asked : Option Asked
  pub dropping : Bool
  pub ordinal : ℕ

-- what counts of the past in this phase
abbrev pub looked_back : (full : Bool) → ServerState → List Group → Memory
looked_back full state past =
    record {
      asked = asked_file full (kept_attributes past);
      dropping = is_store state && is_dropping past;
      ordinal = if is_store state then ordinal_so_far past else 0;
    }

-- the phase between groups
abbrev pub phase_at : ServerState → Memory → Phase
phase_at Fresh memory = phases.Fresh
phase_at Ready memory = phases.Ready
phase_at (Opened opened) memory = phases.Opened opened
phase_at (Connected opened stream) memory = phases.Connected opened stream
phase_at (Store opened stream) memory =
    if memory.dropping then phases.Dropping opened stream memory.ordinal else phases.Storing opened stream memory.ordinal
phase_at (Stopped opened stream) memory = phases.Stopped opened stream

-- the phase inside a group of two
abbrev pub phase_within : Change → OpenFile → StreamVal → Phase
phase_within (Putting key) opened stream = phases.PutDue opened stream key
phase_within Updating opened stream = phases.UpdateDue opened stream

-- the phase, also inside a group of two
abbrev pub phase_of : (full : Bool) → Standing → Option Begun → Phase
phase_of full s None = phase_at s.state (looked_back full s.state s.past)
phase_of full s (Some begun) = phase_within begun.change begun.opened begun.stream

-- what a server keeps in this state
abbrev pub present_of : (own : ServerSetup) → GroupedItems → Present
present_of own c =
    record {
      own = own.identity.bufsiz;
      setup = own;
      limit = c.standing.scene.limit;
      files = c.standing.scene.files;
      kept = asked_file own.full (kept_attributes c.standing.past);
      phase = phase_of own.full c.standing c.begun;
    }

-- the server is as one with its setup, and these files at first, after these items
abbrev pub StandsAfter : Files → List Item → Present → Type 0
StandsAfter first items present = present ≡ present_of present.setup (stands_after present.setup first items)
