-- What is looked up in the groups so far, the newest first (DAP 5.6.0, Attributes message). The ordinal is a choice
-- of this implementation.
use Rattle.std.specs.Prelude.{ℕ, ◌+◌, Bool, true, false, not, ◌&&◌, nat_lt, ◌==◌, min, List, length, filter, filter_map, slice_get, take_while, Option, Some, None, option_map, unwrap_or, if◌then◌else◌}
use Rattle.std.specs.List.{list_any}
use Rattle.dap_msg.specs.Codes as codes
use Rattle.dap_msg.specs.BothEnds.{no_attributes, with_defaults}
use Rattle.dap_msg.specs.declared.message.Attributes.{Attributes}
use Rattle.dap_msg.specs.declared.message.Message.TheVariants.{Attrib, Access, Contran, Filedata}
use Rattle.dap_msg.specs.declared.items.Item.{Item}
use Rattle.dap_msg.specs.declared.items.Item.TheVariants.{Whole}
use Rattle.rec_file.specs.declared.shapes.Shape.{Shape}
use Rattle.rec_file.specs.Shapes.{checked_shape}
use Rattle.dap_accessed.specs.declared.asked.Asked.{Asked}
use Rattle.dap_accessed.specs.Asked.{plainly, asked_fully}
use Rattle.dap_accessed.specs.Standing.{ServerState, Ready, Store, Group}

-- the phase is Ready
abbrev pub is_ready : ServerState → Bool
is_ready Ready = true
is_ready _ = false

-- the phase is Store
abbrev pub is_store : ServerState → Bool
is_store (Store _ _) = true
is_store _ = false

-- the item is an Access
abbrev pub is_access : Item → Bool
is_access (Whole (Access _)) = true
is_access _ = false

-- the attributes, if the item is an Attributes message
abbrev pub attributes_in : Item → Option Attributes
attributes_in (Whole (Attrib attributes)) = Some attributes
attributes_in _ = None

-- the item is a Data message
abbrev pub is_filedata : Item → Bool
is_filedata (Whole (Filedata _ _)) = true
is_filedata _ = false

-- a Continue Transfer with skip, which resumes a Store
abbrev pub is_skip : Item → Bool
is_skip (Whole (Contran func)) = func == codes.confunc.skip
is_skip _ = false

-- ---- Attributes.

-- the groups in Ready since the Access before
abbrev pub since_access : List Group → List Group
since_access past = take_while (λ group. not (is_access group.first)) (filter (λ group. is_ready group.state) past)

-- the attributes of an Access: those of the last Attributes message in Ready since the Access before, or none
abbrev pub kept_attributes : List Group → Attributes
kept_attributes past =
    unwrap_or (slice_get (filter_map (λ group. attributes_in group.first) (since_access past)) 0) no_attributes

-- the shape that attributes name, if a file may have it
abbrev pub asked_shape : Attributes → Option Shape
asked_shape a = with_defaults checked_shape a

-- what attributes ask for, if a file may be made so: a server that isn't full keeps the shape alone
abbrev pub asked_file : (full : Bool) → Attributes → Option Asked
asked_file full a = if full then asked_fully a else option_map plainly (asked_shape a)

-- ---- A Store.

-- the groups of this Store, since its PUT
abbrev pub this_store : List Group → List Group
this_store past = take_while (λ group. is_store group.state) past

-- the ordinal stays at the maximum of 4 bytes
abbrev pub max_ordinal : ℕ
max_ordinal = 4294967295

-- how many Data messages this Store has had, also those that it dropped
abbrev pub ordinal_so_far : List Group → ℕ
ordinal_so_far past = min (length (filter (λ group. is_filedata group.first) (this_store past))) max_ordinal

-- the ordinal of the next Filedata
abbrev pub next_ordinal : ℕ → ℕ
next_ordinal n = min (n + 1) max_ordinal

-- a Data message of a Store that has an answer was refused
abbrev pub was_refused : Group → Bool
was_refused group = is_filedata group.first && nat_lt 0 (length group.answers)

-- a Data message of this Store was refused, and the Store wasn't resumed since
abbrev pub is_dropping : List Group → Bool
is_dropping past = list_any was_refused (take_while (λ group. not (is_skip group.first)) (this_store past))
