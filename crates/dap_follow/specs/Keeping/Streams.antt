-- What is kept of the streams that haven't ended.
use Rattle.std.specs.Prelude.{◌≡◌, ◌⊎◌, ℕ, ◌+◌, ◌*◌, ◌≤◌, ◌<◌, Bool, true, false, List, [], ◌∷◌, ◌++◌, length, Option}
use Rattle.std.specs.List.{AllByRecursion, AllZip, flat_map}
use Rattle.nsp_seg.specs.declared.packet.SegmentFields.{SegmentFields}
use Rattle.dap_follow.specs.Streams.{AreOrdered, AreSequenced, NumberedSegment, OpenStream, Sequenced, at, is_same_stream, continued}
use Rattle.dap_follow.specs.Ends.{is_of_address}
use Rattle.dap_follow.specs.Joined.{Fragment}
use Rattle.dap_follow.specs.Listed.{whole_at}
use Rattle.dap_follow.specs.Segments.{highest_in}
use Rattle.dap_follow.specs.Room.{last_packet}
use Rattle.dap_follow.specs.declared.initiate.Initiate.{Initiate}
use Rattle.dap_follow.specs.declared.streams.Stream.{Stream}
use Rattle.dap_follow.specs.Keeping.Kept.{AreTold, KeepsSequenced}
use Rattle.dap_follow.specs.declared.kept.KeptSegments.{KeptSegments}
use Rattle.dap_follow.specs.declared.kept.Whole.{Whole}

-- the streams and what is kept of each, as the program has them
abbrev pub Entries : Type 0
Entries = List (Stream × KeptSegments)

-- a connect initiate ends the stream
abbrev pub ends_stream : Initiate → Stream → Bool
ends_stream i stream = is_of_address i.way i.nodes i.address stream

-- the segments of a stream, of which there is a first, all of packets below a number; and what is kept of them
pub record KeepsCame (number : ℕ) (came : List NumberedSegment) (ordered : List Sequenced) (p : KeptSegments) : Type 0 where
  pub first : NumberedSegment
  pub others : List NumberedSegment
  pub are : came ≡ first ∷ others
  pub sequenced : List Sequenced
  pub are_sequenced : AreSequenced (first.1.number + 4096) (first ∷ others) sequenced
  pub same : (sequence : ℕ) → at sequence ordered ≡ at sequence sequenced
  pub highest : p.highest ≡ highest_in (first.1.number + 4096) sequenced
  pub keeps : KeepsSequenced number ordered p
  pub most : p.highest ≤ 8192 + 2048 * number
  pub last : p.last_packet ≡ last_packet came
  pub recent : p.last_packet < number

-- a stream that is open before the packet with a number
abbrev pub KeepsOpen : ℕ → OpenStream → Stream × KeptSegments → Type 0
KeepsOpen number o e = (o.name ≡ e.0) × (ordered : List Sequenced) × KeepsCame number o.came ordered e.1

-- a stream has an index; where it is new, no segment of it is kept yet
pub record IsIndexed (stream : Stream) (number : ℕ) (old new : Entries) (index : ℕ) : Type 0 where
  pub small : number < 4096
  pub front : Entries
  pub back : Entries
  pub name : Stream
  pub kept : KeptSegments
  pub all : new ≡ front ++ (name, kept) ∷ back
  pub at : index ≡ length front
  pub same : is_same_stream stream name ≡ true
  pub others : AllByRecursion (λ e. is_same_stream stream e.0 ≡ false) front
  pub case : (old ≡ new)
      ⊎ ((old ≡ front) × (back ≡ []) × (name ≡ stream) × (kept.highest ≡ number + 4096) × (kept.kept.items ≡ []) × (kept.held ≡ 0))

-- A segment came to its stream: the messages that are whole with its packet are none, or the one that is returned.
pub record Continues (number : ℕ) (stream : Stream) (c : SegmentFields) (opens : List OpenStream) (new : Entries) (bytes : List ℕ) (found : Option Whole) : Type 0 where
  pub keeps : AllZip (KeepsOpen (number + 1)) (continued stream (number, c) opens) new
  pub ordered : List (List Sequenced)
  pub are_ordered : AllZip AreOrdered (continued stream (number, c) opens) ordered
  pub ms : List Fragment
  pub whole : flat_map (whole_at number) ordered ≡ ms
  pub told : AreTold number bytes found ms
