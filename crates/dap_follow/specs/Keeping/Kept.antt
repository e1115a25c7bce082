-- What the program keeps of a stream that isn't over.
use Rattle.std.specs.Prelude.{◌≡◌, ◌⊎◌, ⊤, ℕ, sum_by, ◌+◌, ◌^◌, ◌<◌, ◌≤◌, ◌==◌, ◌&&◌, nat_le, not, true, false, Bool, List, [], ◌∷◌, ◌++◌, length, take, drop, max, if◌then◌else◌, Option, Some, None, is_some}
use Rattle.std.specs.List.{AllByRecursion, filter, flat_map}
use Rattle.nsp_seg.specs.declared.packet.SegmentFields.{SegmentFields}
use Rattle.dap_follow.specs.Streams.{IsNear, Sequenced, at}
use Rattle.dap_follow.specs.Joined.{Fragment, is_message, latest, payload, fragments_of, tail}
use Rattle.dap_follow.specs.Segments.{sequenced_at}
use Rattle.dap_follow.specs.Room.{entry_room, piece_room, segment_room, stream_room}
use Rattle.dap_follow.specs.Listed.{whole_with}
use Rattle.dap_follow.specs.Keeping.Pieces.{IsPut, Rises, all_segments, glue}
use Rattle.dap_follow.specs.declared.kept.Kept.{Kept}
use Rattle.dap_follow.specs.declared.kept.KeptSegments.{KeptSegments}
use Rattle.dap_follow.specs.declared.kept.Whole.{Whole}

-- ---- one of the program

-- the bytes of all payloads
abbrev pub kept_bytes : Kept → List ℕ
kept_bytes k = flat_map (λ payload. payload.items) k.payloads.items

-- in a row, and of a message that isn't whole, or both listed
abbrev pub do_join : Kept → Kept → Bool
do_join a b = (b.from == a.to + 1) && (if a.listed then b.listed else (not b.listed && not a.last && not b.first))

-- a segment under its sequence number
pub record IsSegment (sequence : ℕ) (c : SegmentFields) (k : Kept) : Type 0 where
  pub from : k.from ≡ sequence
  pub to : k.to ≡ sequence
  pub first : k.first ≡ c.first
  pub last : k.last ≡ c.last
  pub listed : k.listed ≡ false
  pub room : k.room ≡ segment_room c.payload
  pub bytes : kept_bytes k ≡ c.payload

-- two as one
pub record IsAbsorbed (one other joined : Kept) : Type 0 where
  pub from : joined.from ≡ one.from
  pub to : joined.to ≡ other.to
  pub first : joined.first ≡ one.first
  pub last : joined.last ≡ other.last
  pub listed : joined.listed ≡ one.listed
  pub room : joined.room ≡ (if one.listed then one.room else one.room + other.room)
  pub bytes : kept_bytes joined ≡ kept_bytes one ++ kept_bytes other

-- each ends before those after it do
abbrev pub Ascends : List Kept → Type 0
Ascends [] = ⊤
Ascends (k ∷ others) = AllByRecursion (λ other. k.to < other.to) others × Ascends others

-- the sequence number is in the first of those that don't end below it
abbrev pub is_taken : ℕ → List Kept → Bool
is_taken sequence [] = false
is_taken sequence (k ∷ others) = nat_le k.from sequence

-- ---- neighbours

-- the first of these isn't joined
abbrev pub IsApart : Kept → List Kept → Type 0
IsApart piece [] = ⊤
IsApart piece (k ∷ others) = do_join piece k ≡ false

-- the last of these isn't joined
abbrev pub IsLastApart : List Kept → Kept → Type 0
IsLastApart front piece = (others : List Kept) (k : Kept) → front ≡ others ++ k ∷ [] → do_join k piece ≡ false

-- the next one is joined, or isn't in a row
abbrev pub AbsorbsAfter : ℕ → List Kept → Kept → List Kept → Kept → Type 0
AbsorbsAfter index old piece new joined =
    ((new ≡ old) × (joined ≡ piece) × IsApart piece (drop index old))
    ⊎ ((after : Kept) × (others : List Kept) × (drop index old ≡ after ∷ others) × (new ≡ take index old ++ others)
    × (do_join piece after ≡ true) × IsAbsorbed piece after joined)

-- the one before
abbrev pub AbsorbsBefore : ℕ → List Kept → Kept → ℕ → List Kept → Kept → Type 0
AbsorbsBefore index old piece now new joined =
    ((new ≡ old) × (now ≡ index) × (joined ≡ piece) × IsLastApart (take index old) piece)
    ⊎ ((before : Kept) × (others : List Kept) × (take index old ≡ others ++ before ∷ []) × (new ≡ others ++ drop index old) × (now ≡ length others)
    × (do_join before piece ≡ true) × IsAbsorbed before piece joined)

-- ---- the room of each

-- the bytes of room that these take
abbrev pub rooms : List Kept → ℕ
rooms ks = sum_by (λ k. k.room) ks

-- these take this room
abbrev pub IsRoomOf : (held : ℕ) → List Kept → Type 0
IsRoomOf held ks = held ≡ rooms ks

-- what is listed takes the room of one entry
abbrev pub IsEntry : Kept → Type 0
IsEntry k = k.listed ≡ true → k.room ≡ entry_room

-- all are entries, and none is joined with the next one
abbrev pub AreEntries : List Kept → Type 0
AreEntries [] = ⊤
AreEntries (k ∷ others) = IsEntry k × IsApart k others × AreEntries others

-- One stands between others, which don't join it.
pub record StandsBetween (front : List Kept) (k : Kept) (back : List Kept) : Type 0 where
  pub entry : IsEntry k
  pub front_entries : AreEntries front
  pub before : IsLastApart front k
  pub after : IsApart k back
  pub back_entries : AreEntries back

-- ---- what it stands for

-- messages one after another without a gap, from one sequence number to another
abbrev pub AreListed : ℕ → ℕ → List Fragment → Type 0
AreListed from to [] = ⊥
AreListed from to (m ∷ []) = (is_message m ≡ true) × (m.head.sequence ≡ from) × ((tail m).sequence ≡ to)
AreListed from to (m ∷ n ∷ ms) = (is_message m ≡ true) × (m.head.sequence ≡ from) × AreListed ((tail m).sequence + 1) to (n ∷ ms)

-- a piece of a stream
pub record IsOpen (k : Kept) (p : Fragment) : Type 0 where
  pub from : k.from ≡ p.head.sequence
  pub to : k.to ≡ (tail p).sequence
  pub first : k.first ≡ p.head.first
  pub last : k.last ≡ (tail p).last
  pub listed : k.listed ≡ false
  pub room : k.room ≡ piece_room p
  pub bytes : kept_bytes k ≡ payload p

-- these pieces
abbrev pub HoldsPieces : Kept → List Fragment → Type 0
HoldsPieces k ps = ((k.listed ≡ true) × AreListed k.from k.to ps) ⊎ ((p : Fragment) × (ps ≡ p ∷ []) × IsOpen k p)

-- and what isn't listed is no message
abbrev pub Stays : Kept → List Fragment → Type 0
Stays k ps = HoldsPieces k ps × (k.listed ≡ false → AllByRecursion (λ p. is_message p ≡ false) ps)

-- all pieces of a stream, in order
abbrev pub KeepsPieces : List Fragment → List Kept → Type 0
KeepsPieces ps [] = ps ≡ []
KeepsPieces ps (k ∷ ks) =
    (held rest : List Fragment) × (ps ≡ held ++ rest) × Stays k held × KeepsPieces rest ks

-- ---- one between others

-- It took the neighbours that it joins: the pieces before it, its pieces and those after it are now these. Where it
-- isn't listed, no message became of it or was lost but in the middle.
pub record Regroups (xs ys zs : List Fragment) (piece : Kept) (front : List Kept) (joined : Kept) (back : List Kept) : Type 0 where
  pub before : List Fragment
  pub these : List Fragment
  pub those_after : List Fragment
  pub front_keeps : KeepsPieces before front
  pub holds : HoldsPieces joined these
  pub back_keeps : KeepsPieces those_after back
  pub all : glue xs (glue ys zs) ≡ before ++ (these ++ those_after)
  pub kind : joined.listed ≡ piece.listed
  pub messages : piece.listed ≡ false → (filter is_message before ≡ filter is_message xs) × (filter is_message those_after ≡ filter is_message zs)
  pub later : latest (all_segments ys) ≤ latest (all_segments these)

-- So it does whatever stands for all. It takes no more room with those that it joins than they took.
pub record Joins (index : ℕ) (old : List Kept) (piece : Kept) (now : ℕ) (new : List Kept) (joined : Kept) : Type 0 where
  pub within : now ≤ length new
  pub regroups : (xs ys zs : List Fragment) → KeepsPieces xs (take index old) → HoldsPieces piece ys → KeepsPieces zs (drop index old)
      → Regroups xs ys zs piece (take now new) joined (drop now new)
  pub room : rooms new + joined.room ≤ rooms old + piece.room
  pub grows : piece.listed ≡ false → piece.room ≤ joined.room
  pub entries : IsEntry piece → AreEntries (take index old) → AreEntries (drop index old) → StandsBetween (take now new) joined (drop now new)

-- a message is kept as listed, and these are its bytes
pub record Lists (index : ℕ) (old : List Kept) (message : Kept) (new : List Kept) (bytes : List ℕ) (whole : Whole) : Type 0 where
  pub from : whole.from ≡ message.from
  pub to : whole.to ≡ message.to
  pub bytes_are : bytes ≡ kept_bytes message
  pub keeps : (xs zs : List Fragment) (m : Fragment) → is_message m ≡ true → message.from ≡ m.head.sequence → message.to ≡ (tail m).sequence
      → KeepsPieces xs (take index old) → KeepsPieces zs (drop index old)
      → KeepsPieces (xs ++ m ∷ zs) new
  pub room : rooms new ≤ rooms old + entry_room
  pub entries : AreEntries (take index old) → AreEntries (drop index old) → AreEntries new

-- the sequence numbers and the bytes of a message
pub record IsWholeMessage (bytes : List ℕ) (w : Whole) (m : Fragment) : Type 0 where
  pub message : is_message m ≡ true
  pub from : w.from ≡ m.head.sequence
  pub to : w.to ≡ (tail m).sequence
  pub bytes_are : bytes ≡ payload m

-- it is a message, and returned; or it is none
abbrev pub IsListedPiece : List ℕ → Option Whole → Fragment → Type 0
IsListedPiece bytes None m = is_message m ≡ false
IsListedPiece bytes (Some w) m = IsWholeMessage bytes w m

-- A segment was put between pieces: one piece has it.
pub record Settles (xs ys zs : List Fragment) (new : List Kept) (bytes : List ℕ) (found : Option Whole) : Type 0 where
  pub before : List Fragment
  pub piece : Fragment
  pub those_after : List Fragment
  pub all : glue xs (glue ys zs) ≡ before ++ piece ∷ those_after
  pub keeps : KeepsPieces (before ++ piece ∷ those_after) new
  pub told : IsListedPiece bytes found piece
  pub messages : (filter is_message before ≡ filter is_message xs) × (filter is_message those_after ≡ filter is_message zs)
  pub later : latest (all_segments ys) ≤ latest (piece.head ∷ piece.others)

-- a segment is put between others, and the message that is whole with it is listed
pub record Puts (index : ℕ) (old : List Kept) (segment : Kept) (new : List Kept) (bytes : List ℕ) (found : Option Whole) : Type 0 where
  pub settles : (xs ys zs : List Fragment) → segment.listed ≡ false → KeepsPieces xs (take index old) → HoldsPieces segment ys → KeepsPieces zs (drop index old)
      → Settles xs ys zs new bytes found
  pub room : segment.listed ≡ false → entry_room ≤ segment.room → rooms new ≤ rooms old + segment.room
  pub entries : segment.listed ≡ false → AreEntries (take index old) → AreEntries (drop index old) → AreEntries new

-- ---- a stream

-- what is kept of a stream with these segments in order, all of packets below a number
pub record KeepsSequenced (packet : ℕ) (ordered : List Sequenced) (p : KeptSegments) : Type 0 where
  pub keeps : KeepsPieces (fragments_of ordered) p.kept.items
  pub rises : Rises ordered
  pub numbered : AllByRecursion (λ s. s.packet < packet) ordered
  pub low : 4096 ≤ p.highest
  pub held : p.held ≡ stream_room ordered
  pub measured : IsRoomOf p.held p.kept.items
  pub entries : AreEntries p.kept.items

-- the messages that are whole with the packet: none, or the one that is returned
abbrev pub AreTold : ℕ → List ℕ → Option Whole → List Fragment → Type 0
AreTold packet bytes None ms = ms ≡ []
AreTold packet bytes (Some w) ms = (m : Fragment) × (ms ≡ m ∷ []) × (whole_with m ≡ packet) × IsWholeMessage bytes w m

-- the segment of a packet was put under its sequence number, and messages became whole with it
pub record Found (packet : ℕ) (c : SegmentFields) (ordered : List Sequenced) (old new : KeptSegments) (bytes : List ℕ) (found : Option Whole) : Type 0 where
  pub sequence : ℕ
  pub near : IsNear old.highest c.number sequence
  pub highest : new.highest ≡ max old.highest sequence
  pub later : List Sequenced
  pub put : IsPut ordered (sequenced_at sequence (packet, c)) later
  pub keeps : KeepsPieces (fragments_of later) new.kept.items
  pub held : new.held ≡ stream_room later
  pub measured : IsRoomOf new.held new.kept.items
  pub entries : AreEntries new.kept.items
  pub more : new.held ≤ old.held + segment_room c.payload
  pub ms : List Fragment
  pub added : (front back : List Fragment) × (filter is_message (fragments_of ordered) ≡ front ++ back) × (filter is_message (fragments_of later) ≡ front ++ (ms ++ back))
  pub told : AreTold packet bytes found ms

-- a segment comes to a stream: it is kept where its sequence number is new, and a message may be whole with it
abbrev pub Finds : SegmentFields → KeptSegments → KeptSegments → List ℕ → Option Whole → Type 0
Finds c old new bytes found =
    (ordered : List Sequenced) (packet : ℕ) → KeepsSequenced packet ordered old → old.highest < 2 ^ 62
    → Found packet c ordered old new bytes found

-- a segment with this number is another that came, or its sequence number is new
abbrev pub KnowsNumber : (number : ℕ) → KeptSegments → Bool → Type 0
KnowsNumber number p has =
    (ordered : List Sequenced) (packet : ℕ) → KeepsSequenced packet ordered p → p.highest < 2 ^ 62
    → (sequence : ℕ) × IsNear p.highest number sequence × (has ≡ is_some (at sequence ordered))
