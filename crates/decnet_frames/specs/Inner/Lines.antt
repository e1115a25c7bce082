-- What the program keeps of lines that aren't over.
use Rattle.std.specs.Prelude.{◌≡◌, ◌⊎◌, ⊤, ℕ, ◌+◌, true, is_err, List, [], ◌∷◌, ◌++◌, length, filter, Option, Some, None, Ok}
use Rattle.capture_file.specs.Files.{bounded_count}
use Rattle.linewise.specs.declared.talking.Became.{Became}
use Rattle.linewise.specs.declared.talking.Became.TheVariants.{Done, BadLine, NoMemory}
use Rattle.dap_listing.specs.Lines.{Capture, line_of}
use Rattle.dap_listing.specs.Listing.{packet_limit}
use Rattle.decnet_frames.specs.Found.{FoundPacket, TakesAll, Taking}
use Rattle.decnet_frames.specs.Lines.{found_in, takes_packet}
use Rattle.decnet_frames.specs.Origins.{origin_of}
use Rattle.decnet_frames.specs.Inner.Progress.{taken_with}
use Rattle.decnet_frames.specs.declared.lines.Kept.{Kept}
use Rattle.decnet_frames.specs.declared.lines.Listing.{Listing}

-- the packet of a line that is taken, by the line directly before it
abbrev pub line_founds : Kept → Capture → List FoundPacket
line_founds kept capture = filter (takes_packet kept.between) (found_in (origin_of kept.before.items) capture ∷ [])

-- the packet of a line was taken or passed over; its line tells nothing of the packet after it
pub record TakesLine {T : Type 0} (taken : Taking T) (capture : Capture) (had : T) (old : Kept) (has : T) (new : Kept) (text : List ℕ) : Type 0 where
  pub takes : TakesAll taken had (line_founds old capture) has text
  pub between : new.between ≡ old.between
  pub count : new.count ≡ bounded_count (old.count + 1)
  pub taken_is : new.taken ≡ taken_with old.taken (line_founds old capture)
  pub before : new.before.items ≡ []

-- and the reference to the taker stays
abbrev pub ListsLine : {T : Type 0} → Taking T → Capture → Listing T → Listing T → List ℕ → Type 0
ListsLine taken capture old new text =
    TakesLine taken capture old.taker.now old.kept.now new.taker.now new.kept.now text × (new.taker.ghost_name ≡ old.taker.ghost_name)

-- a line without a packet: what is kept then tells what the line tells
pub record PassesBy {T : Type 0} (line : List ℕ) (old new : Listing T) : Type 0 where
  pub taker : new.taker.now ≡ old.taker.now
  pub between : new.kept.now.between ≡ old.kept.now.between
  pub count : new.kept.now.count ≡ old.kept.now.count
  pub taken_is : new.kept.now.taken ≡ old.kept.now.taken
  pub before : origin_of new.kept.now.before.items ≡ origin_of line
  pub same : new.taker.ghost_name ≡ old.taker.ghost_name

-- A line's packet is taken or passed over. A line that is missed, and a bad one, is passed by as an empty one is.
abbrev pub answered : {T : Type 0} → Taking T → Listing T → Option (List ℕ) → Listing T → List ℕ → Became → Type 0
answered taken old None new text became = PassesBy [] old new
answered taken old (Some line) new text Done =
    ((line_of packet_limit line ≡ Ok None) × PassesBy line old new × (text ≡ []))
    ⊎ ((capture : Capture) × (line_of packet_limit line ≡ Ok (Some capture)) × ListsLine taken capture old new text)
answered taken old (Some line) new text BadLine = (is_err (line_of packet_limit line) ≡ true) × PassesBy [] old new × (text ≡ [])
answered taken old (Some line) new text NoMemory = (text ≡ []) × (new.taker.ghost_name ≡ old.taker.ghost_name)

-- its answers have no ending
abbrev pub waiting : {T : Type 0} → Listing T → Option ℕ
waiting l = None

-- and come in one piece
abbrev pub no_pieces : {T : Type 0} → Listing T → ⊤ → List (List ℕ)
no_pieces l cursor = []

-- no line was read yet
pub record LinesStart {T : Type 0} (l : Listing T) : Type 0 where
  pub count : l.kept.now.count ≡ 0
  pub taken_is : l.kept.now.taken ≡ 0
  pub before : l.kept.now.before.items ≡ []
