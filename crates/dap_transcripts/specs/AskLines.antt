-- Lines of `daplive ask` are calls of a client: the law `asked_transcripts_are_runs`.
use Rattle.std.specs.Prelude.{◌≡◌, ◌≢◌, ◌⊎◌, ◌++◌, ℕ, true, List, [], ◌∷◌, map, Option, Some}
use Rattle.std.specs.Io.BufRead.{drop_through, first_line}
use Rattle.nsp_link.specs.Link.{LinkValue}
use Rattle.dap_accessing.specs.Request.{Request}
use Rattle.dap_accessing.specs.declared.report.Report.{Report}
use Rattle.dap_end.specs.Asking.{HasAsked}
use Rattle.dap_end.specs.Calls.{AskingRuns}
use Rattle.dap_end.specs.Done.{nothing_asked}
use Rattle.dap_end.specs.Headline.{Arrival, WrittenPacket, written_bytes}
use Rattle.dap_end.specs.Ports.{new_port}
use Rattle.linewise.specs.declared.talking.Became.{Became}
use Rattle.linewise.specs.declared.talking.Became.TheVariants.{NoMemory}
use Rattle.dap_live.specs.declared.asking.Asking.{Asking}
use Rattle.dap_live.specs.declared.ask_orders.AskOrder.TheVariants as order
use Rattle.dap_live.specs.AskOrders.{ask_order_of}
use Rattle.dap_transcripts.specs.Transcripts.{AreSome, packet_lines, written_line}

-- ---- A line.

-- a line `> HEX` of a client
abbrev pub IsAskPacket : (line bytes : List ℕ) → Type 0
IsAskPacket line bytes = ask_order_of line ≡ Some (order.Packet bytes)

-- this is the packet of a line `> HEX`, which came to the link as it was
abbrev pub IsArrivalOfLine : (line : List ℕ) → LinkValue → List Arrival → Type 0
IsArrivalOfLine line link came = (bytes : List ℕ) × IsAskPacket line bytes × (came ≡ (link, bytes) ∷ [])

-- What a line did is a run of the client. No packet came, or that of a line `> HEX`. The lines of the answer that begin
-- with `<` are packets that were written, each once and in order; and where memory wasn't refused to the answer, all of
-- them. The reports follow those that waited, of which the first were told, and the others wait.
pub record AskLineRuns (line : List ℕ) (old new : Asking) (answer : List ℕ) (became : Option Became) : Type 0 where
  pub came : List Arrival
  pub requests : List Request
  pub reports : List Report
  pub wrote : List WrittenPacket
  pub runs : AskingRuns came requests old.end new.end reports wrote
  pub heard : (came ≡ []) ⊎ IsArrivalOfLine line old.end.port.link came
  pub packets : List (List ℕ)
  pub said : packet_lines answer ≡ map written_line packets
  pub are_some : AreSome packets (written_bytes wrote)
  pub are_all : became ≢ Some NoMemory → packets ≡ written_bytes wrote
  pub waits : (told : List Report) × (told ++ new.reports.items ≡ old.reports.items ++ reports)

-- the client begins anew, and no packet is told
abbrev pub BeginsAnew : Asking → (answer : List ℕ) → Type 0
BeginsAnew new answer = HasAsked nothing_asked new.end × (new.end.port ≡ new_port new.setup) × (packet_lines answer ≡ [])

-- an answer was unexpected, now or before
abbrev pub HasFailed : Asking → Type 0
HasFailed new = new.end.present.failed ≡ true

-- a line is a run; or the client begins anew, or has failed
abbrev pub AskLineHappened : (line : List ℕ) → (old new : Asking) → (answer : List ℕ) → Option Became → Type 0
AskLineHappened line old new answer became = AskLineRuns line old new answer became ⊎ (BeginsAnew new answer ⊎ HasFailed new)

-- ---- A transcript.

-- The lines of an input up to this suffix are such runs, line by line: all that a line did, and its answer, was before
-- the next one. The text is the answers, joined.
pub data RunsByLine : Asking → List ℕ → Asking → List ℕ → List ℕ → List (Option Became) → Type 0 where
  no_line_ran : {a : Asking} {input : List ℕ} → RunsByLine a input a input [] []
  one_line_ran : {old new : Asking} {input : List ℕ} (mid : Asking) (rest said more : List ℕ) (lines : List (Option Became)) (became : Option Became)
      → RunsByLine old input mid rest said lines → AskLineHappened (first_line rest) mid new more became
      → RunsByLine old input new (drop_through 10 rest) (said ++ more) (lines ++ became ∷ [])
