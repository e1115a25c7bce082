-- What a client does by a line, and what it answers.
use Rattle.std.specs.Prelude.{false, true, ◌≡◌, ◌⊎◌, ℕ, ◌++◌, Bool, MatchBool, not, ◌&&◌, ◌||◌, List, [], ◌∷◌, codes, Option, Some, None, Result, Err}
use Rattle.std.specs.List.{concat}
use Rattle.std.specs.Fmt.{decimal}
use Rattle.nsp_link.specs.declared.link.Got.{Got}
use Rattle.nsp_link.specs.declared.link.LinkSetup.{LinkSetup}
use Rattle.nsp_link.specs.Link.{IsSetup, SetupFault}
use Rattle.dap_msg.specs.declared.message.Configuration.{Configuration}
use Rattle.dap_accessing.specs.Request.{Request}
use Rattle.dap_accessing.specs.declared.request.Request.TheVariants.{Fetch}
use Rattle.dap_accessing.specs.declared.fault.AskFault.{AskFault}
use Rattle.dap_accessing.specs.declared.fault.AskFault.TheVariants.{Busy}
use Rattle.dap_accessing.specs.Calls.{AskRefused}
use Rattle.dap_end.specs.declared.fault.EndFault.{EndFault}
use Rattle.dap_end.specs.declared.fault.TakeFault.{TakeFault}
use Rattle.dap_end.specs.declared.fault.TakeFault.TheVariants as take
use Rattle.dap_end.specs.Ports.{new_port}
use Rattle.dap_end.specs.Asking.{AskedOne, HasAsked}
use Rattle.dap_end.specs.Hearing.{hears}
use Rattle.dap_end.specs.Done.{AskingValue, nothing_asked}
use Rattle.dap_end.specs.Turns.{TakesPacket, WentOn}
use Rattle.linewise.specs.declared.talking.Became.{Became}
use Rattle.linewise.specs.declared.talking.Became.TheVariants.{Done, BadLine, NoMemory}
use Rattle.dap_live.specs.declared.asking.Asking.{Asking}
use Rattle.dap_live.specs.declared.asking.Came.{Came}
use Rattle.dap_live.specs.declared.asking.Came.TheVariants.{Told, Untold}
use Rattle.dap_live.specs.declared.ask_orders.AskOrder.{AskOrder}
use Rattle.dap_live.specs.declared.ask_orders.AskOrder.TheVariants as order
use Rattle.dap_live.specs.AskOrders.{ask_order_of}
use Rattle.dap_live.specs.Orders.{setup_anew}
use Rattle.dap_live.specs.Sending.{AllAgain, SaysAck, UnlessFailed, has_message, is_left, waits_of}
use Rattle.texts.specs.Text.{line_feed}
use Rattle.dap_live.specs.Texts.{ask_refusal, done_said, link_refusal, packets_text, taken_said}
use Rattle.dap_live.specs.Each.{each_after, told_after, told_text, waits_told}
use Rattle.dap_live.specs.Both.{DoneOr, LeavesEnd}

-- only the end and its reports changed
abbrev pub OnEnd : Asking → Asking → Type 0
OnEnd old new = new ≡ record old { end = new.end; reports = new.reports }

-- ---- A packet.

-- the answer has what waits to be reported, unless the link refused the packet
abbrev pub came_by : Result Got TakeFault → Became → Came
came_by (Err (take.Refused f)) became = Untold became
came_by _ became = Told became

-- A packet was received, and all was done that it lets the client do; or it was refused.
pub record HearsPacket (old : Asking) (bytes : List ℕ) (new : Asking) (text : List ℕ) (came : Came) : Type 0 where
  pub taken : Result Got TakeFault
  pub packets : List (List ℕ)
  pub took : TakesPacket (hears old.reports.items new.reports.items)
      old.end new.end bytes [] packets taken
  pub rest : OnEnd old new
  pub says : text ≡ (taken_said taken (told_text new) packets).0
  pub ended : came ≡ came_by taken (taken_said taken (told_text new) packets).1

-- ---- Going on.

-- what the client answers by going on, after this text
pub record ClientGoesOn (old : Asking) (front : List ℕ) (new : Asking) (text : List ℕ) (came : Came) : Type 0 where
  pub gone : Result (Unit {0}) EndFault
  pub packets : List (List ℕ)
  pub went : WentOn (hears old.reports.items new.reports.items) old.end new.end [] packets gone
  pub rest : OnEnd old new
  pub says : text ≡ front ++ (done_said (told_text new) packets gone).0
  pub ended : came ≡ Told (done_said (told_text new) packets gone).1

-- it answers what waits to be reported, after this text
abbrev pub TellsAlone : (old : Asking) → (front : List ℕ) → (new : Asking) → List ℕ → Came → Type 0
TellsAlone old front new text came = (new ≡ old) × (text ≡ front ++ told_text old) × (came ≡ Told Done)

-- Apart from memory, the client would do something by going on: a message that came isn't read, or something is left
-- to send. After an unexpected answer it does nothing more.
abbrev pub has_more : AskingValue → Bool
has_more end = not end.present.failed && (has_message end.port.link || is_left end.port.link end.port.outbox false)

-- the packets of all segments that aren't acknowledged, then what going on does, or else what waits to be reported
abbrev pub Resends : Asking → Asking → List ℕ → Came → Type 0
Resends old new text came = (packets : List (List ℕ)) × AllAgain old.end.port.link packets
    × MatchBool (has_more old.end) (ClientGoesOn old (packets_text packets) new text came) (TellsAlone old (packets_text packets) new text came)

-- ---- A request.

-- a client of which this was asked: none of its records was reported
abbrev pub begun : (each : Bool) → Request → Asking → Asking
begun each request asking = record asking { is_each = each_after each request asking.is_each; told = 0 }

-- The request isn't asked, and the reason is answered. Where a report is still due, the client goes on.
abbrev pub AsksNot : Asking → Asking → List ℕ → Came → AskFault → Type 0
AsksNot old new text came Busy = ClientGoesOn old (ask_refusal Busy).0 new text came
AsksNot old new text came f = (new ≡ old) × (text ≡ (ask_refusal f).0) × (came ≡ Untold (ask_refusal f).1)

-- The request is asked, the number of its messages is answered, and the client goes on; or it isn't asked. It says that
-- each record is reported by itself, or doesn't.
abbrev pub AnswersAsk : (each : Bool) → Asking → Request → Asking → List ℕ → Came → Type 0
AnswersAsk each old request new text came =
    ((count : ℕ) × (mid : AskingValue) × AskedOne request old.end mid count
    × ClientGoesOn (begun each request (record old { end = mid })) (concat (codes "asked " ∷ decimal count ∷ line_feed ∷ [])) new text came)
    ⊎ ((f : AskFault) × AskRefused request old.end.present f × AsksNot old new text came f)

-- ---- A new link.

-- a new client that says this of itself, on a link with this setup
pub record IsNewAsking (setup : LinkSetup) (identity : Configuration) (a : Asking) : Type 0 where
  pub asked : HasAsked nothing_asked a.end
  pub port : a.end.port ≡ new_port setup
  pub is_identity : a.end.present.identity ≡ identity
  pub is_setup : a.setup ≡ setup
  pub reports : a.reports.items ≡ []
  pub each : a.is_each ≡ false
  pub told : a.told ≡ 0

-- ---- A line.

-- what the client does by each order, and its answer
abbrev pub AskingDoes : Asking → AskOrder → Asking → List ℕ → Came → Type 0
AskingDoes old (order.Packet bytes) new text came = HearsPacket old bytes new text came
AskingDoes old order.Resend new text came = UnlessFailed old.end.port.link text (LeavesEnd (Untold Done) old new came) (Resends old new text came)
AskingDoes old order.Ack new text came =
    LeavesEnd (Untold Done) old new came × SaysAck old.end.port.link text
AskingDoes old (order.New anew) new text came =
    let setup = setup_anew old.setup anew in
    DoneOr Untold (IsSetup setup × IsNewAsking setup old.end.present.identity new) (SetupFault setup) link_refusal old new text came
AskingDoes old (order.Ask request) new text came =
    UnlessFailed old.end.port.link text (LeavesEnd (Untold Done) old new came) (AnswersAsk false old request new text came)
AskingDoes old order.FetchEach new text came = UnlessFailed old.end.port.link text (LeavesEnd (Untold Done) old new came) (AnswersAsk true old Fetch new text came)

-- All was reported that waited: no report waits, nor a record of a batch under way where each is reported by itself.
abbrev pub WasTold : Asking → Asking → Type 0
WasTold old new = (new ≡ record old { reports = new.reports; told = told_after old }) × (new.reports.items ≡ [])

-- If the answer has what waits to be reported, it doesn't wait afterwards; otherwise it waits as before.
abbrev pub Ends : Came → Asking → Asking → Became → Type 0
Ends (Told was) old new became = WasTold old new × (became ≡ was)
Ends (Untold was) old new became = (new ≡ old) × (became ≡ was)

-- what an order does, and what waits to be reported after its answer
abbrev pub DoesAll : Asking → AskOrder → Asking → List ℕ → Became → Type 0
DoesAll old o new text became = (mid : Asking) × (came : Came) × AskingDoes old o mid text came × Ends came mid new became

-- A line that is no order changes nothing and is a bad line. Otherwise the order is done; or memory is refused to its
-- answer, and nothing else is answered, whether it was done or not: what waits to be reported still waits.
abbrev pub DoesAskOrder : Asking → Option AskOrder → Asking → List ℕ → Became → Type 0
DoesAskOrder old None new text became = (new ≡ old) × (text ≡ []) × (became ≡ BadLine)
DoesAskOrder old (Some o) new text became =
    DoesAll old o new text became
    ⊎ (((new ≡ old) ⊎ ((said : List ℕ) × (came : Came) × AskingDoes old o new said came)) × (text ≡ []) × (became ≡ NoMemory))

-- What a client does by a line; one that it misses changes nothing.
abbrev pub answered : Asking → Option (List ℕ) → Asking → List ℕ → Became → Type 0
answered old None new text became = new ≡ old
answered old (Some line) new text became = DoesAskOrder old (ask_order_of line) new text became

-- the packets that aren't acknowledged, and one more where going on would do something, or something waits to be
-- reported
abbrev pub waiting : Asking → Option ℕ
waiting asking = Some (waits_of asking.end.port.link (has_more asking.end || waits_told asking))
