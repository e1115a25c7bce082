-- What a world holds, and the state of the machine for which it stands.
use Rattle.std.specs.Prelude.{◌≡◌, ◌⊎◌, ℕ, ◌+◌, ◌≤◌, max, List, [], ◌∷◌, ◌++◌, length, map, take, drop}
use Rattle.dap_msg.specs.declared.message.Message.{Message}
use Rattle.dap_msg.specs.declared.items.Item.{Item}
use Rattle.dap_msg.specs.declared.items.Item.TheVariants.{Whole}
use Rattle.dap_msg.specs.Canon.{canon}
use Rattle.dap_msg.specs.Blocked.{NspMessage, blocked_bytes, Blocked, all_joined, messages_in, AllFit}
use Rattle.nsp_link.specs.declared.link.LinkSetup.{LinkSetup}
use Rattle.dap_msg.specs.BothEnds.{plain_identity}
use Rattle.dap_accessed.specs.Setup.{plain_setup}
use Rattle.std.specs.Map.{keys_of}
use Rattle.nsp_link.specs.Limits.{max_limit}
use Rattle.dap_accessed.specs.Present as accessed
use Rattle.dap_accessing.specs.Present as accessing
use Rattle.dap_accessing.specs.Request.{Request}
use Rattle.dap_accessing.specs.declared.report.Report.{Report}
use Rattle.dap_world.specs.Plain.{Asked, messages_of}
use Rattle.dap_events.specs.declared.event.End.{End}
use Rattle.dap_events.specs.declared.event.End.TheVariants.{A, B}
use Rattle.dap_world.specs.Machine.{State, EndState, sent_by, served_by_b, answers_read, reports_by_a}
use Rattle.dap_world.specs.Inner.Worlds.{IsWorld}
use Rattle.dap_end.specs.Asking.{HasAsked}
use Rattle.dap_end.specs.Done.{AskingValue, ClientHistory}
use Rattle.dap_end.specs.Serving.{IsAfter}
use Rattle.dap_end.specs.Done.{ServingValue, ServerHistory, answers_to}
use Rattle.dap_world.specs.Wires.{end_address, sending_of}
use Rattle.dap_world.specs.Inner.Sides.{SideValue, port_of, AreWithinLimit}
use Rattle.dap_world.specs.Inner.Ways.{IsWay}

pub record Parts : Type 0 where
  pub a : SideValue
  pub b : SideValue
  pub accessing : accessing.ClientState
  pub accessed : accessed.Present
  pub requests : List Request
  pub sent : List (List ℕ)  -- the DAP messages in what A passed to its link
  pub served : ℕ  -- how many of them B served
  pub reports : List Report
  pub read : ℕ  -- the answers that A read

-- ---- What both ends have to send, as NSP messages.

-- those of each request; no message of Hello can be joined to another, so the limit before it doesn't show
abbrev pub asked_packets : (own_a own_b : ℕ) → List Request → List NspMessage
asked_packets own_a own_b [] = []
asked_packets own_a own_b (request ∷ requests) = Blocked own_b (messages_of own_a request) ++ asked_packets own_a own_b requests

-- those of the answers to each item, served after those before it
abbrev pub answer_packets : (own : ℕ) → (before items : List Item) → List NspMessage
answer_packets own before items = answers_to (plain_setup own) [] before items

-- the messages that B served, by their number
abbrev pub served_items : Parts → List Item
served_items p = map Whole (take p.served (Asked p.accessing.own p.requests))

abbrev pub asked_messages : Parts → List NspMessage
asked_messages p = asked_packets p.accessing.own p.accessed.own p.requests

abbrev pub answers : Parts → List NspMessage
answers p = answer_packets p.accessed.own [] (served_items p)

-- ---- The state.

-- of these NSP messages, this many were passed on, and the others wait
abbrev pub end_state : SideValue → List NspMessage → EndState
end_state s packets =
    record {
      waiting = drop s.posted packets;
      handed = take s.posted packets;
      sent = s.link.sent;
      acked = s.link.acked;
      taken = s.link.coming.received;
      held = keys_of s.link.held;
      wire = map sending_of s.wire;
    }

abbrev pub state_of : Parts → State
state_of p =
    record {
      seg_size = p.a.link.setup.seg_size;
      window = p.a.link.setup.window;
      own_a = p.accessing.own;
      own_b = p.accessed.own;
      requests = p.requests;
      a = end_state p.a (asked_messages p);
      b = end_state p.b (answers p);
      served = p.served;
      read = p.read;
    }

abbrev pub side : Parts → End → SideValue
side p A = p.a
side p B = p.b

abbrev pub with_side : Parts → End → SideValue → Parts
with_side p A s = record p { a = s }
with_side p B s = record p { b = s }

-- ---- The ends.

abbrev pub asking_end : Parts → AskingValue
asking_end p = record { port = port_of p.a; present = p.accessing }

abbrev pub serving_end : Parts → ServingValue
serving_end p = record { port = port_of p.b; present = p.accessed }

-- whatever else it did on its link, it was asked these and read these, or served these
abbrev pub IsAskedAll : AskingValue → List Request → (answers : List Item) → Type 0
IsAskedAll v requests answers = (past : ClientHistory) × HasAsked (record past { requests = requests; answers = answers }) v

abbrev pub IsServedAll : ServingValue → List Item → Type 0
IsServedAll v items = (past : ServerHistory) × IsAfter (record past { first = []; items = items }) v

-- ---- What is true of them.

-- the links have one size, one window and one limit, and the second one is that of A
pub record AreAlike (s t : LinkSetup) : Type 0 where
  pub here : t.local ≡ end_address A
  pub there : t.remote ≡ end_address B
  pub size : s.seg_size ≡ t.seg_size
  pub window : s.window ≡ t.window
  pub limit : s.max_message ≡ t.max_message

-- Of the first messages in NSP messages this many were processed: all those of some NSP messages, which left the link,
-- and the first of the next one, which stays while one of it is left; the offset is after these.
pub record IsAmong (packets : List NspMessage) (count offset : ℕ) (gone : List NspMessage) : Type 0 where
  pub begun : List Message
  pub rest : List NspMessage
  pub split : packets ≡ gone ++ rest
  pub handled : count ≡ length (messages_in gone) + length begun
  pub offset_is : offset ≡ length (blocked_bytes begun)
  pub stays : (begun ≡ []) ⊎ ((m : Message) × (more : List Message) × (later : List NspMessage) × (rest ≡ (begun ++ m ∷ more) ∷ later))

-- One direction: the bytes are those of the NSP messages, the messages have a spelling, and the link of the other end
-- gave away those NSP messages of which every message was handled.
pub record IsToldBy (count_posted offset most : ℕ) (outbox : List (List ℕ)) (packets : List NspMessage) (count : ℕ) (Way : (messages given : List (List ℕ)) → Type 0) : Type 0 where
  pub handed : List (List ℕ)
  pub posted : count_posted ≡ length handed
  pub gone : List NspMessage
  pub among : IsAmong (take count_posted packets) count offset gone
  pub way : Way handed (all_joined gone)
  pub bytes : handed ++ outbox ≡ all_joined packets
  pub fit : AllFit (messages_in packets)
  -- what waits isn't too long
  pub short : AreWithinLimit most outbox

abbrev pub IsCarried : (from to : SideValue) → List NspMessage → (count : ℕ) → Type 0
IsCarried from to packets count = IsToldBy from.posted to.offset from.link.setup.max_message from.outbox packets count (IsWay from to.link)

pub record AreParts (p : Parts) : Type 0 where
  pub world : IsWorld (state_of p)
  -- the ends are plain ones
  pub plain_a : p.accessing.identity ≡ plain_identity p.accessing.own
  pub plain_b : p.accessed.setup ≡ plain_setup p.accessed.own
  pub alike : AreAlike p.b.link.setup p.a.link.setup
  -- a link takes what either end may send
  pub limit : p.a.link.setup.max_message ≡ max p.accessing.own p.accessed.own
  pub most : p.a.link.setup.max_message ≤ max_limit
  pub from_a : IsCarried p.a p.b (asked_messages p) p.served
  pub from_b : IsCarried p.b p.a (answers p) p.read
  pub sent_is : p.sent ≡ map canon (sent_by (state_of p).a)
  pub reports_is : p.reports ≡ reports_by_a (state_of p)
  -- the ends are as after what was asked, served and read
  pub asking : IsAskedAll (asking_end p) p.requests (answers_read (state_of p))
  pub serving : IsServedAll (serving_end p) (map Whole (served_by_b (state_of p)))
