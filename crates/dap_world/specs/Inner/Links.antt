-- What the world shows of its links and wires, each in one record.
use Rattle.std.specs.Prelude.{◌≡◌, List, map, max, false}
use Rattle.std.specs.List.{AllByRecursion}
use Rattle.std.specs.Map.{keys_of}
use Rattle.dap_msg.specs.Blocked.{all_joined}
use Rattle.nsp_link.specs.Link.{LinkValue, Sends, Stands}
use Rattle.dap_events.specs.declared.event.End.{End}
use Rattle.dap_world.specs.declared.side.Wired.{Wired}
use Rattle.dap_world.specs.Machine.{State, end_of, other_end}
use Rattle.dap_world.specs.Links.{left_link}
use Rattle.dap_world.specs.Wires.{end_address, sending_of, IsOnWire}

-- The link is this end's: its counts, its segments, what it has of the other end's and the early ones that it holds are
-- those of the machine.
pub record IsLinkOf (s : State) (end : End) (v : LinkValue) : Type 0 where
  pub local : v.setup.local ≡ end_address end
  pub remote : v.setup.remote ≡ end_address (other_end end)
  pub size : v.setup.seg_size ≡ s.seg_size
  pub window : v.setup.window ≡ s.window
  pub sent : v.sent ≡ (end_of s end).sent
  pub acked : v.acked ≡ (end_of s end).acked
  pub queued : Sends v (all_joined (end_of s end).handed)
  pub received : v.coming.received ≡ (end_of s end).taken
  pub held : keys_of v.held ≡ (end_of s end).held
  pub limit : v.setup.max_message ≡ max s.own_a s.own_b
  pub stands : Stands v s.seg_size (all_joined (end_of s (other_end end)).handed) (left_link s end)
  pub running : v.failed ≡ false

-- these are the packets that the end wrote, each with its number and its acknowledgement
pub record AreWired (s : State) (end : End) (wired : List Wired) : Type 0 where
  pub sendings : map sending_of wired ≡ (end_of s end).wire
  pub packets : AllByRecursion (λ w. IsOnWire s end (sending_of w) w.packet.items) wired
