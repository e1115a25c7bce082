-- What one end sends, and the link of the other end that takes it.
use Rattle.std.specs.Prelude.{◌≡◌, ◌⊎◌, ℕ, ◌+◌, ◌≤◌, ◌<◌, Bool, true, false, ◌||◌, List, length, Option, Some, None, Result, Ok, Err, slice_get}
use Rattle.std.specs.List.{AllByRecursion}
use Rattle.std.specs.Option.{option_map_or}
use Rattle.nsp_link.specs.Cutting.{cut}
use Rattle.nsp_link.specs.Limits.{max_segments}
use Rattle.nsp_link.specs.Link.{LinkValue, Sends, Stands, Writes}
use Rattle.nsp_link.specs.declared.link.Got.{Got}
use Rattle.nsp_link.specs.declared.fault.LinkFault.{LinkFault}
use Rattle.nsp_link.specs.Receiving.{Receives}
use Rattle.dap_world.specs.Machine.{is_old}
use Rattle.dap_world.specs.Inner.Sides.{SideValue, AreWithinLimit}
use Rattle.dap_world.specs.declared.side.Wired.{Wired}
use Rattle.dap_events.specs.declared.event.Step.{Step}
use Rattle.dap_events.specs.declared.event.Step.TheVariants as step
use Rattle.dap_events.specs.declared.event.WorldFault.{WorldFault}
use Rattle.dap_events.specs.declared.event.WorldFault.TheVariants as fault

-- The messages are those passed to the one link; the other received some of their segments and gave away these.
pub record IsWay (from : SideValue) (to : LinkValue) (messages given : List (List ℕ)) : Type 0 where
  pub size : 0 < from.link.setup.seg_size
  pub running : from.link.failed ≡ false
  pub listening : to.failed ≡ false
  pub there : from.link.setup.local ≡ to.setup.remote
  pub back : from.link.setup.remote ≡ to.setup.local
  pub sends : Sends from.link messages
  pub stands : Stands to from.link.setup.seg_size messages given
  pub short : AreWithinLimit to.setup.max_message messages
  pub few : length (cut from.link.setup.seg_size messages) ≤ max_segments
  pub wire : AllByRecursion (λ w. Writes from.link messages w.segment w.acks w.packet.items) from.wire

abbrev pub is_old_segment : ℕ → Option ℕ → Bool
is_old_segment taken segment = option_map_or (λ k. is_old k (taken + 1)) segment false

abbrev pub is_old_wired : LinkValue → Wired → Bool
is_old_wired v w = is_old_segment v.coming.received w.segment || is_old w.acks v.acked

-- why the j-th packet of this wire is not given to the link
abbrev pub NotDue : LinkValue → List Wired → ℕ → WorldFault → Type 0
NotDue v wire j fault.NoSuchPacket = slice_get wire j ≡ None
NotDue v wire j fault.Stale = (w : Wired) × (slice_get wire j ≡ Some w) × (is_old_wired v w ≡ true)
NotDue v wire j _ = ⊥

abbrev pub delivered_as : Result Got LinkFault → Result Step WorldFault
delivered_as (Ok got) = Ok (step.Delivered got)
delivered_as (Err _) = Err fault.NoMemory

-- the packet isn't due, or the link took it in so
abbrev pub Delivery : (old new : LinkValue) → List Wired → ℕ → Result Step WorldFault → Type 0
Delivery old new wire j result =
    ((f : WorldFault) × NotDue old wire j f × (result ≡ Err f) × (new ≡ old))
    ⊎ ((w : Wired) × (slice_get wire j ≡ Some w) × (is_old_wired old w ≡ false)
    × (r : Result Got LinkFault) × Receives old new w.packet.items r × (result ≡ delivered_as r))
