-- What the fields of a world stand for.
use Rattle.dap_msg.specs.Blocked.{bodies}
use Rattle.dap_world.specs.declared.world.World.TheInside.{Inside}
use Rattle.dap_world.specs.Machine.{State}
use Rattle.dap_world.specs.Inner.Sides.{side_of}
use Rattle.dap_world.specs.Inner.Parts.{Parts, state_of, AreParts}

abbrev pub parts_of : Inside → Parts
parts_of w =
    record {
      a = side_of w.asking.port w.posted_a w.wire_a.items;
      b = side_of w.serving.port w.posted_b w.wire_b.items;
      accessing = w.asking.present;
      accessed = w.serving.present;
      requests = w.requests.items;
      sent = bodies w.sent.items;
      served = w.served;
      reports = w.reports.items;
      read = w.read;
    }

abbrev pub world_view : Inside → State
world_view w = state_of (parts_of w)

abbrev pub IsSoundWorld : Inside → Type 0
IsSoundWorld w = AreParts (parts_of w)
