-- How the link of each end of a new world is set up.
use Rattle.std.specs.Prelude.{max}
use Rattle.nsp_link.specs.declared.link.LinkSetup.{LinkSetup}
use Rattle.dap_events.specs.declared.event.End.{End}
use Rattle.dap_events.specs.declared.setup.WorldSetup.{WorldSetup}
use Rattle.dap_world.specs.Machine.{other_end}
use Rattle.dap_world.specs.Wires.{end_address}

-- both links take what either end may send
abbrev pub link_setup_of : WorldSetup → End → LinkSetup
link_setup_of s end =
    record {
      local = end_address end;
      remote = end_address (other_end end);
      seg_size = s.seg_size;
      window = s.window;
      max_message = max s.bufsiz_a s.bufsiz_b;
    }
