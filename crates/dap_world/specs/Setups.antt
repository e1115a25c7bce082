-- The numbers with which a world is made.
use Rattle.std.specs.Prelude.{◌≤◌}
use Rattle.nsp_link.specs.Limits.{max_segment, max_window}
use Rattle.dap_world.specs.Agreement.{IsBufsiz}
use Rattle.dap_events.specs.declared.event.WorldFault.{WorldFault}
use Rattle.dap_events.specs.declared.event.WorldFault.TheVariants as fault
use Rattle.dap_events.specs.declared.setup.WorldSetup.{WorldSetup}

-- the sizes that a world may have
pub record IsWorldSetup (s : WorldSetup) : Type 0 where
  pub some : 1 ≤ s.seg_size
  pub small : s.seg_size ≤ max_segment
  pub window : 1 ≤ s.window
  pub window_limit : s.window ≤ max_window
  pub own_a : IsBufsiz s.bufsiz_a
  pub own_b : IsBufsiz s.bufsiz_b

-- why there is no world with this setup
abbrev pub NewFault : WorldSetup → WorldFault → Type 0
NewFault setup fault.BadSetup = IsWorldSetup setup → ⊥
NewFault setup fault.NoMemory = IsWorldSetup setup
NewFault setup _ = ⊥
