-- Which streams end, by what the program keeps of them.
use Rattle.std.specs.Prelude.{nat_lt, true, Bool}
use Rattle.dap_follow.specs.declared.ending.Ending.{Ending}
use Rattle.dap_follow.specs.declared.ending.Ending.TheVariants.{All, Crowded, Opened}
use Rattle.dap_follow.specs.declared.kept.KeptSegments.{KeptSegments}
use Rattle.dap_follow.specs.declared.streams.Stream.{Stream}
use Rattle.dap_follow.specs.Keeping.Room.{entry_came}
use Rattle.dap_follow.specs.Keeping.Streams.{ends_stream}

-- a stream is one of those that end
abbrev pub is_chosen : Ending → Stream × KeptSegments → Bool
is_chosen All e = true
is_chosen (Opened i) e = ends_stream i e.0
is_chosen (Crowded c) e = nat_lt (entry_came c.coming e) c.since
