use Rattle.std.proofs.Common.{◌≡◌, ◌++◌, ◌-◌, drop, length}
use Rattle.dap_follow.specs.Keeping.Rest.{rest_of_each}
use Rattle.dap_follow.specs.Keeping.Endings.{is_chosen}
use Rattle.dap_follow.proofs.rest.push_ending.Given as goal

-- the text so far and what is left of the others are all
abbrev pub invariant-loop-at : goal.invariant-loop-at
invariant-loop-at l = l.text.items ++ rest_of_each (is_chosen l.ending) (drop l.at l.streams.live.entries)
    ≡ l.initial.text.items ++ rest_of_each (is_chosen l.ending) l.streams.live.entries

abbrev pub decreases-loop-at : goal.decreases-loop-at
decreases-loop-at l = length l.streams.live.entries - l.at
