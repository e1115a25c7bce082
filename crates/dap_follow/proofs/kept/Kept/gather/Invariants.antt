use Rattle.std.proofs.Common.{◌≡◌, ◌++◌, drop}
use Rattle.std.specs.List.{flat_map}
use Rattle.dap_follow.specs.Keeping.Kept.{kept_bytes}
use Rattle.dap_follow.proofs.kept.Kept.gather.Given as goal

-- the bytes so far and those of the others are all
abbrev pub invariant-loop-payload : goal.invariant-loop-payload
invariant-loop-payload l = l.bytes.items ++ flat_map (λ payload. payload.items) (drop l.payload-index l.self.payloads.items) ≡ kept_bytes l.self
