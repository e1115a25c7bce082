use Rattle.std.proofs.Common.{sym, arith, length-take}
use Rattle.std.proofs.lemmas.List.{take_all}
use Rattle.dap_meanings.specs.Quoted.{max_quoted}
use Rattle.dap_meanings.proofs.quoted.first_bytes.Goals as goal

pub slice_bounds-result-end : goal.slice_bounds-result-end
slice_bounds-result-end c = omega (arith, length-take 60 c.args.bytes.now, c.if-bytes-le-MAX_QUOTED.false)

pub returns-then-bytes-le-MAX_QUOTED : goal.returns-then-bytes-le-MAX_QUOTED
returns-then-bytes-le-MAX_QUOTED c = sym (take_all max_quoted c.args.bytes.now c.if-bytes-le-MAX_QUOTED.true)
