use Rattle.std.proofs.Common.{◌∙◌, sym, arith}
use Rattle.dap_fields.proofs.Numbers.{number_is, number_below}
use Rattle.dap_fields.proofs.reading.number_of.Goals as goal

pub returns-else-is_empty-clause-exact : goal.returns-else-is_empty-clause-exact
returns-else-is_empty-clause-exact c = c.read_uint.ensures ∙ sym (number_is c.args.image.now)

pub returns-else-is_empty-clause-small : goal.returns-else-is_empty-clause-small
returns-else-is_empty-clause-small c =
    let below = number_below c.args.image.now (λ i. omega (arith, c.type_inv.image i)) in
    omega (arith, c.read_uint.ensures, number_is c.args.image.now, below)
