use Rattle.std.proofs.Common.{◌-◌, length, arith}
use Rattle.std.proofs.lemmas.List.{drop_all}
use Rattle.dap_msg.specs.declared.encoding.Field.TheVariants.{Absent}
use Rattle.dap_msg.proofs.Menus.{half_fits, none_yet, one_more, next_flag, flag_small}
use Rattle.dap_msg.proofs.encoding.menu_bits.Goals as goal

pub fields-init : goal.fields-init
fields-init c = grind (arith, drop_all, none_yet)

pub bounds-fields-at : goal.bounds-fields-at
bounds-fields-at c = omega (arith, c.fields.invariant.0, c.fields-test.true)

pub overflow_mul-bits : goal.overflow_mul-bits
overflow_mul-bits c = omega (arith, half_fits c.fields.bits (length c.args.fields.now - c.fields.at) (omega (arith, c.requires, c.fields-test.true)) c.fields.invariant.2)

pub overflow_add-bits : goal.overflow_add-bits
overflow_add-bits c =
    let small = half_fits c.fields.bits (length c.args.fields.now - c.fields.at) (omega (arith, c.requires, c.fields-test.true)) c.fields.invariant.2 in
    grind (arith, small, flag_small, c.from.ensures)

pub fields-preserved : goal.fields-preserved
fields-preserved c =
    let i = c.fields.invariant in (
      omega (arith, i.0),
      rw (c.from.ensures, c.is_there.ensures, i.1) (next_flag c.args.fields.now c.fields.at Absent c.fields-test.true i.0),
      one_more c.from.result c.fields.bits (length c.args.fields.now) c.fields.at (rw c.from.ensures (flag_small c.is_there.result)) c.fields-test.true i.0 i.2,
    )

pub returns-clause-exact : goal.returns-clause-exact
returns-clause-exact c = grind (arith, c.fields.invariant.1, c.fields-test.false)

pub returns-clause-small : goal.returns-clause-small
returns-clause-small c = grind (arith, c.fields.invariant.2, c.fields-test.false)
