use Rattle.dap_msg.proofs.ForCallers.{fields_fit}
use Rattle.dap_accessing.proofs.Numbers.{short_numbers}
use Rattle.dap_accessing.proofs.accessing.Accessing.may_come.Goals as goal

pub expects-requires : goal.expects-requires
expects-requires c =
    let message = c.in-Whole-Some.message in short_numbers message (fields_fit message (c.requires message c.in-Whole-Some.is-0))
