use Rattle.dap_end.specs.By.{end_with}
use Rattle.dap_end.proofs.Adding.{given, fresh_to_add, by_add}
use Rattle.dap_end.proofs.serving.End+Accessed.add.Goals as goal

pub returns-clause-given : goal.returns-clause-given
returns-clause-given c = rw (← c.self.view_is) (given (end_with c.self.inside.port c.self.inside.role) c.add.new.self c.add.result c.add.ensures.setup (fresh_to_add c.add.result c.self.inside.role c.args.name.now c.add.ensures.may) c.add.ensures.stands)

pub returns-clause-refused : goal.returns-clause-refused
returns-clause-refused c =
    rw (← c.self.view_is) (by_add (end_with c.self.inside.port c.self.inside.role) c.args.name.now c.add.result (c.has_come.ensures.no c.if-has_come.false) c.add.ensures.refused)
