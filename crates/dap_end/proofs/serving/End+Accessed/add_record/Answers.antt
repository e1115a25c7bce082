use Rattle.dap_end.specs.By.{end_with}
use Rattle.dap_end.proofs.Adding.{given, fresh_to_store, by_add_record}
use Rattle.dap_end.proofs.serving.End+Accessed.add_record.Goals as goal

pub returns-clause-given : goal.returns-clause-given
returns-clause-given c = rw (← c.self.view_is) (given (end_with c.self.inside.port c.self.inside.role) c.add_record.new.self c.add_record.result c.add_record.ensures.setup (fresh_to_store c.add_record.result c.self.inside.role c.args.number c.args.body.now c.add_record.ensures.may) c.add_record.ensures.stands)

pub returns-clause-refused : goal.returns-clause-refused
returns-clause-refused c =
    rw (← c.self.view_is) (by_add_record (end_with c.self.inside.port c.self.inside.role) c.args.number c.args.body.now c.add_record.result (c.has_come.ensures.no c.if-has_come.false) c.add_record.ensures.refused)
