use Rattle.std.proofs.Common.{Some, length, refl, sym, ◌∙◌}
use Rattle.std.proofs.lemmas.Option.{slice_get_read, slice_get_within}
use Rattle.dap_end.proofs.Tables.{between-none, between-other, between-some}
use Rattle.dap_end.proofs.addresses.find_between.Goals as goal

pub returns-in-Some : goal.returns-in-Some
returns-in-Some c =
    let t = c.requires.there c.args.local c.in-Some.link c.in-Some.ensures in
    let within = slice_get_within c.args.ports.now c.in-Some.link (Some t.0) t.1 in
    let at = slice_get_read c.args.ports.now (length c.args.ports.now) c.in-Some.link c.index-ports-link.result refl within c.index-ports-link.is in
    sym (between-some c.args.table.now c.args.ports.now c.requires c.args.local c.args.remote c.in-Some.link c.index-ports-link.result c.in-Some.ensures at (sym c.joins.ensures ∙ c.if-joins.true))

pub returns-in_default : goal.returns-in_default
returns-in_default c =
    let t = c.requires.there c.args.local c.in-Some.link c.in-Some.ensures in
    let within = slice_get_within c.args.ports.now c.in-Some.link (Some t.0) t.1 in
    let at = slice_get_read c.args.ports.now (length c.args.ports.now) c.in-Some.link c.index-ports-link.result refl within c.index-ports-link.is in
    sym (between-other c.args.table.now c.args.ports.now c.requires c.args.local c.args.remote c.in-Some.link c.index-ports-link.result c.in-Some.ensures at (sym c.joins.ensures ∙ c.if-joins.false))

pub returns-in_default-2 : goal.returns-in_default-2
returns-in_default-2 c = sym (between-none c.args.table.now c.args.ports.now c.requires c.args.local c.args.remote c.in_default.ensures)
