use Rattle.std.proofs.Common.{◌++◌, ap, ◌∙◌}
use Rattle.std.specs.Prelude.{option_to_list}
use Rattle.dap_end.proofs.Asked.{read_falls, read_none, read_more}
use Rattle.dap_end.proofs.asking.End+Accessing.read_all.Goals as goal

pub answers-init : goal.answers-init
answers-init c = read_none c.args.self.now c.args.reports.now.items

pub answers-preserved : goal.answers-preserved
answers-preserved c =
    read_more c.args.self.now c.answers.self c.read_next.new.self c.in-Ok-read_next.report c.args.reports.now.items c.answers.reports.items c.keep.new.reports.items c.answers.invariant c.in-Ok-read_next.ensures.ok
    (c.keep.ensures ∙ ap (λ l. l ++ option_to_list c.in-Ok-read_next.report) c.in-Ok.ensures.items)

pub answers-smaller : goal.answers-smaller
answers-smaller c =
    read_falls c.answers.self c.read_next.new.self c.in-Ok-read_next.report c.in-Ok-read_next.ensures.ok
