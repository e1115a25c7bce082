use Rattle.dap_text.proofs.TableLemmas.{line_joined, ok_more}
use Rattle.dap_text.proofs.tables.push_file_line.Goals as goal

pub returns-clause-added : goal.returns-clause-added
returns-clause-added c =
    ok_more c.push_line_end.result _ _
    (line_joined c.args.text.now.items c.push_image.new.text.items c.push_shape.new.text.items c.push_line_end.new.text.items c.args.name.now c.args.shape c.args.look
    c.in_ok-push_image.ensures.added c.in_ok-push_shape.ensures.added)
    c.push_line_end.ensures.added
