use Rattle.std.proofs.Common.{◌++◌}
use Rattle.std.specs.Prelude.{codes}
use Rattle.std.proofs.lemmas.Result.{on_ok_weaker}
use Rattle.dap_listing.specs.Messages.{attributes_text}
use Rattle.texts.specs.Text.{line_feed}
use Rattle.dap_listing.proofs.MessageLemmas.{appended_twice}
use Rattle.dap_listing.proofs.message.push_attributes.Goals as goal

pub returns-clause-added : goal.returns-clause-added
returns-clause-added c =
    on_ok_weaker c.push_fields.result (λ added. appended_twice c.args.text.now.items c.push_str.new.text.items c.push_fields.new.text.items (codes "  attributes") (attributes_text c.args.attributes.now ++ line_feed) c.in_ok-push_str.ensures.added (rw c.attributes_fields.ensures at added)) c.push_fields.ensures.added
