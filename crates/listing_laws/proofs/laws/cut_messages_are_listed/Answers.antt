use Rattle.nsp_link.specs.Cutting.{cut_message}
use Rattle.dap_follow.specs.Streams.{first_sequence}
use Rattle.listing_laws.proofs.CutLemmas.{cut_listed, stand_each}
use Rattle.listing_laws.proofs.laws.cut_messages_are_listed.Goals as goal

pub returns : goal.returns
returns c size start highest message came sent ordered some in_order rounds sent_so stand =
    cut_listed size start highest (first_sequence came) message came sent in_order.sequenced ordered some rounds in_order.are_sequenced in_order.ascending in_order.same sent_so
    (stand_each start (cut_message size message) sent stand)
