use Rattle.std.proofs.Common.{◌==◌, sym, ◌∙◌}
use Rattle.std.proofs.lemmas.List.Quantifiers.{position-Some}
use Rattle.decnet_frames.proofs.nodes.read_address.Goals as goal

pub address_at-requires : goal.address_at-requires
address_at-requires c = (position-Some (λ byte. byte == 46) c.args.text.now c.in-Some.point 0 (sym c.find_byte.ensures ∙ c.in-Some.is)).0
