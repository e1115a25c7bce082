use Rattle.std.proofs.Common.{rules, sym, ◌∙◌}
use Rattle.decnet_frames.proofs.OriginLemmas.{frame_is, frame_within}
use Rattle.decnet_frames.proofs.origins.origin_of.Goals as goal

pub cut_frame-requires : goal.cut_frame-requires
cut_frame-requires c = let w = frame_within c.args.line.now _ _ _ (sym c.of-words.ensures ∙ c.in_ok-number.ensures.shape) in search rules

pub returns : goal.returns
returns c = let f = frame_is c.args.line.now _ _ _ (sym c.of-words.ensures ∙ c.in_ok-number.ensures.shape) in search rules
