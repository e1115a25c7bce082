use Rattle.std.proofs.Common.{refl}
use Rattle.std.proofs.lemmas.List.{drop-map}
use Rattle.nsp_link.proofs.link.LinkEnd.forget.Goals as goal

pub returns : goal.returns
returns c = rw (← c.self.view_is, c.drop_front-part.ensures.queue, drop-map, c.drop_front-part.ensures.part) refl
