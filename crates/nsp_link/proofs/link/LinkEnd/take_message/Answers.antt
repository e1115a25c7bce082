use Rattle.std.proofs.Common.{refl, sym, subst}
use Rattle.nsp_link.specs.Link.{LinkValue, Stands}
use Rattle.nsp_link.specs.Inner.View.{link_view}
use Rattle.nsp_link.proofs.Giving.{stands_popped}
use Rattle.nsp_link.proofs.link.LinkEnd.take_message.Goals as goal

pub returns-clause-stands : goal.returns-clause-stands
returns-clause-stands c = λ size messages given stands.
    let before = subst (λ (v : LinkValue). Stands v size messages given) (sym c.self.view_is) stands in
    stands_popped (link_view c.self.inside) size messages given c.self.inside.incoming.inbox.items c.pop_front.new.self.items c.pop_front.result refl c.pop_front.ensures.items before
