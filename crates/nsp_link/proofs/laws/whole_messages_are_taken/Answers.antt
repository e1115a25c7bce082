use Rattle.nsp_link.proofs.Taken.{whole_of}
use Rattle.nsp_link.proofs.laws.whole_messages_are_taken.Goals as goal

pub returns : goal.returns
returns c = λ v size messages given pos s.
    let w = whole_of v.coming size messages given pos s.taken in (w.count, w.inbox, w.whole.whole, w.whole.next)
