use Rattle.std.proofs.Common.{◌∙◌, sym, ap}
use Rattle.nsp_link.specs.Link.{LinkValue}
use Rattle.nsp_link.proofs.ForCallers.{receives_same}
use Rattle.dap_end.proofs.Writing.{segment_one, one_there}
use Rattle.dap_end.proofs.laws.packets_are_determined.Goals as goal

pub returns-clause-serving : goal.returns-clause-serving
returns-clause-serving c = λ old one two bytes r s fits nr ns a b.
    let same = receives_same old.port.link one.port.link two.port.link bytes r s fits nr ns a.receives b.receives in
    (a.rest ∙ ap (λ (l : LinkValue). record old { port = record old.port { link = l } }) same.1 ∙ sym b.rest, same.0)

pub returns-clause-asking : goal.returns-clause-asking
returns-clause-asking c = λ old one two bytes r s fits nr ns a b.
    let same = receives_same old.port.link one.port.link two.port.link bytes r s fits nr ns a.receives b.receives in
    (a.rest ∙ ap (λ (l : LinkValue). record old { port = record old.port { link = l } }) same.1 ∙ sym b.rest, same.0)

pub returns-clause-emitted : goal.returns-clause-emitted
returns-clause-emitted c = λ handed old one two xs ys sends a b. segment_one old one two handed xs ys sends a b

pub returns-clause-none : goal.returns-clause-none
returns-clause-none c = λ old one xs a none. one_there old one xs a none
