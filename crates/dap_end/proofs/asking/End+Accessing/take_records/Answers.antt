use Rattle.std.proofs.Common.{◌∙◌, ap, sym}
use Rattle.std.specs.Prelude.{Option}
use Rattle.dap_accessing.specs.declared.pending.Pending.{Pending}
use Rattle.dap_accessing.specs.Present.{ClientState}
use Rattle.dap_end.specs.Inner.AskingView.{asking_of}
use Rattle.dap_end.proofs.Each.{none_taken}
use Rattle.dap_end.proofs.asking.End+Accessing.take_records.Goals as goal

pub invariant_of-self : goal.invariant_of-self
invariant_of-self c =
    record {
      port = c.self.invariant.port;
      left = λ failed. c.self.invariant.left (ap (λ (p : ClientState). p.failed) (sym c.take_records.ensures.rest) ∙ failed);
    }

pub returns-clause-rest : goal.returns-clause-rest
returns-clause-rest c = rw (← c.self.view_is) (ap (λ (p : ClientState). asking_of c.self.inside.port p) c.take_records.ensures.rest)

pub returns-clause-none : goal.returns-clause-none
returns-clause-none c =
    rw (← c.self.view_is) (λ none. ap (λ (p : ClientState). asking_of c.self.inside.port p)
    (c.take_records.ensures.rest ∙ ap (λ (o : Option Pending). record c.self.inside.role { pending = o }) (none_taken c.self.inside.role.pending (sym c.take_records.ensures.records ∙ none))))

pub returns-clause-told : goal.returns-clause-told
returns-clause-told c = rw (← c.self.view_is) (λ told. ap (λ (p : ClientState). asking_of c.self.inside.port p) (c.take_records.ensures.told told))
