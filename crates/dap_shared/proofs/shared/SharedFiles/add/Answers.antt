use Rattle.std.proofs.Common.{◌≡◌, List, ℕ, [], ◌∷◌, ◌++◌, ap, subst, sym, ◌∙◌}
use Rattle.dap_accessed.specs.Asked.{made_file}
use Rattle.dap_accessed.specs.Adding.{with_new_file}
use Rattle.dap_accessed.proofs.ForCallers.{given-name}
use Rattle.dap_shared.specs.Shared.{SharedValue, SharedGiven}
use Rattle.dap_shared.proofs.Held.{given-held, gives-shared}
use Rattle.dap_shared.specs.Nodes.{Gives}
use Rattle.dap_shared.proofs.shared.SharedFiles.add.Goals as goal

pub invariant_of-self-2 : goal.invariant_of-self-2
invariant_of-self-2 c =
    let v : SharedValue = record { own = c.self.inside.setup.identity.bufsiz; setup = c.self.inside.setup; files = c.self.inside.files; sessions = c.self.inside.sessions.items } in
    let files : c.make.new.self ≡ with_new_file v.setup.names c.args.name.now c.args.asked v.files =
    c.in_ok-make.ensures.ok ∙ ap (λ (n : List ℕ). v.files ++ (n, made_file c.args.asked) ∷ []) (sym (given-name v.setup.names c.args.name.now v.files c.in-Some.number (sym c.number_given.ensures.number ∙ c.in-Some.is))) in
    given-held v (Gives c.args.name.now c.args.asked) c.make.new.self c.self.invariant (gives-shared v c.args.name.now c.args.asked c.make.new.self files)

pub returns-clause-given : goal.returns-clause-given
returns-clause-given c =
    let v : SharedValue = record { own = c.self.inside.setup.identity.bufsiz; setup = c.self.inside.setup; files = c.self.inside.files; sessions = c.self.inside.sessions.items } in
    let files : c.make.new.self ≡ with_new_file v.setup.names c.args.name.now c.args.asked v.files =
    c.in_ok-make.ensures.ok ∙ ap (λ (n : List ℕ). v.files ++ (n, made_file c.args.asked) ∷ []) (sym (given-name v.setup.names c.args.name.now v.files c.in-Some.number (sym c.number_given.ensures.number ∙ c.in-Some.is))) in
    subst (λ (w : SharedValue). SharedGiven (Gives c.args.name.now c.args.asked) w (record v { files = c.make.new.self })) c.self.view_is
    (gives-shared v c.args.name.now c.args.asked c.make.new.self files)
