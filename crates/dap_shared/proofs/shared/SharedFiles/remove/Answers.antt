use Rattle.std.proofs.Common.{◌≡◌, ◌∙◌, ℕ, List, length, map, Some, ap, subst, sym, true}
use Rattle.std.specs.Vec.{with_items}
use Rattle.std.proofs.lemmas.List.{length-map}
use Rattle.dap_accessed.specs.Naming.{index_by}
use Rattle.dap_accessed.specs.Sessions.{SessionValue}
use Rattle.dap_shared.specs.Shared.{AtFile, SharedDrops, SharedValue, is_held, session_without}
use Rattle.dap_shared.specs.Inner.Held.{IsHeld}
use Rattle.dap_shared.proofs.Held.{refilled, removed-held, removed-shared}
use Rattle.dap_shared.proofs.shared.SharedFiles.remove.Goals as goal

moved : (removed : ℕ) (new old held : List SessionValue) → new ≡ map (session_without removed) old → old ≡ held → new ≡ map (session_without removed) held
moved removed new old held is same = is ∙ ap (map (session_without removed)) same

as-many : (removed : ℕ) (new held : List SessionValue) → new ≡ map (session_without removed) held → length new ≡ length held
as-many removed new held is = ap (λ (l : List SessionValue). length l) is ∙ length-map held (session_without removed)

pub returns-then-is_held-clause-refused : goal.returns-then-is_held-clause-refused
returns-then-is_held-clause-refused c =
    let v : SharedValue = record { own = c.self.inside.setup.identity.bufsiz; setup = c.self.inside.setup; files = c.self.inside.files; sessions = c.self.inside.sessions.items } in
    let found : index_by v.setup.names c.args.name.now v.files ≡ Some c.in-Some.removed = sym c.find_by.ensures.index ∙ c.in-Some.is in
    let held : c.is_held.result ≡ is_held c.in-Some.removed v.sessions = c.is_held.ensures ∙ ap (is_held c.in-Some.removed) c.deref.ensures.value in
    subst (λ (w : SharedValue). AtFile c.args.name.now w (λ at. is_held at w.sessions ≡ true)) c.self.view_is (c.in-Some.removed, found, sym held ∙ c.if-is_held.true)

pub invariant_of-self : goal.invariant_of-self
invariant_of-self c =
    let v : SharedValue = record { own = c.self.inside.setup.identity.bufsiz; setup = c.self.inside.setup; files = c.self.inside.files; sessions = c.self.inside.sessions.items } in
    let held : c.is_held.result ≡ is_held c.in-Some.removed v.sessions = c.is_held.ensures ∙ ap (is_held c.in-Some.removed) c.deref.ensures.value in
    let moves = moved c.in-Some.removed c.move_up.new.sessions c.deref_mut.result.now c.self.inside.sessions.items c.move_up.ensures c.deref_mut.ensures.value in
    subst (λ (l : List SessionValue). IsHeld (record { own = v.own; setup = v.setup; files = c.remove.new.self; sessions = l })) (sym (refilled c.self.inside.sessions c.move_up.new.sessions (as-many c.in-Some.removed c.move_up.new.sessions v.sessions moves)))
    (removed-held v c.in-Some.removed c.remove.new.self c.move_up.new.sessions (sym held ∙ c.if-is_held.false) c.remove.ensures moves c.self.invariant)

pub returns-clause-drops : goal.returns-clause-drops
returns-clause-drops c =
    let v : SharedValue = record { own = c.self.inside.setup.identity.bufsiz; setup = c.self.inside.setup; files = c.self.inside.files; sessions = c.self.inside.sessions.items } in
    let found : index_by v.setup.names c.args.name.now v.files ≡ Some c.in-Some.removed = sym c.find_by.ensures.index ∙ c.in-Some.is in
    let held : c.is_held.result ≡ is_held c.in-Some.removed v.sessions = c.is_held.ensures ∙ ap (is_held c.in-Some.removed) c.deref.ensures.value in
    let moves = moved c.in-Some.removed c.move_up.new.sessions c.deref_mut.result.now c.self.inside.sessions.items c.move_up.ensures c.deref_mut.ensures.value in
    subst (λ (w : SharedValue). AtFile c.args.name.now w (λ at. SharedDrops at w (record v { files = c.remove.new.self; sessions = (with_items c.self.inside.sessions c.move_up.new.sessions).items }))) c.self.view_is (
      c.in-Some.removed,
      found,
      subst (λ (l : List SessionValue). SharedDrops c.in-Some.removed v (record v { files = c.remove.new.self; sessions = l })) (sym (refilled c.self.inside.sessions c.move_up.new.sessions (as-many c.in-Some.removed c.move_up.new.sessions v.sessions moves)))
          (removed-shared v c.in-Some.removed c.remove.new.self c.move_up.new.sessions (sym held ∙ c.if-is_held.false) c.remove.ensures moves),
    )
