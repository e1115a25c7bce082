use Rattle.std.proofs.Common.{◌≡◌, ◌∙◌, Some, subst, sym}
use Rattle.std.specs.Prelude.{IfErr, OnOk}
use Rattle.dap_accessed.specs.Adding.{MayStore}
use Rattle.dap_accessed.specs.Standing.{file_at}
use Rattle.dap_accessed.specs.Naming.{index_by}
use Rattle.dap_shared.specs.Nodes.{GivesRecord, with_record_at}
use Rattle.dap_shared.specs.Shared.{AtFile, RecordNotAdded, SharedGiven, SharedValue}
use Rattle.dap_shared.proofs.Held.{files-at, given-at, may-store, record-held, record-refused, recorded}
use Rattle.dap_shared.proofs.shared.SharedFiles.add_record.Goals as goal

pub invariant_of-self : goal.invariant_of-self
invariant_of-self c =
    let v : SharedValue = record { own = c.self.inside.setup.identity.bufsiz; setup = c.self.inside.setup; files = c.self.inside.files; sessions = c.self.inside.sessions.items } in
    let ok = recorded v.files c.add_record.new.self c.in-Some.at c.args.number c.args.body.now c.add_record.result c.add_record.ensures.others c.add_record.ensures.stores in
    record-held v c.in-Some.at c.args.number c.args.body.now c.add_record.new.self c.add_record.result c.self.invariant ok c.add_record.ensures.err

pub returns-clause-may : goal.returns-clause-may
returns-clause-may c =
    let v : SharedValue = record { own = c.self.inside.setup.identity.bufsiz; setup = c.self.inside.setup; files = c.self.inside.files; sessions = c.self.inside.sessions.items } in
    let found : index_by v.setup.names c.args.name.now v.files ≡ Some c.in-Some.at = sym c.find_by.ensures.index ∙ c.in-Some.is in
    subst (λ (w : SharedValue). OnOk c.add_record.result (AtFile c.args.name.now w (λ k. MayStore (file_at k w.files) c.args.number c.args.body.now))) c.self.view_is
    (may-store v c.args.name.now c.in-Some.at found c.args.number c.args.body.now (file_at c.in-Some.at c.add_record.new.self) c.add_record.result c.add_record.ensures.stores)

pub returns-clause-given : goal.returns-clause-given
returns-clause-given c =
    let v : SharedValue = record { own = c.self.inside.setup.identity.bufsiz; setup = c.self.inside.setup; files = c.self.inside.files; sessions = c.self.inside.sessions.items } in
    let found : index_by v.setup.names c.args.name.now v.files ≡ Some c.in-Some.at = sym c.find_by.ensures.index ∙ c.in-Some.is in
    let ok = recorded v.files c.add_record.new.self c.in-Some.at c.args.number c.args.body.now c.add_record.result c.add_record.ensures.others c.add_record.ensures.stores in
    subst (λ (w : SharedValue). OnOk c.add_record.result (AtFile c.args.name.now w (λ k. SharedGiven (GivesRecord k c.args.number c.args.body.now) w (record v { files = c.add_record.new.self })))) c.self.view_is
    (given-at v c.args.name.now c.in-Some.at found c.args.number c.args.body.now c.add_record.new.self c.add_record.result ok)

pub returns-clause-files : goal.returns-clause-files
returns-clause-files c =
    let v : SharedValue = record { own = c.self.inside.setup.identity.bufsiz; setup = c.self.inside.setup; files = c.self.inside.files; sessions = c.self.inside.sessions.items } in
    let found : index_by v.setup.names c.args.name.now v.files ≡ Some c.in-Some.at = sym c.find_by.ensures.index ∙ c.in-Some.is in
    let ok = recorded v.files c.add_record.new.self c.in-Some.at c.args.number c.args.body.now c.add_record.result c.add_record.ensures.others c.add_record.ensures.stores in
    subst (λ (w : SharedValue). OnOk c.add_record.result (AtFile c.args.name.now w (λ k. c.add_record.new.self ≡ with_record_at k c.args.number c.args.body.now w.files))) c.self.view_is
    (files-at v c.args.name.now c.in-Some.at found c.args.number c.args.body.now c.add_record.new.self c.add_record.result ok)

pub returns-clause-refused : goal.returns-clause-refused
returns-clause-refused c =
    let v : SharedValue = record { own = c.self.inside.setup.identity.bufsiz; setup = c.self.inside.setup; files = c.self.inside.files; sessions = c.self.inside.sessions.items } in
    let found : index_by v.setup.names c.args.name.now v.files ≡ Some c.in-Some.at = sym c.find_by.ensures.index ∙ c.in-Some.is in
    subst (λ (w : SharedValue). IfErr c.add_record.result (RecordNotAdded w c.args.name.now c.args.number c.args.body.now)) c.self.view_is
    (record-refused v c.args.name.now c.in-Some.at found c.args.number c.args.body.now (file_at c.in-Some.at c.add_record.new.self) c.add_record.result c.add_record.ensures.stores)
