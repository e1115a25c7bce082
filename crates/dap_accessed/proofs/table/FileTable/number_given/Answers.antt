use Rattle.std.proofs.Common.{◌≡◌, ap, subst, sym, ◌∙◌, ℕ, Option, None}
use Rattle.std.specs.Prelude.{IfSome}
use Rattle.dap_accessed.specs.Naming.{name_with, number_given, unnumbered}
use Rattle.dap_accessed.specs.Standing.{index_of}
use Rattle.dap_accessed.proofs.NewNames.{given_is_new, plain-given}
use Rattle.dap_accessed.proofs.table.FileTable.number_given.Goals as goal

pub returns-in-Versions-clause-new : goal.returns-in-Versions-clause-new
returns-in-Versions-clause-new c =
    let names = c.args.names in
    let name = c.args.name.now in
    let files = c.args.self.now in
    let is : c.version_given.result ≡ number_given names name files = cc (c.in-Versions.is, c.version_given.ensures) in
    subst (λ (o : Option ℕ). IfSome o (λ n. index_of (name_with names name n) files ≡ None)) (sym is) (given_is_new names name files)

pub returns-in_default : goal.returns-in_default
returns-in_default c =
    let names = c.args.names in
    let name = c.args.name.now in
    let files = c.args.self.now in
    let is : c.unnumbered.result ≡ number_given names name files = c.unnumbered.ensures ∙ ap unnumbered c.find_by.ensures.index ∙ plain-given names name files c.in_default.not-Versions in
    record { number = is; new = subst (λ (o : Option ℕ). IfSome o (λ n. index_of (name_with names name n) files ≡ None)) (sym is) (given_is_new names name files) }
