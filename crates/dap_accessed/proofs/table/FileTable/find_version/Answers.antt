use Rattle.std.proofs.Common.{ap, sym, ◌∙◌, arith, List, ℕ}
use Rattle.std.specs.Prelude.{◌&&◌, ◌==◌}
use Rattle.file_names.specs.Versions.{version_number}
use Rattle.dap_accessed.specs.Naming.{is_alike}
use Rattle.dap_accessed.proofs.Finding.{found-at, one-over}
use Rattle.dap_accessed.proofs.table.FileTable.find_version.Goals as goal

pub returns-then-is_version : goal.returns-then-is_version
returns-then-is_version c =
    let test = λ (n : List ℕ). is_alike n c.args.name.now && version_number n == c.args.number in
    found-at test c.args.self.now c.loop-at.at (omega (arith, c.loop-at-test.true, c.count-at-end.ensures))
    (ap test (sym c.name.ensures) ∙ sym c.is_version.ensures ∙ c.if-is_version.true) c.loop-at.invariant

pub loop-at-preserved : goal.loop-at-preserved
loop-at-preserved c =
    let test = λ (n : List ℕ). is_alike n c.args.name.now && version_number n == c.args.number in
    one-over test c.args.self.now c.loop-at.at (omega (arith, c.loop-at-test.true, c.count-at-end.ensures))
    (ap test (sym c.name.ensures) ∙ sym c.is_version.ensures ∙ c.if-is_version.false) c.loop-at.invariant
