use Rattle.std.proofs.Common.{ap, sym, ◌∙◌, arith, List, ℕ}
use Rattle.std.specs.Prelude.{bytes_eq}
use Rattle.file_names.specs.Folds.{fold}
use Rattle.dap_accessed.proofs.Finding.{found-at, one-over}
use Rattle.dap_accessed.proofs.table.FileTable.find_alike.Goals as goal

pub returns-then-is_alike : goal.returns-then-is_alike
returns-then-is_alike c =
    let test = λ (n : List ℕ). bytes_eq (fold n) (fold c.args.name.now) in
    found-at test c.args.self.now c.loop-at.at (omega (arith, c.loop-at-test.true, c.count-at-end.ensures))
    (ap test (sym c.name.ensures) ∙ sym c.is_alike.ensures ∙ c.if-is_alike.true) c.loop-at.invariant

pub loop-at-preserved : goal.loop-at-preserved
loop-at-preserved c =
    let test = λ (n : List ℕ). bytes_eq (fold n) (fold c.args.name.now) in
    one-over test c.args.self.now c.loop-at.at (omega (arith, c.loop-at-test.true, c.count-at-end.ensures))
    (ap test (sym c.name.ensures) ∙ sym c.is_alike.ensures ∙ c.if-is_alike.false) c.loop-at.invariant
