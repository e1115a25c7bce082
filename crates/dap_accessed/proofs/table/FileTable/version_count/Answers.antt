use Rattle.std.proofs.Common.{◌≡◌, ap, sym, ◌∙◌, arith, ◌+◌, List, ℕ, Bool, take}
use Rattle.std.specs.Prelude.{if◌then◌else◌}
use Rattle.dap_accessed.specs.Naming.{is_alike, version_count}
use Rattle.dap_accessed.specs.Standing.{name_at}
use Rattle.dap_accessed.proofs.Numbers.{count-before, count-next}
use Rattle.dap_accessed.proofs.table.FileTable.version_count.Goals.{then-is_alike, else-is_alike}
use Rattle.dap_accessed.proofs.table.FileTable.version_count.Goals as goal

pub overflow_add-count : goal.overflow_add-count
overflow_add-count c =
    let few = count-before c.args.name.now c.args.self.now c.loop-at.at in
    omega (arith, few, c.loop-at.invariant, c.loop-at-test.true)

pub loop-at-preserved : goal.loop-at-preserved
loop-at-preserved c =
    let name = c.args.name.now in
    let files = c.args.self.now in
    let at = c.loop-at.at in
    let named = name_at at files in
    let before : ℕ = version_count name (take at files) in
    let next = count-next name files at (omega (arith, c.loop-at-test.true, c.count-at-end.ensures)) in
    let test : is_alike named name ≡ c.is_alike.result = ap (λ (n : List ℕ). is_alike n name) (sym c.name.ensures) ∙ sym c.is_alike.ensures in
    let is : (b : Bool) → is_alike named name ≡ b → version_count name (take (at + 1) files) ≡ (if b then before + 1 else before) =
    λ b e. next ∙ ap (λ (b : Bool). if b then before + 1 else before) e in
    elim c.if-is_alike.branch [
      | then-is_alike w ↦ w.count-is ∙ ap (λ (n : ℕ). n + 1) c.loop-at.invariant ∙ sym (is _ (test ∙ w.if-is_alike.true))
      | else-is_alike w ↦ w.count-is ∙ c.loop-at.invariant ∙ sym (is _ (test ∙ w.if-is_alike.false))
    ]
