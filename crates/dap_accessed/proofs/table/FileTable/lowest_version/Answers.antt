use Rattle.std.proofs.Common.{◌≡◌, ap, sym, ◌∙◌, arith, ◌+◌, List, ℕ, Bool, take}
use Rattle.std.specs.Prelude.{if◌then◌else◌, min}
use Rattle.file_names.specs.Versions.{version_number}
use Rattle.dap_accessed.specs.Naming.{is_alike, lowest_version}
use Rattle.dap_accessed.specs.Standing.{name_at}
use Rattle.dap_accessed.proofs.Numbers.{lowest-next}
use Rattle.dap_accessed.proofs.table.FileTable.lowest_version.Goals.{then-is_alike, else-is_alike}
use Rattle.dap_accessed.proofs.table.FileTable.lowest_version.Goals as goal

pub loop-at-preserved : goal.loop-at-preserved
loop-at-preserved c =
    let name = c.args.name.now in
    let files = c.args.self.now in
    let at = c.loop-at.at in
    let named = name_at at files in
    let before : ℕ = lowest_version name (take at files) in
    let next = lowest-next name files at (omega (arith, c.loop-at-test.true, c.count-at-end.ensures)) in
    let test : is_alike named name ≡ c.is_alike.result = ap (λ (n : List ℕ). is_alike n name) (sym c.name.ensures) ∙ sym c.is_alike.ensures in
    let is : (b : Bool) → is_alike named name ≡ b → lowest_version name (take (at + 1) files) ≡ (if b then min (version_number named) before else before) =
    λ b e. next ∙ ap (λ (b : Bool). if b then min (version_number named) before else before) e in
    elim c.if-is_alike.branch [
      | then-is_alike w ↦
          w.lowest-is ∙ w.min-lowest.ensures ∙ ap (λ (n : ℕ). min n c.loop-at.lowest) (w.version_number.ensures ∙ ap version_number w.name-then-is_alike.ensures)
          ∙ ap (λ (n : ℕ). min (version_number named) n) c.loop-at.invariant ∙ sym (is _ (test ∙ w.if-is_alike.true))
      | else-is_alike w ↦ w.lowest-is ∙ c.loop-at.invariant ∙ sym (is _ (test ∙ w.if-is_alike.false))
    ]
