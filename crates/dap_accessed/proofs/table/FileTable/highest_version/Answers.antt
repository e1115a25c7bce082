use Rattle.std.proofs.Common.{◌≡◌, ap, sym, ◌∙◌, arith, ◌+◌, List, ℕ, Bool, take}
use Rattle.std.specs.Prelude.{if◌then◌else◌, max}
use Rattle.file_names.specs.Versions.{version_number}
use Rattle.dap_accessed.specs.Naming.{is_alike, highest_version}
use Rattle.dap_accessed.specs.Standing.{name_at}
use Rattle.dap_accessed.proofs.Numbers.{highest-next}
use Rattle.dap_accessed.proofs.table.FileTable.highest_version.Goals.{then-is_alike, else-is_alike}
use Rattle.dap_accessed.proofs.table.FileTable.highest_version.Goals as goal

pub loop-at-preserved : goal.loop-at-preserved
loop-at-preserved c =
    let name = c.args.name.now in
    let files = c.args.self.now in
    let at = c.loop-at.at in
    let named = name_at at files in
    let before : ℕ = highest_version name (take at files) in
    let next = highest-next name files at (omega (arith, c.loop-at-test.true, c.count-at-end.ensures)) in
    let test : is_alike named name ≡ c.is_alike.result = ap (λ (n : List ℕ). is_alike n name) (sym c.name.ensures) ∙ sym c.is_alike.ensures in
    let is : (b : Bool) → is_alike named name ≡ b → highest_version name (take (at + 1) files) ≡ (if b then max (version_number named) before else before) =
    λ b e. next ∙ ap (λ (b : Bool). if b then max (version_number named) before else before) e in
    elim c.if-is_alike.branch [
      | then-is_alike w ↦
          w.highest-is ∙ w.max-highest.ensures ∙ ap (λ (n : ℕ). max n c.loop-at.highest) (w.version_number.ensures ∙ ap version_number w.name-then-is_alike.ensures)
          ∙ ap (λ (n : ℕ). max (version_number named) n) c.loop-at.invariant ∙ sym (is _ (test ∙ w.if-is_alike.true))
      | else-is_alike w ↦ w.highest-is ∙ c.loop-at.invariant ∙ sym (is _ (test ∙ w.if-is_alike.false))
    ]
