use Rattle.std.proofs.Common.{◌≡◌, ◌≤◌, ℕ, cond, Bool, true, false, List, length, Option, Some, None, IfSome, IsSome, is_some, inl, inr, refl, set, sym, ap, subst, ◌∙◌, arith}
use Rattle.std.specs.Prelude.{MatchBool}
use Rattle.slab.specs.Slab.{Slab, get, slab_len, with_value}
use Rattle.rec_file.specs.declared.look.Look.{Look}
use Rattle.rec_file.specs.declared.shapes.Shape.{Shape}
use Rattle.rec_file.specs.Shapes.{is_seq}
use Rattle.rec_file.specs.Files.{FileVal, IsFile, file_without_record}
use Rattle.rec_file.specs.Inner.Pages.{Cells, HaveOwnSlots, cell_of, page_cell, pages_at}
use Rattle.rec_file.specs.Inner.Slots.{Clears, HasEmptied, slot_of}
use Rattle.rec_file.specs.Pages.{page_of}
use Rattle.std.specs.FinMap as map
use Rattle.rec_file.proofs.FileLaws.{IsFile-removed}
use Rattle.rec_file.proofs.Keyed.{lookup_is_at}
use Rattle.rec_file.proofs.Rising.{at}
use Rattle.rec_file.proofs.RelativeLaws.{HoldsFile, held, here, absent, zero_is_none, clear_in_page, drop_page}
use Rattle.rec_file.proofs.PlacedLaws.{no-page, its-page, stands, page-written, page-removed, own-less, len-written, length-removed}
use Rattle.rec_file.proofs.relative.RelFileOneWalk.remove_if_occupied.Goals as goal

module _ {l : Look} (s : Shape) (pages pages' : Slab Cells) (es es' : List (ℕ × ℕ)) (f : FileVal) (h : HoldsFile s l (pages_at (get pages) es) f) (n : ℕ) (least : 1 ≤ n) where
  its : (e : HasEmptied es pages (page_of n) (cell_of n)) → at (pages_at (get pages) es) (page_of n) ≡ Some e.cells
  its e = its-page (get pages) es _ e.slot e.cells (sym (lookup_is_at es _) ∙ e.has) e.there

  -- whether the number had a record
  occupied : (b : Bool) → Clears es es' pages pages' (page_of n) (cell_of n) b → b ≡ is_some (map.get f.records n)
  occupied true (e, left) = sym e.occupied ∙ ap is_some (here _ _ f h n e.cells least (its e))
  occupied false (none, same, pages_same) = by (slot_of es (page_of n)) refl none
    where
      of : (i : ℕ) (o : Option Cells) → slot_of es (page_of n) ≡ Some i → get pages i ≡ o → page_cell o (cell_of n) ≡ None → false ≡ is_some (map.get f.records n)
      of i None has there none = absurd (stands (get pages) es _ i h.all (sym (lookup_is_at es _) ∙ has) there)
      of i (Some cells) has there none = ap is_some (sym none ∙ here _ _ f h n cells least (its-page (get pages) es _ i cells (sym (lookup_is_at es _) ∙ has) there))

      by : (o : Option ℕ) → slot_of es (page_of n) ≡ o → IfSome o (λ i. page_cell (get pages i) (cell_of n) ≡ None) → false ≡ is_some (map.get f.records n)
      by None has none = ap is_some (absent _ _ f h n least (no-page (get pages) es _ (sym (lookup_is_at es _) ∙ has)))
      by (Some i) has none = of i (get pages i) has refl none

  -- the file without it
  after : (own : HaveOwnSlots es) (b : Bool) → Clears es es' pages pages' (page_of n) (cell_of n) b → HoldsFile s l (pages_at (get pages') es') (cond b (file_without_record f n) f)
  after own false (none, same, pages_same) =
      subst (λ p. HoldsFile s l (pages_at (get p) es') f) (sym pages_same) (subst (λ ss. HoldsFile s l (pages_at (get pages) ss) f) (sym same) h)
  after own true (e, inl stays) =
      subst (λ ps. HoldsFile s l ps (file_without_record f n))
      (sym (ap (λ p. pages_at (get p) es') stays.written ∙ ap (pages_at (get (with_value pages e.slot (set e.cells (cell_of n) None)))) stays.slots ∙ page-written pages es _ e.slot e.cells _ _ own e.has e.there refl))
      (clear_in_page _ _ f h n e.cells least (its e) stays.others)
  after own true (e, inr goes) =
      subst (λ ps. HoldsFile s l ps (file_without_record f n)) (sym (page-removed pages pages' es es' _ e.slot e.cells _ own e.has e.there goes.free goes.slots)) (drop_page _ _ f h n e.cells least (its e) goes.none)

  -- the pages that are left have slots of their own
  kept : HaveOwnSlots es → slab_len pages ≡ length es → (b : Bool) → Clears es es' pages pages' (page_of n) (cell_of n) b → HaveOwnSlots es' × (slab_len pages' ≡ length es')
  kept own many false (none, same, pages_same) = (subst HaveOwnSlots (sym same) own, ap slab_len pages_same ∙ many ∙ sym (ap length same))
  kept own many true (e, inl stays) =
      (subst HaveOwnSlots (sym stays.slots) own, ap slab_len stays.written ∙ len-written pages e.slot e.cells (set e.cells (cell_of n) None) e.there ∙ many ∙ sym (ap length stays.slots))
  kept own many true (e, inr goes) =
      let fewer = goes.fewer in
      let as_many = len-written pages e.slot e.cells (set e.cells (cell_of n) None) e.there ∙ many in
      let slots = ap length goes.slots in
      let gone = length-removed es (page_of n) e.slot (sym (lookup_is_at es _) ∙ e.has) in
      (own-less es es' _ goes.slots own, omega (arith, fewer, as_many, slots, gone))

  whole : (b : Bool) → IsFile f → is_seq f.shape.org ≡ false → IsFile (cond b (file_without_record f n) f)
  whole true file rel = IsFile-removed f n file rel
  whole false file rel = file

told : (b : Bool) (x f : FileVal) (n : ℕ) → x ≡ cond b (file_without_record f n) f → MatchBool b (x ≡ file_without_record f n) (x ≡ f)
told true x f n is = is
told false x f n is = is

pub returns-then-number-eq0-clause-occupied : goal.returns-then-number-eq0-clause-occupied
returns-then-number-eq0-clause-occupied c = rw c.if-number-eq0.true (ap is_some (zero_is_none _ _ c.args.self.now (held c.self.inside.shape (pages_at (get c.self.inside.pages) c.self.inside.slots) c.args.self.now c.self.view_is c.self.invariant.2 c.self.invariant.3)))

pub clear-requires-clause-stands : goal.clear-requires-clause-stands
clear-requires-clause-stands c = by (slot_of c.self.inside.slots c.page_of.result) refl
  where
    some : (i : ℕ) (o : Option Cells) → slot_of c.self.inside.slots c.page_of.result ≡ Some i → get c.self.inside.pages i ≡ o → IsSome o
    some i None has none = absurd (stands (get c.self.inside.pages) c.self.inside.slots _ i c.self.invariant.3 (sym (lookup_is_at c.self.inside.slots _) ∙ has) none)
    some i (Some cells) has there = refl

    by : (o : Option ℕ) → slot_of c.self.inside.slots c.page_of.result ≡ o → IfSome o (λ i. IsSome (get c.self.inside.pages i))
    by None has = tt
    by (Some i) has = some i (get c.self.inside.pages i) has refl

pub invariant_of-self-2 : goal.invariant_of-self-2
invariant_of-self-2 c =
    let h = held c.self.inside.shape (pages_at (get c.self.inside.pages) c.self.inside.slots) c.args.self.now c.self.view_is c.self.invariant.2 c.self.invariant.3 in
    let least : 1 ≤ c.args.number = omega (arith, c.if-number-eq0.false) in
    let clears : Clears c.self.inside.slots c.clear.new.self c.self.inside.pages c.clear.new.pages (page_of c.args.number) (cell_of c.args.number) c.clear.result =
    rw (sym c.page_of.ensures, sym c.cell_of.ensures.same) c.clear.ensures in
    let now = after c.self.inside.shape c.self.inside.pages c.clear.new.pages c.self.inside.slots c.clear.new.self c.args.self.now h c.args.number least c.self.invariant.4 c.clear.result clears in
    let slots = kept c.self.inside.shape c.self.inside.pages c.clear.new.pages c.self.inside.slots c.clear.new.self c.args.self.now h c.args.number least c.self.invariant.4 c.self.invariant.5 c.clear.result clears in
    let file = whole c.self.inside.shape c.self.inside.pages c.clear.new.pages c.self.inside.slots c.clear.new.self c.args.self.now h c.args.number least c.clear.result (subst IsFile c.self.view_is c.self.invariant.0) c.requires.relative in
    (subst IsFile (sym now.same) file, c.self.invariant.1, now.sorted, now.all, slots.0, slots.1)

pub returns-clause-occupied : goal.returns-clause-occupied
returns-clause-occupied c =
    let h = held c.self.inside.shape (pages_at (get c.self.inside.pages) c.self.inside.slots) c.args.self.now c.self.view_is c.self.invariant.2 c.self.invariant.3 in
    let clears : Clears c.self.inside.slots c.clear.new.self c.self.inside.pages c.clear.new.pages (page_of c.args.number) (cell_of c.args.number) c.clear.result =
    rw (sym c.page_of.ensures, sym c.cell_of.ensures.same) c.clear.ensures in
    occupied c.self.inside.shape c.self.inside.pages c.clear.new.pages c.self.inside.slots c.clear.new.self c.args.self.now h c.args.number (omega (arith, c.if-number-eq0.false)) c.clear.result clears

pub returns-clause-ok : goal.returns-clause-ok
returns-clause-ok c =
    let h = held c.self.inside.shape (pages_at (get c.self.inside.pages) c.self.inside.slots) c.args.self.now c.self.view_is c.self.invariant.2 c.self.invariant.3 in
    let clears : Clears c.self.inside.slots c.clear.new.self c.self.inside.pages c.clear.new.pages (page_of c.args.number) (cell_of c.args.number) c.clear.result =
    rw (sym c.page_of.ensures, sym c.cell_of.ensures.same) c.clear.ensures in
    told c.clear.result _ c.args.self.now c.args.number
    (after c.self.inside.shape c.self.inside.pages c.clear.new.pages c.self.inside.slots c.clear.new.self c.args.self.now h c.args.number (omega (arith, c.if-number-eq0.false)) c.self.invariant.4 c.clear.result clears).same
