use Rattle.std.proofs.Common.{◌≡◌, [], length, None, IfSome, IsSome, refl, ap, sym, subst, arith}
use Rattle.std.proofs.lemmas.Bool.Decides.{nat_tests}
use Rattle.slab.specs.Slab.{get}
use Rattle.rec_file.specs.Inner.Pages.{page_cell}
use Rattle.rec_file.specs.Inner.Slots.{Clears, bare, listed}
use Rattle.rec_file.proofs.HeldLaws.{no_items, Holds, group-sorted, get-some, get-none, clear-some, clear-last}
use Rattle.rec_file.proofs.slots.Slots.clear.Goals as goal

pub returns-in_default : goal.returns-in_default
returns-in_default c =
    let holds : Holds c.self.inside.groups.entries = record { sorted = c.self.invariant.0; are = c.self.invariant.1; have = c.self.invariant.2 } in
    let none = get-none c.self.inside.groups.entries holds c.args.self.now c.self.view_is c.args.page (sym c.in_default.ensures.value) in
    (subst (λ o. IfSome o (λ i. page_cell (get c.args.pages.now i) c.args.cell ≡ None)) none tt, rw c.get_mut.follows.holds-at-none c.self.view_is, refl)

pub clear_in-cleared-requires-clause-sorted : goal.clear_in-cleared-requires-clause-sorted
clear_in-cleared-requires-clause-sorted c =
    group-sorted c.self.inside.groups.entries (record { sorted = c.self.invariant.0; are = c.self.invariant.1; have = c.self.invariant.2 }) c.args.self.now c.self.view_is c.args.page c.in-Some.group.now (sym c.in-Some.ensures.value)

pub clear_in-cleared-requires-clause-stands : goal.clear_in-cleared-requires-clause-stands
clear_in-cleared-requires-clause-stands c =
    subst (λ o. IfSome o (λ i. IsSome (get c.args.pages.now i)))
    (sym (get-some c.self.inside.groups.entries (record { sorted = c.self.invariant.0; are = c.self.invariant.1; have = c.self.invariant.2 }) c.args.self.now c.self.view_is c.args.page c.in-Some.group.now (sym c.in-Some.ensures.value)))
    c.requires.stands

pub invariant_of-self-then-is_empty : goal.invariant_of-self-then-is_empty
invariant_of-self-then-is_empty c =
    let holds : Holds c.self.inside.groups.entries = record { sorted = c.self.invariant.0; are = c.self.invariant.1; have = c.self.invariant.2 } in
    let none : c.clear_in-cleared.new.group.items ≡ [] =
    no_items c.clear_in-cleared.new.group.items (let size : length c.clear_in-cleared.new.group.items ≡ 0 = grind (arith, nat_tests, rw c.as_slice.ensures.value at c.is_empty.ensures, c.if-is_empty.true) in omega arith) in
    let kept = (clear-last c.self.inside.groups.entries holds c.args.self.now c.self.view_is c.args.page c.in-Some.group.now (sym c.in-Some.ensures.value) c.clear_in-cleared.new.group _ (c.get_mut.follows.holds c.clear_in-cleared.new.group).0
    c.args.pages.now c.clear_in-cleared.new.pages c.args.cell c.remove.new.self.entries c.remove.ensures.entries none c.clear_in-cleared.result c.clear_in-cleared.ensures).1 in
    (kept.sorted, kept.are, kept.have)

pub invariant_of-self-else-is_empty : goal.invariant_of-self-else-is_empty
invariant_of-self-else-is_empty c =
    let holds : Holds c.self.inside.groups.entries = record { sorted = c.self.invariant.0; are = c.self.invariant.1; have = c.self.invariant.2 } in
    let some : (length c.clear_in-cleared.new.group.items ≡ 0 → ⊥) = λ none. grind (arith, nat_tests, rw c.as_slice.ensures.value at c.is_empty.ensures, c.if-is_empty.false, none) in
    let kept = (clear-some c.self.inside.groups.entries holds c.args.self.now c.self.view_is c.args.page c.in-Some.group.now (sym c.in-Some.ensures.value) c.clear_in-cleared.new.group _ (c.get_mut.follows.holds c.clear_in-cleared.new.group).0
    c.args.pages.now c.clear_in-cleared.new.pages c.args.cell c.clear_in-cleared.result c.clear_in-cleared.ensures (λ none. some (ap length none))).1 in
    (kept.sorted, kept.are, kept.have)

pub returns-then-is_empty : goal.returns-then-is_empty
returns-then-is_empty c =
    let holds : Holds c.self.inside.groups.entries = record { sorted = c.self.invariant.0; are = c.self.invariant.1; have = c.self.invariant.2 } in
    let none : c.clear_in-cleared.new.group.items ≡ [] =
    no_items c.clear_in-cleared.new.group.items (let size : length c.clear_in-cleared.new.group.items ≡ 0 = grind (arith, nat_tests, rw c.as_slice.ensures.value at c.is_empty.ensures, c.if-is_empty.true) in omega arith) in
    let listed : c.match-remove.self ≡ listed (bare c.remove.new.self.entries) = grind (arith, nat_tests, c.match-remove.branch) in
    subst (λ slots. Clears c.args.self.now slots c.args.pages.now c.clear_in-cleared.new.pages c.args.page c.args.cell c.clear_in-cleared.result) (sym listed) (clear-last c.self.inside.groups.entries holds c.args.self.now c.self.view_is c.args.page c.in-Some.group.now (sym c.in-Some.ensures.value) c.clear_in-cleared.new.group _ (c.get_mut.follows.holds c.clear_in-cleared.new.group).0
    c.args.pages.now c.clear_in-cleared.new.pages c.args.cell c.remove.new.self.entries c.remove.ensures.entries none c.clear_in-cleared.result c.clear_in-cleared.ensures).0

pub returns-else-is_empty : goal.returns-else-is_empty
returns-else-is_empty c =
    let holds : Holds c.self.inside.groups.entries = record { sorted = c.self.invariant.0; are = c.self.invariant.1; have = c.self.invariant.2 } in
    let some : (length c.clear_in-cleared.new.group.items ≡ 0 → ⊥) = λ none. grind (arith, nat_tests, rw c.as_slice.ensures.value at c.is_empty.ensures, c.if-is_empty.false, none) in
    (clear-some c.self.inside.groups.entries holds c.args.self.now c.self.view_is c.args.page c.in-Some.group.now (sym c.in-Some.ensures.value) c.clear_in-cleared.new.group _ (c.get_mut.follows.holds c.clear_in-cleared.new.group).0
    c.args.pages.now c.clear_in-cleared.new.pages c.args.cell c.clear_in-cleared.result c.clear_in-cleared.ensures (λ none. some (ap length none))).0
