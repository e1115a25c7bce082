use Rattle.std.proofs.Common.{◌≡◌, Result, Ok, Err, IfOk, None, ap, sym, subst, ◌∙◌}
use Rattle.std.specs.Prelude.{OnOk, OnErr}
use Rattle.rec_file.specs.Inner.Slots.{had_of, with_slot}
use Rattle.rec_file.proofs.FileLaws.{wanted}
use Rattle.rec_file.proofs.HeldLaws.{Holds, group-sorted, get-some, get-none, put-some, put-same, put-none, slots-sorted}
use Rattle.rec_file.proofs.slots.Slots.put.Goals as goal

either : {A E P Q R : Type 0} (r : Result A E) → OnOk r P → OnErr r Q → (P → R) → (Q → R) → R
either (Ok a) p q f g = f p
either (Err e) p q f g = g q

on-ok : {A E P Q : Type 0} (r : Result A E) → OnOk r P → (P → Q) → OnOk r Q
on-ok (Ok a) p f = f p
on-ok (Err e) p f = tt

on-err : {A E P Q : Type 0} (r : Result A E) → OnErr r P → (P → Q) → OnErr r Q
on-err (Ok a) p f = tt
on-err (Err e) p f = f p

pub put_in-requires : goal.put_in-requires
put_in-requires c =
    group-sorted c.self.inside.groups.entries (record { sorted = c.self.invariant.0; are = c.self.invariant.1; have = c.self.invariant.2 }) c.args.self.now c.self.view_is c.args.page c.in-Some.group.now (sym c.in-Some.ensures.value)

pub invariant_of-self : goal.invariant_of-self
invariant_of-self c =
    let holds : Holds c.self.inside.groups.entries = record { sorted = c.self.invariant.0; are = c.self.invariant.1; have = c.self.invariant.2 } in
    let written = (c.get_mut.follows.holds c.put_in.new.group).0 in
    let kept : Holds _ =
    either c.put_in.result c.put_in.ensures.ok c.put_in.ensures.err
    (λ same. (put-some c.self.inside.groups.entries holds c.args.self.now c.self.view_is c.args.page c.in-Some.group.now (sym c.in-Some.ensures.value) c.put_in.new.group _ written c.args.pages.now.vacant_key same).1)
    (λ same. (put-same c.self.inside.groups.entries holds c.args.self.now c.self.view_is c.args.page c.in-Some.group.now (sym c.in-Some.ensures.value) c.put_in.new.group _ written same).1) in
    (kept.sorted, kept.are, kept.have)

pub returns-in-Some-clause-had : goal.returns-in-Some-clause-had
returns-in-Some-clause-had c =
    subst (λ o. IfOk c.put_in.result (λ put. had_of put ≡ o))
    (get-some c.self.inside.groups.entries (record { sorted = c.self.invariant.0; are = c.self.invariant.1; have = c.self.invariant.2 }) c.args.self.now c.self.view_is c.args.page c.in-Some.group.now (sym c.in-Some.ensures.value))
    c.put_in.ensures.had

pub returns-in-Some-clause-ok : goal.returns-in-Some-clause-ok
returns-in-Some-clause-ok c =
    let holds : Holds c.self.inside.groups.entries = record { sorted = c.self.invariant.0; are = c.self.invariant.1; have = c.self.invariant.2 } in
    let written = (c.get_mut.follows.holds c.put_in.new.group).0 in
    on-ok c.put_in.result c.put_in.ensures.ok
    (λ same. (put-some c.self.inside.groups.entries holds c.args.self.now c.self.view_is c.args.page c.in-Some.group.now (sym c.in-Some.ensures.value) c.put_in.new.group _ written c.args.pages.now.vacant_key same).0)

pub returns-in-Some-clause-err : goal.returns-in-Some-clause-err
returns-in-Some-clause-err c =
    let holds : Holds c.self.inside.groups.entries = record { sorted = c.self.invariant.0; are = c.self.invariant.1; have = c.self.invariant.2 } in
    let written = (c.get_mut.follows.holds c.put_in.new.group).0 in
    on-err c.put_in.result c.put_in.ensures.err
    (λ same. (put-same c.self.inside.groups.entries holds c.args.self.now c.self.view_is c.args.page c.in-Some.group.now (sym c.in-Some.ensures.value) c.put_in.new.group _ written same).0)

pub returns-in-Some-clause-sorted : goal.returns-in-Some-clause-sorted
returns-in-Some-clause-sorted c =
    slots-sorted c.self.inside.groups.entries (record { sorted = c.self.invariant.0; are = c.self.invariant.1; have = c.self.invariant.2 }) c.args.self.now c.self.view_is

pub returns-in_err-slot-clause-sorted : goal.returns-in_err-slot-clause-sorted
returns-in_err-slot-clause-sorted c =
    slots-sorted c.self.inside.groups.entries (record { sorted = c.self.invariant.0; are = c.self.invariant.1; have = c.self.invariant.2 }) c.args.self.now c.self.view_is

pub returns-in_err-push-clause-sorted : goal.returns-in_err-push-clause-sorted
returns-in_err-push-clause-sorted c =
    slots-sorted c.self.inside.groups.entries (record { sorted = c.self.invariant.0; are = c.self.invariant.1; have = c.self.invariant.2 }) c.args.self.now c.self.view_is

pub returns-in_err-insert-clause-sorted : goal.returns-in_err-insert-clause-sorted
returns-in_err-insert-clause-sorted c =
    slots-sorted c.self.inside.groups.entries (record { sorted = c.self.invariant.0; are = c.self.invariant.1; have = c.self.invariant.2 }) c.args.self.now c.self.view_is

pub returns-clause-sorted : goal.returns-clause-sorted
returns-clause-sorted c =
    slots-sorted c.self.inside.groups.entries (record { sorted = c.self.invariant.0; are = c.self.invariant.1; have = c.self.invariant.2 }) c.args.self.now c.self.view_is

pub invariant_of-self-2 : goal.invariant_of-self-2
invariant_of-self-2 c =
    let holds : Holds c.self.inside.groups.entries = record { sorted = c.self.invariant.0; are = c.self.invariant.1; have = c.self.invariant.2 } in
    let made = rw c.get_mut.follows.holds-at-none at c.in_ok-insert.ensures.entries in
    let kept = (put-none c.self.inside.groups.entries holds c.args.self.now c.self.view_is c.args.page c.in_ok-slot.slot c.push.new.self c.insert.new.self.entries (sym c.in_default.ensures.value) made (rw c.new-group.ensures.items at c.in_ok-push.ensures.items)).1 in
    (kept.sorted, kept.are, kept.have)

pub returns-clause-had : goal.returns-clause-had
returns-clause-had c =
    get-none c.self.inside.groups.entries (record { sorted = c.self.invariant.0; are = c.self.invariant.1; have = c.self.invariant.2 }) c.args.self.now c.self.view_is c.args.page (sym c.in_default.ensures.value)

pub returns-clause-ok : goal.returns-clause-ok
returns-clause-ok c =
    let holds : Holds c.self.inside.groups.entries = record { sorted = c.self.invariant.0; are = c.self.invariant.1; have = c.self.invariant.2 } in
    let made = rw c.get_mut.follows.holds-at-none at c.in_ok-insert.ensures.entries in
    (put-none c.self.inside.groups.entries holds c.args.self.now c.self.view_is c.args.page c.in_ok-slot.slot c.push.new.self c.insert.new.self.entries (sym c.in_default.ensures.value) made (rw c.new-group.ensures.items at c.in_ok-push.ensures.items)).0
    ∙ ap (λ slot. with_slot c.args.self.now c.args.page slot) c.in_ok-slot.ensures.slot

pub returns-in-Some-clause-wanted : goal.returns-in-Some-clause-wanted
returns-in-Some-clause-wanted c =
    subst (λ o. OnErr c.put_in.result (o ≡ None))
    (get-some c.self.inside.groups.entries (record { sorted = c.self.invariant.0; are = c.self.invariant.1; have = c.self.invariant.2 }) c.args.self.now c.self.view_is c.args.page c.in-Some.group.now (sym c.in-Some.ensures.value))
    c.put_in.ensures.wanted

pub returns-in_err-slot-clause-wanted : goal.returns-in_err-slot-clause-wanted
returns-in_err-slot-clause-wanted c =
    wanted _ (sym (get-none c.self.inside.groups.entries (record { sorted = c.self.invariant.0; are = c.self.invariant.1; have = c.self.invariant.2 }) c.args.self.now c.self.view_is c.args.page (sym c.in_default.ensures.value)))

pub returns-in_err-push-clause-wanted : goal.returns-in_err-push-clause-wanted
returns-in_err-push-clause-wanted c =
    wanted _ (sym (get-none c.self.inside.groups.entries (record { sorted = c.self.invariant.0; are = c.self.invariant.1; have = c.self.invariant.2 }) c.args.self.now c.self.view_is c.args.page (sym c.in_default.ensures.value)))

pub returns-in_err-insert-clause-wanted : goal.returns-in_err-insert-clause-wanted
returns-in_err-insert-clause-wanted c =
    wanted _ (sym (get-none c.self.inside.groups.entries (record { sorted = c.self.invariant.0; are = c.self.invariant.1; have = c.self.invariant.2 }) c.args.self.now c.self.view_is c.args.page (sym c.in_default.ensures.value)))
