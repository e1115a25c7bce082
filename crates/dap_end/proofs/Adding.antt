-- Files that an end is given.
use Rattle.std.proofs.Common.{◌≡◌, ℕ, List, [], ◌∷◌, ◌++◌, length, refl, sym, ◌∙◌, ap, subst, append_assoc, inr}
use Rattle.std.specs.Prelude.{drop, Result, Ok, Err, OnOk, IfErr}
use Rattle.dap_accessed.specs.declared.setup.ServerSetup.{ServerSetup}
use Rattle.dap_msg.specs.declared.message.Message.{Message}
use Rattle.dap_msg.specs.declared.items.Item.{Item}
use Rattle.dap_msg.specs.Blocked.{NspMessage, Blocked, all_joined, AllFit}
use Rattle.dap_accessed.specs.declared.fault.AddFault.{AddFault}
use Rattle.dap_accessed.specs.declared.fault.AddFault.TheVariants as fault
use Rattle.dap_accessed.specs.Standing.{Files, Fresh}
use Rattle.dap_accessed.specs.Groups.{GroupedItems, stands_after, answers_in, Answers, answers_added, limit_for}
use Rattle.dap_accessed.proofs.ForCallers.{of_any, prefix_fresh}
use Rattle.dap_accessed.specs.Present.{Present, StandsAfter}
use Rattle.dap_accessed.specs.Adding.{IsFresh, MayAdd, MayAddRecord, AddRefused, RecordRefused}
use Rattle.dap_end.specs.Ports.{HasCome}
use Rattle.dap_end.specs.Serving.{IsAfter, NotGiven}
use Rattle.dap_end.specs.Done.{ServingValue, ServerHistory, answers_to}
use Rattle.dap_end.specs.Inner.ServingView.{serving_of}

-- before a Config the answers are those of any files at first
answers_given : (own : ServerSetup) (first other : Files) (before items : List Item) → (stands_after own first (before ++ items)).standing.state ≡ Fresh → answers_to own first before items ≡ answers_to own other before items
answers_given own first other before [] fresh = refl
answers_given own first other before (item ∷ items) fresh =
    let then : (stands_after own first ((before ++ item ∷ []) ++ items)).standing.state ≡ Fresh =
    subst (λ (l : List Item). (stands_after own first l).standing.state ≡ Fresh) (sym (append_assoc before (item ∷ []) items)) fresh in
    let here = of_any own first before (prefix_fresh own first before (item ∷ items) fresh) in
    let one = of_any own first (before ++ item ∷ []) (prefix_fresh own first (before ++ item ∷ []) items then) in
    let limit : limit_for own first before ≡ limit_for own other before = sym (ap (λ (g : GroupedItems). g.standing.scene.limit) (here.any other)) in
    let answered : Answers own first before ≡ Answers own other before = sym (ap (λ (g : GroupedItems). answers_in g.standing.past) (here.any other)) in
    let all : Answers own first (before ++ item ∷ []) ≡ Answers own other (before ++ item ∷ []) = sym (ap (λ (g : GroupedItems). answers_in g.standing.past) (one.any other)) in
    let adds : answers_added own first before item ≡ answers_added own other before item =
    ap (λ (l : List Message). drop (length l) (Answers own first (before ++ item ∷ []))) answered ∙ ap (λ (l : List Message). drop (length (Answers own other before)) l) all in
    ap (λ (l : List NspMessage). l ++ answers_to own first (before ++ item ∷ []) items)
    (ap (λ (n : ℕ). Blocked n (answers_added own first before item)) limit ∙ ap (Blocked (limit_for own other before)) adds)
    ∙ ap (λ (l : List NspMessage). Blocked (limit_for own other before) (answers_added own other before item) ++ l) (answers_given own first other (before ++ item ∷ []) items then)

-- the end was given files, and stands as if it had had them at first
pub given : (old : ServingValue) (after : Present) (r : Result (Unit {0}) AddFault) → after.setup ≡ old.present.setup → OnOk r (IsFresh old.present)
    → OnOk r ((first : Files) (items : List Item) → StandsAfter first items old.present → StandsAfter after.files items after)
    → OnOk r ((past : ServerHistory) → IsAfter past old → IsAfter (record past { first = after.files }) (serving_of old.port after))
given old after (Ok u) own fresh stands = λ past h.
    let own_old = old.present.setup in
    let is_fresh = fresh.is past.first past.items h.serving in
    let any = (of_any own_old past.first past.items is_fresh).any after.files in
    let same : Answers own_old past.first past.items ≡ Answers own_old after.files past.items = sym (ap (λ (g : GroupedItems). answers_in g.standing.past) any) in
    record {
      serving = stands past.first past.items h.serving;
      gone = h.gone;
      sends = h.sends;
      answers =
          h.answers ∙ ap all_joined (answers_given own_old past.first after.files [] past.items is_fresh)
          ∙ ap (λ (n : ServerSetup). all_joined (answers_to n after.files [] past.items)) (sym own);
      fit = subst AllFit (same ∙ ap (λ (n : ServerSetup). Answers n after.files past.items) (sym own)) h.fit;
    }
given old after (Err f) own fresh stands = tt

pub fresh_to_add : (r : Result (Unit {0}) AddFault) (v : Present) (name : List ℕ) → OnOk r (MayAdd v name) → OnOk r (IsFresh v)
fresh_to_add (Ok u) v name h = h.0
fresh_to_add (Err f) v name h = tt

pub fresh_to_store : (r : Result (Unit {0}) AddFault) (v : Present) (n : ℕ) (body : List ℕ) → OnOk r (MayAddRecord v n body) → OnOk r (IsFresh v)
fresh_to_store (Ok u) v n body h = h.0
fresh_to_store (Err f) v n body h = tt

refused_add : (v : ServingValue) (name : List ℕ) (f : AddFault) → (HasCome v.port → ⊥) → AddRefused v.present name f → NotGiven v (AddRefused v.present name) f
refused_add v name fault.Busy none h = inr h
refused_add v name fault.FileExists none h = (none, h)
refused_add v name fault.NoMemory none h = (none, h)
refused_add v name fault.NoFile none h = absurd h
refused_add v name (fault.Record r) none h = absurd h

refused_record : (v : ServingValue) (n : ℕ) (body : List ℕ) (f : AddFault) → (HasCome v.port → ⊥) → RecordRefused v.present n body f → NotGiven v (RecordRefused v.present n body) f
refused_record v n body fault.Busy none h = inr h
refused_record v n body fault.NoFile none h = (none, h)
refused_record v n body (fault.Record r) none h = (none, h)
refused_record v n body fault.NoMemory none h = (none, h)
refused_record v n body fault.FileExists none h = absurd h

pub by_add : (v : ServingValue) (name : List ℕ) (r : Result (Unit {0}) AddFault) → (HasCome v.port → ⊥) → IfErr r (λ f. AddRefused v.present name f) → IfErr r (λ f. NotGiven v (AddRefused v.present name) f)
by_add v name (Ok u) none h = tt
by_add v name (Err f) none h = refused_add v name f none h

pub by_add_record : (v : ServingValue) (n : ℕ) (body : List ℕ) (r : Result (Unit {0}) AddFault) → (HasCome v.port → ⊥) → IfErr r (λ f. RecordRefused v.present n body f) → IfErr r (λ f. NotGiven v (RecordRefused v.present n body) f)
by_add_record v n body (Ok u) none h = tt
by_add_record v n body (Err f) none h = refused_record v n body f none h
