-- One item more finishes a group or begins one.
use Rattle.std.proofs.Common.{◌≡◌, List, [], ◌∷◌, ◌++◌, length, drop, refl, ap, sym, ◌∙◌}
use Rattle.dap_accessed.specs.declared.setup.ServerSetup.{ServerSetup}
use Rattle.std.proofs.Math.Seq.{drop-append_seam}
use Rattle.std.specs.Prelude.{Option, Some, None}
use Rattle.std.proofs.lemmas.List.{append-nil}
use Rattle.dap_msg.specs.declared.message.Message.{Message}
use Rattle.dap_msg.specs.declared.items.Item.{Item}
use Rattle.dap_accessed.specs.Standing.{Files, Standing, start}
use Rattle.dap_accessed.specs.Effects.{Begun, Turn, Does, BeginsGroup, told, turn_of}
use Rattle.dap_accessed.specs.Groups.{GroupedItems, over, after_two, grouped_items, stands_after, answers_added, answers_in, Answers, after_item, next_group, more_after, next_answers, answers_after, answers_of}
use Rattle.dap_accessed.specs.Present.{present_of}

pub cut-more : (own : ServerSetup) (s : Standing) (items : List Item) (item : Item) → grouped_items own s (items ++ item ∷ []) ≡ after_item own (grouped_items own s items) item
cut-more own s [] item = refl
cut-more own s (first ∷ []) item =
    elim (turn_of own s first) as (λ (t : Turn).
    ◌≡◌ {A = GroupedItems} (elim t [ Does effect ↦ grouped_items own (over s s.state first (told own effect)) (item ∷ []) | BeginsGroup begun ↦ grouped_items own (after_two own s begun item) [] ])
    (after_item own (elim t [ Does effect ↦ record { standing = over s s.state first (told own effect); begun = None } | BeginsGroup begun ↦ record { standing = s; begun = Some begun } ]) item)) [
      | Does effect ↦ refl
      | BeginsGroup begun ↦ refl
    ]
cut-more own s (first ∷ second ∷ items) item =
    elim (turn_of own s first) as (λ (t : Turn).
    ◌≡◌ {A = GroupedItems} (elim t [ Does effect ↦ grouped_items own (over s s.state first (told own effect)) (second ∷ (items ++ item ∷ [])) | BeginsGroup begun ↦ grouped_items own (after_two own s begun second) (items ++ item ∷ []) ])
    (after_item own (elim t [ Does effect ↦ grouped_items own (over s s.state first (told own effect)) (second ∷ items) | BeginsGroup begun ↦ grouped_items own (after_two own s begun second) items ]) item)) [
      | Does effect ↦ cut-more own (over s s.state first (told own effect)) (second ∷ items) item
      | BeginsGroup begun ↦ cut-more own (after_two own s begun second) items item
    ]

next_answers-more : (own : ServerSetup) (s : Standing) (item : Item) (t : Turn) → answers_in (next_group own s item t).standing.past ≡ answers_in s.past ++ next_answers own t
next_answers-more own s item (Does effect) = refl
next_answers-more own s item (BeginsGroup begun) = sym (append-nil (answers_in s.past))

-- the answers after an item are those before and its own
pub answers_after-more : (own : ServerSetup) (s : Standing) (b : Option Begun) (item : Item) → answers_in (more_after own s b item).standing.past ≡ answers_in s.past ++ answers_after own s b item
answers_after-more own s None item = next_answers-more own s item (turn_of own s item)
answers_after-more own s (Some begun) item = refl

Answers-then : (own : ServerSetup) (first : Files) (items : List Item) (item : Item) → Answers own first (items ++ item ∷ []) ≡ Answers own first items ++ answers_of own (stands_after own first items) item
Answers-then own first items item =
    let c = stands_after own first items in
    ap (λ (c : GroupedItems). answers_in c.standing.past) (cut-more own (start first) items item) ∙ answers_after-more own c.standing c.begun item

-- what an item adds is what the end answers from where it stands
pub added-is : (own : ServerSetup) (first : Files) (items : List Item) (item : Item) → answers_added own first items item ≡ answers_of own (stands_after own first items) item
added-is own first items item =
    ap (drop (length (Answers own first items))) (Answers-then own first items item) ∙ drop-append_seam (Answers own first items) (answers_of own (stands_after own first items) item)

-- The answers to a list and one item more are those to the list, and those that the item adds.
pub Answers-more : (own : ServerSetup) (first : Files) (items : List Item) (item : Item) → Answers own first (items ++ item ∷ []) ≡ Answers own first items ++ answers_added own first items item
Answers-more own first items item = Answers-then own first items item ∙ ap (λ (l : List Message). Answers own first items ++ l) (sym (added-is own first items item))

pub present-more : (own : ServerSetup) (first : Files) (items : List Item) (item : Item) → present_of own (stands_after own first (items ++ item ∷ [])) ≡ present_of own (after_item own (stands_after own first items) item)
present-more own first items item = ap (present_of own) (cut-more own (start first) items item)
