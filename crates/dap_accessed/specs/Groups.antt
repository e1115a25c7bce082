-- The items served are cut into groups (DAP 5.6.0, Control and Data messages). A group is one item, except that a PUT
-- for a record, or an UPDATE, has the next item in its group. Only the last group may be unfinished, and then it has
-- done nothing.
use Rattle.std.specs.Prelude.{ℕ, List, [], ◌∷◌, ◌++◌, length, drop, Option, Some, None}
use Rattle.dap_msg.specs.declared.message.Message.{Message}
use Rattle.dap_msg.specs.declared.items.Item.{Item}
use Rattle.dap_accessed.specs.declared.setup.ServerSetup.{ServerSetup}
use Rattle.dap_accessed.specs.Standing.{Files, ServerState, Connected, Group, Standing, Effect, start}
use Rattle.dap_accessed.specs.Effects.{Begun, Turn, Does, BeginsGroup, told, turn_of, effect_with}

-- the state after a group
abbrev pub over : Standing → ServerState → Item → Effect → Standing
over s state first effect =
    record {
      scene = effect.scene;
      state = effect.state;
      past = record { state = state; first = first; answers = effect.answers } ∷ s.past;
    }

-- the state after a group of two
abbrev pub after_two : (own : ServerSetup) → Standing → Begun → Item → Standing
after_two own s begun second =
    over s (Connected begun.opened begun.stream) begun.first
    (told own (effect_with begun.change s.scene begun.opened begun.stream second))

-- the state after the whole groups, and what is begun of one that isn't whole
pub record GroupedItems : Type 0 where
  pub standing : Standing
  pub begun : Option Begun

-- the items, cut into groups from this state on
abbrev pub grouped_items : (own : ServerSetup) → Standing → List Item → GroupedItems
grouped_items own s [] = record { standing = s; begun = None }
grouped_items own s (item ∷ []) =
    elim (turn_of own s item) [
      | Does effect ↦ record { standing = over s s.state item (told own effect); begun = None }
      | BeginsGroup begun ↦ record { standing = s; begun = Some begun }
    ]
grouped_items own s (item ∷ second ∷ items) =
    elim (turn_of own s item) [
      | Does effect ↦ grouped_items own (over s s.state item (told own effect)) (second ∷ items)
      | BeginsGroup begun ↦ grouped_items own (after_two own s begun second) items
    ]

-- the answers of the groups, in order
abbrev pub answers_in : List Group → List Message
answers_in [] = []
answers_in (group ∷ past) = answers_in past ++ group.answers

-- the state of a server with this setup, and these files at first, after these items
abbrev pub stands_after : (own : ServerSetup) → Files → List Item → GroupedItems
stands_after own first items = grouped_items own (start first) items

-- the maximum length of a message to the peer then
abbrev pub limit_for : (own : ServerSetup) → Files → List Item → ℕ
limit_for own first items = (stands_after own first items).standing.scene.limit

-- the files then: those at first after the operations of all groups
abbrev pub After : (own : ServerSetup) → Files → List Item → Files
After own first items = (stands_after own first items).standing.scene.files

-- the answers of all groups, in order
abbrev pub Answers : (own : ServerSetup) → Files → List Item → List Message
Answers own first items = answers_in (stands_after own first items).standing.past

-- the answers that one more item adds
abbrev pub answers_added : (own : ServerSetup) → Files → List Item → Item → List Message
answers_added own first items item = drop (length (Answers own first items)) (Answers own first (items ++ item ∷ []))

-- ---- One more item finishes the group that was begun, or is a group, or begins one.

-- the state after a group, or with one begun
abbrev pub next_group : (own : ServerSetup) → Standing → Item → Turn → GroupedItems
next_group own s item (Does effect) = record { standing = over s s.state item (told own effect); begun = None }
next_group own s item (BeginsGroup begun) = record { standing = s; begun = Some begun }

-- the state after an item, where this group was begun
abbrev pub more_after : (own : ServerSetup) → Standing → Option Begun → Item → GroupedItems
more_after own s None item = next_group own s item (turn_of own s item)
more_after own s (Some begun) item = record { standing = after_two own s begun item; begun = None }

-- the state after one more item
abbrev pub after_item : (own : ServerSetup) → GroupedItems → Item → GroupedItems
after_item own c item = more_after own c.standing c.begun item

-- the answers of a group; one that is begun has none yet
abbrev pub next_answers : (own : ServerSetup) → Turn → List Message
next_answers own (Does effect) = (told own effect).answers
next_answers own (BeginsGroup begun) = []

-- the answers to an item, where this group was begun
abbrev pub answers_after : (own : ServerSetup) → Standing → Option Begun → Item → List Message
answers_after own s None item = next_answers own (turn_of own s item)
answers_after own s (Some begun) item =
    (told own (effect_with begun.change s.scene begun.opened begun.stream item)).answers

-- the answers to an item in this state
abbrev pub answers_of : (own : ServerSetup) → GroupedItems → Item → List Message
answers_of own c item = answers_after own c.standing c.begun item
