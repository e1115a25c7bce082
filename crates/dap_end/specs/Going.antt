-- The items of NSP messages, processed one after another.
use Rattle.std.specs.Prelude.{◌≡◌, ℕ, ◌<◌, ◌==◌, if◌then◌else◌, List, [], ◌∷◌, ◌++◌, length, slice_index_or}
use Rattle.std.specs.List.{AllByRecursion}
use Rattle.dap_fields.specs.Spelling.{AreBytes}
use Rattle.dap_msg.specs.declared.items.Item.{Item}
use Rattle.dap_msg.specs.Items.{ItemAt, Items, IsOffset}
use Rattle.dap_end.specs.Ports.{PortValue}

-- the items of these NSP messages, in order
abbrev pub AreItemsOf : List (List ℕ) → List Item → Type 0
AreItemsOf [] items = items ≡ []
AreItemsOf (bytes ∷ messages) items =
    (front back : List Item) × (items ≡ front ++ back) × Items bytes front × AreItemsOf messages back

-- the items are a prefix of those of these NSP messages: each once, and in order
abbrev pub AreFrontOf : List (List ℕ) → List Item → Type 0
AreFrontOf messages items = (all : List Item) → AreItemsOf messages all → (rest : List Item) × (all ≡ items ++ rest)

-- The NSP messages that are processed after an item of the next one, which ends at this offset. That message counts as
-- processed when its last item is.
abbrev pub processed_after : (processed : List (List ℕ)) → (bytes : List ℕ) → (next : ℕ) → List (List ℕ)
processed_after processed bytes next =
    if next == length bytes then processed ++ bytes ∷ [] else processed

-- the next item of the oldest NSP message that came, at the port's offset
pub record NextItem (p : PortValue) : Type 0 where
  pub bytes : List ℕ
  pub later : List (List ℕ)
  pub came : p.link.coming.inbox ≡ bytes ∷ later
  pub fits : AreBytes bytes
  pub item : Item
  pub next : ℕ
  pub reads : ItemAt bytes p.offset item next
  pub offset : IsOffset p.offset bytes

-- ---- What was processed so far.

-- the oldest NSP message that came and isn't processed, empty if there is none
abbrev pub oldest_message : List (List ℕ) → List ℕ
oldest_message inbox = slice_index_or inbox 0 []

-- the items are those from one offset of the bytes to another, and none of them ends with the bytes
abbrev pub StandFrom : List ℕ → ℕ → List Item → ℕ → Type 0
StandFrom bytes at [] to = at ≡ to
StandFrom bytes at (item ∷ items) to =
    (next : ℕ) × (next < length bytes) × ItemAt bytes at item next × StandFrom bytes next items to

-- The items are those of the NSP messages that were processed, and those before the offset in the oldest one that
-- is left.
pub record GoneThrough (given inbox : List (List ℕ)) (offset : ℕ) (items : List Item) : Type 0 where
  pub done : List Item
  pub begun : List Item
  pub all : items ≡ done ++ begun
  pub whole : AreItemsOf given done
  pub front : StandFrom (oldest_message inbox) 0 begun offset
  pub bytes : AllByRecursion AreBytes given
  pub front_bytes : 0 < length begun → AreBytes (oldest_message inbox)
