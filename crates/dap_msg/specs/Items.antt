-- The items of an NSP message: DAP messages, one after another.
use Rattle.std.specs.Prelude.{◌≡◌, ℕ, ◌+◌, ◌<◌, ◌⊎◌, List, [], ◌∷◌, length, drop, slice_index}
-- A message; or the remaining bytes of the NSP message, of which no message can be read, with their first fault. The
-- fault's offset is counted from the start of the NSP message.
pub use Rattle.dap_msg.specs.declared.items.Item.{Item}
pub use Rattle.dap_msg.specs.declared.items.Item.TheVariants.{Whole, Malformed}
use Rattle.dap_msg.specs.Decoding.{StandsInFront, IsFault, IsSpelled}

-- an offset at which an item begins; an NSP message without bytes has one too
abbrev pub IsOffset : ℕ → List ℕ → Type 0
IsOffset at bytes = (at < length bytes) ⊎ ((at ≡ 0) × (length bytes ≡ 0))

-- the item that begins at an offset, and the offset after it; a malformed item goes to the end
abbrev pub ItemAt : List ℕ → ℕ → Item → ℕ → Type 0
ItemAt bytes at (Whole m) next = (n : ℕ) × StandsInFront m n (drop at bytes) × (next ≡ at + n)
ItemAt bytes at (Malformed fault) next =
    (offset : ℕ) × IsFault (drop at bytes) fault.kind offset × (fault.offset ≡ at + offset)
    × (fault.message_type ≡ slice_index (drop at bytes) 0) × (next ≡ length bytes)

-- it is the item at some offset of some bytes
abbrev pub IsRead : Item → Type 0
IsRead item = (bytes : List ℕ) × (at : ℕ) × (next : ℕ) × ItemAt bytes at item next

-- a message, if it is one, is one that some bytes spell
abbrev pub ItemFits : Item → Type 0
ItemFits (Whole m) = IsSpelled m
ItemFits (Malformed fault) = Unit {0}

-- The items from an offset on: each begins where the one before it ends, and the last one ends with the bytes.
abbrev pub ItemsFrom : List ℕ → ℕ → List Item → Type 0
ItemsFrom bytes at [] = ⊥
ItemsFrom bytes at (item ∷ []) = ItemAt bytes at item (length bytes)
ItemsFrom bytes at (item ∷ second ∷ more) =
    (next : ℕ) × (next < length bytes) × ItemAt bytes at item next × ItemsFrom bytes next (second ∷ more)

-- The items of an NSP message. By the law `has_items` each has exactly one list of them. One without bytes has one
-- item, Truncated, of type 0 at offset 0. By the law `lists_messages` the items of joined messages that fit are these
-- messages.
abbrev pub Items : List ℕ → List Item → Type 0
Items bytes items = ItemsFrom bytes 0 items
