-- Going through the items of the NSP messages that came.
use Rattle.std.proofs.Common.{◌≡◌, ℕ, ◌<◌, ◌≤◌, arith, refl, sym, ◌∙◌, subst, ap, append_assoc, List, drop, [], ◌∷◌, ◌++◌, length, inl, inr, eq-eqb}
use Rattle.std.specs.Prelude.{◌==◌, if◌then◌else◌}
use Rattle.std.proofs.lemmas.Bool.{cases_eq, ne_eqb}
use Rattle.std.proofs.lemmas.List.{append-nil, length-drop}
use Rattle.std.specs.List.{AllByRecursion}
use Rattle.dap_fields.specs.Spelling.{AreBytes}
use Rattle.dap_msg.specs.declared.items.Item.{Item}
use Rattle.dap_msg.specs.declared.items.Item.TheVariants.{Whole, Malformed}
use Rattle.dap_msg.specs.Items.{IsOffset, ItemAt, Items, ItemsFrom}
use Rattle.dap_msg.proofs.ForCallers.{stands_some}
use Rattle.dap_end.specs.Going.{oldest_message}
use Rattle.dap_end.specs.Going.{AreItemsOf}
use Rattle.dap_end.specs.Going.{StandFrom, GoneThrough}

-- ---- One item.

offset_within : (at : ℕ) (bytes : List ℕ) → IsOffset at bytes → at ≤ length bytes
offset_within at bytes (inl lt) = omega arith
offset_within at bytes (inr none) = omega (arith, none.0)

-- an item goes on, and ends within the bytes
pub item_ends : (bytes : List ℕ) (at : ℕ) (item : Item) (next : ℕ) → IsOffset at bytes → ItemAt bytes at item next → (at < length bytes → at < next) × (next ≤ length bytes)
item_ends bytes at (Whole m) next offset h =
    let some = stands_some m h.0 (drop at bytes) h.1 in
    (λ lt. omega (arith, some, h.2), omega (arith, h.1.there, length-drop at bytes, h.2, offset_within at bytes offset))
item_ends bytes at (Malformed fault) next offset h = (λ lt. omega (arith, h.4), omega (arith, h.4))

-- ---- More comes.

-- in no bytes stands none, so these may be any
pub stand_none : (items : List Item) (bytes : List ℕ) (at to : ℕ) → StandFrom [] at items to → StandFrom bytes at items to
stand_none [] bytes at to h = h
stand_none (item ∷ items) bytes at to h = absurd (omega (arith, h.1))

front_stays : (inbox more : List (List ℕ)) (begun : List Item) (offset : ℕ) → StandFrom (oldest_message inbox) 0 begun offset → StandFrom (oldest_message (inbox ++ more)) 0 begun offset
front_stays [] more begun offset h = stand_none begun (oldest_message more) 0 offset h
front_stays (m ∷ inbox) more begun offset h = h

front_bytes : (inbox more : List (List ℕ)) (begun : List Item) (offset : ℕ) → StandFrom (oldest_message inbox) 0 begun offset → (0 < length begun → AreBytes (oldest_message inbox)) → 0 < length begun → AreBytes (oldest_message (inbox ++ more))
front_bytes [] more [] offset h fits some = absurd (omega arith)
front_bytes [] more (item ∷ begun) offset h fits some = absurd (omega (arith, h.1))
front_bytes (m ∷ inbox) more begun offset h fits some = fits some

pub gone_stays : (given inbox more : List (List ℕ)) (offset : ℕ) (items : List Item) → GoneThrough given inbox offset items → GoneThrough given (inbox ++ more) offset items
gone_stays given inbox more offset items g =
    record { done = g.done; begun = g.begun; all = g.all; whole = g.whole; front = front_stays inbox more g.begun offset g.front; bytes = g.bytes; front_bytes = front_bytes inbox more g.begun offset g.front g.front_bytes }

pub gone_nothing : (inbox : List (List ℕ)) → GoneThrough [] inbox 0 []
gone_nothing inbox = record { done = []; begun = []; all = refl; whole = refl; front = refl; bytes = tt; front_bytes = λ some. absurd (omega arith) }

-- ---- One item more.

stand_more : (bytes : List ℕ) (begun : List Item) (item : Item) (at offset next : ℕ) → StandFrom bytes at begun offset → next < length bytes → ItemAt bytes offset item next
    → StandFrom bytes at (begun ++ item ∷ []) next
stand_more bytes [] item at offset next h lt there = (next, lt, subst (λ (n : ℕ). ItemAt bytes n item next) (sym h) there, refl)
stand_more bytes (first ∷ begun) item at offset next h lt there = (h.0, h.1, h.2, stand_more bytes begun item h.0 offset next h.3 lt there)

stand_ends : (bytes : List ℕ) (begun : List Item) (item : Item) (at offset : ℕ) → StandFrom bytes at begun offset → ItemAt bytes offset item (length bytes)
    → ItemsFrom bytes at (begun ++ item ∷ [])
stand_ends bytes [] item at offset h there = subst (λ (n : ℕ). ItemAt bytes n item (length bytes)) (sym h) there
stand_ends bytes (first ∷ []) item at offset h there = (h.0, h.1, h.2, stand_ends bytes [] item h.0 offset h.3 there)
stand_ends bytes (first ∷ second ∷ begun) item at offset h there = (h.0, h.1, h.2, stand_ends bytes (second ∷ begun) item h.0 offset h.3 there)

items_more : (given : List (List ℕ)) (bytes : List ℕ) (done front : List Item) → AreItemsOf given done → Items bytes front → AreItemsOf (given ++ bytes ∷ []) (done ++ front)
items_more [] bytes done front h i = (front, [], ap (λ (l : List Item). l ++ front) h ∙ sym (append-nil front), i, refl)
items_more (m ∷ given) bytes done front h i =
    (h.0, h.1 ++ front, ap (λ (l : List Item). l ++ front) h.2 ∙ append_assoc h.0 h.1 front, h.3, items_more given bytes h.1 front h.4 i)

bytes-more : (given : List (List ℕ)) (bytes : List ℕ) → AllByRecursion AreBytes given → AreBytes bytes → AllByRecursion AreBytes (given ++ bytes ∷ [])
bytes-more [] bytes h fits = (fits, tt)
bytes-more (m ∷ given) bytes h fits = (h.0, bytes-more given bytes h.1 fits)

-- ---- The next item.

-- the items from the offset on are the others of the oldest NSP message
stand_rest : (bytes : List ℕ) (begun rest : List Item) (at offset : ℕ) → StandFrom bytes at begun offset → ItemsFrom bytes offset rest → ItemsFrom bytes at (begun ++ rest)
stand_rest bytes [] rest at offset h r = subst (λ (n : ℕ). ItemsFrom bytes n rest) (sym h) r
stand_rest bytes (first ∷ []) [] at offset h r = absurd r
stand_rest bytes (first ∷ []) (x ∷ rest) at offset h r = (h.0, h.1, h.2, stand_rest bytes [] (x ∷ rest) h.0 offset h.3 r)
stand_rest bytes (first ∷ second ∷ begun) rest at offset h r = (h.0, h.1, h.2, stand_rest bytes (second ∷ begun) rest h.0 offset h.3 r)

pub next_items : (given inbox later : List (List ℕ)) (bytes : List ℕ) (offset : ℕ) (items rest : List Item) → inbox ≡ bytes ∷ later → GoneThrough given inbox offset items → ItemsFrom bytes offset rest → AreItemsOf (given ++ bytes ∷ []) (items ++ rest)
next_items given inbox later bytes offset items rest came g r =
    let front : StandFrom bytes 0 g.begun offset = subst (λ (l : List (List ℕ)). StandFrom (oldest_message l) 0 g.begun offset) came g.front in
    let there : Items bytes (g.begun ++ rest) = stand_rest bytes g.begun rest 0 offset front r in
    subst (AreItemsOf (given ++ bytes ∷ [])) (sym (append_assoc g.done g.begun rest) ∙ ap (λ (l : List Item). l ++ rest) (sym g.all)) (items_more given bytes g.done (g.begun ++ rest) g.whole there)

-- the item doesn't end the NSP message
pub gone_within : (given later : List (List ℕ)) (bytes : List ℕ) (offset next : ℕ) (items : List Item) (item : Item)
    → AreBytes bytes → GoneThrough given (bytes ∷ later) offset items → next < length bytes → ItemAt bytes offset item next → GoneThrough given (bytes ∷ later) next (items ++ item ∷ [])
gone_within given later bytes offset next items item fits g lt there =
    record {
      done = g.done;
      begun = g.begun ++ item ∷ [];
      all = ap (λ (l : List Item). l ++ item ∷ []) g.all ∙ append_assoc g.done g.begun (item ∷ []);
      whole = g.whole;
      front = stand_more bytes g.begun item 0 offset next g.front lt there;
      bytes = g.bytes;
      front_bytes = λ some. fits;
    }

-- it ends it
pub gone_whole : (given later : List (List ℕ)) (bytes : List ℕ) (offset : ℕ) (items : List Item) (item : Item)
    → AreBytes bytes → GoneThrough given (bytes ∷ later) offset items → ItemAt bytes offset item (length bytes) → GoneThrough (given ++ bytes ∷ []) later 0 (items ++ item ∷ [])
gone_whole given later bytes offset items item fits g there =
    record {
      done = g.done ++ (g.begun ++ item ∷ []);
      begun = [];
      all = ap (λ (l : List Item). l ++ item ∷ []) g.all ∙ append_assoc g.done g.begun (item ∷ []) ∙ sym (append-nil (g.done ++ (g.begun ++ item ∷ [])));
      whole = items_more given bytes g.done (g.begun ++ item ∷ []) g.whole (stand_ends bytes g.begun item 0 offset g.front there);
      front = refl;
      bytes = bytes-more given bytes g.bytes fits;
      front_bytes = λ some. absurd (omega arith);
    }

-- either
pub gone_one : (given later : List (List ℕ)) (bytes : List ℕ) (offset next : ℕ) (items : List Item) (item : Item)
    → AreBytes bytes → GoneThrough given (bytes ∷ later) offset items → ItemAt bytes offset item next → next ≤ length bytes
    → (let ends = next == length bytes in GoneThrough (if ends then given ++ bytes ∷ [] else given) (if ends then later else bytes ∷ later) (if ends then 0 else next) (items ++ item ∷ []))
gone_one given later bytes offset next items item fits g there within =
    elim (cases_eq next (length bytes)) [
      | inl end ↦ rw (eq-eqb next (length bytes) end) (gone_whole given later bytes offset items item fits g (subst (λ (n : ℕ). ItemAt bytes offset item n) end there))
      | inr inside ↦ rw (ne_eqb next (length bytes) inside) (gone_within given later bytes offset next items item fits g (omega (arith, within, inside)) there)
    ]
