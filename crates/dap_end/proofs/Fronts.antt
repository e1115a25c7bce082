-- What was processed is a front of the items of what the peer sends.
use Rattle.std.proofs.Common.{◌≡◌, ℕ, ◌<◌, arith, refl, sym, ◌∙◌, subst, ap, append_assoc, List, [], ◌∷◌, ◌++◌, length}
use Rattle.std.specs.Prelude.{drop}
use Rattle.std.proofs.lemmas.List.{append-nil, take-append-drop}
use Rattle.std.specs.List.{AllByRecursion}
use Rattle.dap_fields.specs.Spelling.{AreBytes}
use Rattle.dap_msg.specs.declared.items.Item.{Item}
use Rattle.dap_msg.specs.Items.{Items, ItemsFrom}
use Rattle.dap_msg.proofs.ForCallers.{one_item, have_items}
use Rattle.nsp_link.specs.Link.{LinkValue, Stands}
use Rattle.nsp_link.proofs.ForCallers.{whole_of}
use Rattle.dap_end.specs.Going.{oldest_message}
use Rattle.dap_end.specs.Going.{AreItemsOf, AreFrontOf}
use Rattle.dap_end.specs.Going.{StandFrom, GoneThrough}

-- the items of two lists of NSP messages
items_split : (xs ys : List (List ℕ)) (all : List Item) → AreItemsOf (xs ++ ys) all → (a b : List Item) × (all ≡ a ++ b) × AreItemsOf xs a × AreItemsOf ys b
items_split [] ys all h = ([], all, refl, refl, h)
items_split (x ∷ xs) ys all h =
    let rest = items_split xs ys h.1 h.4 in
    (h.0 ++ rest.0, rest.1, h.2 ∙ ap (λ (l : List Item). h.0 ++ l) rest.2 ∙ sym (append_assoc h.0 rest.0 rest.1), (h.0, rest.0, refl, h.3, rest.3), rest.4)

-- an NSP message has one list of items
one_list : (bytes : List ℕ) (a b : List Item) → AreBytes bytes → Items bytes a → Items bytes b → a ≡ b
one_list bytes a b fits h k = let all = have_items bytes fits in all.only a h ∙ sym (all.only b k)

pub same_items : (xs : List (List ℕ)) (a b : List Item) → AllByRecursion AreBytes xs → AreItemsOf xs a → AreItemsOf xs b → a ≡ b
same_items [] a b fits h k = h ∙ sym k
same_items (x ∷ xs) a b fits h k =
    h.2 ∙ ap (λ (l : List Item). l ++ h.1) (one_list x h.0 k.0 fits.0 h.3 k.3) ∙ ap (λ (l : List Item). k.0 ++ l) (same_items xs h.1 k.1 fits.1 h.4 k.4) ∙ sym k.2

-- items that stand before the bytes are the first of all
front_items : (bytes : List ℕ) (begun all : List Item) (at to : ℕ) → AreBytes bytes → StandFrom bytes at begun to → ItemsFrom bytes at all → (rest : List Item) × (all ≡ begun ++ rest)
front_items bytes [] all at to fits h k = (all, refl)
front_items bytes (item ∷ begun) [] at to fits h k = absurd k
front_items bytes (item ∷ begun) (x ∷ []) at to fits h k =
    let same = one_item bytes at item x h.0 (length bytes) fits h.2 k in absurd (omega (arith, same.1, h.1))
front_items bytes (item ∷ begun) (x ∷ y ∷ all) at to fits h k =
    let same = one_item bytes at item x h.0 k.0 fits h.2 k.2 in
    let rest = front_items bytes begun (y ∷ all) h.0 to fits h.3 (subst (λ (n : ℕ). ItemsFrom bytes n (y ∷ all)) same.1 k.3) in
    (rest.0, ap (λ (z : Item). z ∷ (y ∷ all)) same.0 ∙ ap (λ (l : List Item). item ∷ l) rest.1)

front_of_next : (inbox rest : List (List ℕ)) (begun b : List Item) (offset : ℕ) → (0 < length begun → AreBytes (oldest_message inbox)) → StandFrom (oldest_message inbox) 0 begun offset → AreItemsOf (inbox ++ rest) b → (more : List Item) × (b ≡ begun ++ more)
front_of_next inbox rest [] b offset fits h k = (b, refl)
front_of_next [] rest (item ∷ begun) b offset fits h k = absurd (omega (arith, h.1))
front_of_next (m ∷ inbox) rest (item ∷ begun) b offset fits h k =
    let front = front_items m (item ∷ begun) k.0 0 offset (fits (omega arith)) h k.3 in
    (front.0 ++ k.1, k.2 ∙ ap (λ (l : List Item). l ++ k.1) front.1 ∙ append_assoc (item ∷ begun) front.0 k.1)

gone_front : (given inbox rest : List (List ℕ)) (offset : ℕ) (items : List Item) → GoneThrough given inbox offset items → AreFrontOf (given ++ (inbox ++ rest)) items
gone_front given inbox rest offset items g = λ all k.
    let s = items_split given (inbox ++ rest) all k in
    let next = front_of_next inbox rest g.begun s.1 offset g.front_bytes g.front s.4 in (
      next.0,
      s.2 ∙ ap (λ (l : List Item). l ++ s.1) (same_items given s.0 g.done g.bytes s.3 g.whole) ∙ ap (λ (l : List Item). g.done ++ l) next.1
          ∙ sym (append_assoc g.done g.begun next.0) ∙ ap (λ (l : List Item). l ++ next.0) (sym g.all),
    )

-- what was processed is a front of what came
pub here_front : (given inbox : List (List ℕ)) (offset : ℕ) (items : List Item) → GoneThrough given inbox offset items → AreFrontOf (given ++ inbox) items
here_front given inbox offset items g = subst (λ (l : List (List ℕ)). AreFrontOf (given ++ l) items) (append-nil inbox) (gone_front given inbox [] offset items g)

pub served_prefix : (v : LinkValue) (size : ℕ) (messages given : List (List ℕ)) (offset : ℕ) (items : List Item) → 0 < size → Stands v size messages given → GoneThrough given v.coming.inbox offset items → AreFrontOf messages items
served_prefix v size messages given offset items pos s g =
    let w = whole_of v.coming size messages given pos s.taken in
    let rest = drop w.count messages in
    let is : given ++ (v.coming.inbox ++ rest) ≡ messages = sym (append_assoc given v.coming.inbox rest) ∙ ap (λ (l : List (List ℕ)). l ++ rest) w.inbox ∙ take-append-drop w.count messages in
    subst (λ (l : List (List ℕ)). AreFrontOf l items) is (gone_front given v.coming.inbox rest offset items g)
