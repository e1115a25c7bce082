-- The items of an NSP message.
use Rattle.std.proofs.Common.{◌≡◌, ◌≢◌, ℕ, zero, suc, ◌+◌, ◌-◌, ◌<◌, ◌≤◌, List, [], ◌∷◌, ◌++◌, length, drop, Result, Ok, Err, refl, sym, ap, subst, ◌∙◌, append_assoc, arith, inl, inr}
use Rattle.std.specs.Prelude.{map}
use Rattle.std.proofs.lemmas.Bool.{cases_lt}
use Rattle.std.proofs.lemmas.List.{drop_at, length-append, length-drop}
use Rattle.dap_fields.specs.Spelling.{AreBytes}
use Rattle.dap_msg.specs.declared.fault.MsgFault.{MsgFault}
use Rattle.dap_msg.specs.Message.{Message}
use Rattle.dap_msg.specs.Decoding.{StandsInFront, IsDecoded}
use Rattle.dap_msg.specs.Inner.Whole.{message_at, fault_view}
use Rattle.dap_msg.specs.Canon.{canon, Fits}
use Rattle.dap_msg.specs.Blocked.{blocked_bytes, AllFit}
use Rattle.dap_msg.specs.Items.{Item, Whole, Malformed, ItemAt, ItemsFrom, Items}
use Rattle.dap_msg.proofs.Messages.{exact}
use Rattle.dap_msg.proofs.Canonical.{canon_stands}
use Rattle.dap_msg.proofs.Values.{limits}
use Rattle.dap_msg.proofs.Listing.{AreBytes-drop, stands_some, one_item}

-- ---- What was written.

placed : (m : Message) → Fits m → (before after : List ℕ) (next : ℕ) → next ≡ length before + length (canon m) → ItemAt (before ++ (canon m ++ after)) (length before) (Whole m) next
placed m fits before after next e =
    let stands = canon_stands m (limits m fits) after in
    (length (canon m), subst (λ (b : List ℕ). StandsInFront m (length (canon m)) b) (sym (drop_at before (canon m ++ after) (length before) refl)) stands, e)

-- wherever what is written of a message stands, the message is the item there, and what follows begins after it
pub read_in_place : (m : Message) → Fits m → (before after : List ℕ) → ItemAt (before ++ (canon m ++ after)) (length before) (Whole m) (length before + length (canon m))
read_in_place m fits before after = placed m fits before after (length before + length (canon m)) refl

listed_from : (before : List ℕ) (m : Message) (messages : List Message) → AllFit (m ∷ messages) → ItemsFrom (before ++ blocked_bytes (m ∷ messages)) (length before) (map (λ x. Whole x) (m ∷ messages))
listed_from before m [] fit = placed m fit.0 before [] _ (omega (arith, length-append before (canon m ++ []), length-append (canon m) []))
listed_from before m (second ∷ more) fit =
    let after = blocked_bytes (second ∷ more) in
    let some : 2 ≤ length (canon second) = stands_some second _ _ (canon_stands second (limits second fit.1.0) []) in
    let next : length (before ++ canon m) ≡ length before + length (canon m) = length-append before (canon m) in (
      length (before ++ canon m),
      omega (arith, next, some, length-append before (canon m ++ after), length-append (canon m) after, length-append (canon second) (blocked_bytes more)),
      placed m fit.0 before after _ next,
      subst (λ (b : List ℕ). ItemsFrom b (length (before ++ canon m)) (map (λ x. Whole x) (second ∷ more))) (append_assoc before (canon m) after) (listed_from (before ++ canon m) second more fit.1),
    )

pub are_items : (messages : List Message) → AllFit messages → messages ≢ [] → Items (blocked_bytes messages) (map (λ m. Whole m) messages)
are_items [] fit some = absurd (some refl)
are_items (m ∷ messages) fit some = listed_from [] m messages fit

-- ---- Every list of bytes has items.

record Next (bytes : List ℕ) (at : ℕ) : Type 0 where
  item : Item
  next : ℕ
  stands : ItemAt bytes at item next
  within : next ≤ length bytes
  after : at ≤ next
  further : at < length bytes → at < next

answered : (bytes : List ℕ) (at : ℕ) (q : Result (Message × ℕ) MsgFault) → at ≤ length bytes → IsDecoded (drop at bytes) q → Next bytes at
answered bytes at (Ok x) le h = record {
  item = Whole x.0;
  next = at + x.1;
  stands = (x.1, h, refl);
  within = omega (arith, h.there, length-drop at bytes);
  after = omega arith;
  further = λ lt. omega (arith, stands_some x.0 x.1 (drop at bytes) h);
}
answered bytes at (Err f) le h = record {
  item = Malformed (record { kind = f.kind; message_type = f.message_type; offset = at + f.offset });
  next = length bytes;
  stands = (f.offset, h.0, refl, h.1, refl);
  within = omega arith;
  after = le;
  further = λ lt. lt;
}

next_item : (bytes : List ℕ) (at : ℕ) → AreBytes bytes → at ≤ length bytes → Next bytes at
next_item bytes at fits le = answered bytes at (fault_view (drop at bytes) (message_at (drop at bytes))) le (exact (drop at bytes) (AreBytes-drop at bytes fits))

in_front : (bytes : List ℕ) (at next : ℕ) (item : Item) → next < length bytes → ItemAt bytes at item next → (items : List Item) → ItemsFrom bytes next items → ItemsFrom bytes at (item ∷ items)
in_front bytes at next item lt h [] rest = absurd rest
in_front bytes at next item lt h (second ∷ more) rest = (next, lt, h, rest)

some_items : (n : ℕ) (bytes : List ℕ) (at : ℕ) → AreBytes bytes → at ≤ length bytes → length bytes - at < n → (items : List Item) × ItemsFrom bytes at items
some_items zero bytes at fits le room = absurd (omega arith)
some_items (suc n) bytes at fits le room =
    let i = next_item bytes at fits le in
    elim (cases_lt i.next (length bytes)) [
      | inl lt ↦
          (let rest = some_items n bytes i.next fits i.within (omega (arith, i.after, i.further (omega (arith, i.after, lt)))) in
          (i.item ∷ rest.0, in_front bytes at i.next i.item lt i.stands rest.0 rest.1))
      | inr ge ↦
          (let end : i.next ≡ length bytes = omega (arith, i.within, ge) in
          (i.item ∷ [], subst (λ (k : ℕ). ItemAt bytes at i.item k) end i.stands))
    ]

-- ---- One list alone.

pub same_items : (bytes : List ℕ) (at : ℕ) (items others : List Item) → AreBytes bytes → ItemsFrom bytes at items → ItemsFrom bytes at others → others ≡ items
same_items bytes at [] others fits h o = absurd h
same_items bytes at (a ∷ items) [] fits h o = absurd o
same_items bytes at (a ∷ []) (b ∷ []) fits h o = ap (λ (x : Item). x ∷ []) (one_item bytes at a b (length bytes) (length bytes) fits h o).0
same_items bytes at (a ∷ []) (b ∷ c ∷ others) fits h o = absurd (omega (arith, (one_item bytes at a b (length bytes) o.0 fits h o.2).1, o.1))
same_items bytes at (a ∷ c ∷ items) (b ∷ []) fits h o = absurd (omega (arith, (one_item bytes at a b h.0 (length bytes) fits h.2 o).1, h.1))
same_items bytes at (a ∷ c ∷ items) (b ∷ d ∷ others) fits h o =
    let one = one_item bytes at a b h.0 o.0 fits h.2 o.2 in
    let rest = same_items bytes h.0 (c ∷ items) (d ∷ others) fits h.3 (subst (λ (k : ℕ). ItemsFrom bytes k (d ∷ others)) one.1 o.3) in
    ap (λ (x : Item). x ∷ d ∷ others) one.0 ∙ ap (λ (xs : List Item). a ∷ xs) rest

-- An NSP message has items, and one list of them alone.
pub record HasItems (bytes : List ℕ) : Type 0 where
  pub items : List Item
  pub listed : Items bytes items
  pub only : (others : List Item) → Items bytes others → others ≡ items

pub have_items : (bytes : List ℕ) → AreBytes bytes → HasItems bytes
have_items bytes fits =
    let all = some_items (suc (length bytes)) bytes 0 fits (omega arith) (omega arith) in
    record { items = all.0; listed = all.1; only = λ others o. same_items bytes 0 all.0 others fits all.1 o }
