-- The lines of an NSP message, from an offset on.
use Rattle.std.proofs.Common.{◌≡◌, ◌<◌, ◌+◌, ◌-◌, ◌++◌, ℕ, Bool, true, List, [], ◌∷◌, length, take, length-append, ap, ◌∙◌, sym, subst, arith}
use Rattle.std.specs.List.{flat_map}
use Rattle.std.proofs.lemmas.List.{append_assoc, append-nil}
use Rattle.std.proofs.Math.Seq.{take-append-add}
use Rattle.std.specs.Global.{Vec}
use Rattle.texts.specs.Adding.{StillBegins}
use Rattle.dap_msg.specs.declared.items.Item.{Item}
use Rattle.dap_msg.specs.Items.{ItemAt, ItemsFrom, Items}
use Rattle.dap_listing.specs.Messages.{IsMessagesText, item_line, item_line_in}
use Rattle.texts.specs.Text.{line_feed}
use Rattle.dap_meanings.specs.Meanings.{item_words, words_text, with_words, KeepsButEnd}
use Rattle.dap_msg.specs.declared.items.Item.TheVariants.{Whole, Malformed}
use Rattle.dap_msg.specs.declared.message.Message.TheVariants.{Config, Attrib, Access, Control, Contran, Ack, Accomp, Filedata, Status, Other}

-- what began with a text still does when more is appended
pub begins_further : (first then last : Vec ℕ) → StillBegins first then → StillBegins then last → StillBegins first last
unfolding StillBegins
begins_further first then last (one, is_one) (other, is_other) =
    (one ++ other, is_other ∙ ap (λ (l : List ℕ). l ++ other) is_one ∙ append_assoc first.items one other)

-- `done` is what stands before the lines of the items from the offset on
abbrev pub GoesOn : (in_words : Bool) → List ℕ → ℕ → List ℕ → Type 0
GoesOn in_words bytes at done =
    (later : List Item) → ItemsFrom bytes at later
    → (items : List Item) × Items bytes items × (flat_map (item_line_in in_words) items ≡ done ++ flat_map (item_line_in in_words) later)

pub goes_further : (in_words : Bool) (bytes : List ℕ) (at next : ℕ) (item : Item) (done : List ℕ) → ItemAt bytes at item next → next < length bytes
    → GoesOn in_words bytes at done → GoesOn in_words bytes next (done ++ item_line_in in_words item)
goes_further in_words bytes at next item done here below goes_on [] rest = elim rest [ ]
goes_further in_words bytes at next item done here below goes_on (second ∷ more) rest =
    let all = goes_on (item ∷ second ∷ more) (next, below, here, rest) in
    (all.0, all.1, all.2 ∙ sym (append_assoc done (item_line_in in_words item) (flat_map (item_line_in in_words) (second ∷ more))))

pub ends_here : (in_words : Bool) (bytes : List ℕ) (at next : ℕ) (item : Item) (done old text new : List ℕ) → ItemAt bytes at item next → next ≡ length bytes
    → GoesOn in_words bytes at done → text ≡ old ++ done → new ≡ text ++ item_line_in in_words item
    → (x : List ℕ) × IsMessagesText in_words bytes x × (new ≡ old ++ x)
ends_here in_words bytes at next item done old text new here end goes_on so_far appended =
    let all = goes_on (item ∷ []) (subst (ItemAt bytes at item) end here) in (
      done ++ item_line_in in_words item,
      (all.0, all.1, sym (all.2 ∙ ap (λ t. done ++ t) (append-nil (item_line_in in_words item)))),
      appended ∙ ap (λ t. t ++ item_line_in in_words item) so_far ∙ append_assoc old done (item_line_in in_words item),
    )

-- ---- Words before the end of a line.

-- a line has bytes
some_in_line : (item : Item) → 0 < length (item_line item)
some_in_line (Whole (Config c)) = omega arith
some_in_line (Whole (Attrib a)) = omega arith
some_in_line (Whole (Access a)) = omega arith
some_in_line (Whole (Control c)) = omega arith
some_in_line (Whole (Contran func)) = omega arith
some_in_line (Whole Ack) = omega arith
some_in_line (Whole (Accomp c)) = omega arith
some_in_line (Whole (Filedata recnum payload)) = omega arith
some_in_line (Whole (Status s)) = omega arith
some_in_line (Whole (Other number body)) = omega arith
some_in_line (Malformed fault) = omega arith

-- words in the last line of a text
pub words_appended : (words : List (List ℕ)) (old line : List ℕ) → 0 < length line → with_words words (old ++ line) ≡ old ++ with_words words line
words_appended words old line some =
    let count : length (old ++ line) - 1 ≡ length old + (length line - 1) = omega (arith, length-append old line, some) in
    ap (λ (n : ℕ). take n (old ++ line) ++ (words_text words ++ line_feed)) count
    ∙ ap (λ (t : List ℕ). t ++ (words_text words ++ line_feed)) (take-append-add old line (length line - 1))
    ∙ append_assoc old (take (length line - 1) line) (words_text words ++ line_feed)

-- the line of an item, with its words
pub line_in_words : (item : Item) (old text new : List ℕ) → text ≡ old ++ item_line item → new ≡ with_words (item_words item) text → new ≡ old ++ item_line_in true item
line_in_words item old text new line words =
    words ∙ ap (with_words (item_words item)) line ∙ words_appended (item_words item) old (item_line item) (some_in_line item)

-- what begins with all of a text but for its last byte begins with what was before its last line
pub begins_before_line : (item : Item) (old text new : Vec ℕ) → text.items ≡ old.items ++ item_line item → KeepsButEnd text new → StillBegins old new
unfolding StillBegins KeepsButEnd
begins_before_line item old text new line (more, is) =
    let some = some_in_line item in
    let count : length (old.items ++ item_line item) - 1 ≡ length old.items + (length (item_line item) - 1) = omega (arith, length-append old.items (item_line item), some) in
    let front : take (length text.items - 1) text.items ≡ old.items ++ take (length (item_line item) - 1) (item_line item) =
    rw line (ap (λ (n : ℕ). take n (old.items ++ item_line item)) count ∙ take-append-add old.items (item_line item) (length (item_line item) - 1)) in
    (take (length (item_line item) - 1) (item_line item) ++ more, is ∙ ap (λ (l : List ℕ). l ++ more) front ∙ append_assoc old.items _ more)

pub joined : (old text new done lines : List ℕ) → text ≡ old ++ done → new ≡ text ++ lines → new ≡ old ++ (done ++ lines)
joined old text new done lines so_far appended = appended ∙ ap (λ t. t ++ lines) so_far ∙ append_assoc old done lines

pub appended_twice : (old text new first second : List ℕ) → text ≡ old ++ first → new ≡ text ++ second → new ≡ old ++ (first ++ second)
appended_twice old text new first second one two = two ∙ ap (λ t. t ++ second) one ∙ append_assoc old first second
