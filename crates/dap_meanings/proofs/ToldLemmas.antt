-- Words, one after another.
use Rattle.std.proofs.Common.{◌≡◌, ◌<◌, ◌+◌, ℕ, List, [], ◌∷◌, ◌++◌, ap, sym, refl, ◌∙◌, append_assoc, length, take, get_or}
use Rattle.std.specs.Prelude.{codes}
use Rattle.std.specs.List.{flat_map}
use Rattle.std.proofs.lemmas.List.{append-nil}
use Rattle.std.proofs.lemmas.Grind.{flat_map-append, take_at_read}
use Rattle.dap_meanings.specs.Meanings.{words_text}
use Rattle.dap_meanings.specs.Words.{word_list, said_text}
use Rattle.dap_meanings.specs.declared.words.Word.{Word}
use Rattle.dap_meanings.specs.declared.words.Word.TheVariants.{Nothing, Named, Record, Quoted, Rights, Frame, Known, Object, Called, Reason}

-- what is between the words so far and the next one
abbrev pub mark_after : List (List ℕ) → List ℕ
mark_after [] = codes " ; "
mark_after (word ∷ words) = codes ", "

pub told-snoc : (ws : List (List ℕ)) (w : List ℕ) → words_text (ws ++ w ∷ []) ≡ words_text ws ++ (mark_after ws ++ w)
told-snoc [] w = ap (λ (t : List ℕ). codes " ; " ++ t) (append-nil w)
told-snoc (v ∷ ws) w =
    ap (λ (t : List ℕ). codes " ; " ++ (v ++ t)) (flat_map-append (λ (next : List ℕ). codes ", " ++ next) ws (w ∷ []) ∙ ap (λ (t : List ℕ). flat_map (λ (next : List ℕ). codes ", " ++ next) ws ++ t) (append-nil (codes ", " ++ w)))
    ∙ ap (λ (t : List ℕ). codes " ; " ++ t) (sym (append_assoc v (flat_map (λ (next : List ℕ). codes ", " ++ next) ws) (codes ", " ++ w)))
    ∙ sym (append_assoc (codes " ; ") (v ++ flat_map (λ (next : List ℕ). codes ", " ++ next) ws) (codes ", " ++ w))

-- two texts appended, one after the other
pub appended_twice : (old text new first second : List ℕ) → text ≡ old ++ first → new ≡ text ++ second → new ≡ old ++ (first ++ second)
appended_twice old text new first second one two = two ∙ ap (λ (t : List ℕ). t ++ second) one ∙ append_assoc old first second

pub mark-more : (ws : List (List ℕ)) (w : List ℕ) → codes ", " ≡ mark_after (ws ++ w ∷ [])
mark-more [] w = refl
mark-more (v ∷ ws) w = refl

said-some : (w : Word) → (w ≡ Nothing → ⊥) → word_list w ≡ said_text w ∷ []
said-some Nothing some = absurd (some refl)
said-some (Named word) some = refl
said-some (Record number) some = refl
said-some (Quoted bytes) some = refl
said-some (Rights fac) some = refl
said-some (Frame text) some = refl
said-some (Known before name) some = refl
said-some (Object before number) some = refl
said-some (Called before name) some = refl
said-some (Reason number) some = refl

-- one word more
pub words_more : (words : List Word) (i : ℕ) → i < length words → (get_or words i Nothing ≡ Nothing → ⊥)
    → flat_map word_list (take (i + 1) words) ≡ flat_map word_list (take i words) ++ said_text (get_or words i Nothing) ∷ []
words_more words i within some =
    ap (flat_map word_list) ((take_at_read words i Nothing within).1) ∙ flat_map-append word_list (take i words) (get_or words i Nothing ∷ [])
    ∙ ap (λ (s : List (List ℕ)). flat_map word_list (take i words) ++ s) (append-nil (word_list (get_or words i Nothing)) ∙ said-some (get_or words i Nothing) some)

-- and its text, after its mark
pub told_more : (old so_far marked new mark word : List ℕ) (ws : List (List ℕ)) → so_far ≡ old ++ words_text ws → mark ≡ mark_after ws → marked ≡ so_far ++ mark → new ≡ marked ++ word
    → new ≡ old ++ words_text (ws ++ word ∷ [])
told_more old so_far marked new mark word ws here is one two =
    appended_twice so_far marked new mark word one two ∙ ap (λ (t : List ℕ). so_far ++ (t ++ word)) is
    ∙ ap (λ (t : List ℕ). t ++ (mark_after ws ++ word)) here ∙ append_assoc old (words_text ws) (mark_after ws ++ word)
    ∙ ap (λ (t : List ℕ). old ++ t) (sym (told-snoc ws word))
