-- How a talk begins, goes on and ends.
use Rattle.std.proofs.Common.{◌≡◌, ◌≢◌, ◌++◌, ℕ, Bool, ◌||◌, true, false, List, [], ◌∷◌, ap, ◌∙◌, sym, subst, refl, Option, Some, None, IfSome}
use Rattle.std.specs.List.{AllByRecursion, list_any}
use Rattle.std.proofs.lemmas.List.Folds.{list_any-append}
use Rattle.std.specs.Io.KnownBytes.{Appends, IsAtEnd}
use Rattle.std.specs.Io.BufRead.{first_line, drop_through}
use Rattle.std.proofs.lemmas.List.Elements.{All-nil}
use Rattle.std.proofs.KnownBytes.{Consumes-nil, Appends-nil, Appends-trans, Appends-kept, Keeps-refl}
use Rattle.linewise.specs.declared.talking.Became.{Became}
use Rattle.linewise.specs.declared.talking.Became.TheVariants.{NoMemory}
use Rattle.linewise.specs.declared.fault.CaptureFault.{CaptureFault}
use Rattle.linewise.specs.declared.fault.CaptureFault.TheVariants.{BadLine, TooLarge, ReadFailed, WriteFailed, NoMemory as OutOfMemory}
use Rattle.linewise.specs.declared.talking.Next.TheVariants.{Over, Line}
use Rattle.linewise.specs.Talks.{Answering, Fails, IsUnbroken, ReadsPart, AnswersInput, is_bad}
use Rattle.linewise.specs.Inner.Steps.{HasTalked, Breaks, TurnGoes, TalkEnds}

or_none : (b : Bool) → (b || false) ≡ b
or_none true = refl
or_none false = refl

bad_more : (bad : Bool) (lines : List (Option Became)) (became : Option Became) → bad ≡ list_any is_bad lines → (bad || is_bad became) ≡ list_any is_bad (lines ++ became ∷ [])
bad_more bad lines became is =
    ap (λ (b : Bool). b || is_bad became) is ∙ ap (λ (b : Bool). list_any is_bad lines || b) (sym (or_none (is_bad became))) ∙ sym (list_any-append is_bad lines (became ∷ []))

unbroken_more : (lines : List (Option Became)) (became : Option Became) → AllByRecursion (λ b. b ≢ Some NoMemory) lines → became ≢ Some NoMemory
    → AllByRecursion (λ b. b ≢ Some NoMemory) (lines ++ became ∷ [])
unbroken_more [] became all one = (one, tt)
unbroken_more (b ∷ lines) became all one = (all.0, unbroken_more lines became all.1 one)

module _ {E : Type 0} (answered : Answering E) (waiting : E → Option ℕ) where
  pub begins : (e : E) (unread written : Option (List ℕ)) → HasTalked answered waiting e unread written e unread written false
  begins e None written = _
  begins e (Some input) written = (input, [], [], refl, Appends-nil written, AnswersInput.no_line_more, refl, λ none. tt)

  -- one line more was answered
  pub goes_on : (old now next : E) (unread written left holds later_left later_holds : Option (List ℕ)) (bad : Bool) (became : Option Became)
      → HasTalked answered waiting old unread written now left holds bad
      → TurnGoes answered waiting now next left later_left holds later_holds (Line became)
      → (waiting next ≡ None → became ≢ Some NoMemory)
      → HasTalked answered waiting old unread written next later_left later_holds (bad || is_bad became)
  goes_on old now next None written left holds later_left later_holds bad became before line going = _
  goes_on old now next (Some input) written left holds later_left later_holds bad became before line going =
      let (some, dropped, says) = rw before.3 at line in (
        drop_through 10 before.0,
        before.1 ++ says.0,
        before.2 ++ became ∷ [],
        dropped,
        Appends-trans written holds later_holds before.1 says.0 before.4 says.2,
        AnswersInput.one_line_more now before.0 before.1 says.0 before.2 became before.5 some says.1,
        bad_more bad before.2 became before.6,
        λ none. unbroken_more before.2 became (before.7 none) (going (none next)),
      )

  at_end : (left : Option (List ℕ)) (rest : List ℕ) → left ≡ Some rest → IsAtEnd left → rest ≡ []
  at_end left rest is over = rw is at over

  pub ends : (old now next : E) (unread written left later holds last : Option (List ℕ)) (bad : Bool)
      → HasTalked answered waiting old unread written now left holds bad → TurnGoes answered waiting now next left later holds last Over
      → IfSome unread (λ input. (text : List ℕ) × (lines : List (Option Became)) × AnswersInput answered waiting old input next [] text lines × Appends written last text × (bad ≡ list_any is_bad lines)
      × IsUnbroken waiting lines)
  ends old now next None written left later holds last bad before over = _
  ends old now next (Some input) written left later holds last bad before over = (
    before.1,
    before.2,
    subst (λ e. AnswersInput answered waiting old input e [] before.1 before.2) (sym over.1)
        (subst (λ rest. AnswersInput answered waiting old input now rest before.1 before.2) (at_end left before.0 before.3 over.0) before.5),
    Appends-kept written holds last before.1 before.4 over.2,
    before.6,
    before.7,
  )

  pub fails : (old now next : E) (unread written left later holds last : Option (List ℕ)) (bad : Bool) (f : CaptureFault)
      → HasTalked answered waiting old unread written now left holds bad
      → TalkEnds answered waiting now next left later holds last f
      → IfSome unread (λ input. Fails answered waiting old input next later written last f)
  fails old now next None written left later holds last bad f before end = _
  fails old now next (Some input) written left later holds last bad WriteFailed before end =
      let broke : (later ≡ Some (drop_through 10 before.0)) × Breaks answered waiting now (first_line before.0) next holds last = rw before.3 at end in
      (now, holds, before.0, before.1, broke.1.1, before.2, broke.1.0, before.5, before.4, broke.1.2, broke.1.3, before.7, broke.0)
  fails old now next (Some input) written left later holds last bad OutOfMemory before end = absurd end
  fails old now next (Some input) written left later holds last bad TooLarge before end = absurd end
  fails old now next (Some input) written left later holds last bad (BadLine number) before end = absurd end
  fails old now next (Some input) written left later holds last bad ReadFailed before end = (
    before.0,
    before.1,
    before.2,
    subst (λ e. AnswersInput answered waiting old input e before.0 before.1 before.2) (sym end.0) before.5,
    Appends-kept written holds last before.1 before.4 end.1,
    before.7,
    subst (λ unread. ReadsPart unread later) before.3 end.2,
  )

  -- memory was refused to a line
  pub stops : (old now next : E) (unread written left holds later_left later_holds : Option (List ℕ)) (bad : Bool) (became : Option Became)
      → HasTalked answered waiting old unread written now left holds bad
      → TurnGoes answered waiting now next left later_left holds later_holds (Line became) → became ≡ Some NoMemory → waiting next ≡ None
      → IfSome unread (λ input. Fails answered waiting old input next later_left written later_holds OutOfMemory)
  stops old now next None written left holds later_left later_holds bad became before line memory none = _
  stops old now next (Some input) written left holds later_left later_holds bad became before line memory none =
      let (some, dropped, says) = rw before.3 at line in (
        drop_through 10 before.0,
        before.1 ++ says.0,
        before.2,
        subst (λ b. AnswersInput answered waiting old input next (drop_through 10 before.0) (before.1 ++ says.0) (before.2 ++ b ∷ [])) memory
            (AnswersInput.one_line_more now before.0 before.1 says.0 before.2 became before.5 some says.1),
        Appends-trans written holds later_holds before.1 says.0 before.4 says.2,
        none,
        before.7,
        dropped,
      )

  -- the last round ends a talk too
  pub gives_up : (old now : E) (unread written left holds : Option (List ℕ)) (bad : Bool)
      → HasTalked answered waiting old unread written now left holds bad
      → IfSome unread (λ input. Fails answered waiting old input now left written holds ReadFailed)
  gives_up old now unread written left holds bad before =
      fails old now now unread written left left holds holds bad ReadFailed before (refl, Keeps-refl holds, ([], Consumes-nil left, All-nil (λ byte. byte ≢ 10)))
