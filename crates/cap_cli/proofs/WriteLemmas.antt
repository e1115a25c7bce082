-- What is written: a text in pieces, and texts from what a taker took.
use Rattle.std.proofs.Common.{◌≡◌, ◌∙◌, ◌<◌, ap, sym, subst, Bool, refl, inl, inr, arith, ℕ, ◌+◌, List, [], ◌∷◌, ◌++◌, length, map, take, drop, length-append}
use Rattle.std.specs.Prelude.{Option, Some, None, Result, Ok, Err}
use Rattle.std.specs.Io.KnownBytes.{Appends, Consumes}
use Rattle.std.proofs.KnownBytes.{Appends-trans, Appends-kept}
use Rattle.std.proofs.Math.Seq.{take-append-add}
use Rattle.std.proofs.Math.ListN.{get_or}
use Rattle.std.proofs.lemmas.List.{drop_more, map-append, take-append-drop, take-append-le}
use Rattle.linewise.specs.Output.{WritesFront}
use Rattle.linewise.specs.declared.fault.CaptureFault.{CaptureFault}
use Rattle.linewise.specs.declared.fault.CaptureFault.TheVariants.{BadLine, TooLarge, NoMemory, ReadFailed, WriteFailed}
use Rattle.decnet_frames.specs.Found.{TakesAll, Taking}
use Rattle.decnet_frames.specs.Lines.{LinesFail, LinesListed, founds_of_lines, is_refused}
use Rattle.std.specs.List.{list_any}
use Rattle.std.specs.Str.Lines.{lines}
use Rattle.decnet_frames.specs.Founds.{founds_of_file}
use Rattle.decnet_frames.specs.Listed.{IsListed, IsListedTo}
use Rattle.decnet_frames.specs.declared.run.FramesFault.TheVariants as frames
use Rattle.decnet_frames.specs.declared.tally.Counts.{Counts}
use Rattle.decnet_frames.specs.declared.ways.Between.{Between}
use Rattle.capture_file.specs.declared.fault.FileFault.{FileFault}
use Rattle.cap_cli.specs.Running.{FileCame, FileFront, FileHas, Founds, LinesCame, LinesFront, LinesHave, Texts, WritesTexts}
use Rattle.cap_cli.specs.declared.telling.FileEnd.{FileEnd}
use Rattle.cap_cli.specs.declared.telling.LinesEnd.{LinesEnd}
use Rattle.cap_cli.specs.Inner.Taken.{RestFails, Took}

-- a prefix of the first text is one of both
pub front_of_first : (old new : Option (List ℕ)) (first second : List ℕ) → WritesFront old new first → WritesFront old new (first ++ second)
front_of_first old new first second front =
    (front.0, omega (arith, front.1, length-append first second), rw (take-append-le front.0 first second front.1) front.2)

-- the first text, and a prefix of the second
pub front_behind : (old mid new : Option (List ℕ)) (first second : List ℕ) → Appends old mid first → WritesFront mid new second → WritesFront old new (first ++ second)
front_behind old mid new first second before front = (
  length first + front.0,
  omega (arith, front.1, length-append first second),
  rw (take-append-add first second front.0) (Appends-trans old mid new first (take front.0 second) before front.2),
)

-- what is made of the first bytes of a word, and a prefix of what is made of the next one
pub front_of_word : (old mid new : Option (List ℕ)) (f : ℕ → ℕ) (at other : ℕ) (word : List ℕ) → at < length word
    → Appends old mid (map f (take at word)) → WritesFront mid new (f (get_or word at other) ∷ []) → WritesFront old new (map f word)
front_of_word old mid new f at other word within before front =
    let next = front_of_first mid new (f (get_or word at other) ∷ []) (map f (drop (at + 1) word)) front in
    let rest = subst (λ (l : List ℕ). WritesFront mid new (map f l)) (sym (drop_more word at other within)) next in
    let whole : map f (take at word) ++ map f (drop at word) ≡ map f word = sym (map-append f (take at word) (drop at word)) ∙ ap (map f) (take-append-drop at word) in
    subst (λ (l : List ℕ). WritesFront old new l) whole (front_behind old mid new (map f (take at word)) (map f (drop at word)) before rest)

-- ---- a taker and what it has at the end

module _ {T A : Type 0} (Has : A → Founds → Type 0) (Came Front : Founds → Type 0) (taken : Taking T) (rest : T → List ℕ) (AreTexts : Texts) (first : T)
    (sound : (last : T) (founds : Founds) (text : List ℕ) → TakesAll taken first founds last text → AreTexts founds text (rest last)) where
  -- both texts are written
  pub writes_all : (last : T) (old mid new : Option (List ℕ)) (end : A) → Took Has Came Front taken first last old mid (Ok end) → Appends mid new (rest last)
      → WritesTexts Has Came Front AreTexts old new (Ok end)
  writes_all last old mid new end (founds, text, has, takes, wrote) more =
      (founds, text, rest last, has, sound last founds text takes, Appends-trans old mid new text (rest last) wrote more)

  -- the input came to no end
  pub writes_so_far : (last : T) (old new : Option (List ℕ)) (fault : CaptureFault) → Took Has Came Front taken first last old new (Err fault)
      → WritesTexts Has Came Front AreTexts old new (Err fault)
  writes_so_far last old new ReadFailed (founds, text, came, takes, wrote) = (founds, text, rest last, came, sound last founds text takes, wrote)
  writes_so_far last old new WriteFailed (founds, now, text, front, takes, wrote) =
      (founds, text, rest now, inl front, sound now founds text takes, front_of_first old new text (rest now) wrote)
  writes_so_far last old new NoMemory (founds, now, text, front, takes, wrote) = (founds, text, rest now, inl front, sound now founds text takes, wrote)
  writes_so_far last old new (BadLine number) took = absurd took
  writes_so_far last old new TooLarge took = absurd took

  -- it came to its end, and the text after isn't written
  pub writes_no_rest : (last : T) (old mid new : Option (List ℕ)) (end : A) (fault : CaptureFault) → Took Has Came Front taken first last old mid (Ok end)
      → RestFails fault (rest last) mid new → WritesTexts Has Came Front AreTexts old new (Err fault)
  writes_no_rest last old mid new end fault (founds, text, has, takes, wrote) (inl (memory, kept)) =
      subst (λ (f : CaptureFault). WritesTexts Has Came Front AreTexts old new (Err f)) (sym memory)
      (founds, text, rest last, inr (end, has), sound last founds text takes, Appends-kept old mid new text wrote kept)
  writes_no_rest last old mid new end fault (founds, text, has, takes, wrote) (inr (failed, front)) =
      subst (λ (f : CaptureFault). WritesTexts Has Came Front AreTexts old new (Err f)) (sym failed)
      (founds, text, rest last, inr (end, has), sound last founds text takes, front_behind old mid new text (rest last) wrote front)

-- ---- what a taker took of a capture file

module _ {T : Type 0} (taken : Taking T) (between : Between) (first last : T) (input : List ℕ) (left old new : Option (List ℕ)) where
  abbrev pub TookFile : Result FileEnd CaptureFault → Type 0
  TookFile = Took (FileHas between input) (FileCame between input) (FileFront between input) taken first last old new

  pub took_whole : (counts : Counts) → IsListed taken between first input last old new counts → TookFile (Ok (record { fault = None; counts = counts }))
  took_whole counts (records, text, whole, takes, wrote, same) = (founds_of_file between records, text, (records, whole, refl, same), takes, wrote)

  pub took_to_fault : (fault : FileFault) (counts : Counts) → IsListedTo taken between first input last left old new (frames.File fault counts)
      → TookFile (Ok (record { fault = Some fault; counts = counts }))
  took_to_fault fault counts (records, text, fails, takes, wrote, same) = (founds_of_file between records, text, (records, fails, refl, same), takes, wrote)

  came_from : (came : List ℕ) (unread : Option (List ℕ)) → Consumes (Some input) unread came → (others : List ℕ) × (input ≡ came ++ others)
  came_from came None read = absurd read
  came_from came (Some others) read = (others, read)

  pub took_read : IsListedTo taken between first input last left old new frames.ReadFailed → TookFile (Err ReadFailed)
  took_read (came, records, text, read, just, takes, wrote) =
      let c = came_from came left read in
      (founds_of_file between records, text, (came, c.0, records, c.1, just, refl), takes, wrote)

  pub took_written : IsListedTo taken between first input last left old new frames.WriteFailed → TookFile (Err WriteFailed)
  took_written (records, now, text, has, takes, wrote) = (founds_of_file between records, now, text, (records, has, refl), takes, wrote)

  pub took_remembered : IsListedTo taken between first input last left old new frames.NoMemory → TookFile (Err NoMemory)
  took_remembered (records, now, text, has, takes, wrote) = (founds_of_file between records, now, text, (records, has, refl), takes, wrote)

-- ---- what a taker took of lines

module _ {T : Type 0} (taken : Taking T) (between : Between) (first last : T) (input : List ℕ) (left old new : Option (List ℕ)) where
  abbrev pub TookLines : Result LinesEnd CaptureFault → Type 0
  TookLines = Took (LinesHave between input) (LinesCame between input) (LinesFront between input) taken first last old new

  pub took_lines : (bad : Bool) (counts : Counts) → LinesListed taken between first input last old new counts → bad ≡ list_any is_refused (lines input)
      → TookLines (Ok (record { is_bad = bad; counts = counts }))
  took_lines bad counts (text, takes, wrote, same) is = (founds_of_lines between input, text, (refl, same, is), takes, wrote)

  pub took_some_lines : (fault : CaptureFault) → LinesFail taken between first input last left old new fault → TookLines (Err fault)
  took_some_lines ReadFailed (unread, founds, text, has, part, takes, wrote) = (founds, text, (unread, left, has, part), takes, wrote)
  took_some_lines NoMemory (unread, founds, now, text, has, takes, wrote) = (founds, now, text, (unread, has), takes, wrote)
  took_some_lines WriteFailed (unread, founds, now, text, has, takes, wrote) = (founds, now, text, (unread, has), takes, wrote)
  took_some_lines (BadLine number) fails = absurd fails
  took_some_lines TooLarge fails = absurd fails
