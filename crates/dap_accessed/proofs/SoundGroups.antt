-- Every group leaves an end sound.
use Rattle.std.proofs.Common.{◌≡◌, ℕ, ◌+◌, ◌<◌, ◌≤◌, Bool, true, false, List, [], ◌∷◌, length, Option, Some, None, Result, Ok, Err, refl, subst, inl, inr, arith, lit≤}
use Rattle.dap_accessed.specs.Setup.{asks_for_one, lacks}
use Rattle.file_names.specs.Versions.{version_wanted}
use Rattle.file_names.specs.declared.versions.Wanted.{Wanted}
use Rattle.file_names.specs.declared.versions.Wanted.TheVariants.{Latest, Version, All, Nothing}
use Rattle.dap_accessed.specs.declared.setup.Names.{Names}
use Rattle.dap_accessed.specs.declared.setup.Names.TheVariants.{Exact, Folded, Versions}
use Rattle.dap_accessed.specs.declared.setup.ServerSetup.{ServerSetup}
use Rattle.std.specs.Prelude.{IfSome, bytes_eq, if◌then◌else◌, nat_le, nat_lt}
use Rattle.dap_msg.specs.declared.message.Message.{Message}
use Rattle.dap_msg.specs.declared.message.AccessFields.{AccessFields}
use Rattle.dap_msg.specs.declared.message.ControlFields.{ControlFields}
use Rattle.dap_msg.specs.declared.message.Message.TheVariants.{Config, Access, Control, Contran, Accomp, Filedata}
use Rattle.dap_msg.specs.BothEnds.{message_limit, max_nsp_message}
use Rattle.dap_msg.specs.declared.items.Item.{Item}
use Rattle.dap_msg.specs.declared.items.Item.TheVariants.{Whole, Malformed}
use Rattle.dap_accessed.specs.declared.asked.Asked.{Asked}
use Rattle.dap_accessed.specs.Asked.{made_file}
use Rattle.rec_file.specs.declared.refusals.Refusal.{Refusal}
use Rattle.rec_file.specs.declared.picks.Pick.{Pick}
use Rattle.std.specs.Prelude.{◌&&◌}
use Rattle.std.proofs.Common.{cond}
use Rattle.std.proofs.lemmas.Bool.{cases_lt, lt-ltb, le-ltb}
use Rattle.std.proofs.lemmas.Bool.Decides.{nat_tests}
use Rattle.std.proofs.lemmas.List.{length-append}
use Rattle.rec_file.specs.Files.{FileVal, IsFile, records_from}
use Rattle.rec_file.specs.Acts.{Operation, StreamVal, act, get_record, put_record, update_record, delete_record}
use Rattle.dap_accessed.specs.declared.phase.OpenFile.{OpenFile}
use Rattle.dap_accessed.specs.declared.verbs.Verb.{Verb}
use Rattle.dap_accessed.specs.declared.verbs.Verb.TheVariants as verbs
use Rattle.std.specs.Prelude.{◌==◌, take_while, drop}
use Rattle.std.specs.List.{prefix_len, remove}
use Rattle.dap_msg.specs.Codes as codes
use Rattle.dap_accessed.specs.Replies.{bare_status}
use Rattle.dap_accessed.specs.Standing.{Files, index_of, with_file, the_file, ServerState, Fresh, Ready, Opened, Connected, Store, Stopped, Group, Standing, Scene, Effect, start, enters}
use Rattle.dap_accessed.specs.Naming.{files_without, highest_version, index_by, index_of_version, index_to_erase, index_to_replace, lowest_version, name_with, number_made, version_count}
use Rattle.dap_accessed.specs.Past.{asked_file, kept_attributes, is_dropping, ordinal_so_far}
use Rattle.dap_accessed.specs.Accesses.{rights_to_create, rights_to_erase, erase_file, rights_to_open, make_file, open_file, create_file, access_file, end_stream, complete}
use Rattle.dap_accessed.specs.Records.{at_number, verb_of, get_pick, got, record_got, effect_of_outcome, Change, Putting, Updating, effect_of_change, fits_limit}
use Rattle.dap_accessed.specs.Transfers.{fetch, fetch_ends, continue_fetch, store_one}
use Rattle.dap_msg.specs.BothEnds.{is_too_small}
use Rattle.dap_accessed.specs.Effects.{Begun, Turn, Does, BeginsGroup, control_opened, control_connected, turn_in, turn_of, effect_with}
use Rattle.dap_accessed.specs.Groups.{after_two}
use Rattle.dap_accessed.specs.Sound.{AreFiles, IsOpenAt, IsSoundAt, IsSound}
use Rattle.dap_accessed.specs.Groups.{next_group, more_after}
use Rattle.dap_accessed.proofs.Tables.{length-with}
use Rattle.dap_accessed.proofs.Asking.{Good, good-file}
use Rattle.dap_accessed.proofs.Kept.{act-keeps}
use Rattle.dap_accessed.proofs.SoundTables.{file-there, files-with, files-more, all-without, distinct-without}
use Rattle.dap_accessed.proofs.NewNames.{left-apart, left-files, made-apart, no-such}

-- ---- Shapes, limits and states.

limit-most : (bufsiz : ℕ) → message_limit bufsiz ≤ max_nsp_message
limit-most bufsiz =
    elim (cases_lt max_nsp_message bufsiz) [
      | inl more ↦ let e = lt-ltb max_nsp_message bufsiz more in grind (arith, e)
      | inr less ↦ grind (arith, less)
    ]

limit-least : (bufsiz : ℕ) → is_too_small bufsiz ≡ false → 64 ≤ message_limit bufsiz
limit-least bufsiz e =
    elim (cases_lt max_nsp_message bufsiz) [
      | inl more ↦ let t = lt-ltb max_nsp_message bufsiz more in grind (arith, t)
      | inr less ↦ elim (cases_lt 0 bufsiz) [
        | inl some ↦ elim (cases_lt bufsiz 64) [
          | inl few ↦ let t = lt-ltb 0 bufsiz some in let u = lt-ltb bufsiz 64 few in absurd cc
          | inr enough ↦ let t = le-ltb max_nsp_message bufsiz less in grind (arith, nat_tests)
        ]
        | inr nothing ↦ let zero : 0 ≡ bufsiz = omega arith in subst (λ n. 64 ≤ message_limit n) zero (lit≤ tt)
      ]
    ]

within-of : (b : Bool) (n len : ℕ) → (b ≡ true → n < len) → IfSome (cond b (Some n) None) (λ n. n < len)
within-of true n len f = f refl
within-of false n len f = tt

pub index-within : (names : Names) (name : List ℕ) (files : Files) → IfSome (index_by names name files) (λ n. n < length files)
index-within Exact name files = within-of _ _ _ (λ e. grind (arith, nat_tests))
index-within Folded name files = within-of _ _ _ (λ e. grind (arith, nat_tests))
index-within (Versions keep) name files = by (version_wanted name)
  where
    version-within : (number : ℕ) → IfSome (index_of_version name number files) (λ n. n < length files)
    version-within number = within-of _ _ _ (λ e. grind (arith, nat_tests))

    by : (w : Wanted) → IfSome (elim w as (λ x. Option ℕ) [ Latest ↦ index_of_version name (highest_version name files) files | Version n ↦ index_of_version name n files | All ↦ None | Nothing ↦ None ]) (λ n. n < length files)
    by Latest = version-within (highest_version name files)
    by (Version n) = version-within n
    by All = tt
    by Nothing = tt

-- so is that of what it lets erase, and of what a new file replaces
pub erased-within : (names : Names) (name : List ℕ) (files : Files) → IfSome (index_to_erase names name files) (λ n. n < length files)
erased-within Exact name files = index-within Exact name files
erased-within (Versions keep) name files = index-within (Versions keep) name files
erased-within Folded name files = by (asks_for_one name)
  where
    by : (b : Bool) → IfSome (if b then index_by Folded name files else None) (λ n. n < length files)
    by true = index-within Folded name files
    by false = tt

pub replaced-within : (names : Names) (name : List ℕ) (files : Files) → IfSome (index_to_replace names name files) (λ n. n < length files)
replaced-within Exact name files = tt
replaced-within Folded name files = tt
replaced-within (Versions keep) name files = by (number_made (Versions keep) name files)
  where
    low : ℕ
    low = lowest_version name files

    full : (b : Bool) → IfSome (if b then index_of_version name low files else None) (λ n. n < length files)
    full true = within-of _ _ _ (λ e. grind (arith, nat_tests))
    full false = tt

    by : (new : Option ℕ) → IfSome (elim new as (λ x. Option ℕ) [ None ↦ None | Some n ↦ if nat_le keep (version_count name files) && nat_lt low n then index_of_version name low files else None ]) (λ n. n < length files)
    by None = tt
    by (Some n) = full (nat_le keep (version_count name files) && nat_lt low n)

-- the end that a turn leaves is sound, or the open file is in the table
abbrev IsSoundTurn : Scene → Turn → Type 0
IsSoundTurn scene (Does e) = IsSoundAt e.scene e.state
IsSoundTurn scene (BeginsGroup b) = b.opened.at < length scene.files

module _ (scene : Scene) (files : AreFiles scene.files) (least : 64 ≤ scene.limit) (most : scene.limit ≤ max_nsp_message) where
  abbrev Leaves : Effect → Type 0
  Leaves e = IsSoundAt e.scene e.state

  entering : (state : ServerState) → IsOpenAt scene.files state → IsSoundAt scene state
  entering state h = record { files = files; opened = h; least = least; most = most }

  -- an operation on the open file
  acted : (op : Operation) (o : OpenFile) (s : StreamVal) → o.at < length scene.files → IsFile (act op (the_file scene.files o) s).file
  acted op o s h = act-keeps op (the_file scene.files o) s (file-there scene.files o.at files.files h)

  changing : (op : Operation) (o : OpenFile) (s : StreamVal) (state : ServerState) (h : o.at < length scene.files)
      → IsOpenAt (with_file o.at (act op (the_file scene.files o) s).file scene.files) state
      → IsSoundAt (record scene { files = with_file o.at (act op (the_file scene.files o) s).file scene.files }) state
  changing op o s state h there =
      record {
        files = files-with scene.files o.at _ files (acted op o s h);
        opened = there;
        least = least;
        most = most;
      }

  still : (o : OpenFile) (file : FileVal) → o.at < length scene.files → o.at < length (with_file o.at file scene.files)
  still o file h = omega (arith, length-with scene.files o.at file)

  settling : (op : Operation) (o : OpenFile) (s : StreamVal) → o.at < length scene.files → Leaves (effect_of_outcome scene o (act op (the_file scene.files o) s))
  settling op o s h =
      changing op o s (Connected o (act op (the_file scene.files o) s).stream) h (still o (act op (the_file scene.files o) s).file h)

  -- ---- Accesses.

  either : (b : Bool) (one two : Effect) → Leaves one → Leaves two → Leaves (if b then one else two)
  either true one two h k = h
  either false one two h k = k

  opening : (own : ServerSetup) (fac : ℕ) (at : Option ℕ) → IfSome at (λ n. n < length scene.files) → Leaves (open_file own scene fac at)
  opening own fac None h = entering Ready tt
  opening own fac (Some at) h = either (lacks own.most (rights_to_open fac)) _ _ (entering Ready tt) (entering (Opened _) h)

  making : (new : List ℕ) (fac : ℕ) (replaced : Option ℕ) (shape : Option Asked) → index_of new (files_without replaced scene.files) ≡ None → Good shape → Leaves (make_file scene new fac replaced shape)
  making new fac replaced None e g = entering Ready tt
  making new fac replaced (Some asked) e good =
      record {
        files = files-more (files_without replaced scene.files) new asked (left-files replaced scene.files files) good e;
        opened = omega (arith, length-append (files_without replaced scene.files) ((new, made_file asked) ∷ []));
        least = least;
        most = most;
      }

  creating : (own : ServerSetup) (name : List ℕ) (fac : ℕ) (number : Option ℕ) (shape : Option Asked) → number_made own.names name scene.files ≡ number → Good shape → Leaves (create_file own scene name fac number shape)
  creating own name fac None shape e g = entering Ready tt
  creating own name fac (Some n) shape e g =
      let new = name_with own.names name n in
      let replaced = index_to_replace own.names name scene.files in
      let apart = left-apart own.names new replaced scene.files (made-apart own.names name scene.files n e) in
      either (lacks own.most (rights_to_create fac)) _ _ (entering Ready tt) (making new fac replaced shape (no-such own.names new (files_without replaced scene.files) apart) g)

  without : (at : ℕ) → IsSoundAt (record scene { files = remove scene.files at }) Ready
  without at = record { files = record { files = all-without scene.files at files.files; distinct = distinct-without bytes_eq scene.files at files.distinct }; opened = tt; least = least; most = most }

  erasing : (own : ServerSetup) (at : Option ℕ) → Leaves (erase_file own scene at)
  erasing own None = entering Ready tt
  erasing own (Some at) = either (lacks own.most rights_to_erase) _ _ (entering Ready tt) (without at)

  accessing : (own : ServerSetup) (a : AccessFields) (shape : Option Asked) → Good shape → Leaves (access_file own scene a shape)
  accessing own a shape g =
      let found = index_by own.names a.name scene.files in
      either (a.func == codes.accfunc.opening) _ _ (opening own a.fac found (index-within own.names a.name scene.files))
      (either (a.func == codes.accfunc.creating) _ _ (creating own a.name a.fac (number_made own.names a.name scene.files) shape refl g)
      (either (own.full && a.func == codes.accfunc.erasing) _ _ (erasing own (index_to_erase own.names a.name scene.files)) (entering Ready tt)))

  purging : (o : OpenFile) (new : Bool) → IsSoundAt (record scene { files = if new then remove scene.files o.at else scene.files }) Ready
  purging o true = without o.at
  purging o false = entering Ready tt

  ended-soundly : (o : OpenFile) (state : ServerState) → o.at < length scene.files → Leaves (end_stream scene o state)
  ended-soundly o (Opened p) h = entering (Opened o) h
  ended-soundly o Fresh h = entering (Opened o) h
  ended-soundly o Ready h = entering (Opened o) h
  ended-soundly o (Connected p s) h = entering (Opened o) h
  ended-soundly o (Store p s) h = entering (Opened o) h
  ended-soundly o (Stopped p s) h = entering (Opened o) h

  completed-soundly : (func : ℕ) (o : OpenFile) (state : ServerState) → IsOpenAt scene.files state → o.at < length scene.files → Leaves (complete func scene o state)
  completed-soundly func o state h e =
      either (func == codes.cmpfunc.close) _ _ (entering Ready tt)
      (either (func == codes.cmpfunc.purge) _ _ (purging o o.is_new)
      (either (func == codes.cmpfunc.end_of_stream) _ _ (ended-soundly o state e) (either (func == codes.cmpfunc.skip) _ _ (entering state h) (entering state h))))

  -- ---- Records.

  module _ (o : OpenFile) (h : o.at < length scene.files) where
    getting : (reply : Result ℕ Refusal) (before after : StreamVal) → Leaves (got reply scene o before after)
    getting (Err refusal) before after = entering (Connected o _) h
    getting (Ok n) before after = either _ _ _ (entering (Connected o after) h) (entering (Connected o _) h)

    picked : (pick : Result Pick Refusal) (s : StreamVal) → Leaves (record_got pick scene o s)
    picked (Err refusal) s = entering (Connected o _) h
    picked (Ok pick) s = getting (act (get_record pick) (the_file scene.files o) s).reply s (act (get_record pick) (the_file scene.files o) s).stream

    second : (change : Change) (s : StreamVal) (body : List ℕ) → Leaves (effect_of_change change scene o s body)
    second (Putting (Err refusal)) s body = entering (Connected o _) h
    second (Putting (Ok key)) s body = settling (put_record key body) o s h
    second Updating s body = settling (update_record body) o s h

    -- ---- Transfers.

    fetch-ends : (s : StreamVal) (given rest : List (ℕ × List ℕ)) → Leaves (fetch_ends scene o s given rest)
    fetch-ends s given [] = entering (Connected o _) h
    fetch-ends s given (large ∷ more) = entering (Stopped o _) h

    fetching : (s : StreamVal) → Leaves (fetch scene o s)
    fetching s =
        let due = records_from (the_file scene.files o).records s.next in
        fetch-ends s (take_while (fits_limit scene.limit) due) (drop (prefix_len (fits_limit scene.limit) due) due)

    continuing : (func : ℕ) (s : StreamVal) → Leaves (continue_fetch func scene o s)
    continuing func s =
        either (func == codes.confunc.again) _ _ (fetching s)
        (either (func == codes.confunc.skip) _ _ (fetching (at_number (s.next + 1) s))
        (either (func == codes.confunc.abort) _ _ (entering (Connected o s) h) (entering (Stopped o s) h)))

    storing : (ordinal : ℕ) (s : StreamVal) (body : List ℕ) → Leaves (store_one ordinal scene o s body)
    storing ordinal s body =
        changing (put_record None body) o s (Store o (act (put_record None body) (the_file scene.files o) s).stream) h (still o (act (put_record None body) (the_file scene.files o) s).file h)

    -- ---- The states.

    opened-control : (verb : Verb) → Leaves (control_opened verb scene o)
    opened-control verbs.Connect = entering (Connected o _) h
    opened-control verb = entering (Opened o) h

    connected-control : (verb : Verb) (s : StreamVal) (c : ControlFields) → IsSoundTurn scene (control_connected verb scene o s c)
    connected-control verbs.Get s c = picked (get_pick (the_file scene.files o) s c) s
    connected-control verbs.Fetch s c = either s.rights.get _ _ (fetching s) (entering (Connected o _) h)
    connected-control verbs.Put s c = h
    connected-control verbs.Update s c = h
    connected-control verbs.Store s c = entering (Store o s) h
    connected-control verbs.Delete s c = settling delete_record o s h
    connected-control verbs.Rewind s c = entering (Connected o _) h
    connected-control verb s c = entering (Connected o s) h

    with-second : (change : Change) (s : StreamVal) (item : Item) → Leaves (effect_with change scene o s item)
    with-second change s (Malformed fault) = entering (Connected o s) h
    with-second change s (Whole (Filedata r body)) = second change s body
    with-second change s (Whole message) = entering (Connected o s) h

  configuring : (small : Bool) (bufsiz : ℕ) → is_too_small bufsiz ≡ small → (own : ServerSetup) → Leaves (if small then enters scene Fresh (bare_status (codes.invalid codes.types.config) ∷ []) else enters (record scene { limit = message_limit bufsiz }) Ready (Config own.identity ∷ []))
  configuring true bufsiz e own = entering Fresh tt
  configuring false bufsiz e own =
      record { files = files; opened = tt; least = limit-least bufsiz e; most = limit-most bufsiz }

  of-message : (own : ServerSetup) (past : List Group) (state : ServerState) → IsOpenAt scene.files state → (m : Message) → IsSoundTurn scene (turn_in own scene past state m)
  of-message own past Fresh h (Config c) = configuring (is_too_small c.bufsiz) c.bufsiz refl own
  of-message own past Fresh h m = entering Fresh tt
  of-message own past Ready h (Access a) = accessing own a (asked_file own.full (kept_attributes past)) (good-file own.full (kept_attributes past))
  of-message own past Ready h m = entering Ready tt
  of-message own past (Opened o) h (Control c) = opened-control o h (verb_of c)
  of-message own past (Opened o) h (Accomp c) = completed-soundly c.func o (Opened o) h h
  of-message own past (Opened o) h m = entering (Opened o) h
  of-message own past (Connected o s) h (Control c) = connected-control o h (verb_of c) s c
  of-message own past (Connected o s) h (Accomp c) = completed-soundly c.func o (Connected o s) h h
  of-message own past (Connected o s) h m = entering (Connected o s) h
  of-message own past (Store o s) h (Filedata r body) = either (is_dropping past) _ _ (entering (Store o s) h) (storing o h (ordinal_so_far past) s body)
  of-message own past (Store o s) h (Contran func) = either (is_dropping past) _ _ (entering (Store o s) h) (entering (Store o s) h)
  of-message own past (Store o s) h (Accomp c) = completed-soundly c.func o (Store o s) h h
  of-message own past (Store o s) h m = entering (Store o s) h
  of-message own past (Stopped o s) h (Contran func) = continuing o h func s
  of-message own past (Stopped o s) h (Accomp c) = completed-soundly c.func o (Stopped o s) h h
  of-message own past (Stopped o s) h m = entering (Stopped o s) h

  pub of-item : (own : ServerSetup) (past : List Group) (state : ServerState) → IsOpenAt scene.files state → (item : Item) → IsSoundTurn scene (turn_of own (record { scene = scene; state = state; past = past }) item)
  of-item own past state h (Malformed fault) = entering state h
  of-item own past state h (Whole m) = of-message own past state h m

  pub of-second : (change : Change) (o : OpenFile) (s : StreamVal) (item : Item) → o.at < length scene.files → Leaves (effect_with change scene o s item)
  of-second change o s item h = with-second o h change s item

-- ---- Every list of items.

pub start-sound : (first : Files) → AreFiles first → IsSound (record { standing = start first; begun = None })
start-sound first good = record { standing = record { files = good; opened = tt; least = lit≤ tt; most = lit≤ tt }; begun = tt }

one-sound : (own : ServerSetup) (s : Standing) (item : Item) → IsSoundAt s.scene s.state → IsSoundTurn s.scene (turn_of own s item)
one-sound own s item h =
    of-item s.scene h.files h.least h.most own s.past s.state h.opened item

two-sound : (own : ServerSetup) (s : Standing) (b : Begun) (item : Item) → IsSoundAt s.scene s.state → b.opened.at < length s.scene.files → let t = after_two own s b item in IsSoundAt t.scene t.state
two-sound own s b item h there = of-second s.scene h.files h.least h.most b.change b.opened b.stream item there

next-sound : (own : ServerSetup) (s : Standing) (item : Item) (t : Turn) → IsSoundAt s.scene s.state → IsSoundTurn s.scene t → IsSound (next_group own s item t)
next-sound own s item (Does e) h sound = record { standing = sound; begun = tt }
next-sound own s item (BeginsGroup b) h there = record { standing = h; begun = there }

pub more-sound : (own : ServerSetup) (s : Standing) (b : Option Begun) (item : Item) → IsSound (record { standing = s; begun = b }) → IsSound (more_after own s b item)
more-sound own s None item h = next-sound own s item (turn_of own s item) h.standing (one-sound own s item h.standing)
more-sound own s (Some b) item h = record { standing = two-sound own s b item h.standing h.begun; begun = tt }
