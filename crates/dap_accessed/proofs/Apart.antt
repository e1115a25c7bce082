-- Where no two files have one name at first, no two ever have.
use Rattle.std.proofs.Common.{◌≡◌, ℕ, ◌+◌, Bool, true, false, List, [], ◌∷◌, ◌++◌, Option, Some, None, Result, Ok, Err, refl, sym, subst, append_assoc}
use Rattle.std.specs.Prelude.{◌==◌, ◌&&◌, if◌then◌else◌, take_while, drop}
use Rattle.std.specs.List.{prefix_len, remove}
use Rattle.std.proofs.lemmas.List.{append-nil}
use Rattle.dap_msg.specs.Codes as codes
use Rattle.dap_msg.specs.BothEnds.{is_too_small, message_limit}
use Rattle.dap_msg.specs.declared.message.Message.{Message}
use Rattle.dap_msg.specs.declared.message.AccessFields.{AccessFields}
use Rattle.dap_msg.specs.declared.message.ControlFields.{ControlFields}
use Rattle.dap_msg.specs.declared.message.Message.TheVariants.{Config, Access, Control, Contran, Accomp, Filedata}
use Rattle.dap_msg.specs.declared.items.Item.{Item}
use Rattle.dap_msg.specs.declared.items.Item.TheVariants.{Whole, Malformed}
use Rattle.dap_accessed.specs.declared.asked.Asked.{Asked}
use Rattle.dap_accessed.specs.Asked.{made_file}
use Rattle.rec_file.specs.declared.refusals.Refusal.{Refusal}
use Rattle.rec_file.specs.declared.picks.Pick.{Pick}
use Rattle.rec_file.specs.Files.{FileVal, records_from}
use Rattle.rec_file.specs.Acts.{StreamVal, act, get_record}
use Rattle.dap_accessed.specs.declared.setup.ServerSetup.{ServerSetup}
use Rattle.dap_accessed.specs.declared.phase.OpenFile.{OpenFile}
use Rattle.dap_accessed.specs.declared.verbs.Verb.{Verb}
use Rattle.dap_accessed.specs.declared.verbs.Verb.TheVariants as verbs
use Rattle.dap_accessed.specs.Setup.{lacks, same_name}
use Rattle.dap_accessed.specs.Replies.{bare_status}
use Rattle.dap_accessed.specs.Standing.{Files, with_file, the_file, ServerState, Fresh, Ready, Opened, Connected, Store, Stopped, Group, Standing, Scene, Effect, start, enters}
use Rattle.dap_accessed.specs.Naming.{files_without, index_by, index_to_erase, name_with, number_made}
use Rattle.dap_accessed.specs.Past.{asked_file, kept_attributes, is_dropping}
use Rattle.dap_accessed.specs.Accesses.{rights_to_create, rights_to_erase, erase_file, rights_to_open, make_file, open_file, create_file, access_file, end_stream, complete}
use Rattle.dap_accessed.specs.Records.{at_number, verb_of, get_pick, got, record_got, Change, Putting, Updating, effect_of_change, fits_limit}
use Rattle.dap_accessed.specs.Transfers.{fetch, fetch_ends, continue_fetch}
use Rattle.dap_accessed.specs.Effects.{Begun, Turn, Does, BeginsGroup, control_opened, control_connected, turn_in, turn_of, effect_with}
use Rattle.dap_accessed.specs.Groups.{GroupedItems, After, stands_after, next_group, more_after}
use Rattle.dap_accessed.specs.Apart.{NamesAreApart}
use Rattle.dap_accessed.proofs.Cuts.{cut-more}
use Rattle.dap_accessed.proofs.SoundTables.{HasNo, distinct-with, distinct-without, distinct-more}
use Rattle.dap_accessed.proofs.NewNames.{left-apart, left-distinct, made-apart}

module _ (own : ServerSetup) where
  abbrev same : (one other : List ℕ) → Bool
  same one other = same_name own.names one other

  -- files that are apart where these are
  abbrev pub Keeps : (old new : Files) → Type 0
  Keeps old new = NamesAreApart own.names old → NamesAreApart own.names new

  module _ (scene : Scene) where
    abbrev Leaves : Effect → Type 0
    Leaves e = Keeps scene.files e.scene.files

    -- an item that begins a group does nothing yet
    abbrev LeavesBy : Turn → Type 0
    LeavesBy (Does e) = Leaves e
    LeavesBy (BeginsGroup b) = Unit {0}

    stays : Keeps scene.files scene.files
    stays h = h

    changing : (o : OpenFile) (file : FileVal) → Keeps scene.files (with_file o.at file scene.files)
    changing o file h = distinct-with same scene.files o.at file h

    either : (b : Bool) (one two : Effect) → Leaves one → Leaves two → Leaves (if b then one else two)
    either true one two h k = h
    either false one two h k = k

    -- ---- Accesses.

    opening : (fac : ℕ) (found : Option ℕ) → Leaves (open_file own scene fac found)
    opening fac None = stays
    opening fac (Some at) = either (lacks own.most (rights_to_open fac)) _ _ stays stays

    making : (new : List ℕ) (fac : ℕ) (replaced : Option ℕ) (shape : Option Asked) → HasNo same new scene.files → Leaves (make_file scene new fac replaced shape)
    making new fac replaced None none = stays
    making new fac replaced (Some shape) none = λ h.
        distinct-more same (files_without replaced scene.files) (new, made_file shape) (left-distinct own.names replaced scene.files h) (left-apart own.names new replaced scene.files none)

    creating : (name : List ℕ) (fac : ℕ) (number : Option ℕ) (shape : Option Asked) → number_made own.names name scene.files ≡ number → Leaves (create_file own scene name fac number shape)
    creating name fac None shape e = stays
    creating name fac (Some n) shape e = either (lacks own.most (rights_to_create fac)) _ _ stays (making (name_with own.names name n) fac _ shape (made-apart own.names name scene.files n e))

    erasing : (found : Option ℕ) → Leaves (erase_file own scene found)
    erasing None = stays
    erasing (Some at) = either (lacks own.most rights_to_erase) _ _ stays (λ h. distinct-without same scene.files at h)

    accessing : (a : AccessFields) (shape : Option Asked) → Leaves (access_file own scene a shape)
    accessing a shape =
        let found = index_by own.names a.name scene.files in
        either (a.func == codes.accfunc.opening) _ _ (opening a.fac found)
        (either (a.func == codes.accfunc.creating) _ _ (creating a.name a.fac (number_made own.names a.name scene.files) shape refl)
        (either (own.full && a.func == codes.accfunc.erasing) _ _ (erasing (index_to_erase own.names a.name scene.files)) stays))

    purging : (o : OpenFile) (new : Bool) → Keeps scene.files (if new then remove scene.files o.at else scene.files)
    purging o true h = distinct-without same scene.files o.at h
    purging o false h = h

    ended : (o : OpenFile) (state : ServerState) → Leaves (end_stream scene o state)
    ended o Fresh = stays
    ended o Ready = stays
    ended o (Opened p) = stays
    ended o (Connected p s) = stays
    ended o (Store p s) = stays
    ended o (Stopped p s) = stays

    completed : (func : ℕ) (o : OpenFile) (state : ServerState) → Leaves (complete func scene o state)
    completed func o state =
        either (func == codes.cmpfunc.close) _ _ stays
        (either (func == codes.cmpfunc.purge) _ _ (purging o o.is_new)
        (either (func == codes.cmpfunc.end_of_stream) _ _ (ended o state) (either (func == codes.cmpfunc.skip) _ _ stays stays)))

    -- ---- Records and transfers.

    module _ (o : OpenFile) where
      getting : (reply : Result ℕ Refusal) (before after : StreamVal) → Leaves (got reply scene o before after)
      getting (Err refusal) before after = stays
      getting (Ok n) before after = either _ _ _ stays stays

      picked : (pick : Result Pick Refusal) (s : StreamVal) → Leaves (record_got pick scene o s)
      picked (Err refusal) s = stays
      picked (Ok pick) s = getting (act (get_record pick) (the_file scene.files o) s).reply s (act (get_record pick) (the_file scene.files o) s).stream

      second : (change : Change) (s : StreamVal) (body : List ℕ) → Leaves (effect_of_change change scene o s body)
      second (Putting (Err refusal)) s body = stays
      second (Putting (Ok key)) s body = changing o _
      second Updating s body = changing o _

      fetch-ends : (s : StreamVal) (given rest : List (ℕ × List ℕ)) → Leaves (fetch_ends scene o s given rest)
      fetch-ends s given [] = stays
      fetch-ends s given (large ∷ more) = stays

      fetching : (s : StreamVal) → Leaves (fetch scene o s)
      fetching s =
          let due = records_from (the_file scene.files o).records s.next in
          fetch-ends s (take_while (fits_limit scene.limit) due) (drop (prefix_len (fits_limit scene.limit) due) due)

      continuing : (func : ℕ) (s : StreamVal) → Leaves (continue_fetch func scene o s)
      continuing func s =
          either (func == codes.confunc.again) _ _ (fetching s)
          (either (func == codes.confunc.skip) _ _ (fetching (at_number (s.next + 1) s)) (either (func == codes.confunc.abort) _ _ stays stays))

      -- ---- The states.

      opened-control : (verb : Verb) → Leaves (control_opened verb scene o)
      opened-control verbs.Connect = stays
      opened-control verb = stays

      connected-control : (verb : Verb) (s : StreamVal) (c : ControlFields) → LeavesBy (control_connected verb scene o s c)
      connected-control verbs.Get s c = picked (get_pick (the_file scene.files o) s c) s
      connected-control verbs.Fetch s c = either s.rights.get _ _ (fetching s) stays
      connected-control verbs.Put s c = tt
      connected-control verbs.Update s c = tt
      connected-control verbs.Store s c = stays
      connected-control verbs.Delete s c = changing o _
      connected-control verbs.Rewind s c = stays
      connected-control verb s c = stays

      with-second : (change : Change) (s : StreamVal) (item : Item) → Leaves (effect_with change scene o s item)
      with-second change s (Malformed fault) = stays
      with-second change s (Whole (Filedata r body)) = second change s body
      with-second change s (Whole message) = stays

    configuring : (small : Bool) (bufsiz : ℕ) → Leaves (if small then enters scene Fresh (bare_status (codes.invalid codes.types.config) ∷ []) else enters (record scene { limit = message_limit bufsiz }) Ready (Config own.identity ∷ []))
    configuring true bufsiz = stays
    configuring false bufsiz = stays

    of-message : (past : List Group) (state : ServerState) (m : Message) → LeavesBy (turn_in own scene past state m)
    of-message past Fresh (Config c) = configuring (is_too_small c.bufsiz) c.bufsiz
    of-message past Fresh m = stays
    of-message past Ready (Access a) = accessing a (asked_file own.full (kept_attributes past))
    of-message past Ready m = stays
    of-message past (Opened o) (Control c) = opened-control o (verb_of c)
    of-message past (Opened o) (Accomp c) = completed c.func o (Opened o)
    of-message past (Opened o) m = stays
    of-message past (Connected o s) (Control c) = connected-control o (verb_of c) s c
    of-message past (Connected o s) (Accomp c) = completed c.func o (Connected o s)
    of-message past (Connected o s) m = stays
    of-message past (Store o s) (Filedata r body) = either (is_dropping past) _ _ stays (changing o _)
    of-message past (Store o s) (Contran func) = either (is_dropping past) _ _ stays stays
    of-message past (Store o s) (Accomp c) = completed c.func o (Store o s)
    of-message past (Store o s) m = stays
    of-message past (Stopped o s) (Contran func) = continuing o func s
    of-message past (Stopped o s) (Accomp c) = completed c.func o (Stopped o s)
    of-message past (Stopped o s) m = stays

  -- ---- Every list of items.

  one-leaves : (s : Standing) (item : Item) → LeavesBy s.scene (turn_of own s item)
  one-leaves s (Malformed fault) = stays s.scene
  one-leaves s (Whole m) = of-message s.scene s.past s.state m

  next-leaves : (s : Standing) (item : Item) (t : Turn) → LeavesBy s.scene t → Keeps s.scene.files (next_group own s item t).standing.scene.files
  next-leaves s item (Does e) h = h
  next-leaves s item (BeginsGroup b) h = stays s.scene

  pub more-leaves : (s : Standing) (b : Option Begun) (item : Item) → Keeps s.scene.files (more_after own s b item).standing.scene.files
  more-leaves s None item = next-leaves s item (turn_of own s item) (one-leaves s item)
  more-leaves s (Some b) item = with-second s.scene b.opened b.change b.stream item

  abbrev IsApart : GroupedItems → Type 0
  IsApart c = NamesAreApart own.names c.standing.scene.files

  apart-on : (first : Files) (before more : List Item) → IsApart (stands_after own first before) → IsApart (stands_after own first (before ++ more))
  apart-on first before [] h = subst (λ (l : List Item). IsApart (stands_after own first l)) (sym (append-nil before)) h
  apart-on first before (item ∷ more) h =
      let c = stands_after own first before in
      let one : IsApart (stands_after own first (before ++ item ∷ [])) = subst IsApart (sym (cut-more own (start first) before item)) (more-leaves c.standing c.begun item h) in
      subst (λ (l : List Item). IsApart (stands_after own first l)) (append_assoc before (item ∷ []) more) (apart-on first (before ++ item ∷ []) more one)

  pub all-apart : (first : Files) (items : List Item) → NamesAreApart own.names first → NamesAreApart own.names (After own first items)
  all-apart first items h = apart-on first [] items h
