-- What one item does to the table and to what its link has held.
use Rattle.std.proofs.Common.{◌≡◌, ℕ, ◌<◌, Bool, true, false, List, [], ◌∷◌, ◌++◌, length, Option, Some, None, Result, Ok, Err, refl, ap, sym, subst, ◌∙◌, arith}
use Rattle.std.specs.Prelude.{◌+◌, IfSome, if◌then◌else◌, ◌==◌, ◌||◌, ◌&&◌, not, take_while, drop, option_map}
use Rattle.std.specs.List.{prefix_len, remove}
use Rattle.std.proofs.lemmas.Bool.Decides.{nat_tests}
use Rattle.dap_accessed.specs.declared.setup.ServerSetup.{ServerSetup}
use Rattle.dap_msg.specs.Codes as codes
use Rattle.dap_msg.specs.BothEnds.{is_too_small}
use Rattle.dap_msg.specs.declared.message.Message.{Message}
use Rattle.dap_msg.specs.declared.message.AccessFields.{AccessFields}
use Rattle.dap_msg.specs.declared.message.ControlFields.{ControlFields}
use Rattle.dap_msg.specs.declared.message.Message.TheVariants.{Config, Access, Control, Contran, Accomp, Filedata}
use Rattle.dap_msg.specs.declared.items.Item.{Item}
use Rattle.dap_msg.specs.declared.items.Item.TheVariants.{Whole, Malformed}
use Rattle.dap_accessed.specs.declared.asked.Asked.{Asked}
use Rattle.dap_accessed.specs.Asked.{made_file}
use Rattle.rec_file.specs.declared.picks.Rights.{Rights}
use Rattle.rec_file.specs.declared.picks.Pick.{Pick}
use Rattle.rec_file.specs.declared.refusals.Refusal.{Refusal}
use Rattle.rec_file.specs.declared.refusals.Refusal.TheVariants.{NotPermitted}
use Rattle.rec_file.specs.Files.{FileVal, records_from}
use Rattle.rec_file.specs.Acts.{Operation, StreamVal, outcome_of, act, get_record, put_record, update_record, delete_record}
use Rattle.dap_accessed.specs.declared.phase.OpenFile.{OpenFile}
use Rattle.dap_accessed.specs.declared.verbs.Verb.{Verb}
use Rattle.dap_accessed.specs.declared.verbs.Verb.TheVariants as verbs
use Rattle.dap_accessed.specs.Standing.{Files, file_at, with_file, the_file, ServerState, Fresh, Ready, Opened, Connected, Store, Stopped, Group, Standing, Scene, Effect, enters}
use Rattle.dap_accessed.specs.Naming.{index_by, index_to_erase, index_to_replace, name_with, number_made}
use Rattle.dap_accessed.specs.Past.{asked_file, kept_attributes, is_dropping, ordinal_so_far}
use Rattle.dap_accessed.specs.Accesses.{make_file, open_file, create_file, erase_file, access_file, end_stream, complete, refuse_access, rights_to_create, rights_to_erase, rights_to_open}
use Rattle.dap_accessed.specs.Replies.{erased_with, opened_with, reason_of, refused_access}
use Rattle.dap_accessed.specs.Setup.{lacks}
use Rattle.dap_accessed.specs.Records.{at_number, verb_of, get_pick, got, record_got, effect_of_outcome, Change, Putting, Updating, effect_of_change, fits_limit, stream_without_current}
use Rattle.dap_accessed.specs.Transfers.{fetch, fetch_ends, continue_fetch, store_one}
use Rattle.dap_accessed.specs.Effects.{Begun, Turn, Does, BeginsGroup, control_opened, control_connected, turn_in, turn_of, effect_with}
use Rattle.dap_accessed.specs.Groups.{GroupedItems, after_two}
use Rattle.dap_accessed.specs.Groups.{next_group, more_after, after_item}
use Rattle.dap_accessed.proofs.ForCallers.{with-same}
use Rattle.dap_accessed.proofs.ForCallers.{erased-within, index-within, replaced-within}
use Rattle.dap_accessed.specs.Sessions.{erased_at, erased_if, replaced_if, there_at, there_if, would_open}
use Rattle.dap_shared.specs.Sharing.{open_in, asks_to_open}

abbrev pub may_write : Rights → Bool
may_write rights = rights.put || (rights.upd || rights.del)

-- the files, and what the link has held, after one item: where it asked to held this
pub data Moved (files : Files) (asks : Option OpenFile) : Option OpenFile → Files → Option OpenFile → Type 0 where
  keeps : (held : Option OpenFile) → Moved files asks held files held
  closes : (held : Option OpenFile) → Moved files asks held files None
  writes : (o : OpenFile) (file : FileVal) → may_write o.rights ≡ true → Moved files asks (Some o) (with_file o.at file files) (Some o)
  opens : (o : OpenFile) → o.at < length files → asks ≡ Some o → o.is_new ≡ false → Moved files asks None files (Some o)
  makes : (entry : List ℕ × FileVal) (o : OpenFile) → o.at ≡ length files → Moved files asks None (files ++ entry ∷ []) (Some o)
  replaces : (r : OpenFile) (entry : List ℕ × FileVal) (o : OpenFile) → r.at < length files → may_write r.rights ≡ true → asks ≡ Some r → o.is_new ≡ true → o.at ≡ length (remove files r.at)
      → Moved files asks None (remove files r.at ++ entry ∷ []) (Some o)
  removes : (o : OpenFile) → o.is_new ≡ true → Moved files asks (Some o) (remove files o.at) None
  erases : (o : OpenFile) → o.at < length files → may_write o.rights ≡ true → asks ≡ Some o → Moved files asks None (remove files o.at) None

-- a stream has the rights of its Access
abbrev pub HasRights : ServerState → Type 0
HasRights (Connected o s) = s.rights ≡ o.rights
HasRights (Store o s) = s.rights ≡ o.rights
HasRights (Stopped o s) = s.rights ≡ o.rights
HasRights state = Unit {0}

-- ---- Operations.

outcome-rights : (r : Option Refusal) (op : Operation) (file : FileVal) (s : StreamVal) → (outcome_of r op file s).stream.rights ≡ s.rights
outcome-rights (Some x) op file s = refl
outcome-rights None (get_record pick) file s = refl
outcome-rights None (put_record key body) file s = refl
outcome-rights None (update_record body) file s = refl
outcome-rights None delete_record file s = refl

act-rights : (op : Operation) (file : FileVal) (s : StreamVal) → (act op file s).stream.rights ≡ s.rights
act-rights op file s = outcome-rights _ op file s

-- the right that an operation needs to change its file
abbrev right_for : Operation → Rights → Bool
right_for (get_record pick) rights = false
right_for (put_record key body) rights = rights.put
right_for (update_record body) rights = rights.upd
right_for delete_record rights = rights.del

refused-first : (b : Bool) (rest : Option Refusal) (op : Operation) (file : FileVal) (s : StreamVal) → b ≡ false → (outcome_of (if not b then Some NotPermitted else rest) op file s).file ≡ file
refused-first false rest op file s e = refl
refused-first true rest op file s e = cc

got-same : (r : Option Refusal) (pick : Pick) (file : FileVal) (s : StreamVal) → (outcome_of r (get_record pick) file s).file ≡ file
got-same None pick file s = refl
got-same (Some x) pick file s = refl

unallowed : (op : Operation) (file : FileVal) (s : StreamVal) → right_for op s.rights ≡ false → (act op file s).file ≡ file
unallowed (get_record pick) file s e = got-same _ pick file s
unallowed (put_record None body) file s e = refused-first s.rights.put _ (put_record None body) file s e
unallowed (put_record (Some n) body) file s e = refused-first s.rights.put _ (put_record (Some n) body) file s e
unallowed (update_record body) file s e = refused-first s.rights.upd _ (update_record body) file s e
unallowed delete_record file s e = refused-first s.rights.del _ delete_record file s e

pub or-true : (b : Bool) → (b || true) ≡ true
or-true true = refl
or-true false = refl

allowed : (op : Operation) (rights : Rights) → right_for op rights ≡ true → may_write rights ≡ true
allowed (get_record pick) rights e = cc
allowed (put_record key body) rights e = ap (λ b. b || (rights.upd || rights.del)) e
allowed (update_record body) rights e = ap (λ b. rights.put || (b || rights.del)) e ∙ or-true rights.put
allowed delete_record rights e = ap (λ b. rights.put || (rights.upd || b)) e ∙ ap (λ b. rights.put || b) (or-true rights.upd) ∙ or-true rights.put

-- ---- Groups.

-- an Access that creates doesn't open, and one that erases does neither
create-no-open : (func : ℕ) → (func == codes.accfunc.creating) ≡ true → (func == codes.accfunc.opening) ≡ false
create-no-open func e = grind (arith, nat_tests)

erase-no-open : (full : Bool) (func : ℕ) → (full && func == codes.accfunc.erasing) ≡ true → (func == codes.accfunc.opening) ≡ false
erase-no-open full func e = grind (arith, nat_tests)

erase-no-create : (full : Bool) (func : ℕ) → (full && func == codes.accfunc.erasing) ≡ true → (func == codes.accfunc.creating) ≡ false
erase-no-create full func e = grind (arith, nat_tests)

module _ (scene : Scene) (asks : Option OpenFile) where
  pub record Left (held : Option OpenFile) (e : Effect) : Type 0 where
    pub moved : Moved scene.files asks held e.scene.files (open_in e.state)
    pub rights : HasRights e.state

  abbrev pub LeftIn : Option OpenFile → Turn → Type 0
  LeftIn held (Does e) = Left held e
  LeftIn held (BeginsGroup b) = (held ≡ Some b.opened) × (b.stream.rights ≡ b.opened.rights)

  entering : (state : ServerState) (answers : List Message) → HasRights state → Left (open_in state) (enters scene state answers)
  entering state answers h = record { moved = keeps (open_in state); rights = h }

  leaving : (held : Option OpenFile) (answers : List Message) → Left held (enters scene Ready answers)
  leaving held answers = record { moved = closes held; rights = tt }

  either : (held : Option OpenFile) (b : Bool) (one two : Effect) → Left held one → Left held two → Left held (if b then one else two)
  either held true one two h k = h
  either held false one two h k = k

  either-is : (held : Option OpenFile) (b : Bool) (one two : Effect) → (b ≡ true → Left held one) → Left held two → Left held (if b then one else two)
  either-is held true one two h k = h refl
  either-is held false one two h k = k

  -- ---- Accesses.

  -- what an Access asks for, by which one it is
  abbrev asks_by : ServerSetup → AccessFields → (to_open to_create to_erase : Bool) → Option OpenFile
  asks_by own a to_open to_create to_erase =
      if to_open then there_if own a.fac (index_by own.names a.name scene.files)
      else if to_create then replaced_if own a.fac (index_to_replace own.names a.name scene.files)
      else if to_erase then erased_if own (index_to_erase own.names a.name scene.files)
      else None

  opening-if : (own : ServerSetup) (a : AccessFields) (at : ℕ) (lack : Bool) → lacks own.most (rights_to_open a.fac) ≡ lack → asks ≡ there_if own a.fac (index_by own.names a.name scene.files) → index_by own.names a.name scene.files ≡ Some at
      → Left None (if lack then refuse_access scene (refused_access (reason_of NotPermitted)) else enters scene (Opened (there_at a.fac at)) (opened_with (file_at at scene.files).shape (file_at at scene.files).look))
  opening-if own a at true l w p = entering Ready _ tt
  opening-if own a at false l w p =
      record {
        moved = opens (there_at a.fac at) (subst (λ (x : Option ℕ). IfSome x (λ n. n < length scene.files)) p (index-within own.names a.name scene.files))
            (w ∙ ap (λ (b : Bool). if b then None else option_map (there_at a.fac) (index_by own.names a.name scene.files)) l ∙ ap (option_map (there_at a.fac)) p) refl;
        rights = tt;
      }

  opening : (own : ServerSetup) (a : AccessFields) (at : Option ℕ) → asks ≡ there_if own a.fac (index_by own.names a.name scene.files) → index_by own.names a.name scene.files ≡ at → Left None (open_file own scene a.fac at)
  opening own a None w p = entering Ready _ tt
  opening own a (Some at) w p = opening-if own a at (lacks own.most (rights_to_open a.fac)) refl w p

  making : (new : List ℕ) (fac : ℕ) (replaced : Option ℕ) (shape : Option Asked) → IfSome replaced (λ n. n < length scene.files) → asks ≡ option_map erased_at replaced → Left None (make_file scene new fac replaced shape)
  making new fac replaced None lt w = entering Ready _ tt
  making new fac None (Some shape) lt w = record { moved = makes (new, made_file shape) _ refl; rights = tt }
  making new fac (Some at) (Some shape) lt w = record { moved = replaces (erased_at at) (new, made_file shape) _ lt refl w refl refl; rights = tt }

  creating-if : (own : ServerSetup) (a : AccessFields) (new : List ℕ) (shape : Option Asked) (lack : Bool) → lacks own.most (rights_to_create a.fac) ≡ lack → asks ≡ replaced_if own a.fac (index_to_replace own.names a.name scene.files)
      → Left None (if lack then refuse_access scene (refused_access (reason_of NotPermitted)) else make_file scene new a.fac (index_to_replace own.names a.name scene.files) shape)
  creating-if own a new shape true l w = entering Ready _ tt
  creating-if own a new shape false l w =
      let replaced = index_to_replace own.names a.name scene.files in
      making new a.fac replaced shape (replaced-within own.names a.name scene.files) (w ∙ ap (λ (b : Bool). if b then None else option_map erased_at replaced) l)

  creating : (own : ServerSetup) (a : AccessFields) (number : Option ℕ) (shape : Option Asked) → asks ≡ replaced_if own a.fac (index_to_replace own.names a.name scene.files) → Left None (create_file own scene a.name a.fac number shape)
  creating own a None shape w = entering Ready _ tt
  creating own a (Some n) shape w = creating-if own a (name_with own.names a.name n) shape (lacks own.most (rights_to_create a.fac)) refl w

  erasing-if : (own : ServerSetup) (at : ℕ) (lack : Bool) → lacks own.most rights_to_erase ≡ lack → at < length scene.files → asks ≡ erased_if own (Some at)
      → Left None (if lack then refuse_access scene (refused_access (reason_of NotPermitted)) else enters (record scene { files = remove scene.files at }) Ready erased_with)
  erasing-if own at true l lt w = entering Ready _ tt
  erasing-if own at false l lt w =
      record { moved = erases (erased_at at) lt refl (w ∙ ap (λ (b : Bool). if b then None else Some (erased_at at)) l); rights = tt }

  erasing : (own : ServerSetup) (at : Option ℕ) → IfSome at (λ n. n < length scene.files) → asks ≡ erased_if own at → Left None (erase_file own scene at)
  erasing own None lt w = entering Ready _ tt
  erasing own (Some at) lt w = erasing-if own at (lacks own.most rights_to_erase) refl lt w

  accessing : (own : ServerSetup) (a : AccessFields) (shape : Option Asked) → asks ≡ would_open own scene.files a → Left None (access_file own scene a shape)
  accessing own a shape w =
      let to_open : Bool = a.func == codes.accfunc.opening in
      let to_create : Bool = a.func == codes.accfunc.creating in
      let to_erase : Bool = own.full && a.func == codes.accfunc.erasing in
      either-is None to_open _ _ (λ e. opening own a (index_by own.names a.name scene.files) (w ∙ ap (λ (b : Bool). asks_by own a b to_create to_erase) e) refl)
      (either-is None to_create _ _
      (λ e. creating own a (number_made own.names a.name scene.files) shape
      (w ∙ ap (λ (b : Bool). asks_by own a b to_create to_erase) (create-no-open a.func e) ∙ ap (λ (b : Bool). asks_by own a false b to_erase) e))
      (either-is None to_erase _ _
      (λ e. erasing own (index_to_erase own.names a.name scene.files) (erased-within own.names a.name scene.files)
      (w ∙ ap (λ (b : Bool). asks_by own a b to_create to_erase) (erase-no-open own.full a.func e) ∙ ap (λ (b : Bool). asks_by own a false b to_erase) (erase-no-create own.full a.func e) ∙ ap (λ (b : Bool). asks_by own a false false b) e))
      (entering Ready _ tt)))

  purging : (o : OpenFile) (new : Bool) (answers : List Message) → o.is_new ≡ new → Left (Some o) (enters (record scene { files = if new then remove scene.files o.at else scene.files }) Ready answers)
  purging o true answers e = record { moved = removes o e; rights = tt }
  purging o false answers e = leaving (Some o) answers

  ended : (o : OpenFile) (state : ServerState) → Left (Some o) (end_stream scene o state)
  ended o (Opened p) = entering (Opened o) _ tt
  ended o Fresh = entering (Opened o) _ tt
  ended o Ready = entering (Opened o) _ tt
  ended o (Connected p s) = entering (Opened o) _ tt
  ended o (Store p s) = entering (Opened o) _ tt
  ended o (Stopped p s) = entering (Opened o) _ tt

  completed : (func : ℕ) (o : OpenFile) (state : ServerState) → open_in state ≡ Some o → HasRights state → Left (Some o) (complete func scene o state)
  completed func o state is h =
      let stays : (answers : List Message) → Left (Some o) (enters scene state answers) = λ answers. subst (λ (held : Option OpenFile). Left held (enters scene state answers)) is (entering state answers h) in
      either (Some o) (func == codes.cmpfunc.close) _ _ (leaving (Some o) _)
      (either (Some o) (func == codes.cmpfunc.purge) _ _ (purging o o.is_new _ refl)
      (either (Some o) (func == codes.cmpfunc.end_of_stream) _ _ (ended o state) (either (Some o) (func == codes.cmpfunc.skip) _ _ (stays _) (stays _))))

  -- ---- Records.

  module _ (o : OpenFile) where
    abbrev Stays : Effect → Type 0
    Stays e = Left (Some o) e

    -- an operation that may change the file, and the state after it
    acted : (op : Operation) (s : StreamVal) (b : Bool) → s.rights ≡ o.rights → right_for op s.rights ≡ b
        → Moved scene.files asks (Some o) (with_file o.at (act op (the_file scene.files o) s).file scene.files) (Some o)
    acted op s true r e = writes o _ (ap may_write (sym r) ∙ allowed op s.rights e)
    acted op s false r e =
        subst (λ (files : Files). Moved scene.files asks (Some o) files (Some o))
        (sym (ap (λ (f : FileVal). with_file o.at f scene.files) (unallowed op (the_file scene.files o) s e) ∙ with-same scene.files o.at))
        (keeps (Some o))

    settling : (op : Operation) (s : StreamVal) → s.rights ≡ o.rights → Stays (effect_of_outcome scene o (act op (the_file scene.files o) s))
    settling op s r = record { moved = acted op s _ r refl; rights = act-rights op (the_file scene.files o) s ∙ r }

    getting : (reply : Result ℕ Refusal) (before after : StreamVal) → before.rights ≡ o.rights → after.rights ≡ o.rights → Stays (got reply scene o before after)
    getting (Err refusal) before after r t = entering (Connected o (stream_without_current before)) _ r
    getting (Ok n) before after r t = either (Some o) _ _ _ (entering (Connected o after) _ t) (entering (Connected o (stream_without_current before)) _ r)

    picked : (pick : Result Pick Refusal) (s : StreamVal) → s.rights ≡ o.rights → Stays (record_got pick scene o s)
    picked (Err refusal) s r = entering (Connected o (stream_without_current s)) _ r
    picked (Ok pick) s r =
        getting (act (get_record pick) (the_file scene.files o) s).reply s (act (get_record pick) (the_file scene.files o) s).stream r (act-rights (get_record pick) (the_file scene.files o) s ∙ r)

    second : (change : Change) (s : StreamVal) (body : List ℕ) → s.rights ≡ o.rights → Stays (effect_of_change change scene o s body)
    second (Putting (Err refusal)) s body r = entering (Connected o (stream_without_current s)) _ r
    second (Putting (Ok key)) s body r = settling (put_record key body) s r
    second Updating s body r = settling (update_record body) s r

    -- ---- Transfers.

    fetch-ends : (s : StreamVal) (given rest : List (ℕ × List ℕ)) → s.rights ≡ o.rights → Stays (fetch_ends scene o s given rest)
    fetch-ends s given [] r = entering (Connected o (at_number _ s)) _ r
    fetch-ends s given (large ∷ more) r = entering (Stopped o (at_number _ s)) _ r

    fetching : (s : StreamVal) → s.rights ≡ o.rights → Stays (fetch scene o s)
    fetching s r =
        let due = records_from (the_file scene.files o).records s.next in
        fetch-ends s (take_while (fits_limit scene.limit) due) (drop (prefix_len (fits_limit scene.limit) due) due) r

    continuing : (func : ℕ) (s : StreamVal) → s.rights ≡ o.rights → Stays (continue_fetch func scene o s)
    continuing func s r =
        either (Some o) (func == codes.confunc.again) _ _ (fetching s r)
        (either (Some o) (func == codes.confunc.skip) _ _ (fetching (at_number (s.next + 1) s) r)
        (either (Some o) (func == codes.confunc.abort) _ _ (entering (Connected o s) _ r) (entering (Stopped o s) _ r)))

    storing : (ordinal : ℕ) (s : StreamVal) (body : List ℕ) → s.rights ≡ o.rights → Stays (store_one ordinal scene o s body)
    storing ordinal s body r =
        record { moved = acted (put_record None body) s _ r refl; rights = act-rights (put_record None body) (the_file scene.files o) s ∙ r }

    -- ---- The states.

    opened-control : (verb : Verb) → Stays (control_opened verb scene o)
    opened-control verbs.Connect = entering (Connected o _) _ refl
    opened-control verb = entering (Opened o) _ tt

    connected-control : (verb : Verb) (s : StreamVal) (c : ControlFields) → s.rights ≡ o.rights → LeftIn (Some o) (control_connected verb scene o s c)
    connected-control verbs.Get s c r = picked (get_pick (the_file scene.files o) s c) s r
    connected-control verbs.Fetch s c r = either (Some o) s.rights.get _ _ (fetching s r) (entering (Connected o (stream_without_current s)) _ r)
    connected-control verbs.Put s c r = (refl, r)
    connected-control verbs.Update s c r = (refl, r)
    connected-control verbs.Store s c r = entering (Store o s) _ r
    connected-control verbs.Delete s c r = settling delete_record s r
    connected-control verbs.Rewind s c r = entering (Connected o (at_number 1 s)) _ r
    connected-control verb s c r = entering (Connected o s) _ r

    with-second : (change : Change) (s : StreamVal) (item : Item) → s.rights ≡ o.rights → Stays (effect_with change scene o s item)
    with-second change s (Malformed fault) r = entering (Connected o s) _ r
    with-second change s (Whole (Filedata k body)) r = second change s body r
    with-second change s (Whole message) r = entering (Connected o s) _ r

  of-message : (own : ServerSetup) (past : List Group) (state : ServerState) → HasRights state → (m : Message) → asks ≡ asks_to_open own scene.files state (Whole m) → LeftIn (open_in state) (turn_in own scene past state m)
  of-message own past Fresh h (Config c) w = either None (is_too_small c.bufsiz) _ _ (entering Fresh _ tt) (record { moved = keeps None; rights = tt })
  of-message own past Fresh h m w = entering Fresh _ tt
  of-message own past Ready h (Access a) w = accessing own a (asked_file own.full (kept_attributes past)) w
  of-message own past Ready h m w = entering Ready _ tt
  of-message own past (Opened o) h (Control c) w = opened-control o (verb_of c)
  of-message own past (Opened o) h (Accomp c) w = completed c.func o (Opened o) refl h
  of-message own past (Opened o) h m w = entering (Opened o) _ tt
  of-message own past (Connected o s) h (Control c) w = connected-control o (verb_of c) s c h
  of-message own past (Connected o s) h (Accomp c) w = completed c.func o (Connected o s) refl h
  of-message own past (Connected o s) h m w = entering (Connected o s) _ h
  of-message own past (Store o s) h (Filedata k body) w = either (Some o) (is_dropping past) _ _ (entering (Store o s) _ h) (storing o (ordinal_so_far past) s body h)
  of-message own past (Store o s) h (Contran func) w = either (Some o) (is_dropping past) _ _ (entering (Store o s) _ h) (entering (Store o s) _ h)
  of-message own past (Store o s) h (Accomp c) w = completed c.func o (Store o s) refl h
  of-message own past (Store o s) h m w = entering (Store o s) _ h
  of-message own past (Stopped o s) h (Contran func) w = continuing o func s h
  of-message own past (Stopped o s) h (Accomp c) w = completed c.func o (Stopped o s) refl h
  of-message own past (Stopped o s) h m w = entering (Stopped o s) _ h

  pub of-item : (own : ServerSetup) (past : List Group) (state : ServerState) → HasRights state → (item : Item) → asks ≡ asks_to_open own scene.files state item
      → LeftIn (open_in state) (turn_of own (record { scene = scene; state = state; past = past }) item)
  of-item own past state h (Malformed fault) w = entering state _ h
  of-item own past state h (Whole m) w = of-message own past state h m w

-- ---- One item more.

-- a link's stream has the rights of its Access, also inside a group of two
pub record IsSteady (c : GroupedItems) : Type 0 where
  pub rights : HasRights c.standing.state
  pub begun : IfSome c.begun (λ b. (open_in c.standing.state ≡ Some b.opened) × (b.stream.rights ≡ b.opened.rights))

pub record Goes (c d : GroupedItems) (asks : Option OpenFile) : Type 0 where
  pub moved : Moved c.standing.scene.files asks (open_in c.standing.state) d.standing.scene.files (open_in d.standing.state)
  pub steady : IsSteady d

pub next-goes : (own : ServerSetup) (asks : Option OpenFile) (s : Standing) (item : Item) (t : Turn) → HasRights s.state → LeftIn s.scene asks (open_in s.state) t → Goes (record { standing = s; begun = None }) (next_group own s item t) asks
next-goes own asks s item (Does e) h l = record { moved = l.moved; steady = record { rights = l.rights; begun = tt } }
next-goes own asks s item (BeginsGroup b) h l = record { moved = keeps (open_in s.state); steady = record { rights = h; begun = l } }

by-begun : (own : ServerSetup) (s : Standing) (begun : Option Begun) (item : Item) → HasRights s.state → IfSome begun (λ b. (open_in s.state ≡ Some b.opened) × (b.stream.rights ≡ b.opened.rights))
    → Goes (record { standing = s; begun = begun }) (more_after own s begun item) (asks_to_open own s.scene.files s.state item)
by-begun own s None item h n = next-goes own _ s item (turn_of own s item) h (of-item s.scene _ own s.past s.state h item refl)
by-begun own s (Some b) item h n =
    let asks = asks_to_open own s.scene.files s.state item in
    let l = with-second s.scene asks b.opened b.change b.stream item n.1 in
    record {
      moved = subst (λ (held : Option OpenFile). Moved s.scene.files asks held (after_two own s b item).scene.files (open_in (after_two own s b item).state)) (sym n.0) l.moved;
      steady = record { rights = l.rights; begun = tt };
    }

pub one-goes : (own : ServerSetup) (c : GroupedItems) (item : Item) → IsSteady c → Goes c (after_item own c item) (asks_to_open own c.standing.scene.files c.standing.state item)
one-goes own c item h = by-begun own c.standing c.begun item h.rights h.begun
