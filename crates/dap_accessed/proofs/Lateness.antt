-- Where a Config was served, no later item takes the end back; and before that nothing depends on the files that it
-- has.
use Rattle.std.proofs.Common.{◌≡◌, ℕ, ◌+◌, Bool, true, false, List, [], ◌∷◌, ◌++◌, Option, Some, None, Result, Ok, Err, refl, ap, sym, subst, ◌∙◌, append_assoc}
use Rattle.dap_accessed.specs.Setup.{lacks}
use Rattle.dap_accessed.specs.declared.setup.ServerSetup.{ServerSetup}
use Rattle.std.specs.Prelude.{if◌then◌else◌, ◌==◌, ◌&&◌, take_while, drop, unwrap_or}
use Rattle.std.specs.FinMap as map
use Rattle.std.specs.List.{prefix_len}
use Rattle.std.proofs.lemmas.List.{append-nil}
use Rattle.dap_msg.specs.Codes as codes
use Rattle.dap_msg.specs.declared.message.Message.{Message}
use Rattle.dap_msg.specs.declared.message.ControlFields.{ControlFields}
use Rattle.dap_msg.specs.declared.message.AccessFields.{AccessFields}
use Rattle.dap_msg.specs.declared.message.Message.TheVariants.{Config, Access, Control, Contran, Accomp, Filedata, Other}
use Rattle.dap_msg.specs.BothEnds.{is_too_small, message_limit}
use Rattle.dap_msg.specs.declared.items.Item.{Item}
use Rattle.dap_msg.specs.declared.items.Item.TheVariants.{Whole, Malformed}
use Rattle.dap_accessed.specs.declared.asked.Asked.{Asked}
use Rattle.rec_file.specs.declared.refusals.Refusal.{Refusal}
use Rattle.rec_file.specs.declared.picks.Pick.{Pick}
use Rattle.rec_file.specs.Files.{records_from}
use Rattle.rec_file.specs.Acts.{StreamVal, act, get_record}
use Rattle.dap_accessed.specs.declared.phase.OpenFile.{OpenFile}
use Rattle.dap_accessed.specs.declared.verbs.Verb.{Verb}
use Rattle.dap_accessed.specs.declared.verbs.Verb.TheVariants as verbs
use Rattle.dap_accessed.specs.Standing.{Files, the_file, ServerState, Fresh, Ready, Opened, Connected, Store, Stopped, Group, Standing, Scene, Effect, start, enters}
use Rattle.dap_accessed.specs.Naming.{index_by, index_to_erase, number_made}
use Rattle.dap_accessed.specs.Past.{asked_file, kept_attributes, is_dropping}
use Rattle.dap_accessed.specs.Replies.{bare_status, too_large}
use Rattle.dap_accessed.specs.Accesses.{rights_to_create, rights_to_erase, erase_file, rights_to_open, make_file, open_file, create_file, access_file, end_stream, complete}
use Rattle.dap_accessed.specs.Records.{verb_of, get_pick, got, record_got, at_number, filedata_of, fits_limit, stream_without_current, Change, Putting, Updating, effect_of_change}
use Rattle.dap_accessed.specs.Transfers.{fetch, fetch_ends, continue_fetch}
use Rattle.dap_accessed.specs.Effects.{Begun, Turn, Does, BeginsGroup, control_opened, control_connected, turn_in, turn_of, effect_with}
use Rattle.dap_accessed.specs.Groups.{GroupedItems, stands_after, next_group, more_after}
use Rattle.dap_accessed.specs.Present.{Present, present_of, StandsAfter}
use Rattle.dap_accessed.specs.Adding.{IsFresh}
use Rattle.dap_accessed.proofs.Cuts.{cut-more}

abbrev is_late : ServerState → Bool
is_late Fresh = false
is_late _ = true

abbrev Late : Effect → Type 0
Late e = is_late e.state ≡ true

abbrev LateTurn : Turn → Type 0
LateTurn (Does e) = Late e
LateTurn (BeginsGroup b) = Unit {0}

module _ (scene : Scene) where
  either : (b : Bool) (one two : Effect) → Late one → Late two → Late (if b then one else two)
  either true one two h k = h
  either false one two h k = k

  opening : (own : ServerSetup) (fac : ℕ) (at : Option ℕ) → Late (open_file own scene fac at)
  opening own fac None = refl
  opening own fac (Some at) = either (lacks own.most (rights_to_open fac)) _ _ refl refl

  making : (new : List ℕ) (fac : ℕ) (replaced : Option ℕ) (shape : Option Asked) → Late (make_file scene new fac replaced shape)
  making new fac replaced None = refl
  making new fac replaced (Some shape) = refl

  creating : (own : ServerSetup) (name : List ℕ) (fac : ℕ) (number : Option ℕ) (shape : Option Asked) → Late (create_file own scene name fac number shape)
  creating own name fac None shape = refl
  creating own name fac (Some n) shape = either (lacks own.most (rights_to_create fac)) _ _ refl (making _ fac _ shape)

  erasing : (own : ServerSetup) (at : Option ℕ) → Late (erase_file own scene at)
  erasing own None = refl
  erasing own (Some at) = either (lacks own.most rights_to_erase) _ _ refl refl

  accessing : (own : ServerSetup) (a : AccessFields) (shape : Option Asked) → Late (access_file own scene a shape)
  accessing own a shape =
      let found = index_by own.names a.name scene.files in
      either (a.func == codes.accfunc.opening) _ _ (opening own a.fac found)
      (either (a.func == codes.accfunc.creating) _ _ (creating own a.name a.fac (number_made own.names a.name scene.files) shape)
      (either (own.full && a.func == codes.accfunc.erasing) _ _ (erasing own (index_to_erase own.names a.name scene.files)) refl))

  ended : (o : OpenFile) (state : ServerState) → Late (end_stream scene o state)
  ended o (Opened p) = refl
  ended o Fresh = refl
  ended o Ready = refl
  ended o (Connected p s) = refl
  ended o (Store p s) = refl
  ended o (Stopped p s) = refl

  completing : (func : ℕ) (o : OpenFile) (state : ServerState) → is_late state ≡ true → Late (complete func scene o state)
  completing func o state h =
      either (func == codes.cmpfunc.close) _ _ refl
      (either (func == codes.cmpfunc.purge) _ _ refl
      (either (func == codes.cmpfunc.end_of_stream) _ _ (ended o state) (either (func == codes.cmpfunc.skip) _ _ h h)))

  module _ (o : OpenFile) where
    getting : (reply : Result ℕ Refusal) (before after : StreamVal) → Late (got reply scene o before after)
    getting (Err refusal) before after = refl
    getting (Ok n) before after =
        let r : ℕ × List ℕ = (n, unwrap_or (map.get (the_file scene.files o).records n) []) in
        either (fits_limit scene.limit r) (enters scene (Connected o after) (filedata_of r ∷ [])) (enters scene (Connected o (stream_without_current before)) (too_large ∷ [])) refl refl

    picked : (pick : Result Pick Refusal) (s : StreamVal) → Late (record_got pick scene o s)
    picked (Err refusal) s = refl
    picked (Ok pick) s = getting (act (get_record pick) (the_file scene.files o) s).reply s (act (get_record pick) (the_file scene.files o) s).stream

    second : (change : Change) (s : StreamVal) (body : List ℕ) → Late (effect_of_change change scene o s body)
    second (Putting (Err refusal)) s body = refl
    second (Putting (Ok key)) s body = refl
    second Updating s body = refl

    fetch-ends : (s : StreamVal) (given rest : List (ℕ × List ℕ)) → Late (fetch_ends scene o s given rest)
    fetch-ends s given [] = refl
    fetch-ends s given (large ∷ more) = refl

    fetching : (s : StreamVal) → Late (fetch scene o s)
    fetching s =
        let due = records_from (the_file scene.files o).records s.next in
        fetch-ends s (take_while (fits_limit scene.limit) due) (drop (prefix_len (fits_limit scene.limit) due) due)

    continuing : (func : ℕ) (s : StreamVal) → Late (continue_fetch func scene o s)
    continuing func s =
        either (func == codes.confunc.again) _ _ (fetching s)
        (either (func == codes.confunc.skip) _ _ (fetching (at_number (s.next + 1) s)) (either (func == codes.confunc.abort) _ _ refl refl))

    opened-control : (verb : Verb) → Late (control_opened verb scene o)
    opened-control verbs.Connect = refl
    opened-control verb = refl

    connected-control : (verb : Verb) (s : StreamVal) (c : ControlFields) → LateTurn (control_connected verb scene o s c)
    connected-control verbs.Get s c = picked (get_pick (the_file scene.files o) s c) s
    connected-control verbs.Fetch s c = either s.rights.get _ _ (fetching s) refl
    connected-control verbs.Put s c = tt
    connected-control verbs.Update s c = tt
    connected-control verbs.Store s c = refl
    connected-control verbs.Delete s c = refl
    connected-control verbs.Rewind s c = refl
    connected-control verb s c = refl

    with-second : (change : Change) (s : StreamVal) (item : Item) → Late (effect_with change scene o s item)
    with-second change s (Malformed fault) = refl
    with-second change s (Whole (Filedata r body)) = second change s body
    with-second change s (Whole message) = refl

  of-message : (own : ServerSetup) (past : List Group) (state : ServerState) → is_late state ≡ true → (m : Message) → LateTurn (turn_in own scene past state m)
  of-message own past Fresh h m = cc
  of-message own past Ready h (Access a) = accessing own a (asked_file own.full (kept_attributes past))
  of-message own past Ready h m = refl
  of-message own past (Opened o) h (Control c) = opened-control o (verb_of c)
  of-message own past (Opened o) h (Accomp c) = completing c.func o (Opened o) refl
  of-message own past (Opened o) h m = refl
  of-message own past (Connected o s) h (Control c) = connected-control o (verb_of c) s c
  of-message own past (Connected o s) h (Accomp c) = completing c.func o (Connected o s) refl
  of-message own past (Connected o s) h m = refl
  of-message own past (Store o s) h (Filedata r body) = either (is_dropping past) _ _ refl refl
  of-message own past (Store o s) h (Contran func) = either (is_dropping past) _ _ refl refl
  of-message own past (Store o s) h (Accomp c) = completing c.func o (Store o s) refl
  of-message own past (Store o s) h m = refl
  of-message own past (Stopped o s) h (Contran func) = continuing o func s
  of-message own past (Stopped o s) h (Accomp c) = completing c.func o (Stopped o s) refl
  of-message own past (Stopped o s) h m = refl

  pub of-item : (own : ServerSetup) (past : List Group) (state : ServerState) → is_late state ≡ true → (item : Item) → LateTurn (turn_of own (record { scene = scene; state = state; past = past }) item)
  of-item own past state h (Malformed fault) = h
  of-item own past state h (Whole m) = of-message own past state h m

-- ---- Every list of items.

abbrev LateThen : GroupedItems → Type 0
LateThen c = is_late c.standing.state ≡ true

next-late : (own : ServerSetup) (s : Standing) (item : Item) (t : Turn) → is_late s.state ≡ true → LateTurn t → LateThen (next_group own s item t)
next-late own s item (Does e) h late = late
next-late own s item (BeginsGroup b) h late = h

more-late : (own : ServerSetup) (s : Standing) (b : Option Begun) (item : Item) → is_late s.state ≡ true → LateThen (more_after own s b item)
more-late own s None item h = next-late own s item (turn_of own s item) h (of-item s.scene own s.past s.state h item)
more-late own s (Some b) item h = with-second s.scene b.opened b.change b.stream item

-- ---- Before the Config.

-- the same with other files
abbrev pub with_files : Files → GroupedItems → GroupedItems
with_files files c = record c { standing = record c.standing { scene = record c.standing.scene { files = files } } }

-- these files are those that it had at first, and it stands so whatever these are
pub record IsOfAny (own : ServerSetup) (first : Files) (items : List Item) : Type 0 where
  pub files : (stands_after own first items).standing.scene.files ≡ first
  pub any : (other : Files) → stands_after own other items ≡ with_files other (stands_after own first items)
  pub whole : (stands_after own first items).begun ≡ None

-- the state is that before any Config
fresh_of : (state : ServerState) → is_late state ≡ false → state ≡ Fresh
fresh_of Fresh e = refl
fresh_of Ready e = cc
fresh_of (Opened o) e = cc
fresh_of (Connected o s) e = cc
fresh_of (Store o s) e = cc
fresh_of (Stopped o s) e = cc

abbrev given_files : Files → Standing → Standing
given_files other s = record s { scene = record s.scene { files = other } }

abbrev after_one : ServerSetup → Standing → Item → GroupedItems
after_one own s item = next_group own s item (turn_of own s item)

-- an item moves no file, and does the same whatever files there are
record DoesAnyway (own : ServerSetup) (s : Standing) (item : Item) : Type 0 where
  files : (after_one own s item).standing.scene.files ≡ s.scene.files
  any : (other : Files) → after_one own (given_files other s) item ≡ with_files other (after_one own s item)
  whole : (after_one own s item).begun ≡ None

configuring : (own : ServerSetup) (s : Standing) (c : Message) (small : Bool) (limit : ℕ) (refusal answers : List Message)
    → let effect : Scene → Effect = λ scene. if small then enters scene Fresh refusal else enters (record scene { limit = limit }) Ready answers in
    ((next_group own s (Whole c) (Does (effect s.scene))).standing.scene.files ≡ s.scene.files)
    × ((other : Files) → next_group own (given_files other s) (Whole c) (Does (effect (record s.scene { files = other }))) ≡ with_files other (next_group own s (Whole c) (Does (effect s.scene))))
configuring own s c true limit refusal answers = (refl, λ other. refl)
configuring own s c false limit refusal answers = (refl, λ other. refl)

fresh_step : (own : ServerSetup) (s : Standing) (item : Item) → DoesAnyway own (record s { state = Fresh }) item
fresh_step own s (Malformed fault) = record { files = refl; any = λ other. refl; whole = refl }
fresh_step own s (Whole (Config c)) =
    let both = configuring own (record s { state = Fresh }) (Config c) (is_too_small c.bufsiz) (message_limit c.bufsiz) (bare_status (codes.invalid codes.types.config) ∷ []) (Config own.identity ∷ []) in
    record { files = both.0; any = both.1; whole = refl }
fresh_step own s (Whole (Other n body)) = record { files = refl; any = λ other. refl; whole = refl }
fresh_step own s (Whole m) = record { files = refl; any = λ other. refl; whole = refl }

one_step : (own : ServerSetup) (s : Standing) (item : Item) → s.state ≡ Fresh → DoesAnyway own s item
one_step own s item e = subst (λ (p : ServerState). DoesAnyway own (record s { state = p }) item) (sym e) (fresh_step own s item)

of_one_more : (own : ServerSetup) (first : Files) (before : List Item) (item : Item) → IsOfAny own first before → (stands_after own first before).standing.state ≡ Fresh → IsOfAny own first (before ++ item ∷ [])
of_one_more own first before item h fresh =
    let c = stands_after own first before in
    let d = one_step own c.standing item fresh in
    let here : stands_after own first (before ++ item ∷ []) ≡ after_one own c.standing item = cut-more own (start first) before item ∙ ap (λ (b : Option Begun). more_after own c.standing b item) h.whole in
    record {
      files = ap (λ (g : GroupedItems). g.standing.scene.files) here ∙ d.files ∙ h.files;
      any = λ other.
          cut-more own (start other) before item
          ∙ ap (λ (g : GroupedItems). more_after own g.standing g.begun item) (h.any other)
          ∙ ap (λ (b : Option Begun). more_after own (given_files other c.standing) b item) h.whole
          ∙ d.any other
          ∙ ap (with_files other) (sym here);
      whole = ap (λ (g : GroupedItems). g.begun) here ∙ d.whole;
    }

-- it was so before the last item
was_fresh : (own : ServerSetup) (c : GroupedItems) (item : Item) (late : Bool) → is_late c.standing.state ≡ late → is_late (more_after own c.standing c.begun item).standing.state ≡ false → is_late c.standing.state ≡ false
was_fresh own c item true e fresh = let late = more-late own c.standing c.begun item e in cc
was_fresh own c item false e fresh = e

of_any_on : (own : ServerSetup) (first : Files) (before more : List Item) → (is_late (stands_after own first before).standing.state ≡ false → IsOfAny own first before)
    → is_late (stands_after own first (before ++ more)).standing.state ≡ false → IsOfAny own first (before ++ more)
of_any_on own first before [] h e =
    subst (IsOfAny own first) (sym (append-nil before)) (h (subst (λ (l : List Item). is_late (stands_after own first l).standing.state ≡ false) (append-nil before) e))
of_any_on own first before (item ∷ more) h e =
    let c = stands_after own first before in
    let same = append_assoc before (item ∷ []) more in
    let one : is_late (stands_after own first (before ++ item ∷ [])).standing.state ≡ false → IsOfAny own first (before ++ item ∷ []) = λ f.
    let fresh = was_fresh own c item (is_late c.standing.state) refl (subst (λ (g : GroupedItems). is_late g.standing.state ≡ false) (cut-more own (start first) before item) f) in
    of_one_more own first before item (h fresh) (fresh_of c.standing.state fresh) in
    subst (IsOfAny own first) same (of_any_on own first (before ++ item ∷ []) more one (subst (λ (l : List Item). is_late (stands_after own first l).standing.state ≡ false) (sym same) e))

-- before a Config the files are those at first, and an end with other files at first would stand so too
pub of_any : (own : ServerSetup) (first : Files) (items : List Item) → (stands_after own first items).standing.state ≡ Fresh → IsOfAny own first items
of_any own first items fresh =
    of_any_on own first [] items (λ e. record { files = refl; any = λ other. refl; whole = refl }) (ap is_late fresh)

-- and it stood there after each front of these items
front_on : (own : ServerSetup) (first : Files) (before more : List Item) → is_late (stands_after own first (before ++ more)).standing.state ≡ false → is_late (stands_after own first before).standing.state ≡ false
front_on own first before [] e = subst (λ (l : List Item). is_late (stands_after own first l).standing.state ≡ false) (append-nil before) e
front_on own first before (item ∷ more) e =
    let c = stands_after own first before in
    let later = front_on own first (before ++ item ∷ []) more (subst (λ (l : List Item). is_late (stands_after own first l).standing.state ≡ false) (sym (append_assoc before (item ∷ []) more)) e) in
    was_fresh own c item (is_late c.standing.state) refl (subst (λ (g : GroupedItems). is_late g.standing.state ≡ false) (cut-more own (start first) before item) later)

pub prefix_fresh : (own : ServerSetup) (first : Files) (before more : List Item) → (stands_after own first (before ++ more)).standing.state ≡ Fresh → (stands_after own first before).standing.state ≡ Fresh
prefix_fresh own first before more e = fresh_of (stands_after own first before).standing.state (front_on own first before more (ap is_late e))

-- ---- An end that is given files.

present_by : (own : ServerSetup) (files : Files) (s : Standing) (b : Option Begun)
    → present_of own (with_files files (record { standing = s; begun = b })) ≡ record (present_of own (record { standing = s; begun = b })) { files = files }
present_by own files s None = refl
present_by own files s (Some b) = refl

-- of whatever items it stands after, it stands so with these files at first
pub stands_given : (old new : Present) → IsFresh old → new ≡ record old { files = new.files } → (first : Files) (items : List Item) → StandsAfter first items old → StandsAfter new.files items new
stands_given old new fresh is first items h =
    let c = stands_after old.setup first items in
    let any = (of_any old.setup first items (fresh.is first items h)).any new.files in
    let so : new ≡ present_of old.setup (stands_after old.setup new.files items) =
    is ∙ ap (λ (p : Present). record p { files = new.files }) h ∙ sym (present_by old.setup new.files c.standing c.begun) ∙ ap (present_of old.setup) (sym any) in
    let own : new.setup ≡ old.setup = ap (λ (p : Present). p.setup) is in
    so ∙ ap (λ (n : ServerSetup). present_of n (stands_after n new.files items)) (sym own)
