-- Where an item has no answer and isn't stored, it takes no memory.
use Rattle.std.proofs.Common.{◌≡◌, ◌≢◌, ℕ, Bool, true, false, List, [], ◌∷◌, ◌++◌, map, Option, Some, None, Result, Ok, Err, refl, ap, ◌∙◌}
use Rattle.std.specs.Prelude.{◌+◌, ◌==◌, ◌&&◌, if◌then◌else◌, take_while, drop, unwrap_or}
use Rattle.std.specs.FinMap.{get}
use Rattle.std.specs.List.{prefix_len}
use Rattle.dap_msg.specs.Codes as codes
use Rattle.dap_msg.specs.declared.message.Message.{Message}
use Rattle.dap_msg.specs.declared.message.AccessFields.{AccessFields}
use Rattle.dap_msg.specs.declared.message.ControlFields.{ControlFields}
use Rattle.dap_msg.specs.declared.message.Message.TheVariants.{Config, Attrib, Access, Control, Contran, Accomp, Filedata, Other}
use Rattle.dap_msg.specs.BothEnds.{message_limit, is_too_small}
use Rattle.dap_msg.specs.declared.items.Item.{Item}
use Rattle.dap_msg.specs.declared.items.Item.TheVariants.{Whole, Malformed}
use Rattle.rec_file.specs.declared.picks.Pick.{Pick}
use Rattle.rec_file.specs.declared.refusals.Refusal.{Refusal}
use Rattle.dap_accessed.specs.declared.asked.Asked.{Asked}
use Rattle.rec_file.specs.Files.{records_from}
use Rattle.rec_file.specs.Acts.{StreamVal, get_record, act}
use Rattle.dap_accessed.specs.Setup.{lacks}
use Rattle.dap_accessed.specs.declared.setup.ServerSetup.{ServerSetup}
use Rattle.dap_accessed.specs.declared.phase.OpenFile.{OpenFile}
use Rattle.dap_accessed.specs.declared.phase.Phase.{Phase}
use Rattle.dap_accessed.specs.declared.phase.Phase.TheVariants as phases
use Rattle.dap_accessed.specs.declared.verbs.Verb.{Verb}
use Rattle.dap_accessed.specs.declared.verbs.Verb.TheVariants as verbs
use Rattle.dap_accessed.specs.Standing.{Files, the_file, ServerState, Group, Standing, Scene, Effect, Fresh, Ready, Opened, Connected, Store, Stopped, enters}
use Rattle.dap_accessed.specs.Naming.{index_by, index_to_erase, number_made}
use Rattle.dap_accessed.specs.Replies.{bare_status}
use Rattle.dap_accessed.specs.Past.{is_filedata, is_dropping, ordinal_so_far}
use Rattle.dap_accessed.specs.Accesses.{rights_to_create, rights_to_erase, erase_file, rights_to_open, make_file, open_file, create_file, access_file, end_stream, complete}
use Rattle.dap_accessed.specs.Records.{Change, Putting, Updating, got, record_got, at_number, verb_of, fits_limit, filedata_of}
use Rattle.dap_accessed.specs.Transfers.{fetch, fetch_ends, continue_fetch, continue_refused}
use Rattle.dap_accessed.specs.Effects.{Begun, effect_with, control_opened, control_connected}
use Rattle.dap_accessed.specs.Groups.{GroupedItems, stands_after}
use Rattle.dap_accessed.specs.Present.{Present, Memory, looked_back, StandsAfter, phase_at, phase_within, phase_of}
use Rattle.dap_accessed.specs.Inner.Moves.{move_in, scene_in, begins_only, is_silent, plain_memory, turns}
use Rattle.dap_accessed.specs.Served.{IsSilent}
use Rattle.dap_accessed.specs.Sessions.{IsIn, IsSilentIn}
use Rattle.dap_accessed.proofs.Coding.{coded-none}
use Rattle.dap_accessed.proofs.StepIs.{answers-are, answers-in}

-- ---- What has an answer.

abbrev Answers : Effect → Type 0
Answers effect = effect.answers ≢ []

after-one : (xs : List Message) (m : Message) → xs ++ m ∷ [] ≢ []
after-one [] m = λ e. cc
after-one (x ∷ xs) m = λ e. cc

either : (b : Bool) (one two : Effect) → Answers one → Answers two → Answers (if b then one else two)
either true one two a b = a
either false one two a b = b

module _ (scene : Scene) where
  opening : (own : ServerSetup) (fac : ℕ) (at : Option ℕ) → Answers (open_file own scene fac at)
  opening own fac None = λ e. cc
  opening own fac (Some at) = either (lacks own.most (rights_to_open fac)) _ _ (λ e. cc) (λ e. cc)

  making : (new : List ℕ) (fac : ℕ) (replaced : Option ℕ) (shape : Option Asked) → Answers (make_file scene new fac replaced shape)
  making new fac replaced None = λ e. cc
  making new fac replaced (Some shape) = λ e. cc

  creating : (own : ServerSetup) (name : List ℕ) (fac : ℕ) (number : Option ℕ) (shape : Option Asked) → Answers (create_file own scene name fac number shape)
  creating own name fac None shape = λ e. cc
  creating own name fac (Some n) shape = either (lacks own.most (rights_to_create fac)) _ _ (λ e. cc) (making _ fac _ shape)

  erasing : (own : ServerSetup) (at : Option ℕ) → Answers (erase_file own scene at)
  erasing own None = λ e. cc
  erasing own (Some at) = either (lacks own.most rights_to_erase) _ _ (λ e. cc) (λ e. cc)

  accessing : (own : ServerSetup) (a : AccessFields) (shape : Option Asked) → Answers (access_file own scene a shape)
  accessing own a shape =
      let found = index_by own.names a.name scene.files in
      either (a.func == codes.accfunc.opening) _ _ (opening own a.fac found)
      (either (a.func == codes.accfunc.creating) _ _ (creating own a.name a.fac (number_made own.names a.name scene.files) shape)
      (either (own.full && a.func == codes.accfunc.erasing) _ _ (erasing own (index_to_erase own.names a.name scene.files)) (λ e. cc)))

  ending-stream : (o : OpenFile) (state : ServerState) → Answers (end_stream scene o state)
  ending-stream o (Opened p) = λ e. cc
  ending-stream o state = λ e. cc

  completing : (func : ℕ) (o : OpenFile) (state : ServerState) → Answers (complete func scene o state)
  completing func o state =
      either (func == codes.cmpfunc.close) _ _ (λ e. cc)
      (either (func == codes.cmpfunc.purge) _ _ (λ e. cc)
      (either (func == codes.cmpfunc.end_of_stream) _ _ (ending-stream o state) (either (func == codes.cmpfunc.skip) _ _ (λ e. cc) (λ e. cc))))

  getting : (reply : Result ℕ Refusal) (o : OpenFile) (before after : StreamVal) → Answers (got reply scene o before after)
  getting (Err refusal) o before after = λ e. cc
  getting (Ok n) o before after = either (fits_limit scene.limit (n, unwrap_or (get (the_file scene.files o).records n) [])) _ _ (λ e. cc) (λ e. cc)

  picking : (pick : Result Pick Refusal) (o : OpenFile) (s : StreamVal) → Answers (record_got pick scene o s)
  picking (Err refusal) o s = λ e. cc
  picking (Ok pick) o s = let outcome = act (get_record pick) (the_file scene.files o) s in getting outcome.reply o s outcome.stream

  ending : (o : OpenFile) (s : StreamVal) (given rest : List (ℕ × List ℕ)) → Answers (fetch_ends scene o s given rest)
  ending o s given [] = after-one (map filedata_of given) _
  ending o s given (large ∷ more) = after-one (map filedata_of given) _

  fetching : (o : OpenFile) (s : StreamVal) → Answers (fetch scene o s)
  fetching o s =
      let due = records_from (the_file scene.files o).records s.next in
      ending o s (take_while (fits_limit scene.limit) due) (drop (prefix_len (fits_limit scene.limit) due) due)

  continuing : (func : ℕ) (o : OpenFile) (s : StreamVal) → Answers (continue_fetch func scene o s)
  continuing func o s =
      either (func == codes.confunc.again) _ _ (fetching o s)
      (either (func == codes.confunc.skip) _ _ (fetching o (at_number (s.next + 1) s)) (either (func == codes.confunc.abort) _ _ (λ e. cc) (λ e. cc)))

  changing : (change : Change) (o : OpenFile) (s : StreamVal) (item : Item) → Answers (effect_with change scene o s item)
  changing (Putting (Err refusal)) o s (Whole (Filedata _ body)) = λ e. cc
  changing (Putting (Ok key)) o s (Whole (Filedata _ body)) = λ e. cc
  changing Updating o s (Whole (Filedata _ body)) = λ e. cc
  changing change o s (Whole message) = λ e. cc
  changing change o s (Malformed fault) = λ e. cc

  connecting : (verb : Verb) (o : OpenFile) → Answers (control_opened verb scene o)
  connecting verbs.Connect o = λ e. cc
  connecting verb o = λ e. cc

-- ---- What has none.

-- a Control where a stream is connected
commanded : (verb : Verb) (p : Present) (memory : Memory) (o : OpenFile) (s : StreamVal) (c : ControlFields) (item : Item)
    → (turns (control_connected verb (scene_in p) o s c) p memory (Connected o s) item).answers ≡ [] → begins_only verb ≡ true
commanded verbs.Get p memory o s c item e = absurd (picking (scene_in p) _ o s (coded-none p.setup.full _ e))
commanded verbs.Fetch p memory o s c item e = absurd (either s.rights.get _ _ (fetching (scene_in p) o s) (λ f. cc) (coded-none p.setup.full _ e))
commanded verbs.Put p memory o s c item e = refl
commanded verbs.Update p memory o s c item e = refl
commanded verbs.Store p memory o s c item e = refl
commanded verbs.Delete p memory o s c item e = cc
commanded verbs.Rewind p memory o s c item e = cc
commanded verb p memory o s c item e = cc

took_up : (skip : Bool) (func : ℕ) → (if skip then [] else continue_refused func ∷ []) ≡ [] → skip ≡ true
took_up true func e = refl
took_up false func e = cc

-- no Filedata is stored in this phase
abbrev is_storing : Phase → Bool
is_storing (phases.Storing _ _ _) = true
is_storing _ = false

silent : (phase : Phase) (p : Present) (item : Item) → (move_in phase p item).answers ≡ [] → (is_filedata item ≡ true → is_storing phase ≡ false) → is_silent phase item ≡ true
silent phases.Fresh p (Malformed fault) e h = cc
silent phases.Fresh p (Whole (Config c)) e h = absurd (either (is_too_small c.bufsiz) (enters (scene_in p) Fresh (bare_status (codes.invalid codes.types.config) ∷ [])) (enters (record (scene_in p) { limit = message_limit c.bufsiz }) Ready (Config p.setup.identity ∷ [])) (λ f. cc) (λ f. cc) (coded-none p.setup.full _ e))
silent phases.Fresh p (Whole (Other _ _)) e h = refl
silent phases.Fresh p (Whole message) e h = cc
silent phases.Ready p (Malformed fault) e h = cc
silent phases.Ready p (Whole (Other _ _)) e h = refl
silent phases.Ready p (Whole (Attrib _)) e h = refl
silent phases.Ready p (Whole (Access a)) e h = absurd (accessing (scene_in p) p.setup a p.kept (coded-none p.setup.full _ e))
silent phases.Ready p (Whole message) e h = cc
silent (phases.Opened o) p (Malformed fault) e h = cc
silent (phases.Opened o) p (Whole (Control c)) e h = absurd (connecting (scene_in p) (verb_of c) o (coded-none p.setup.full _ e))
silent (phases.Opened o) p (Whole (Accomp c)) e h = absurd (completing (scene_in p) c.func o (Opened o) (coded-none p.setup.full _ e))
silent (phases.Opened o) p (Whole message) e h = cc
silent (phases.Connected o s) p (Malformed fault) e h = cc
silent (phases.Connected o s) p (Whole (Control c)) e h = commanded (verb_of c) p (plain_memory p.kept) o s c (Whole (Control c)) e
silent (phases.Connected o s) p (Whole (Accomp c)) e h = absurd (completing (scene_in p) c.func o (Connected o s) (coded-none p.setup.full _ e))
silent (phases.Connected o s) p (Whole message) e h = cc
silent (phases.PutDue o s key) p item e h = absurd (changing (scene_in p) (Putting key) o s item (coded-none p.setup.full _ e))
silent (phases.UpdateDue o s) p item e h = absurd (changing (scene_in p) Updating o s item (coded-none p.setup.full _ e))
silent (phases.Storing o s n) p (Malformed fault) e h = cc
silent (phases.Storing o s n) p (Whole (Control c)) e h = cc
silent (phases.Storing o s n) p (Whole (Filedata _ _)) e h = (let f = h refl in cc)
silent (phases.Storing o s n) p (Whole (Accomp c)) e h = absurd (completing (scene_in p) c.func o (Store o s) (coded-none p.setup.full _ e))
silent (phases.Storing o s n) p (Whole message) e h = cc
silent (phases.Dropping o s n) p (Malformed fault) e h = cc
silent (phases.Dropping o s n) p (Whole (Control c)) e h = cc
silent (phases.Dropping o s n) p (Whole (Filedata _ _)) e h = refl
silent (phases.Dropping o s n) p (Whole (Contran func)) e h = took_up (func == codes.confunc.skip) func (coded-none p.setup.full _ e)
silent (phases.Dropping o s n) p (Whole (Accomp c)) e h = absurd (completing (scene_in p) c.func o (Store o s) (coded-none p.setup.full _ e))
silent (phases.Dropping o s n) p (Whole message) e h = cc
silent (phases.Stopped o s) p (Malformed fault) e h = cc
silent (phases.Stopped o s) p (Whole (Control c)) e h = cc
silent (phases.Stopped o s) p (Whole (Contran func)) e h = absurd (continuing (scene_in p) func o s (coded-none p.setup.full _ e))
silent (phases.Stopped o s) p (Whole (Accomp c)) e h = absurd (completing (scene_in p) c.func o (Stopped o s) (coded-none p.setup.full _ e))
silent (phases.Stopped o s) p (Whole message) e h = cc

-- ---- By the history.

in_store : (d : Bool) (o : OpenFile) (s : StreamVal) (n : ℕ) → d ≡ true → is_storing (if d then phases.Dropping o s n else phases.Storing o s n) ≡ false
in_store true o s n e = refl
in_store false o s n e = cc

drops-at : (full : Bool) (state : ServerState) (past : List Group) → is_dropping past ≡ true → is_storing (phase_at state (looked_back full state past)) ≡ false
drops-at full Fresh past e = refl
drops-at full Ready past e = refl
drops-at full (Opened o) past e = refl
drops-at full (Connected o s) past e = refl
drops-at full (Store o s) past e = in_store (is_dropping past) o s (ordinal_so_far past) e
drops-at full (Stopped o s) past e = refl

drops-within : (change : Change) (o : OpenFile) (s : StreamVal) → is_storing (phase_within change o s) ≡ false
drops-within (Putting key) o s = refl
drops-within Updating o s = refl

drops : (full : Bool) (standing : Standing) (begun : Option Begun) → is_dropping standing.past ≡ true → is_storing (phase_of full standing begun) ≡ false
drops full standing None e = drops-at full standing.state standing.past e
drops full standing (Some b) e = drops-within b.change b.opened b.stream

pub silent-in : (old : Present) (c : GroupedItems) (item : Item) → IsIn c old → IsSilentIn old.setup c item → is_silent old.phase item ≡ true
silent-in old c item h none =
    silent old.phase old item (answers-in old item c h ∙ none.0)
    (λ f. ap (λ (p : Present). is_storing p.phase) h ∙ drops old.setup.full c.standing c.begun (none.1 f))

pub silent-is : (old : Present) (first : Files) (items : List Item) (item : Item) → StandsAfter first items old → IsSilent old.setup first items item → is_silent old.phase item ≡ true
silent-is old first items item h none =
    silent old.phase old item (answers-are old item first items h ∙ none.0) (λ f. ap (λ (p : Present). is_storing p.phase) h ∙ (let c = stands_after old.setup first items in drops old.setup.full c.standing c.begun (none.1 f)))
