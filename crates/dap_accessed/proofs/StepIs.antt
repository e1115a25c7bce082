-- One item more moves what an end keeps as `move` says, and adds the answers that it says.
use Rattle.std.proofs.Common.{◌≡◌, ℕ, suc, Bool, true, false, List, [], ◌∷◌, ◌++◌, length, Option, Some, None, refl, ap, sym, subst, ◌∙◌, arith}
use Rattle.dap_accessed.specs.declared.setup.ServerSetup.{ServerSetup}
use Rattle.std.specs.Prelude.{min, nat_lt, not, ◌==◌, filter, filter_map, slice_get, unwrap_or, take_while, ◌||◌, if◌then◌else◌}
use Rattle.std.specs.List.{list_any}
use Rattle.std.proofs.lemmas.List.Sums.{take_while-cons}
use Rattle.dap_msg.specs.declared.message.Message.{Message}
use Rattle.dap_msg.specs.declared.message.AccessFields.{AccessFields}
use Rattle.dap_msg.specs.declared.message.Message.TheVariants.{Config, Attrib, Access, Control, Contran, Ack, Accomp, Filedata, Status, Other}
use Rattle.dap_msg.specs.declared.items.Item.{Item}
use Rattle.dap_msg.specs.declared.items.Item.TheVariants.{Whole, Malformed}
use Rattle.dap_msg.specs.BothEnds.{no_attributes}
use Rattle.dap_accessed.specs.declared.asked.Asked.{Asked}
use Rattle.rec_file.specs.Acts.{StreamVal}
use Rattle.dap_accessed.specs.declared.phase.OpenFile.{OpenFile}
use Rattle.dap_accessed.specs.declared.phase.Phase.{Phase}
use Rattle.dap_accessed.specs.declared.phase.Phase.TheVariants as phases
use Rattle.dap_accessed.specs.Standing.{Files, Scene, ServerState, Group, Standing, Effect, Fresh, Ready, Opened, Connected, Store, Stopped}
use Rattle.dap_accessed.specs.Past.{asked_file, kept_attributes, is_dropping, ordinal_so_far, this_store, is_skip, is_ready, is_store, is_access, is_filedata, attributes_in, since_access, was_refused, max_ordinal, next_ordinal}
use Rattle.dap_accessed.specs.Records.{Change, Putting, Updating}
use Rattle.dap_accessed.specs.Effects.{Begun, Turn, Does, BeginsGroup, told, turn_of, effect_with}
use Rattle.dap_accessed.specs.Groups.{GroupedItems, over, answers_added, stands_after, next_group, next_answers, after_item, answers_of}
use Rattle.dap_accessed.specs.Present.{Present, Memory, looked_back, present_of, phase_at, StandsAfter}
use Rattle.dap_accessed.specs.Sessions.{IsIn}
use Rattle.dap_accessed.specs.Asked.{asked_fully}
use Rattle.dap_accessed.specs.Inner.Moves.{plainly_asked, Move, move, move_in, turn_by, between, turns, settles, remembers, plain_memory, store_memory, scene_in, drops_next, ordinal_next}
use Rattle.dap_accessed.proofs.Cuts.{present-more, added-is}
use Rattle.dap_accessed.proofs.Opens.{store_phase, store-moves}

-- ---- What counts of the past after a group.

-- without Attributes a server keeps the same, full or not
pub none_asked : (full : Bool) → asked_file full no_attributes ≡ plainly_asked
unfolding asked_fully
none_asked true = refl
none_asked false = refl

module _ (full : Bool) (past : List Group) where
  abbrev group_of : ServerState → Item → List Message → Group
  group_of state item answers = record { state = state; first = item; answers = answers }

  -- the groups in Ready since an Access, with one more
  asked-more : (item : Item) (answers : List Message) →
      asked_file full (kept_attributes (group_of Ready item answers ∷ past))
      ≡ asked_file full (unwrap_or (slice_get (filter_map (λ (g : Group). attributes_in g.first) (if not (is_access item) then group_of Ready item answers ∷ since_access past else [])) 0) no_attributes)
  asked-more item answers =
      ap (λ (l : List Group). asked_file full (unwrap_or (slice_get (filter_map (λ (g : Group). attributes_in g.first) l) 0) no_attributes))
      (take_while-cons (λ (g : Group). not (is_access g.first)) (group_of Ready item answers) (filter (λ (g : Group). is_ready g.state) past))

  asked-kept : (state : ServerState) (item : Item) (answers : List Message) → asked_file full (kept_attributes (group_of state item answers ∷ past)) ≡ (remembers full (looked_back full state past) state item answers).asked
  asked-kept Fresh item answers = refl
  asked-kept (Opened o) item answers = refl
  asked-kept (Connected o s) item answers = refl
  asked-kept (Store o s) item answers = refl
  asked-kept (Stopped o s) item answers = refl
  asked-kept Ready (Malformed fault) answers = asked-more (Malformed fault) answers
  asked-kept Ready (Whole (Config c)) answers = asked-more (Whole (Config c)) answers
  asked-kept Ready (Whole (Attrib a)) answers = asked-more (Whole (Attrib a)) answers
  asked-kept Ready (Whole (Access a)) answers = asked-more (Whole (Access a)) answers ∙ none_asked full
  asked-kept Ready (Whole (Control c)) answers = asked-more (Whole (Control c)) answers
  asked-kept Ready (Whole (Contran f)) answers = asked-more (Whole (Contran f)) answers
  asked-kept Ready (Whole Ack) answers = asked-more (Whole Ack) answers
  asked-kept Ready (Whole (Accomp c)) answers = asked-more (Whole (Accomp c)) answers
  asked-kept Ready (Whole (Filedata r b)) answers = asked-more (Whole (Filedata r b)) answers
  asked-kept Ready (Whole (Status s)) answers = asked-more (Whole (Status s)) answers
  asked-kept Ready (Whole (Other n b)) answers = asked-more (Whole (Other n b)) answers

  or-false : (b : Bool) → (b || false) ≡ b
  or-false true = refl
  or-false false = refl

  or-true : (b : Bool) → (b || true) ≡ true
  or-true true = refl
  or-true false = refl

  module _ (o : OpenFile) (s : StreamVal) where
    -- a Continue Transfer drops nothing more where it takes up the Store
    skips : (skip d : Bool) (group : Group) (store : List Group) → list_any was_refused store ≡ d → was_refused group ≡ false → list_any was_refused (if not skip then group ∷ store else []) ≡ (if d then not skip else false)
    skips true true group store e r = refl
    skips true false group store e r = refl
    skips false true group store e r = ap (λ b. b || list_any was_refused store) r ∙ e
    skips false false group store e r = ap (λ b. b || list_any was_refused store) r ∙ e

    abbrev goes_on : Group → Bool
    goes_on group = not (is_skip group.first)

    -- the groups of this Store since it was taken up
    abbrev since_skip : List Group
    since_skip = take_while goes_on (this_store past)

    -- one group of the Store more
    store-more : (group : Group) → is_store group.state ≡ true → this_store (group ∷ past) ≡ group ∷ this_store past
    store-more group e = take_while-cons (λ (g : Group). is_store g.state) group past ∙ ap (λ b. if b then group ∷ this_store past else []) e

    more-drops : (item : Item) (answers : List Message) → is_dropping (group_of (Store o s) item answers ∷ past) ≡ list_any was_refused (if not (is_skip item) then group_of (Store o s) item answers ∷ since_skip else [])
    more-drops item answers =
        let group = group_of (Store o s) item answers in
        ap (λ (l : List Group). list_any was_refused (take_while goes_on l)) (store-more group refl) ∙ ap (list_any was_refused) (take_while-cons goes_on group (this_store past))

    store-drops : (d : Bool) → is_dropping past ≡ d → (item : Item) (answers : List Message) → is_dropping (group_of (Store o s) item answers ∷ past) ≡ drops_next d item answers
    store-drops false e (Whole (Filedata r b)) answers = more-drops (Whole (Filedata r b)) answers ∙ ap (λ x. nat_lt 0 (length answers) || x) e ∙ or-false (nat_lt 0 (length answers))
    store-drops true e (Whole (Filedata r b)) answers = more-drops (Whole (Filedata r b)) answers ∙ ap (λ x. nat_lt 0 (length answers) || x) e ∙ or-true (nat_lt 0 (length answers))
    store-drops false e (Whole (Contran func)) answers = more-drops (Whole (Contran func)) answers ∙ skips (func == 2) false (group_of (Store o s) (Whole (Contran func)) answers) since_skip e refl
    store-drops true e (Whole (Contran func)) answers = more-drops (Whole (Contran func)) answers ∙ skips (func == 2) true (group_of (Store o s) (Whole (Contran func)) answers) since_skip e refl
    store-drops false e (Malformed fault) answers = more-drops (Malformed fault) answers ∙ e
    store-drops true e (Malformed fault) answers = more-drops (Malformed fault) answers ∙ e
    store-drops false e (Whole message) answers = more-drops (Whole message) answers ∙ e
    store-drops true e (Whole message) answers = more-drops (Whole message) answers ∙ e

    counted : (n : ℕ) → min (suc n) max_ordinal ≡ next_ordinal (min n max_ordinal)
    counted n = omega arith

    more-counted : (item : Item) (answers : List Message) → ordinal_so_far (group_of (Store o s) item answers ∷ past) ≡ min (length (filter (λ (g : Group). is_filedata g.first) (group_of (Store o s) item answers ∷ this_store past))) max_ordinal
    more-counted item answers =
        ap (λ (l : List Group). min (length (filter (λ (g : Group). is_filedata g.first) l)) max_ordinal) (store-more (group_of (Store o s) item answers) refl)

    store-counts : (item : Item) (answers : List Message) → ordinal_so_far (group_of (Store o s) item answers ∷ past) ≡ ordinal_next (ordinal_so_far past) item
    store-counts (Whole (Filedata r b)) answers = more-counted (Whole (Filedata r b)) answers ∙ counted (length (filter (λ group. is_filedata group.first) (this_store past)))
    store-counts (Malformed fault) answers = more-counted (Malformed fault) answers
    store-counts (Whole message) answers = more-counted (Whole message) answers

  -- the phase that is entered in a Store
  store-entered : (state : ServerState) (item : Item) (answers : List Message) (o : OpenFile) (s : StreamVal) →
      phase_at (Store o s) (looked_back full (Store o s) (group_of state item answers ∷ past)) ≡ phase_at (Store o s) (remembers full (looked_back full state past) state item answers)
  store-entered Fresh item answers o s = refl
  store-entered Ready item answers o s = refl
  store-entered (Opened p) item answers o s = refl
  store-entered (Connected p t) item answers o s = refl
  store-entered (Stopped p t) item answers o s = refl
  store-entered (Store p t) item answers o s =
      ap (λ d. store_phase d o s (ordinal_so_far (group_of (Store p t) item answers ∷ past))) (store-drops p t (is_dropping past) refl item answers)
      ∙ ap (λ n. store_phase (drops_next (is_dropping past) item answers) o s n) (store-counts p t item answers)

  entered : (q state : ServerState) (item : Item) (answers : List Message) →
      phase_at q (looked_back full q (group_of state item answers ∷ past)) ≡ phase_at q (remembers full (looked_back full state past) state item answers)
  entered Fresh state item answers = refl
  entered Ready state item answers = refl
  entered (Opened o) state item answers = refl
  entered (Connected o s) state item answers = refl
  entered (Stopped o s) state item answers = refl
  entered (Store o s) state item answers = store-entered state item answers o s

-- ---- Moves.

module _ (own : ServerSetup) (scene : Scene) (past : List Group) where
  abbrev at : ServerState → Standing
  at state = record { scene = scene; state = state; past = past }

  abbrev kept_at : ServerState → Present
  kept_at state = present_of own (record { standing = at state; begun = None })

  -- after a group in a state that began with this item and had this effect
  after-group : (p : Present) (s : Standing) (state : ServerState) (item : Item) (e : Effect) → p.own ≡ own.identity.bufsiz → p.setup ≡ own → s.past ≡ past →
      present_of own (record { standing = over s state item e; begun = None }) ≡ (settles p (remembers own.full (looked_back own.full state past) state item e.answers) e).present
  after-group p s state item e b o h = rw (b, o, h)
      (ap (λ (k : Option Asked). let q : Present = record { own = own.identity.bufsiz; setup = own; limit = e.scene.limit; files = e.scene.files; kept = k; phase = phase_at e.state (looked_back own.full e.state (group_of own.full past state item e.answers ∷ past)) } in q) (asked-kept own.full past state item e.answers)
      ∙ ap (λ (f : Phase). let q : Present = record { own = own.identity.bufsiz; setup = own; limit = e.scene.limit; files = e.scene.files; kept = (remembers own.full (looked_back own.full state past) state item e.answers).asked; phase = f } in q) (entered own.full past e.state state item e.answers))

  -- what an end keeps, and the answers, are those of the move
  pub record Agrees (step : Move) (present : Present) (answers : List Message) : Type 0 where
    pub same_present : present ≡ step.present
    pub same_answers : answers ≡ step.answers

  turned : (state : ServerState) (item : Item) (t : Turn) →
      Agrees (turns t (kept_at state) (looked_back own.full state past) state item) (present_of own (next_group own (at state) item t)) (next_answers own t)
  turned state item (Does effect) = record { same_present = after-group (kept_at state) (at state) state item (told own effect) refl refl refl; same_answers = refl }
  turned state item (BeginsGroup begun) = record { same_present = refl; same_answers = refl }

  abbrev Follows : ServerState → Item → Move → Type 0
  Follows state item step =
      Agrees step (present_of own (next_group own (at state) item (turn_of own (at state) item))) (next_answers own (turn_of own (at state) item))

  -- all that counts of the past was looked back for
  turn-is : (state : ServerState) (item : Item) → turn_by own scene (looked_back own.full state past) state item ≡ turn_of own (at state) item
  turn-is state (Malformed fault) = refl
  turn-is Fresh (Whole message) = refl
  turn-is Ready (Whole message) = refl
  turn-is (Opened o) (Whole message) = refl
  turn-is (Connected o s) (Whole message) = refl
  turn-is (Store o s) (Whole message) = refl
  turn-is (Stopped o s) (Whole message) = refl

  follows : (state : ServerState) (item : Item) → Follows state item (between (kept_at state) (looked_back own.full state past) state item)
  follows state item =
      subst (λ (t : Turn). Follows state item (turns t (kept_at state) (looked_back own.full state past) state item)) (sym (turn-is state item))
      (turned state item (turn_of own (at state) item))

  pub one-follows : (state : ServerState) (item : Item) → Follows state item (move (kept_at state) item)
  one-follows Fresh item = follows Fresh item
  one-follows Ready item = follows Ready item
  one-follows (Opened o) item = follows (Opened o) item
  one-follows (Connected o s) item = follows (Connected o s) item
  one-follows (Stopped o s) item = follows (Stopped o s) item
  one-follows (Store o s) item =
      subst (Follows (Store o s) item) (sym (store-moves (is_dropping past) o s (ordinal_so_far past) (kept_at (Store o s)) item)) (follows (Store o s) item)

  pub two-follows : (state : ServerState) (o : OpenFile) (s : StreamVal) (change : Change) (first item : Item) →
      let begun : Begun = record { first = first; opened = o; stream = s; change = change } in
      let c : GroupedItems = record { standing = at state; begun = Some begun } in
      Agrees (move (present_of own c) item) (present_of own (after_item own c item)) (answers_of own c item)
  two-follows state o s (Putting key) first item =
      record {
        same_present = after-group (record { own = own.identity.bufsiz; setup = own; limit = scene.limit; files = scene.files; kept = asked_file own.full (kept_attributes past); phase = phases.PutDue o s key }) (at state) (Connected o s) first (told own (effect_with (Putting key) scene o s item)) refl refl refl;
        same_answers = refl;
      }
  two-follows state o s Updating first item =
      record {
        same_present = after-group (record { own = own.identity.bufsiz; setup = own; limit = scene.limit; files = scene.files; kept = asked_file own.full (kept_attributes past); phase = phases.UpdateDue o s }) (at state) (Connected o s) first (told own (effect_with Updating scene o s item)) refl refl refl;
        same_answers = refl;
      }

pub step-is : (own : ServerSetup) (s : Standing) (begun : Option Begun) (item : Item) →
    let c : GroupedItems = record { standing = s; begun = begun } in
    Agrees own s.scene s.past (move (present_of own c) item) (present_of own (after_item own c item)) (answers_of own c item)
step-is own s None item = one-follows own s.scene s.past s.state item
step-is own s (Some b) item = two-follows own s.scene s.past s.state b.opened b.stream b.change b.first item

-- the move of an end that stands as after some items
pub present-moves : (own : ServerSetup) (first : Files) (items : List Item) (item : Item) → present_of own (stands_after own first (items ++ item ∷ [])) ≡ (move (present_of own (stands_after own first items)) item).present
present-moves own first items item = let c = stands_after own first items in present-more own first items item ∙ (step-is own c.standing c.begun item).same_present

pub answers-move : (own : ServerSetup) (first : Files) (items : List Item) (item : Item) → answers_added own first items item ≡ (move (present_of own (stands_after own first items)) item).answers
answers-move own first items item = let c = stands_after own first items in added-is own first items item ∙ (step-is own c.standing c.begun item).same_answers

-- an end's own BUFSIZ and its setup stay
abbrev KeepsOwn : (new old : Present) → Type 0
KeepsOwn new old = (new.own ≡ old.own) × (new.setup ≡ old.setup)

turns-own : (t : Turn) (p : Present) (memory : Memory) (state : ServerState) (item : Item) → KeepsOwn (turns t p memory state item).present p
turns-own (Does effect) p memory state item = (refl, refl)
turns-own (BeginsGroup begun) p memory state item = (refl, refl)

between-own : (p : Present) (memory : Memory) (state : ServerState) (item : Item) → KeepsOwn (between p memory state item).present p
between-own p memory state item = turns-own (turn_by p.setup (scene_in p) memory state item) p memory state item

moves-own : (phase : Phase) (p : Present) (item : Item) → KeepsOwn (move_in phase p item).present p
moves-own phases.Fresh p item = between-own p (plain_memory p.kept) Fresh item
moves-own phases.Ready p item = between-own p (plain_memory p.kept) Ready item
moves-own (phases.Opened o) p item = between-own p (plain_memory p.kept) (Opened o) item
moves-own (phases.Connected o s) p item = between-own p (plain_memory p.kept) (Connected o s) item
moves-own (phases.PutDue o s key) p item = (refl, refl)
moves-own (phases.UpdateDue o s) p item = (refl, refl)
moves-own (phases.Storing o s n) p item = between-own p (store_memory p.kept false n) (Store o s) item
moves-own (phases.Dropping o s n) p item = between-own p (store_memory p.kept true n) (Store o s) item
moves-own (phases.Stopped o s) p item = between-own p (plain_memory p.kept) (Stopped o s) item

pub same-own : (p : Present) (item : Item) → (move p item).present.own ≡ p.own
same-own p item = (moves-own p.phase p item).0

pub same-setup : (p : Present) (item : Item) → (move p item).present.setup ≡ p.setup
same-setup p item = (moves-own p.phase p item).1

-- an end that stood as after some items stands as after these and one more
pub stands-more : (old new : Present) (item : Item) → new ≡ (move old item).present → (first : Files) (items : List Item) → StandsAfter first items old → StandsAfter first (items ++ item ∷ []) new
stands-more old new item e first items h =
    let own : new.setup ≡ old.setup = ap (λ (p : Present). p.setup) e ∙ same-setup old item in
    e ∙ ap (λ (p : Present). (move p item).present) h ∙ sym (present-moves old.setup first items item) ∙ ap (λ (n : ServerSetup). present_of n (stands_after n first (items ++ item ∷ []))) (sym own)

pub answers-are : (old : Present) (item : Item) (first : Files) (items : List Item) → StandsAfter first items old → (move old item).answers ≡ answers_added old.setup first items item
answers-are old item first items h = ap (λ (p : Present). (move p item).answers) h ∙ sym (answers-move old.setup first items item)

-- ---- From any state.

-- an end that was in a state is in that after the item
pub in-more : (old new : Present) (item : Item) (c : GroupedItems) → new ≡ (move old item).present → IsIn c old → IsIn (after_item old.setup c item) new
in-more old new item c e h =
    let own : new.setup ≡ old.setup = ap (λ (p : Present). p.setup) e ∙ same-setup old item in
    e ∙ ap (λ (p : Present). (move p item).present) h ∙ sym (step-is old.setup c.standing c.begun item).same_present ∙ ap (λ (n : ServerSetup). present_of n (after_item old.setup c item)) (sym own)

pub answers-in : (old : Present) (item : Item) (c : GroupedItems) → IsIn c old → (move old item).answers ≡ answers_of old.setup c item
answers-in old item c h = ap (λ (p : Present). (move p item).answers) h ∙ sym (step-is old.setup c.standing c.begun item).same_answers

-- an Access uses up the attributes
pub access-keeps : (full : Bool) (past : List Group) (a : AccessFields) (answers : List Message) → asked_file full (kept_attributes (record { state = Ready; first = Whole (Access a); answers = answers } ∷ past)) ≡ plainly_asked
access-keeps full past a answers = asked-kept full past Ready (Whole (Access a)) answers
