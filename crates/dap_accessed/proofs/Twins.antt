-- Servers that differ in what they say of themselves alone do the same.
use Rattle.std.proofs.Common.{◌≡◌, ℕ, Bool, true, false, List, [], ◌∷◌, ◌++◌, Option, refl, sym, ap, subst, ◌∙◌, append_assoc, inl, inr}
use Rattle.std.specs.Prelude.{if◌then◌else◌}
use Rattle.std.proofs.lemmas.List.{append-nil}
use Rattle.dap_msg.specs.Codes as codes
use Rattle.dap_msg.specs.BothEnds.{is_too_small, message_limit}
use Rattle.dap_msg.specs.declared.message.Configuration.{Configuration}
use Rattle.dap_msg.specs.declared.message.Message.{Message}
use Rattle.dap_msg.specs.declared.message.Message.TheVariants.{Config, Access}
use Rattle.dap_msg.specs.declared.items.Item.{Item}
use Rattle.dap_msg.specs.declared.items.Item.TheVariants.{Whole, Malformed}
use Rattle.dap_accessed.specs.declared.asked.Asked.{Asked}
use Rattle.rec_file.specs.declared.picks.Rights.{Rights}
use Rattle.dap_accessed.specs.declared.setup.Names.{Names}
use Rattle.dap_accessed.specs.declared.setup.ServerSetup.{ServerSetup}
use Rattle.rec_file.specs.Acts.{StreamVal}
use Rattle.dap_accessed.specs.declared.phase.OpenFile.{OpenFile}
use Rattle.dap_accessed.specs.declared.phase.Phase.{Phase}
use Rattle.dap_accessed.specs.declared.phase.Phase.TheVariants as phases
use Rattle.dap_accessed.specs.Replies.{bare_status}
use Rattle.dap_accessed.specs.Standing.{Files, ServerState, Fresh, Ready, Opened, Connected, Store, Stopped, Scene, Effect, enters}
use Rattle.dap_accessed.specs.Records.{Putting, Updating}
use Rattle.dap_accessed.specs.Effects.{Turn, Does, BeginsGroup, told, effect_fresh, effect_ready, effect_with}
use Rattle.dap_accessed.specs.Groups.{After, Answers, answers_added, limit_for, stands_after}
use Rattle.dap_accessed.specs.Present.{Present, Memory, present_of}
use Rattle.dap_accessed.specs.Twins.{AreTwins, SameMessages}
use Rattle.dap_accessed.specs.Inner.Moves.{Move, between, move, move_in, plain_memory, store_memory, scene_in, turn_by, turns}
use Rattle.dap_accessed.proofs.Cuts.{Answers-more}
use Rattle.dap_accessed.proofs.StepIs.{present-moves, answers-move}

module _ (one other : Configuration) where
  pub same_all : (ms : List Message) → SameMessages one other ms ms
  same_all [] = tt
  same_all (m ∷ ms) = (inl refl, same_all ms)

  pub same_both : (ms ns ps qs : List Message) → SameMessages one other ms ns → SameMessages one other ps qs → SameMessages one other (ms ++ ps) (ns ++ qs)
  same_both [] [] ps qs h k = k
  same_both [] (n ∷ ns) ps qs h k = absurd h
  same_both (m ∷ ms) [] ps qs h k = absurd h
  same_both (m ∷ ms) (n ∷ ns) ps qs h k = (h.0, same_both ms ns ps qs h.1 k)

-- ---- One item.

-- the same server that says this of itself
abbrev saying : Configuration → ServerSetup → ServerSetup
saying identity own = record own { identity = identity }

module _ (identity : Configuration) where
  abbrev twin : Present → Present
  twin p = record p { own = identity.bufsiz; setup = saying identity p.setup }

  -- it moves in the same way
  record Follows (p : Present) (one other : Move) : Type 0 where
    present : other.present ≡ twin one.present
    answers : SameMessages p.setup.identity identity one.answers other.answers

  follows-turn : (t : Turn) (p : Present) (memory : Memory) (state : ServerState) (item : Item) → Follows p (turns t p memory state item) (turns t (twin p) memory state item)
  follows-turn (Does e) p memory state item = record { present = refl; answers = same_all p.setup.identity identity (told p.setup e).answers }
  follows-turn (BeginsGroup b) p memory state item = record { present = refl; answers = tt }

  -- where nothing is said of the server, its identity doesn't count
  ready-same : (own : ServerSetup) (scene : Scene) (asked : Option Asked) (m : Message) → effect_ready (saying identity own) scene asked m ≡ effect_ready own scene asked m
  ready-same own scene asked (Access a) = refl
  ready-same own scene asked m = refl

  ready-turn : (own : ServerSetup) (scene : Scene) (memory : Memory) (item : Item) → turn_by (saying identity own) scene memory Ready item ≡ turn_by own scene memory Ready item
  ready-turn own scene memory (Malformed fault) = refl
  ready-turn own scene memory (Whole m) = ap Does (ready-same own scene memory.asked m)

  configured : (p : Present) (asked : Option Asked) (small : Bool) (bufsiz : ℕ) (item : Item) → let memory = plain_memory asked in let scene = scene_in p in
      let wrong : Effect = enters scene Fresh (bare_status (codes.invalid codes.types.config) ∷ []) in
      Follows p (turns (Does (if small then wrong else enters (record scene { limit = message_limit bufsiz }) Ready (Config p.setup.identity ∷ []))) p memory Fresh item)
      (turns (Does (if small then wrong else enters (record scene { limit = message_limit bufsiz }) Ready (Config identity ∷ []))) (twin p) memory Fresh item)
  configured p asked true bufsiz item = record { present = refl; answers = (inl refl, tt) }
  configured p asked false bufsiz item = record { present = refl; answers = (inr (refl, refl), tt) }

  fresh-follows : (p : Present) (asked : Option Asked) (item : Item) → Follows p (between p (plain_memory asked) Fresh item) (between (twin p) (plain_memory asked) Fresh item)
  fresh-follows p asked (Malformed fault) = follows-turn (turn_by p.setup (scene_in p) (plain_memory asked) Fresh (Malformed fault)) p (plain_memory asked) Fresh (Malformed fault)
  fresh-follows p asked (Whole (Config c)) = configured p asked (is_too_small c.bufsiz) c.bufsiz (Whole (Config c))
  fresh-follows p asked (Whole m) = follows-turn (Does (effect_fresh p.setup (scene_in p) m)) p (plain_memory asked) Fresh (Whole m)

  ready-follows : (p : Present) (memory : Memory) (item : Item) → Follows p (between p memory Ready item) (between (twin p) memory Ready item)
  ready-follows p memory item =
      subst (λ (t : Turn). Follows p (between p memory Ready item) (turns t (twin p) memory Ready item)) (sym (ready-turn p.setup (scene_in p) memory item))
      (follows-turn (turn_by p.setup (scene_in p) memory Ready item) p memory Ready item)

  -- in these states nothing is said of the server
  abbrev Between : ServerState → Type 0
  Between state = (p : Present) (memory : Memory) (item : Item) → Follows p (between p memory state item) (between (twin p) memory state item)

  opened-follows : (o : OpenFile) → Between (Opened o)
  opened-follows o p memory (Malformed fault) = follows-turn (turn_by p.setup (scene_in p) memory (Opened o) (Malformed fault)) p memory (Opened o) (Malformed fault)
  opened-follows o p memory (Whole m) = follows-turn (turn_by p.setup (scene_in p) memory (Opened o) (Whole m)) p memory (Opened o) (Whole m)

  connected-follows : (o : OpenFile) (s : StreamVal) → Between (Connected o s)
  connected-follows o s p memory (Malformed fault) = follows-turn (turn_by p.setup (scene_in p) memory (Connected o s) (Malformed fault)) p memory (Connected o s) (Malformed fault)
  connected-follows o s p memory (Whole m) = follows-turn (turn_by p.setup (scene_in p) memory (Connected o s) (Whole m)) p memory (Connected o s) (Whole m)

  store-follows : (o : OpenFile) (s : StreamVal) → Between (Store o s)
  store-follows o s p memory (Malformed fault) = follows-turn (turn_by p.setup (scene_in p) memory (Store o s) (Malformed fault)) p memory (Store o s) (Malformed fault)
  store-follows o s p memory (Whole m) = follows-turn (turn_by p.setup (scene_in p) memory (Store o s) (Whole m)) p memory (Store o s) (Whole m)

  stopped-follows : (o : OpenFile) (s : StreamVal) → Between (Stopped o s)
  stopped-follows o s p memory (Malformed fault) = follows-turn (turn_by p.setup (scene_in p) memory (Stopped o s) (Malformed fault)) p memory (Stopped o s) (Malformed fault)
  stopped-follows o s p memory (Whole m) = follows-turn (turn_by p.setup (scene_in p) memory (Stopped o s) (Whole m)) p memory (Stopped o s) (Whole m)

  follows-in : (phase : Phase) (p : Present) (item : Item) → Follows p (move_in phase p item) (move_in phase (twin p) item)
  follows-in phases.Fresh p item = fresh-follows p p.kept item
  follows-in phases.Ready p item = ready-follows p (plain_memory p.kept) item
  follows-in (phases.Opened o) p item = opened-follows o p (plain_memory p.kept) item
  follows-in (phases.Connected o s) p item = connected-follows o s p (plain_memory p.kept) item
  follows-in (phases.PutDue o s key) p item = record { present = refl; answers = same_all p.setup.identity identity (told p.setup (effect_with (Putting key) (scene_in p) o s item)).answers }
  follows-in (phases.UpdateDue o s) p item = record { present = refl; answers = same_all p.setup.identity identity (told p.setup (effect_with Updating (scene_in p) o s item)).answers }
  follows-in (phases.Storing o s n) p item = store-follows o s p (store_memory p.kept false n) item
  follows-in (phases.Dropping o s n) p item = store-follows o s p (store_memory p.kept true n) item
  follows-in (phases.Stopped o s) p item = stopped-follows o s p (plain_memory p.kept) item

  follows : (p : Present) (item : Item) → Follows p (move p item) (move (twin p) item)
  follows p item = follows-in p.phase p item

-- ---- Every list of items.

module _ (one : ServerSetup) (identity : Configuration) (first : Files) where
  abbrev like : ServerSetup
  like = saying identity one

  abbrev kept_by : ServerSetup → List Item → Present
  kept_by own items = present_of own (stands_after own first items)

  -- it stands in the same way, and has answered so
  record StandsSo (items : List Item) : Type 0 where
    present : kept_by like items ≡ twin identity (kept_by one items)
    answers : SameMessages one.identity identity (Answers one first items) (Answers like first items)

  adds : (items : List Item) (item : Item) → kept_by like items ≡ twin identity (kept_by one items) → SameMessages one.identity identity (answers_added one first items item) (answers_added like first items item)
  adds items item h =
      subst (λ (l : List Message). SameMessages one.identity identity l (answers_added like first items item)) (sym (answers-move one first items item))
      (subst (SameMessages one.identity identity (move (kept_by one items) item).answers) (sym (answers-move like first items item ∙ ap (λ (p : Present). (move p item).answers) h))
      (follows identity (kept_by one items) item).answers)

  so-more : (items : List Item) (item : Item) → StandsSo items → StandsSo (items ++ item ∷ [])
  so-more items item h =
      record {
        present = present-moves like first items item ∙ ap (λ (p : Present). (move p item).present) h.present ∙ (follows identity (kept_by one items) item).present
            ∙ ap (twin identity) (sym (present-moves one first items item));
        answers = subst (λ (l : List Message). SameMessages one.identity identity l (Answers like first (items ++ item ∷ []))) (sym (Answers-more one first items item))
            (subst (SameMessages one.identity identity (Answers one first items ++ answers_added one first items item)) (sym (Answers-more like first items item))
            (same_both one.identity identity (Answers one first items) (Answers like first items) (answers_added one first items item) (answers_added like first items item) h.answers (adds items item h.present)));
      }

  so-on : (before more : List Item) → StandsSo before → StandsSo (before ++ more)
  so-on before [] h = subst StandsSo (sym (append-nil before)) h
  so-on before (item ∷ more) h = subst StandsSo (append_assoc before (item ∷ []) more) (so-on (before ++ item ∷ []) more (so-more before item h))

  so : (items : List Item) → StandsSo items
  so items = so-on [] items (record { present = refl; answers = tt })

-- ---- Two servers.

-- the other server is the first one that says something else
is-twin : (one other : ServerSetup) → AreTwins one other → saying other.identity one ≡ other
is-twin one other twins =
    ap (λ (n : Names). let own : ServerSetup = record { identity = other.identity; names = n; most = one.most; full = one.full } in own) twins.names
    ∙ ap (λ (r : Rights). let own : ServerSetup = record { identity = other.identity; names = other.names; most = r; full = one.full } in own) twins.most
    ∙ ap (λ (f : Bool). let own : ServerSetup = record { identity = other.identity; names = other.names; most = other.most; full = f } in own) twins.full

module _ (one other : ServerSetup) (twins : AreTwins one other) (first : Files) (items : List Item) where
  pub same-files : After one first items ≡ After other first items
  same-files =
      subst (λ (own : ServerSetup). After one first items ≡ After own first items) (is-twin one other twins)
      (sym (ap (λ (p : Present). p.files) (so one other.identity first items).present))

  pub same-limit : limit_for one first items ≡ limit_for other first items
  same-limit =
      subst (λ (own : ServerSetup). limit_for one first items ≡ limit_for own first items) (is-twin one other twins)
      (sym (ap (λ (p : Present). p.limit) (so one other.identity first items).present))

  pub same-answers : SameMessages one.identity other.identity (Answers one first items) (Answers other first items)
  same-answers =
      subst (λ (own : ServerSetup). SameMessages one.identity other.identity (Answers one first items) (Answers own first items)) (is-twin one other twins)
      (so one other.identity first items).answers

  pub same-added : (item : Item) → SameMessages one.identity other.identity (answers_added one first items item) (answers_added other first items item)
  same-added item =
      subst (λ (own : ServerSetup). SameMessages one.identity other.identity (answers_added one first items item) (answers_added own first items item)) (is-twin one other twins)
      (adds one other.identity first items item (so one other.identity first items).present)
