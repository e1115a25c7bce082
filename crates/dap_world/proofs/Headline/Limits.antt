-- What the accessed end takes for its peer's limit comes from the peer's Config alone.
use Rattle.std.proofs.Common.{ℕ, ◌+◌, Bool, true, false, List, [], ◌∷◌, ◌++◌, Option, Some, None, Result, Ok, Err, sym, subst, append_assoc}
use Rattle.std.proofs.lemmas.List.{append-nil}
use Rattle.std.specs.Prelude.{if◌then◌else◌}
use Rattle.dap_msg.specs.declared.message.Message.{Message}
use Rattle.dap_msg.specs.declared.message.AccessFields.{AccessFields}
use Rattle.dap_msg.specs.declared.message.ControlFields.{ControlFields}
use Rattle.dap_msg.specs.declared.message.Message.TheVariants.{Config, Access, Control, Contran, Accomp, Filedata}
use Rattle.dap_msg.specs.BothEnds.{message_limit}
use Rattle.dap_msg.specs.declared.items.Item.{Item}
use Rattle.dap_msg.specs.declared.items.Item.TheVariants.{Whole, Malformed}
use Rattle.dap_accessed.specs.declared.asked.Asked.{Asked}
use Rattle.rec_file.specs.declared.refusals.Refusal.{Refusal}
use Rattle.rec_file.specs.declared.picks.Pick.{Pick}
use Rattle.rec_file.specs.Files.{records_from}
use Rattle.rec_file.specs.Acts.{StreamVal, act, get_record}
use Rattle.dap_accessed.specs.declared.setup.ServerSetup.{ServerSetup}
use Rattle.dap_accessed.specs.Setup.{lacks}
use Rattle.dap_accessed.specs.declared.phase.OpenFile.{OpenFile}
use Rattle.dap_accessed.specs.declared.verbs.Verb.{Verb}
use Rattle.dap_accessed.specs.declared.verbs.Verb.TheVariants as verbs
use Rattle.std.specs.Prelude.{◌==◌, ◌&&◌, take_while, drop}
use Rattle.std.specs.List.{prefix_len}
use Rattle.dap_msg.specs.Codes as codes
use Rattle.dap_accessed.specs.Replies.{bare_status}
use Rattle.dap_accessed.specs.Standing.{the_file, ServerState, Fresh, Ready, Opened, Connected, Store, Stopped, Group, Standing, Scene, Effect, enters, start}
use Rattle.dap_accessed.specs.Naming.{index_by, index_to_erase, number_made}
use Rattle.dap_accessed.specs.Past.{asked_file, kept_attributes, is_dropping}
use Rattle.dap_accessed.specs.Accesses.{rights_to_create, rights_to_erase, rights_to_open, erase_file, make_file, open_file, create_file, access_file, end_stream, complete}
use Rattle.dap_accessed.specs.Records.{verb_of, get_pick, got, record_got, Change, Putting, Updating, effect_of_change, fits_limit, at_number}
use Rattle.dap_accessed.specs.Transfers.{fetch, fetch_ends, continue_fetch}
use Rattle.dap_msg.specs.BothEnds.{is_too_small}
use Rattle.dap_accessed.specs.Effects.{Begun, Turn, Does, BeginsGroup, control_opened, control_connected, turn_in, turn_of, effect_with}
use Rattle.dap_accessed.specs.Groups.{GroupedItems, stands_after}
use Rattle.dap_accessed.proofs.ForCallers.{cut-more, next_group, more_after}

module _ (P : ℕ → Type 0) where
  -- a Config that comes has a BUFSIZ of which it holds
  abbrev pub Fits : Item → Type 0
  Fits (Whole (Config c)) = P (message_limit c.bufsiz)
  Fits _ = Unit {0}

  -- what it leaves, if it is a group
  abbrev In : Turn → Type 0
  In (Does effect) = P effect.scene.limit
  In (BeginsGroup begun) = Unit {0}

  module _ (scene : Scene) (p : P scene.limit) where
    of-either : (b : Bool) (one two : Effect) → P one.scene.limit → P two.scene.limit → P (if b then one else two).scene.limit
    of-either true one two q r = q
    of-either false one two q r = r

    of-open : (own : ServerSetup) (fac : ℕ) (at : Option ℕ) → P (open_file own scene fac at).scene.limit
    of-open own fac None = p
    of-open own fac (Some n) = of-either (lacks own.most (rights_to_open fac)) _ _ p p

    of-make : (new : List ℕ) (fac : ℕ) (replaced : Option ℕ) (shape : Option Asked) → P (make_file scene new fac replaced shape).scene.limit
    of-make new fac replaced None = p
    of-make new fac replaced (Some shape) = p

    of-create : (own : ServerSetup) (name : List ℕ) (fac : ℕ) (number : Option ℕ) (shape : Option Asked) → P (create_file own scene name fac number shape).scene.limit
    of-create own name fac None shape = p
    of-create own name fac (Some n) shape = of-either (lacks own.most (rights_to_create fac)) _ _ p (of-make _ fac _ shape)

    of-erase : (own : ServerSetup) (at : Option ℕ) → P (erase_file own scene at).scene.limit
    of-erase own None = p
    of-erase own (Some n) = of-either (lacks own.most rights_to_erase) _ _ p p

    of-access : (own : ServerSetup) (a : AccessFields) (shape : Option Asked) → P (access_file own scene a shape).scene.limit
    of-access own a shape =
        let found = index_by own.names a.name scene.files in
        of-either (a.func == codes.accfunc.opening) _ _ (of-open own a.fac found)
        (of-either (a.func == codes.accfunc.creating) _ _ (of-create own a.name a.fac (number_made own.names a.name scene.files) shape)
        (of-either (own.full && a.func == codes.accfunc.erasing) _ _ (of-erase own (index_to_erase own.names a.name scene.files)) p))

    of-end : (o : OpenFile) (state : ServerState) → P (end_stream scene o state).scene.limit
    of-end o Fresh = p
    of-end o Ready = p
    of-end o (Opened _) = p
    of-end o (Connected _ _) = p
    of-end o (Store _ _) = p
    of-end o (Stopped _ _) = p

    of-complete : (func : ℕ) (o : OpenFile) (state : ServerState) → P (complete func scene o state).scene.limit
    of-complete func o state =
        of-either (func == codes.cmpfunc.close) _ _ p
        (of-either (func == codes.cmpfunc.purge) _ _ p (of-either (func == codes.cmpfunc.end_of_stream) _ _ (of-end o state) (of-either (func == codes.cmpfunc.skip) _ _ p p)))

    of-got : (reply : Result ℕ Refusal) (o : OpenFile) (before after : StreamVal) → P (got reply scene o before after).scene.limit
    of-got (Err refusal) o before after = p
    of-got (Ok n) o before after = of-either _ _ _ p p

    of-pick : (pick : Result Pick Refusal) (o : OpenFile) (s : StreamVal) → P (record_got pick scene o s).scene.limit
    of-pick (Err refusal) o s = p
    of-pick (Ok pick) o s = let outcome = act (get_record pick) (the_file scene.files o) s in of-got outcome.reply o s outcome.stream

    of-change : (change : Change) (o : OpenFile) (s : StreamVal) (body : List ℕ) → P (effect_of_change change scene o s body).scene.limit
    of-change (Putting (Err refusal)) o s body = p
    of-change (Putting (Ok key)) o s body = p
    of-change Updating o s body = p

    of-ends : (o : OpenFile) (s : StreamVal) (given rest : List (ℕ × List ℕ)) → P (fetch_ends scene o s given rest).scene.limit
    of-ends o s given [] = p
    of-ends o s given (large ∷ more) = p

    of-fetch : (o : OpenFile) (s : StreamVal) → P (fetch scene o s).scene.limit
    of-fetch o s =
        let due = records_from (the_file scene.files o).records s.next in
        of-ends o s (take_while (fits_limit scene.limit) due) (drop (prefix_len (fits_limit scene.limit) due) due)

    of-continue : (func : ℕ) (o : OpenFile) (s : StreamVal) → P (continue_fetch func scene o s).scene.limit
    of-continue func o s =
        of-either (func == codes.confunc.again) _ _ (of-fetch o s)
        (of-either (func == codes.confunc.skip) _ _ (of-fetch o (at_number (s.next + 1) s)) (of-either (func == codes.confunc.abort) _ _ p p))

    of-opened : (verb : Verb) (o : OpenFile) → P (control_opened verb scene o).scene.limit
    of-opened verbs.Connect o = p
    of-opened verb o = p

    of-connected : (verb : Verb) (o : OpenFile) (s : StreamVal) (c : ControlFields) → In (control_connected verb scene o s c)
    of-connected verbs.Get o s c = of-pick (get_pick (the_file scene.files o) s c) o s
    of-connected verbs.Fetch o s c = of-either s.rights.get _ _ (of-fetch o s) p
    of-connected verbs.Put o s c = tt
    of-connected verbs.Update o s c = tt
    of-connected verbs.Store o s c = p
    of-connected verbs.Delete o s c = p
    of-connected verbs.Rewind o s c = p
    of-connected verb o s c = p

    of-config : (own : ServerSetup) (small : Bool) (bufsiz : ℕ) → P (message_limit bufsiz) → P (if small then enters scene Fresh (bare_status (codes.invalid codes.types.config) ∷ []) else enters (record scene { limit = message_limit bufsiz }) Ready (Config own.identity ∷ [])).scene.limit
    of-config own true bufsiz q = p
    of-config own false bufsiz q = q

    of-message : (own : ServerSetup) (past : List Group) (state : ServerState) (m : Message) → Fits (Whole m) → In (turn_in own scene past state m)
    of-message own past Fresh (Config c) q = of-config own (is_too_small c.bufsiz) c.bufsiz q
    of-message own past Fresh m q = p
    of-message own past Ready (Access a) q = of-access own a (asked_file own.full (kept_attributes past))
    of-message own past Ready m q = p
    of-message own past (Opened o) (Control c) q = of-opened (verb_of c) o
    of-message own past (Opened o) (Accomp c) q = of-complete c.func o (Opened o)
    of-message own past (Opened o) m q = p
    of-message own past (Connected o s) (Control c) q = of-connected (verb_of c) o s c
    of-message own past (Connected o s) (Accomp c) q = of-complete c.func o (Connected o s)
    of-message own past (Connected o s) m q = p
    of-message own past (Store o s) (Filedata r body) q = of-either (is_dropping past) _ _ p p
    of-message own past (Store o s) (Contran func) q = of-either (is_dropping past) _ _ p p
    of-message own past (Store o s) (Accomp c) q = of-complete c.func o (Store o s)
    of-message own past (Store o s) m q = p
    of-message own past (Stopped o s) (Contran func) q = of-continue func o s
    of-message own past (Stopped o s) (Accomp c) q = of-complete c.func o (Stopped o s)
    of-message own past (Stopped o s) m q = p

    of-item : (own : ServerSetup) (past : List Group) (state : ServerState) (item : Item) → Fits item → In (turn_of own (record { scene = scene; state = state; past = past }) item)
    of-item own past state (Malformed fault) q = p
    of-item own past state (Whole m) q = of-message own past state m q

    of-second : (change : Change) (o : OpenFile) (s : StreamVal) (item : Item) → P (effect_with change scene o s item).scene.limit
    of-second change o s (Malformed fault) = p
    of-second change o s (Whole (Filedata r body)) = of-change change o s body
    of-second change o s (Whole message) = p

  of-next : (own : ServerSetup) (s : Standing) (item : Item) (t : Turn) → P s.scene.limit → In t → P (next_group own s item t).standing.scene.limit
  of-next own s item (Does effect) p q = q
  of-next own s item (BeginsGroup begun) p q = p

  of-one : (own : ServerSetup) (s : Standing) (b : Option Begun) (item : Item) → P s.scene.limit → Fits item → P (more_after own s b item).standing.scene.limit
  of-one own s None item p q = of-next own s item (turn_of own s item) p (of-item s.scene p own s.past s.state item q)
  of-one own s (Some b) item p q = of-second s.scene p b.change b.opened b.stream item

  abbrev pub AllFit : List Item → Type 0
  AllFit [] = Unit {0}
  AllFit (item ∷ items) = Fits item × AllFit items

  of-more : (own : ServerSetup) (before more : List Item) → P (stands_after own [] before).standing.scene.limit → AllFit more → P (stands_after own [] (before ++ more)).standing.scene.limit
  of-more own before [] p q = subst (λ (l : List Item). P (stands_after own [] l).standing.scene.limit) (sym (append-nil before)) p
  of-more own before (item ∷ more) p q =
      let c = stands_after own [] before in
      let one : P (stands_after own [] (before ++ item ∷ [])).standing.scene.limit = subst (λ (c : GroupedItems). P c.standing.scene.limit) (sym (cut-more own (start []) before item)) (of-one own c.standing c.begun item p q.0) in
      subst (λ (l : List Item). P (stands_after own [] l).standing.scene.limit) (append_assoc before (item ∷ []) more) (of-more own (before ++ item ∷ []) more one q.1)

  pub after-all : (own : ServerSetup) (items : List Item) → P 64 → AllFit items → P (stands_after own [] items).standing.scene.limit
  after-all own items p q = of-more own [] items p q
