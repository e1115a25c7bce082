-- A request, message by message: what the server is sent of it, what it answers, and what it waits for then, whatever
-- other links have open.
use Rattle.std.proofs.Common.{◌≡◌, ℕ, refl, sym, ◌∙◌, true, false, Bool, subst, ap, append_assoc, List, [], ◌∷◌, ◌++◌, map, Option, Some, None, inl, inr}
use Rattle.std.specs.Prelude.{◌⊎◌, if◌then◌else◌, ◌==◌, ◌&&◌}
use Rattle.std.proofs.lemmas.List.{append-nil, map-append}
use Rattle.dap_accessed.specs.declared.asked.Asked.{Asked}
use Rattle.rec_file.specs.Acts.{StreamVal}
use Rattle.dap_msg.specs.declared.message.AccessFields.{AccessFields}
use Rattle.dap_msg.specs.declared.message.Configuration.{Configuration}
use Rattle.dap_msg.specs.declared.message.Message.{Message}
use Rattle.dap_msg.specs.declared.message.Message.TheVariants.{Access, Filedata}
use Rattle.dap_msg.specs.declared.items.Item.{Item}
use Rattle.dap_msg.specs.declared.items.Item.TheVariants.{Whole}
use Rattle.dap_msg.specs.BothEnds.{complete_with}
use Rattle.dap_msg.specs.Codes as codes
use Rattle.dap_accessed.specs.declared.phase.OpenFile.{OpenFile}
use Rattle.dap_accessed.specs.declared.setup.ServerSetup.{ServerSetup}
use Rattle.dap_accessed.specs.Accesses.{access_file, create_file, erase_file, open_file, refuse_access}
use Rattle.dap_accessed.specs.Effects.{Begun, Does, told}
use Rattle.dap_accessed.specs.Groups.{GroupedItems, answers_in}
use Rattle.dap_accessed.specs.Past.{asked_file, is_dropping, kept_attributes, ordinal_so_far}
use Rattle.dap_accessed.specs.Replies.{bare_status}
use Rattle.dap_accessed.specs.Standing.{Effect, Files, Group, Scene, ServerState, Standing, enters}
use Rattle.dap_accessed.specs.Naming.{index_by, index_to_erase, number_made}
use Rattle.dap_accessed.specs.Standing as at
use Rattle.dap_accessed.specs.Transfers.{store_one}
use Rattle.dap_accessed.proofs.ForCallers.{AllFiles, after_item, Good, good-file, index-within, next_group}
use Rattle.dap_shared.specs.Nodes.{more_beside}
use Rattle.dap_shared.specs.Sharing.{asks_to_open, file_locked, is_locked}
use Rattle.dap_accessing.specs.Request.{Request}
use Rattle.dap_accessing.specs.declared.request.Request.TheVariants as request
use Rattle.dap_accessing.specs.declared.request.By.TheVariants as by
use Rattle.dap_accessing.specs.declared.report.Report.{Report}
use Rattle.dap_accessing.specs.declared.report.Report.TheVariants as report
use Rattle.dap_accessing.specs.declared.phase.Phase.{Phase}
use Rattle.dap_accessing.specs.declared.phase.Phase.TheVariants.{Fresh, Ready, Opened, Connected, Stopped}
use Rattle.dap_accessing.specs.Asked.{messages_of}
use Rattle.dap_accessing.specs.Phase.{phase_next, limit_next}
use Rattle.dap_accessing.specs.Phases.{phase_fits}
use Rattle.dap_accessing.specs.Told.{Reports, Unexpected, Waits, after_those, first_told, has_success, hear, hear_attributes, hear_done, hear_stored}
use Rattle.dap_accessing.specs.Parts.{hear_store_end, is_status, statuses_in_front}
use Rattle.dap_end.specs.Agreement.{AgreeAt, AreLimits, IsBufsiz}
use Rattle.dap_end.proofs.Goes.{Comes, Goes, changes, creates, more_items, opens, shape-there, standing_at}
use Rattle.dap_end.proofs.Stores.{AreRefusals, OneStored, hear_stores, one_stored}
use Rattle.dap_end.proofs.Agreeing.{goes}

-- ---- Where the server stands inside a request.

module _ (own_a : Configuration) (own_b : ServerSetup) (phase : Phase) (limit_a : ℕ) where
  -- nothing of it was served
  pub record AtStart (r : Request) (state : ServerState) (limit : ℕ) (begun : Option Begun) (so_far left : List Message) : Type 0 where
    pub none : so_far ≡ []
    pub all : left ≡ messages_of own_a r
    pub whole : begun ≡ None
    pub fits : phase_fits phase r ≡ true
    pub agree : AgreeAt own_a own_b phase state limit limit_a

  -- of an opening, all but the Access
  pub record AccessDue (r : Request) (state : ServerState) (limit : ℕ) (begun : Option Begun) (so_far left : List Message) : Type 0 where
    pub none : so_far ≡ []
    pub access : AccessFields
    pub all : left ≡ Access access ∷ []
    pub whole : begun ≡ None
    pub hears : (l : List Item) → hear r l ≡ hear_attributes l
    pub opens : (access.func == codes.accfunc.erasing) ≡ false
    pub is_ready : state ≡ at.Ready
    pub was : phase ≡ Ready
    pub limits : AreLimits own_a own_b limit limit_a

  -- of a change of a record, all but the Data message
  pub record DataDue (r : Request) (state : ServerState) (limit : ℕ) (begun : Option Begun) (so_far left : List Message) : Type 0 where
    pub none : so_far ≡ []
    pub body : List ℕ
    pub all : left ≡ Filedata [] body ∷ []
    pub first : Begun
    pub begins : begun ≡ Some first
    pub hears : (l : List Item) → hear r l ≡ hear_done l
    pub opened : OpenFile
    pub stream : StreamVal
    pub connected : state ≡ at.Connected opened stream
    pub was : phase ≡ Connected
    pub limits : AreLimits own_a own_b limit limit_a

  -- of a Store, its PUT and some records
  pub record StoreDue (r : Request) (state : ServerState) (limit : ℕ) (begun : Option Begun) (so_far left : List Message) : Type 0 where
    pub refusals : AreRefusals so_far
    pub bodies : List (List ℕ)
    pub all : left ≡ map (Filedata []) bodies ++ complete_with 4 ∷ []
    pub whole : begun ≡ None
    pub hears : (l : List Item) → hear r l ≡ hear_stored l
    pub opened : OpenFile
    pub stream : StreamVal
    pub storing : state ≡ at.Store opened stream
    pub was : phase ≡ Connected
    pub limits : AreLimits own_a own_b limit limit_a

  -- These messages of the request are left, and so far it has these answers.
  pub data Awaits (r : Request) (state : ServerState) (limit : ℕ) (begun : Option Begun) (so_far left : List Message) : Type 0 where
    at_start : AtStart r state limit begun so_far left → Awaits r state limit begun so_far left
    access_due : AccessDue r state limit begun so_far left → Awaits r state limit begun so_far left
    data_due : DataDue r state limit begun so_far left → Awaits r state limit begun so_far left
    store_due : StoreDue r state limit begun so_far left → Awaits r state limit begun so_far left

  -- the request is served whole: its answers come to a report, and the two ends agree again
  pub record Ended (r : Request) (answers left : List Message) (c : GroupedItems) : Type 0 where
    pub last : left ≡ []
    pub whole : c.begun ≡ None
    pub done : Report
    pub heard : hear r (map Whole answers) ≡ Reports done []
    pub agree : AgreeAt own_a own_b (phase_next phase done) c.standing.state c.standing.scene.limit (limit_next limit_a done)

  -- one message more was served: it added these answers, and the request is served whole or waits on
  pub record Steps (r : Request) (past : List Group) (so_far left : List Message) (c : GroupedItems) : Type 0 where
    pub added : List Message
    pub adds : answers_in c.standing.past ≡ answers_in past ++ added
    pub leads : Ended r (so_far ++ added) left c ⊎ Awaits r c.standing.state c.standing.scene.limit c.begun (so_far ++ added) left

-- ---- The answers so far are not all.

pub hear-nothing : (r : Request) → hear r [] ≡ Waits
hear-nothing request.Hello = refl
hear-nothing (request.Create name org rfm mrs mrn fac) = refl
hear-nothing (request.OpenFile name fac) = refl
hear-nothing request.Connect = refl
hear-nothing (request.Get by) = refl
hear-nothing (request.Put key body) = refl
hear-nothing (request.Update body) = refl
hear-nothing request.Delete = refl
hear-nothing request.Rewind = refl
hear-nothing request.Fetch = refl
hear-nothing (request.Store bodies) = refl
hear-nothing (request.Continue w) = refl
hear-nothing request.Close = refl
hear-nothing request.Purge = refl

none-heard : (r : Request) (so_far : List Message) → so_far ≡ [] → hear r (map Whole so_far) ≡ Waits
none-heard r so_far e = ap (λ (l : List Message). hear r (map Whole l)) e ∙ hear-nothing r

hear-refusals : (so_far : List Message) → AreRefusals so_far → hear_stored (map Whole so_far) ≡ Waits
hear-refusals so_far h =
    let all = append-nil (map Whole so_far) in
    let refused : has_success (statuses_in_front (map Whole so_far)) ≡ false = ap (λ (l : List Item). has_success (statuses_in_front l)) (sym all) ∙ (h []).0 in
    let behind : after_those is_status (map Whole so_far) ≡ [] = ap (after_those is_status) (sym all) ∙ (h []).1 in
    ap (λ b. if b then Unexpected else hear_store_end (first_told (statuses_in_front (map Whole so_far))) (after_those is_status (map Whole so_far))) refused
    ∙ ap (hear_store_end (first_told (statuses_in_front (map Whole so_far)))) behind

pub waits-so-far : (own_a : Configuration) (own_b : ServerSetup) (phase : Phase) (limit_a : ℕ) (r : Request) (state : ServerState) (limit : ℕ) (begun : Option Begun) (so_far left : List Message)
    → Awaits own_a own_b phase limit_a r state limit begun so_far left → hear r (map Whole so_far) ≡ Waits
waits-so-far own_a own_b phase limit_a r state limit begun so_far left (at_start h) = none-heard r so_far h.none
waits-so-far own_a own_b phase limit_a r state limit begun so_far left (access_due h) = none-heard r so_far h.none
waits-so-far own_a own_b phase limit_a r state limit begun so_far left (data_due h) = none-heard r so_far h.none
waits-so-far own_a own_b phase limit_a r state limit begun so_far left (store_due h) = h.hears (map Whole so_far) ∙ hear-refusals so_far h.refusals

-- ---- Only an Access is ever locked out.

abbrev IsNoAccess : Message → Type 0
IsNoAccess (Access access) = ⊥
IsNoAccess m = Unit {0}

not-asked : (own : ServerSetup) (files : Files) (state : ServerState) (m : Message) → IsNoAccess m → asks_to_open own files state (Whole m) ≡ None
not-asked own files at.Ready (Access access) h = absurd h
not-asked own files at.Ready m h = refl
not-asked own files state m h = refl

abbrev by_lock : ServerSetup → GroupedItems → Item → Bool → GroupedItems
by_lock own c item locked = if locked then next_group own c.standing item (Does (refuse_access c.standing.scene (bare_status file_locked))) else after_item own c item

unlocked : (own : ServerSetup) (others : List (Option OpenFile)) (c : GroupedItems) (m : Message) → IsNoAccess m → more_beside own others c (Whole m) ≡ after_item own c (Whole m)
unlocked own others c m h = ap (λ (o : Option OpenFile). by_lock own c (Whole m) (is_locked others o)) (not-asked own c.standing.scene.files c.standing.state m h)

-- ---- An Access.

module _ (own_a : Configuration) (own_b : ServerSetup) (scene : Scene) (limit_a : ℕ) (h : AreLimits own_a own_b scene.limit limit_a) where
  abbrev Opens : Effect → Type 0
  Opens e = Comes own_a own_b scene limit_a h Ready hear_attributes e

  by_func : (opening creating erasing : Bool) → erasing ≡ false → (name : List ℕ) (fac : ℕ) (found number erased : Option ℕ) (shape : Option Asked) → Opens (open_file own_b scene fac found) → Opens (create_file own_b scene name fac number shape)
      → Opens (if opening then open_file own_b scene fac found else if creating then create_file own_b scene name fac number shape else if erasing then erase_file own_b scene erased else refuse_access scene (bare_status (codes.unsupported_code codes.types.access)))
  by_func true creating erasing e name fac found number erased shape o c = o
  by_func false true erasing e name fac found number erased shape o c = c
  by_func false false true e name fac found number erased shape o c = cc
  by_func false false false e name fac found number erased shape o c = (_, refl, h)

  never : (full erasing : Bool) → erasing ≡ false → (full && erasing) ≡ false
  never true erasing e = e
  never false erasing e = refl

  accesses : (access : AccessFields) (shape : Option Asked) → (access.func == codes.accfunc.erasing) ≡ false → AllFiles scene.files → Good shape → Opens (access_file own_b scene access shape)
  accesses access shape opens_only all good =
      let found = index_by own_b.names access.name scene.files in
      let number = number_made own_b.names access.name scene.files in
      by_func (access.func == codes.accfunc.opening) (access.func == codes.accfunc.creating) (own_b.full && access.func == codes.accfunc.erasing)
      (never own_b.full (access.func == codes.accfunc.erasing) opens_only) access.name access.fac found number (index_to_erase own_b.names access.name scene.files) shape
      (opens own_a own_b scene limit_a h access.fac found (shape-there scene.files found all (index-within own_b.names access.name scene.files)))
      (creates own_a own_b scene limit_a h access.name access.fac number shape good)

-- ---- One message more.

refusals-both : (xs ys : List Message) → AreRefusals xs → AreRefusals ys → AreRefusals (xs ++ ys)
refusals-both xs ys h k = λ rest.
    let all : map Whole (xs ++ ys) ++ rest ≡ map Whole xs ++ (map Whole ys ++ rest) = ap (λ (l : List Item). l ++ rest) (map-append Whole xs ys) ∙ append_assoc (map Whole xs) (map Whole ys) rest in
    let one = h (map Whole ys ++ rest) in
    let two = k rest in (
      ap (λ (l : List Item). has_success (statuses_in_front l)) all ∙ one.0 ∙ two.0,
      ap (after_those is_status) all ∙ one.1 ∙ two.1,
    )

module _ (own_a : Configuration) (own_b : ServerSetup) (a : IsBufsiz own_a.bufsiz) (b : IsBufsiz own_b.identity.bufsiz) (files : Files) (all : AllFiles files) (others : List (Option OpenFile)) (limit : ℕ) (past : List Group) (limit_a : ℕ) where
  abbrev Stepped : Phase → Request → (so_far left : List Message) → GroupedItems → Type 0
  Stepped phase r so_far left c = Steps own_a own_b phase limit_a r past so_far left c

  abbrev cut : ServerState → Option Begun → GroupedItems
  cut state begun = record { standing = standing_at state files limit past; begun = begun }

  abbrev served : ServerState → Option Begun → Message → GroupedItems
  served state begun m = more_beside own_b others (cut state begun) (Whole m)

  -- ---- The first message.

  -- a request of one message
  alone : (phase : Phase) (state : ServerState) (r : Request) (m : Message) → messages_of own_a r ≡ m ∷ [] → IsNoAccess m → Goes own_a own_b r phase (standing_at state files limit past) limit_a → Stepped phase r [] [] (served state None m)
  alone phase state r m is free g =
      let one : after_item own_b (cut state None) (Whole m) ≡ record { standing = g.new; begun = None } = ap (λ (l : List Message). more_items own_b (cut state None) (map Whole l)) (sym is) ∙ g.cut_is in
      subst (Stepped phase r [] []) (sym (unlocked own_b others (cut state None) m free ∙ one))
      (record { added = g.answers; adds = g.adds; leads = inl (record { last = refl; whole = refl; done = g.done; heard = g.heard; agree = g.agree }) })

  -- of these messages, the first
  at_head : (phase : Phase) (state : ServerState) (begun : Option Begun) (r : Request) (so_far : List Message) (x : Message) (xs : List Message) → Stepped phase r so_far xs (served state begun x) → (m : Message) (rest : List Message) → m ∷ rest ≡ x ∷ xs → Stepped phase r so_far rest (served state begun m)
  at_head phase state begun r so_far x xs s m rest e =
      let same : x ≡ m = cc in
      let others_same : xs ≡ rest = cc in
      subst (λ (n : Message). Stepped phase r so_far rest (served state begun n)) same (subst (λ (l : List Message). Stepped phase r so_far l (served state begun x)) others_same s)

  abbrev First : Phase → ServerState → Request → Type 0
  First phase state r = (m : Message) (rest : List Message) → m ∷ rest ≡ messages_of own_a r → Stepped phase r [] rest (served state None m)

  -- requests of more messages
  open_first : (name : List ℕ) (fac : ℕ) → AreLimits own_a own_b limit limit_a → First Ready at.Ready (request.OpenFile name fac)
  open_first name fac h = at_head Ready at.Ready None (request.OpenFile name fac) [] _ _
      (record { added = []; adds = refl; leads = inr (access_due (record { none = refl; access = _; all = refl; whole = refl; hears = λ l. refl; opens = refl; is_ready = refl; was = refl; limits = h })) })

  create_first : (name : List ℕ) (org rfm mrs mrn fac : ℕ) → AreLimits own_a own_b limit limit_a → First Ready at.Ready (request.Create name org rfm mrs mrn fac)
  create_first name org rfm mrs mrn fac h = at_head Ready at.Ready None (request.Create name org rfm mrs mrn fac) [] _ _
      (record { added = []; adds = refl; leads = inr (access_due (record { none = refl; access = _; all = refl; whole = refl; hears = λ l. refl; opens = refl; is_ready = refl; was = refl; limits = h })) })

  put_first : (o : OpenFile) (s : StreamVal) (key : Option ℕ) (body : List ℕ) → AreLimits own_a own_b limit limit_a → First Connected (at.Connected o s) (request.Put key body)
  put_first o s None body h = at_head Connected (at.Connected o s) None (request.Put None body) [] _ _
      (record { added = []; adds = sym (append-nil (answers_in past)); leads = inr (data_due (record { none = refl; body = body; all = refl; first = _; begins = refl; hears = λ l. refl; opened = o; stream = s; connected = refl; was = refl; limits = h })) })
  put_first o s (Some n) body h = at_head Connected (at.Connected o s) None (request.Put (Some n) body) [] _ _
      (record { added = []; adds = sym (append-nil (answers_in past)); leads = inr (data_due (record { none = refl; body = body; all = refl; first = _; begins = refl; hears = λ l. refl; opened = o; stream = s; connected = refl; was = refl; limits = h })) })

  update_first : (o : OpenFile) (s : StreamVal) (body : List ℕ) → AreLimits own_a own_b limit limit_a → First Connected (at.Connected o s) (request.Update body)
  update_first o s body h = at_head Connected (at.Connected o s) None (request.Update body) [] _ _
      (record { added = []; adds = sym (append-nil (answers_in past)); leads = inr (data_due (record { none = refl; body = body; all = refl; first = _; begins = refl; hears = λ l. refl; opened = o; stream = s; connected = refl; was = refl; limits = h })) })

  none-refused : AreRefusals []
  none-refused = λ rest. (refl, refl)

  store_first : (o : OpenFile) (s : StreamVal) (bodies : List (List ℕ)) → AreLimits own_a own_b limit limit_a → First Connected (at.Connected o s) (request.Store bodies)
  store_first o s bodies h = at_head Connected (at.Connected o s) None (request.Store bodies) [] _ _
      (record { added = []; adds = refl; leads = inr (store_due (record { refusals = none-refused; bodies = bodies; all = refl; whole = refl; hears = λ l. refl; opened = o; stream = s; storing = refl; was = refl; limits = h })) })

  -- requests of one message, by what all their messages come to
  one_first : (phase : Phase) (state : ServerState) (r : Request) (x : Message) → messages_of own_a r ≡ x ∷ [] → IsNoAccess x → Goes own_a own_b r phase (standing_at state files limit past) limit_a → First phase state r
  one_first phase state r x is free g m rest e = at_head phase state None r [] x [] (alone phase state r x is free g) m rest (e ∙ is)

  -- the request goes so, all its messages together
  all_of : (phase : Phase) (state : ServerState) → AgreeAt own_a own_b phase state limit limit_a → (r : Request) → phase_fits phase r ≡ true → Goes own_a own_b r phase (standing_at state files limit past) limit_a
  all_of phase state h r e = goes own_a own_b a b files all limit past limit_a phase state h r e

  first_fresh : AgreeAt own_a own_b Fresh at.Fresh limit limit_a → (r : Request) → phase_fits Fresh r ≡ true → First Fresh at.Fresh r
  first_fresh h request.Hello e = one_first Fresh at.Fresh request.Hello _ refl tt (all_of Fresh at.Fresh h request.Hello e)
  first_fresh h r e = cc

  first_ready : AreLimits own_a own_b limit limit_a → (r : Request) → phase_fits Ready r ≡ true → First Ready at.Ready r
  first_ready h (request.Create name org rfm mrs mrn fac) e = create_first name org rfm mrs mrn fac h
  first_ready h (request.OpenFile name fac) e = open_first name fac h
  first_ready h r e = cc

  first_opened : AreLimits own_a own_b limit limit_a → (o : OpenFile) (r : Request) → phase_fits Opened r ≡ true → First Opened (at.Opened o) r
  first_opened h o request.Connect e = one_first Opened (at.Opened o) request.Connect _ refl tt (all_of Opened (at.Opened o) h request.Connect e)
  first_opened h o request.Close e = one_first Opened (at.Opened o) request.Close _ refl tt (all_of Opened (at.Opened o) h request.Close e)
  first_opened h o request.Purge e = one_first Opened (at.Opened o) request.Purge _ refl tt (all_of Opened (at.Opened o) h request.Purge e)
  first_opened h o r e = cc

  first_connected : AreLimits own_a own_b limit limit_a → (o : OpenFile) (s : StreamVal) (r : Request) → phase_fits Connected r ≡ true → First Connected (at.Connected o s) r
  first_connected h o s (request.Get by.Next) e = one_first Connected (at.Connected o s) (request.Get by.Next) _ refl tt (all_of Connected (at.Connected o s) h (request.Get by.Next) e)
  first_connected h o s (request.Get (by.Key n)) e = one_first Connected (at.Connected o s) (request.Get (by.Key n)) _ refl tt (all_of Connected (at.Connected o s) h (request.Get (by.Key n)) e)
  first_connected h o s (request.Get (by.Rfa n)) e = one_first Connected (at.Connected o s) (request.Get (by.Rfa n)) _ refl tt (all_of Connected (at.Connected o s) h (request.Get (by.Rfa n)) e)
  first_connected h o s (request.Put key body) e = put_first o s key body h
  first_connected h o s (request.Update body) e = update_first o s body h
  first_connected h o s request.Delete e = one_first Connected (at.Connected o s) request.Delete _ refl tt (all_of Connected (at.Connected o s) h request.Delete e)
  first_connected h o s request.Rewind e = one_first Connected (at.Connected o s) request.Rewind _ refl tt (all_of Connected (at.Connected o s) h request.Rewind e)
  first_connected h o s request.Fetch e = one_first Connected (at.Connected o s) request.Fetch _ refl tt (all_of Connected (at.Connected o s) h request.Fetch e)
  first_connected h o s (request.Store bodies) e = store_first o s bodies h
  first_connected h o s request.Close e = one_first Connected (at.Connected o s) request.Close _ refl tt (all_of Connected (at.Connected o s) h request.Close e)
  first_connected h o s request.Purge e = one_first Connected (at.Connected o s) request.Purge _ refl tt (all_of Connected (at.Connected o s) h request.Purge e)
  first_connected h o s r e = cc

  first_stopped : AreLimits own_a own_b limit limit_a → (o : OpenFile) (s : StreamVal) (r : Request) → phase_fits Stopped r ≡ true → First Stopped (at.Stopped o s) r
  first_stopped h o s (request.Continue w) e = one_first Stopped (at.Stopped o s) (request.Continue w) _ refl tt (all_of Stopped (at.Stopped o s) h (request.Continue w) e)
  first_stopped h o s request.Close e = one_first Stopped (at.Stopped o s) request.Close _ refl tt (all_of Stopped (at.Stopped o s) h request.Close e)
  first_stopped h o s request.Purge e = one_first Stopped (at.Stopped o s) request.Purge _ refl tt (all_of Stopped (at.Stopped o s) h request.Purge e)
  first_stopped h o s r e = cc

  first_one : (phase : Phase) (state : ServerState) → AgreeAt own_a own_b phase state limit limit_a → (r : Request) → phase_fits phase r ≡ true → First phase state r
  first_one Fresh at.Fresh h r e = first_fresh h r e
  first_one Ready at.Ready h r e = first_ready h r e
  first_one Opened (at.Opened o) h r e = first_opened h o r e
  first_one Connected (at.Connected o s) h r e = first_connected h o s r e
  first_one Stopped (at.Stopped o s) h r e = first_stopped h o s r e
  first_one Fresh state h r e = absurd h
  first_one Ready state h r e = absurd h
  first_one Opened state h r e = absurd h
  first_one Connected state h r e = absurd h
  first_one Stopped state h r e = absurd h

  -- ---- The second message of an opening, locked or not.

  access_second : (r : Request) (access : AccessFields) → ((l : List Item) → hear r l ≡ hear_attributes l) → (access.func == codes.accfunc.erasing) ≡ false → AreLimits own_a own_b limit limit_a → (locked : Bool) → Stepped Ready r [] [] (by_lock own_b (cut at.Ready None) (Whole (Access access)) locked)
  access_second r access hears opens_only h true = record { added = bare_status file_locked ∷ []; adds = refl; leads = inl (record { last = refl; whole = refl; done = report.Refused 0x4030 0; heard = hears (Whole (bare_status file_locked) ∷ []); agree = h }) }
  access_second r access hears opens_only h false =
      let scene : Scene = record { limit = limit; files = files } in
      let shape = asked_file own_b.full (kept_attributes past) in
      let e = told own_b (access_file own_b scene access shape) in
      let c = accesses own_a own_b scene limit_a h access shape opens_only all (good-file own_b.full (kept_attributes past)) in
      record { added = e.answers; adds = refl; leads = inl (record { last = refl; whole = refl; done = c.0; heard = hears (map Whole e.answers) ∙ c.1; agree = c.2 }) }

  -- ---- The Data message of a change.

  data_second : (r : Request) (state : ServerState) (first : Begun) (body : List ℕ) → ((l : List Item) → hear r l ≡ hear_done l) → AreLimits own_a own_b limit limit_a → Stepped Connected r [] [] (served state (Some first) (Filedata [] body))
  data_second r state first body hears h =
      let scene : Scene = record { limit = limit; files = files } in
      let c = changes own_a own_b scene limit_a h first.opened first.change first.stream body in
      subst (Stepped Connected r [] []) (sym (unlocked own_b others (cut state (Some first)) (Filedata [] body) tt))
      (record { added = _; adds = refl; leads = inl (record { last = refl; whole = refl; done = c.0; heard = hears _ ∙ c.1; agree = c.2 }) })

  -- ---- A message of a Store.

  store_next : (r : Request) (o : OpenFile) (s : StreamVal) (so_far : List Message) (bodies : List (List ℕ)) → ((l : List Item) → hear r l ≡ hear_stored l) → AreLimits own_a own_b limit limit_a → AreRefusals so_far
      → (m : Message) (rest : List Message) → m ∷ rest ≡ map (Filedata []) bodies ++ complete_with 4 ∷ [] → Stepped Connected r so_far rest (served (at.Store o s) None m)
  store_next r o s so_far [] hears h refused = at_head Connected (at.Store o s) None r so_far (complete_with 4) []
      (let all = map-append Whole so_far (complete_with 2 ∷ []) in
      let k = refused (map Whole (complete_with 2 ∷ [])) in
      let answers : List Message = so_far ++ complete_with 2 ∷ [] in
      let heard = hear_stores (map Whole answers) (ap (λ (l : List Item). has_success (statuses_in_front l)) all ∙ k.0) (ap (after_those is_status) all ∙ k.1) in
      record { added = complete_with 2 ∷ []; adds = refl; leads = inl (record { last = refl; whole = refl; done = report.Stored (first_told (statuses_in_front (map Whole answers))); heard = hears (map Whole answers) ∙ heard; agree = h }) })
  store_next r o s so_far (body ∷ bodies) hears h refused = at_head Connected (at.Store o s) None r so_far (Filedata [] body) (map (Filedata []) bodies ++ complete_with 4 ∷ [])
      (let scene : Scene = record { limit = limit; files = files } in
      let e : Effect = told own_b (if is_dropping past then enters scene (at.Store o s) [] else store_one (ordinal_so_far past) scene o s body) in
      let one : OneStored limit o e = one_stored own_b scene o s body (ordinal_so_far past) (is_dropping past) in
      record {
        added = e.answers;
        adds = refl;
        leads = inr (store_due (record {
          refusals = refusals-both so_far e.answers refused one.refusals;
          bodies = bodies;
          all = refl;
          whole = refl;
          hears = hears;
          opened = o;
          stream = one.stream;
          storing = one.state;
          was = refl;
          limits = subst (λ (l : ℕ). AreLimits own_a own_b l limit_a) (sym one.same) h;
        }));
      })

  -- ---- Any message.

  -- with no answers so far
  from_none : (phase : Phase) (r : Request) (so_far left : List Message) (c : GroupedItems) → so_far ≡ [] → Stepped phase r [] left c → Stepped phase r so_far left c
  from_none phase r so_far left c e s = subst (λ (l : List Message). Stepped phase r l left c) (sym e) s

  abbrev Next : Phase → ServerState → Option Begun → Request → List Message → Type 0
  Next phase state begun r so_far = (m : Message) (rest : List Message) → Awaits own_a own_b phase limit_a r state limit begun so_far (m ∷ rest) → Stepped phase r so_far rest (served state begun m)

  pub steps : (phase : Phase) (state : ServerState) (begun : Option Begun) (r : Request) (so_far : List Message) → Next phase state begun r so_far
  steps phase state begun r so_far m rest (at_start h) =
      from_none phase r so_far rest (served state begun m) h.none
      (subst (λ (x : Option Begun). Stepped phase r [] rest (served state x m)) (sym h.whole) (first_one phase state h.agree r h.fits m rest h.all))
  steps phase state begun r so_far m rest (access_due h) =
      from_none phase r so_far rest (served state begun m) h.none
      (subst (λ (x : Option Begun). Stepped phase r [] rest (served state x m)) (sym h.whole)
      (subst (λ (x : ServerState). Stepped phase r [] rest (served x None m)) (sym h.is_ready)
      (subst (λ (x : Phase). Stepped x r [] rest (served at.Ready None m)) (sym h.was)
      (at_head Ready at.Ready None r [] (Access h.access) [] (access_second r h.access h.hears h.opens h.limits (is_locked others (asks_to_open own_b files at.Ready (Whole (Access h.access))))) m rest h.all))))
  steps phase state begun r so_far m rest (data_due h) =
      from_none phase r so_far rest (served state begun m) h.none
      (subst (λ (x : Option Begun). Stepped phase r [] rest (served state x m)) (sym h.begins)
      (subst (λ (x : Phase). Stepped x r [] rest (served state (Some h.first) m)) (sym h.was)
      (at_head Connected state (Some h.first) r [] (Filedata [] h.body) [] (data_second r state h.first h.body h.hears h.limits) m rest h.all)))
  steps phase state begun r so_far m rest (store_due h) =
      subst (λ (x : Option Begun). Stepped phase r so_far rest (served state x m)) (sym h.whole)
      (subst (λ (x : ServerState). Stepped phase r so_far rest (served x None m)) (sym h.storing)
      (subst (λ (x : Phase). Stepped x r so_far rest (served (at.Store h.opened h.stream) None m)) (sym h.was)
      (store_next r h.opened h.stream so_far h.bodies h.hears h.limits h.refusals m rest h.all)))
