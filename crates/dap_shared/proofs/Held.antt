-- What is kept stays kept.
use Rattle.std.proofs.Common.{◌≡◌, false, ℕ, zero, suc, ◌<◌, List, [], ◌∷◌, ◌++◌, map, length, Option, Some, None, refl, ap, sym, subst, ◌∙◌, inl, inr, arith}
use Rattle.std.specs.List.{remove}
use Rattle.std.specs.Prelude.{IfErr, IfSome, IfOk, OnOk, OnErr, Result, Ok, Err, get_or, set, replicate}
use Rattle.std.specs.Global.{Vec}
use Rattle.std.specs.Vec.{with_items}
use Rattle.std.proofs.lemmas.List.{with_items_is}
use Rattle.std.proofs.lemmas.Bool.{cases_eq}
use Rattle.std.proofs.lemmas.List.{get_or-set_same, get_or-set_other, length-map, length-set}
use Rattle.std.proofs.Math.ListN.{get_or-map}
use Rattle.dap_accessed.specs.declared.setup.ServerSetup.{ServerSetup}
use Rattle.dap_accessed.specs.Setup.{IsServerSetup}
use Rattle.dap_msg.specs.declared.items.Item.{Item}
use Rattle.dap_accessed.specs.declared.asked.Asked.{Asked}
use Rattle.rec_file.specs.declared.picks.Rights.{Rights}
use Rattle.rec_file.specs.Files.{FileVal}
use Rattle.dap_accessed.specs.declared.fault.AddFault.{AddFault}
use Rattle.dap_accessed.specs.declared.fault.AddFault.TheVariants as fault
use Rattle.dap_accessed.specs.declared.fault.NoMemory.{NoMemory}
use Rattle.dap_accessed.specs.declared.served.Served.{Served}
use Rattle.dap_accessed.specs.declared.phase.OpenFile.{OpenFile}
use Rattle.dap_accessed.specs.declared.phase.Phase.{Phase}
use Rattle.dap_accessed.specs.declared.phase.Phase.TheVariants as phases
use Rattle.dap_accessed.specs.Standing.{Files, file_at, with_file}
use Rattle.dap_accessed.specs.Naming.{index_by}
use Rattle.dap_accessed.specs.Adding.{MayStore, with_new_file}
use Rattle.dap_accessed.specs.Storing.{StoreRefused, Stores}
use Rattle.dap_accessed.specs.Sessions.{SessionValue, IsOpenIn, session_with, open_at, phase_moved_up}
use Rattle.dap_shared.specs.Nodes.{Event, Serves, Begins, Gives, GivesRecord, Drops, no_exchange, exchange_at, open_on, node_after, setup_with, with_record_at}
use Rattle.dap_shared.specs.Shared.{AtFile, RecordNotAdded, SharedDrops, SharedValue, SharedGiven, SharedServes, is_held, session_of_exchange, no_session, session_without}
use Rattle.dap_shared.specs.Inner.Beside.{gone_by, session_moved_up}
use Rattle.dap_shared.specs.Inner.Held.{HasNumber, IsHeld, MovesOn, session_at}
use Rattle.dap_shared.proofs.Events.{history-shares}
use Rattle.dap_shared.proofs.Stepping.{asked_by, begins-shared, drops-shared, given-shared, new-shared, one-fresh, open-kept, serves-shared, short-answers}

is-open : (files : Files) (phase : Phase) → IfSome (open_at phase) (λ o. o.at < length files) → HasNumber phase → IsOpenIn files phase
is-open files phases.Fresh h n = tt
is-open files phases.Ready h n = tt
is-open files (phases.Opened o) h n = h
is-open files (phases.Connected o s) h n = h
is-open files (phases.PutDue o s key) h n = h
is-open files (phases.UpdateDue o s) h n = h
is-open files (phases.Storing o s k) h n = h
is-open files (phases.Dropping o s k) h n = h
is-open files (phases.Stopped o s) h n = (h, n)

pub has-number : (files : Files) (phase : Phase) → IsOpenIn files phase → HasNumber phase
has-number files phases.Fresh h = tt
has-number files phases.Ready h = tt
has-number files (phases.Opened o) h = tt
has-number files (phases.Connected o s) h = tt
has-number files (phases.PutDue o s key) h = tt
has-number files (phases.UpdateDue o s) h = tt
has-number files (phases.Storing o s k) h = tt
has-number files (phases.Dropping o s k) h = tt
has-number files (phases.Stopped o s) h = h.1

phase-number : (r : ℕ) (phase : Phase) → HasNumber phase → HasNumber (phase_moved_up r phase)
phase-number r phases.Fresh h = tt
phase-number r phases.Ready h = tt
phase-number r (phases.Opened o) h = tt
phase-number r (phases.Connected o s) h = tt
phase-number r (phases.PutDue o s key) h = tt
phase-number r (phases.UpdateDue o s) h = tt
phase-number r (phases.Storing o s k) h = tt
phase-number r (phases.Dropping o s k) h = tt
phase-number r (phases.Stopped o s) h = h

moved-number : (r : Option OpenFile) (s : SessionValue) → HasNumber s.phase → HasNumber (session_moved_up r s).phase
moved-number None s h = h
moved-number (Some removed) s h = phase-number removed.at s.phase h

new-moved : (r : Option OpenFile) (own : ServerSetup) → session_moved_up r (no_session own) ≡ no_session own
new-moved None own = refl
new-moved (Some removed) own = refl

-- the file that a link has open is in the table
pub held-open : (v : SharedValue) (link : ℕ) → IsHeld v → IsOpenIn v.files (session_at v.setup link v.sessions).phase
held-open v link h =
    let node = node_after v.setup h.first (length v.sessions) h.events in
    let shares = (history-shares v.setup h.first (length v.sessions) h.events h.after.links).0 in
    let kept : session_at v.setup link v.sessions ≡ session_of_exchange v.setup node.files (exchange_at link node) =
    ap (λ (w : SharedValue). session_at v.setup link w.sessions) h.after.stands ∙ get_or-map (session_of_exchange v.setup node.files) node.exchanges link no_exchange in
    let files : node.files ≡ v.files = sym (ap (λ (w : SharedValue). w.files) h.after.stands) in
    let held : open_at (session_at v.setup link v.sessions).phase ≡ open_on (exchange_at link node) =
    ap (λ (s : SessionValue). open_at s.phase) kept ∙ open-kept v.setup node.files (exchange_at link node) (shares.steady link) in
    is-open v.files (session_at v.setup link v.sessions).phase
    (subst (λ (x : Option OpenFile). IfSome x (λ o. o.at < length v.files)) (sym held) (subst (λ (l : Files). IfSome (open_on (exchange_at link node)) (λ o. o.at < length l)) files (shares.within link)))
    (h.numbers link)

-- the same whatever stands for a link that isn't there
pub open-alike : (files : Files) (own other : ServerSetup) (link : ℕ) (sessions : List SessionValue) → link < length sessions → IsOpenIn files (session_at own link sessions).phase → IsOpenIn files (session_at other link sessions).phase
open-alike files own other link [] lt held = absurd (let none : ⊥ = omega (arith, lt) in none)
open-alike files own other zero (s ∷ sessions) lt held = held
open-alike files own other (suc link) (s ∷ sessions) lt held = open-alike files own other link sessions (omega (arith, lt)) held

-- one session was put back, and the others have moved up
pub numbers-then : (own : ServerSetup) (sessions : List SessionValue) (link : ℕ) (r : Option OpenFile) (rest : List SessionValue) (s : SessionValue) → link < length sessions
    → rest ≡ map (session_moved_up r) (set sessions link (no_session own)) → HasNumber s.phase → ((i : ℕ) → HasNumber (session_at own i sessions).phase)
    → (i : ℕ) → HasNumber (session_at own i (set rest link s)).phase
numbers-then own sessions link r rest s lt e n h i =
    let many : link < length rest = (let a = ap (λ (l : List SessionValue). length l) e in let b = length-map (set sessions link (no_session own)) (session_moved_up r) in let d = length-set sessions link (no_session own) in omega (arith, a, b, d, lt)) in
    elim (cases_eq i link) [
      | inl same ↦ subst (λ (k : ℕ). HasNumber (session_at own k (set rest link s)).phase) (sym same) (subst (λ (t : SessionValue). HasNumber t.phase) (sym (get_or-set_same rest link s (no_session own) many)) n)
      | inr other ↦
          let is : session_at own i (set rest link s) ≡ session_moved_up r (session_at own i sessions) =
          get_or-set_other rest link i s (no_session own) other
          ∙ ap (λ (l : List SessionValue). get_or l i (no_session own)) e
          ∙ ap (get_or (map (session_moved_up r) (set sessions link (no_session own))) i) (sym (new-moved r own))
          ∙ get_or-map (session_moved_up r) (set sessions link (no_session own)) i (no_session own)
          ∙ ap (session_moved_up r) (get_or-set_other sessions link i (no_session own) (no_session own) other) in
          subst (λ (t : SessionValue). HasNumber t.phase) (sym is) (moved-number r (session_at own i sessions) (h i))
    ]

all-fresh : (own : ServerSetup) (links i : ℕ) → HasNumber (session_at own i (replicate links (session_with own))).phase
all-fresh own zero i = tt
all-fresh own (suc links) zero = tt
all-fresh own (suc links) (suc i) = all-fresh own links i

-- ---- The calls.

pub on-shared : (v : SharedValue) (link : ℕ) (item : Item) (files : Files) (sessions : List SessionValue) (answers : Vec (Vec ℕ)) → IsHeld v → link < length v.sessions → MovesOn v.setup link item v.files v.sessions files sessions answers
    → SharedServes link item v (record { own = v.own; setup = v.setup; files = files; sessions = sessions }) answers
on-shared v link item files sessions answers h lt m =
    subst (λ (l : List SessionValue). SharedServes link item v (record { own = v.own; setup = v.setup; files = files; sessions = l }) answers) (sym m.back)
    (serves-shared v link item files m.others m.session answers lt m.moves h.first h.events h.after (short-answers v link item files m.others m.session answers lt m.moves h.first h.events h.after))

pub on-held : (v : SharedValue) (link : ℕ) (item : Item) (files : Files) (sessions : List SessionValue) (answers : Vec (Vec ℕ)) → IsHeld v → link < length v.sessions → MovesOn v.setup link item v.files v.sessions files sessions answers
    → IsHeld (record { own = v.own; setup = v.setup; files = files; sessions = sessions })
on-held v link item files sessions answers h lt m =
    record {
      setup = h.setup;
      first = h.first;
      events = h.events ++ Serves link item ∷ [];
      after = (on-shared v link item files sessions answers h lt m).stands h.first h.events h.after;
      numbers = λ i. subst (λ (l : List SessionValue). HasNumber (session_at v.setup i l).phase) (sym m.back)
          (numbers-then v.setup v.sessions link (gone_by (asked_by (session_at v.setup link v.sessions) v.files item) v.files files (session_at v.setup link v.sessions).phase m.session.phase) m.others m.session lt m.moves.moved (has-number files m.session.phase m.moves.there) h.numbers i);
    }

pub served-held : (v : SharedValue) (link : ℕ) (item : Item) (files : Files) (sessions : List SessionValue) (r : Result Served NoMemory) → IsHeld v → link < length v.sessions
    → IfOk r (λ served. MovesOn v.setup link item v.files v.sessions files sessions served.answers) → OnErr r ((files ≡ v.files) × (sessions ≡ v.sessions))
    → IsHeld (record { own = v.own; setup = v.setup; files = files; sessions = sessions })
served-held v link item files sessions (Ok served) h lt ok err = on-held v link item files sessions served.answers h lt ok
served-held v link item files sessions (Err f) h lt ok err =
    subst (λ (l : List SessionValue). IsHeld (record { own = v.own; setup = v.setup; files = files; sessions = l })) (sym err.1)
    (subst (λ (t : Files). IsHeld (record { own = v.own; setup = v.setup; files = t; sessions = v.sessions })) (sym err.0) h)

pub is-setup : (most : Rights) (own : ServerSetup) → IsServerSetup own → IsServerSetup (setup_with most own)
is-setup most own h = record { fits = h.fits; least = h.least }

pub begins-held : (v : SharedValue) (link : ℕ) (most : Rights) → IsHeld v → link < length v.sessions
    → IsHeld (record { own = v.own; setup = v.setup; files = v.files; sessions = set v.sessions link (session_with (setup_with most v.setup)) })
begins-held v link most h lt =
    record {
      setup = h.setup;
      first = h.first;
      events = h.events ++ Begins link most ∷ [];
      after = (begins-shared v link most lt).stands h.first h.events h.after;
      numbers = λ i. one-fresh v.setup v.sessions link i (session_with (setup_with most v.setup)) (λ s. HasNumber s.phase) tt (h.numbers i);
    }

pub drops-held : (v : SharedValue) (at : ℕ) → IsHeld v → is_held at v.sessions ≡ false → IsHeld (record { own = v.own; setup = v.setup; files = remove v.files at; sessions = map (session_without at) v.sessions })
drops-held v at h closed =
    record {
      setup = h.setup;
      first = h.first;
      events = h.events ++ Drops at ∷ [];
      after = (drops-shared v at closed).stands h.first h.events h.after;
      numbers = λ i. subst (λ (s : SessionValue). HasNumber s.phase) (sym (get_or-map (session_without at) v.sessions i (no_session v.setup)))
          (phase-number at (session_at v.setup i v.sessions).phase (h.numbers i));
    }

pub gives-shared : (v : SharedValue) (name : List ℕ) (asked : Asked) (files : Files) → files ≡ with_new_file v.setup.names name asked v.files → SharedGiven (Gives name asked) v (record v { files = files })
gives-shared v name asked files e =
    subst (λ (t : Files). SharedGiven (Gives name asked) v (record v { files = t })) (sym e) (given-shared v (Gives name asked) (with_new_file v.setup.names name asked) (λ links. tt) (λ node. refl))

pub gives-record : (v : SharedValue) (at number : ℕ) (body : List ℕ) (files : Files) → files ≡ with_record_at at number body v.files → SharedGiven (GivesRecord at number body) v (record v { files = files })
gives-record v at number body files e =
    subst (λ (t : Files). SharedGiven (GivesRecord at number body) v (record v { files = t })) (sym e) (given-shared v (GivesRecord at number body) (with_record_at at number body) (λ links. tt) (λ node. refl))

pub given-held : (v : SharedValue) (event : Event) (files : Files) → IsHeld v → SharedGiven event v (record v { files = files }) → IsHeld (record v { files = files })
given-held v event files h g =
    record { setup = h.setup; first = h.first; events = h.events ++ event ∷ []; after = g.stands h.first h.events h.after; numbers = h.numbers }

pub recorded : (files after : Files) (at number : ℕ) (body : List ℕ) (r : Result (Unit {0}) AddFault) → after ≡ with_file at (file_at at after) files → Stores number body (file_at at files) (file_at at after) r
    → OnOk r (after ≡ with_record_at at number body files)
recorded files after at number body (Ok u) e s = e ∙ ap (λ (f : FileVal). with_file at f files) s.1
recorded files after at number body (Err f) e s = tt

pub record-held : (v : SharedValue) (at number : ℕ) (body : List ℕ) (files : Files) (r : Result (Unit {0}) AddFault) → IsHeld v → OnOk r (files ≡ with_record_at at number body v.files) → OnErr r (files ≡ v.files) → IsHeld (record v { files = files })
record-held v at number body files (Ok u) h ok err = given-held v (GivesRecord at number body) files h (gives-record v at number body files ok)
record-held v at number body files (Err f) h ok err = subst (λ (t : Files). IsHeld (record v { files = t })) (sym err) h

-- the file of this name, where it is there
module _ (v : SharedValue) (name : List ℕ) (at : ℕ) (found : index_by v.setup.names name v.files ≡ Some at) where
  pub may-store : (number : ℕ) (body : List ℕ) (after : FileVal) (r : Result (Unit {0}) AddFault) → Stores number body (file_at at v.files) after r → OnOk r (AtFile name v (λ k. MayStore (file_at k v.files) number body))
  may-store number body after (Ok u) s = (at, found, s.0)
  may-store number body after (Err f) s = tt

  pub given-at : (number : ℕ) (body : List ℕ) (files : Files) (r : Result (Unit {0}) AddFault) → OnOk r (files ≡ with_record_at at number body v.files)
      → OnOk r (AtFile name v (λ k. SharedGiven (GivesRecord k number body) v (record v { files = files })))
  given-at number body files (Ok u) e = (at, found, gives-record v at number body files e)
  given-at number body files (Err f) e = tt

  pub files-at : (number : ℕ) (body : List ℕ) (files : Files) (r : Result (Unit {0}) AddFault) → OnOk r (files ≡ with_record_at at number body v.files) → OnOk r (AtFile name v (λ k. files ≡ with_record_at k number body v.files))
  files-at number body files (Ok u) e = (at, found, e)
  files-at number body files (Err f) e = tt

  not-stored : (number : ℕ) (body : List ℕ) (f : AddFault) → StoreRefused (file_at at v.files) number body f → RecordNotAdded v name number body f
  not-stored number body fault.NoFile h = absurd h
  not-stored number body fault.Busy h = h
  not-stored number body fault.FileExists h = h
  not-stored number body (fault.Record why) h = (at, found, h)
  not-stored number body fault.NoMemory h = (at, found, h)

  pub record-refused : (number : ℕ) (body : List ℕ) (after : FileVal) (r : Result (Unit {0}) AddFault) → Stores number body (file_at at v.files) after r → IfErr r (RecordNotAdded v name number body)
  record-refused number body after (Ok u) s = tt
  record-refused number body after (Err f) s = not-stored number body f s.0

-- a file was removed, and the sessions moved up
module _ (v : SharedValue) (at : ℕ) (files : Files) (sessions : List SessionValue) (closed : is_held at v.sessions ≡ false) (gone : files ≡ remove v.files at) (moved : sessions ≡ map (session_without at) v.sessions) where
  abbrev without : SharedValue
  without = record { own = v.own; setup = v.setup; files = files; sessions = sessions }

  by-parts : (P : SharedValue → Type 0) → P (record { own = v.own; setup = v.setup; files = remove v.files at; sessions = map (session_without at) v.sessions }) → P without
  by-parts P h =
      subst (λ (l : List SessionValue). P (record { own = v.own; setup = v.setup; files = files; sessions = l })) (sym moved)
      (subst (λ (f : Files). P (record { own = v.own; setup = v.setup; files = f; sessions = map (session_without at) v.sessions })) (sym gone) h)

  pub removed-shared : SharedDrops at v without
  removed-shared = by-parts (SharedDrops at v) (drops-shared v at closed)

  pub removed-held : IsHeld v → IsHeld without
  removed-held h = by-parts IsHeld (drops-held v at h closed)

pub new-held : (own : ServerSetup) (links : ℕ) (sessions : List SessionValue) → IsServerSetup own → sessions ≡ replicate links (session_with own) → IsHeld (record { own = own.identity.bufsiz; setup = own; files = []; sessions = sessions })
new-held own links sessions low e =
    record {
      setup = low;
      first = [];
      events = [];
      after = new-shared own links sessions e;
      numbers = λ i. subst (λ (l : List SessionValue). HasNumber (session_at own i l).phase) (sym e) (all-fresh own links i);
    }

-- ---- A slice of all sessions is as long as it was.

pub served-many : (own : ServerSetup) (link : ℕ) (item : Item) (files files' : Files) (sessions sessions' : List SessionValue) (r : Result Served NoMemory)
    → IfOk r (λ served. MovesOn own link item files sessions files' sessions' served.answers) → OnErr r ((files' ≡ files) × (sessions' ≡ sessions)) → length sessions' ≡ length sessions
served-many own link item files files' sessions sessions' (Ok served) ok err =
    ap (λ (l : List SessionValue). length l) ok.back
    ∙ length-set ok.others link ok.session
    ∙ ap (λ (l : List SessionValue). length l) ok.moves.moved
    ∙ length-map (set sessions link (no_session own)) (session_moved_up (gone_by (asked_by (session_at own link sessions) files item) files files' (session_at own link sessions).phase ok.session.phase))
    ∙ length-set sessions link (no_session own)
served-many own link item files files' sessions sessions' (Err f) ok err = ap (λ (l : List SessionValue). length l) err.1

pub refilled : (v : Vec SessionValue) (ws : List SessionValue) → length ws ≡ length v.items → (with_items v ws).items ≡ ws
refilled v ws many = with_items_is v ws (many ∙ sym v.ok.0)
