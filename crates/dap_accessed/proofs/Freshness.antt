-- An end is fresh where no Config was served.
use Rattle.std.proofs.Common.{◌≡◌, ℕ, Bool, true, false, List, [], ◌∷◌, ◌++◌, Option, Some, None, refl, ap, sym, subst, ◌∙◌, append_assoc}
use Rattle.dap_accessed.specs.declared.setup.ServerSetup.{ServerSetup}
use Rattle.std.specs.Prelude.{if◌then◌else◌}
use Rattle.std.proofs.lemmas.List.{append-nil}
use Rattle.dap_msg.specs.declared.items.Item.{Item}
use Rattle.dap_msg.specs.declared.items.Item.TheVariants.{Whole, Malformed}
use Rattle.rec_file.specs.Acts.{StreamVal}
use Rattle.dap_accessed.specs.declared.phase.OpenFile.{OpenFile}
use Rattle.dap_accessed.specs.declared.phase.Phase.TheVariants as phases
use Rattle.dap_accessed.specs.Standing.{Files, ServerState, Standing, Fresh, Ready, Opened, Connected, Store, Stopped, start}
use Rattle.dap_accessed.specs.Present.{Memory, looked_back, Present, phase_at, phase_within, phase_of}
use Rattle.dap_accessed.specs.Records.{Change, Putting, Updating}
use Rattle.dap_accessed.specs.Effects.{Begun, Turn, Does, BeginsGroup, turn_of}
use Rattle.dap_accessed.specs.Groups.{GroupedItems, stands_after, next_group, more_after}
use Rattle.dap_accessed.specs.Adding.{IsFresh, IsLate}
use Rattle.dap_accessed.proofs.Cuts.{cut-more}

-- ---- The phase tells the state.

store-late : (d : Bool) (o : OpenFile) (s : StreamVal) (n : ℕ) → (if d then phases.Dropping o s n else phases.Storing o s n) ≡ phases.Fresh → ⊥
store-late true o s n e = cc
store-late false o s n e = cc

state-fresh : (state : ServerState) (memory : Memory) → phase_at state memory ≡ phases.Fresh → state ≡ Fresh
state-fresh Fresh memory e = refl
state-fresh Ready memory e = cc
state-fresh (Opened o) memory e = cc
state-fresh (Connected o s) memory e = cc
state-fresh (Store o s) memory e = absurd (store-late memory.dropping o s memory.ordinal e)
state-fresh (Stopped o s) memory e = cc

within-late : (change : Change) (o : OpenFile) (s : StreamVal) → phase_within change o s ≡ phases.Fresh → ⊥
within-late (Putting key) o s e = cc
within-late Updating o s e = cc

group-fresh : (full : Bool) (s : Standing) (b : Option Begun) → phase_of full s b ≡ phases.Fresh → s.state ≡ Fresh
group-fresh full s None e = state-fresh s.state (looked_back full s.state s.past) e
group-fresh full s (Some b) e = absurd (within-late b.change b.opened b.stream e)

pub is-fresh : (p : Present) → p.phase ≡ phases.Fresh → IsFresh p
is-fresh p e = record { is = λ first items h. (let c = stands_after p.setup first items in group-fresh p.setup.full c.standing c.begun (ap (λ (q : Present). q.phase) (sym h) ∙ e)) }

-- ---- Before a Config no group is begun.

abbrev IsWhole : GroupedItems → Type 0
IsWhole c = c.standing.state ≡ Fresh → c.begun ≡ None

does : (own : ServerSetup) (s : Standing) (item : Item) (begun : Begun) → turn_of own (record s { state = Fresh }) item ≡ BeginsGroup begun → ⊥
does own s (Malformed fault) begun e = cc
does own s (Whole message) begun e = cc

whole-by : (own : ServerSetup) (s : Standing) (item : Item) (t : Turn) → turn_of own s item ≡ t → IsWhole (next_group own s item t)
whole-by own s item (Does effect) e = λ at. refl
whole-by own s item (BeginsGroup begun) e = λ at.
    absurd (does own s item begun (ap (λ (p : ServerState). turn_of own (record s { state = p }) item) (sym at) ∙ e))

whole-one : (own : ServerSetup) (s : Standing) (b : Option Begun) (item : Item) → IsWhole (more_after own s b item)
whole-one own s None item = whole-by own s item (turn_of own s item) refl
whole-one own s (Some b) item = λ at. refl

whole-on : (own : ServerSetup) (first : Files) (before more : List Item) → IsWhole (stands_after own first before) → IsWhole (stands_after own first (before ++ more))
whole-on own first before [] h = subst (λ (l : List Item). IsWhole (stands_after own first l)) (sym (append-nil before)) h
whole-on own first before (item ∷ more) h =
    let c = stands_after own first before in
    let one : IsWhole (stands_after own first (before ++ item ∷ [])) = subst IsWhole (sym (cut-more own (start first) before item)) (whole-one own c.standing c.begun item) in
    subst (λ (l : List Item). IsWhole (stands_after own first l)) (append_assoc before (item ∷ []) more) (whole-on own first (before ++ item ∷ []) more one)

fresh-phase : (full : Bool) (s : Standing) (b : Option Begun) → s.state ≡ Fresh → b ≡ None → phase_of full s b ≡ phases.Fresh
fresh-phase full s b at none = rw (none, at) refl

pub is-late : (p : Present) → (p.phase ≡ phases.Fresh → ⊥) → IsLate p
is-late p late = record {
  isnt = λ first items h at. (let c = stands_after p.setup first items in late (ap (λ (q : Present). q.phase) h ∙ fresh-phase p.setup.full c.standing c.begun at (whole-on p.setup first [] items (λ e. refl) at)));
}
