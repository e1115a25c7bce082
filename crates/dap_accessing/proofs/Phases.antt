-- The table of the phases says what the list of each request's phases says.
use Rattle.std.proofs.Common.{◌≡◌, zero, suc, refl, ap, arith, lit≤, [], ◌∷◌, true}
use Rattle.std.specs.List.{IsAmong}
use Rattle.dap_accessing.specs.Request.{Request}
use Rattle.dap_accessing.specs.declared.request.Request.TheVariants.{Hello, Create, OpenFile, Connect, Get, Put, Update, Delete, Rewind, Fetch, Store, Continue, Close, Purge}
use Rattle.dap_accessing.specs.declared.phase.Phase.{Phase}
use Rattle.dap_accessing.specs.declared.phase.Phase.TheVariants.{Fresh, Ready, Opened, Connected, Stopped}
use Rattle.dap_accessing.specs.Phase.{phases_for}
use Rattle.dap_accessing.specs.Phases.{phase_fits}

one : (x v : Phase) → IsAmong (x ∷ []) v → v ≡ x
one x v (zero, h) = h.1
one x v (suc i, h) = absurd (omega (arith, h.0))

-- each request that has one phase
pub fits-where : (request : Request) (phase : Phase) → IsAmong (phases_for request) phase → phase_fits phase request ≡ true
fits-where Hello phase h = ap (λ p. phase_fits p Hello) (one Fresh phase h)
fits-where (Create a b c d e f) phase h = ap (λ p. phase_fits p (Create a b c d e f)) (one Ready phase h)
fits-where (OpenFile a b) phase h = ap (λ p. phase_fits p (OpenFile a b)) (one Ready phase h)
fits-where Connect phase h = ap (λ p. phase_fits p Connect) (one Opened phase h)
fits-where (Get by) phase h = ap (λ p. phase_fits p (Get by)) (one Connected phase h)
fits-where (Put key body) phase h = ap (λ p. phase_fits p (Put key body)) (one Connected phase h)
fits-where (Update body) phase h = ap (λ p. phase_fits p (Update body)) (one Connected phase h)
fits-where Delete phase h = ap (λ p. phase_fits p Delete) (one Connected phase h)
fits-where Rewind phase h = ap (λ p. phase_fits p Rewind) (one Connected phase h)
fits-where Fetch phase h = ap (λ p. phase_fits p Fetch) (one Connected phase h)
fits-where (Store bodies) phase h = ap (λ p. phase_fits p (Store bodies)) (one Connected phase h)
fits-where (Continue how) phase h = ap (λ p. phase_fits p (Continue how)) (one Stopped phase h)
fits-where Close phase (zero, h) = ap (λ p. phase_fits p Close) h.1
fits-where Close phase (suc zero, h) = ap (λ p. phase_fits p Close) h.1
fits-where Close phase (suc (suc zero), h) = ap (λ p. phase_fits p Close) h.1
fits-where Close phase (suc (suc (suc i)), h) = absurd (omega (arith, h.0))
fits-where Purge phase (zero, h) = ap (λ p. phase_fits p Purge) h.1
fits-where Purge phase (suc zero, h) = ap (λ p. phase_fits p Purge) h.1
fits-where Purge phase (suc (suc zero), h) = ap (λ p. phase_fits p Purge) h.1
fits-where Purge phase (suc (suc (suc i)), h) = absurd (omega (arith, h.0))

pub where-fits : (phase : Phase) (request : Request) → phase_fits phase request ≡ true → IsAmong (phases_for request) phase
where-fits Fresh Hello e = (0, (lit≤ tt, refl))
where-fits Ready (Create _ _ _ _ _ _) e = (0, (lit≤ tt, refl))
where-fits Ready (OpenFile _ _) e = (0, (lit≤ tt, refl))
where-fits Opened Connect e = (0, (lit≤ tt, refl))
where-fits Opened Close e = (0, (lit≤ tt, refl))
where-fits Opened Purge e = (0, (lit≤ tt, refl))
where-fits Stopped (Continue _) e = (0, (lit≤ tt, refl))
where-fits Stopped Close e = (2, (lit≤ tt, refl))
where-fits Stopped Purge e = (2, (lit≤ tt, refl))
where-fits Connected (Get _) e = (0, (lit≤ tt, refl))
where-fits Connected (Put _ _) e = (0, (lit≤ tt, refl))
where-fits Connected (Update _) e = (0, (lit≤ tt, refl))
where-fits Connected Delete e = (0, (lit≤ tt, refl))
where-fits Connected Rewind e = (0, (lit≤ tt, refl))
where-fits Connected Fetch e = (0, (lit≤ tt, refl))
where-fits Connected (Store _) e = (0, (lit≤ tt, refl))
where-fits Connected Close e = (1, (lit≤ tt, refl))
where-fits Connected Purge e = (1, (lit≤ tt, refl))
where-fits _ _ e = absurd cc
