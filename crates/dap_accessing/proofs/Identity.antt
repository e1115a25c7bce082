-- Which requests are admissible doesn't depend on what the client says of itself.
use Rattle.std.proofs.Common.{◌≡◌, ℕ, ◌∙◌, Bool, true, false, true≢false, refl, sym, ap, arith, List, [], ◌∷◌, length}
use Rattle.std.specs.Prelude.{fold}
use Rattle.dap_msg.specs.declared.message.Configuration.{Configuration}
use Rattle.dap_msg.specs.declared.message.Message.TheVariants.{Config}
use Rattle.dap_msg.specs.declared.items.Item.{Item}
use Rattle.dap_msg.specs.Canon.{canon}
use Rattle.dap_msg.specs.Fitting.{FieldsFit}
use Rattle.dap_msg.proofs.ForCallers.{answers_fit}
use Rattle.dap_accessing.specs.Request.{Request}
use Rattle.dap_accessing.specs.declared.request.Request.TheVariants.{Hello}
use Rattle.dap_accessing.specs.declared.report.Report.{Report}
use Rattle.dap_accessing.specs.declared.report.Report.TheVariants as report
use Rattle.dap_accessing.specs.declared.report.Ending.TheVariants as ending
use Rattle.dap_accessing.specs.declared.phase.Phase.{Phase}
use Rattle.dap_accessing.specs.declared.phase.Phase.TheVariants.{Fresh, Ready, Opened, Connected, Stopped}
use Rattle.dap_accessing.specs.Told.{Told}
use Rattle.dap_accessing.specs.Phase.{phase_next, phase_after, limit_next, limit_after, IsAdmissible}
use Rattle.dap_accessing.specs.Phases.{phase_fits}
use Rattle.dap_accessing.proofs.Phases.{fits-where}

-- ---- Before the first Ready the limit is the greatest.

abbrev is_fresh : Phase → Bool
is_fresh Fresh = true
is_fresh _ = false

late : (phase : Phase) (r : Report) → is_fresh phase ≡ false → is_fresh (phase_next phase r) ≡ false
late phase (report.Ready _) e = refl
late phase (report.Opened _ _ _ _) e = refl
late phase report.Connected e = refl
late phase (report.Batch _ ending.Stopped) e = refl
late phase (report.Batch _ _) e = refl
late phase (report.Stored _) e = refl
late phase report.Closed e = refl
late phase r e = e

never_fresh : (phase : Phase) (reports : List Report) → is_fresh phase ≡ false → fold phase_next phase reports ≡ Fresh → ⊥
never_fresh phase [] e fresh = true≢false (ap is_fresh (sym fresh) ∙ e)
never_fresh phase (r ∷ reports) e fresh = never_fresh (phase_next phase r) reports (late phase r e) fresh

limit_stays : (phase : Phase) (limit : ℕ) (reports : List Report) → fold phase_next phase reports ≡ Fresh → fold limit_next limit reports ≡ limit
limit_stays phase limit [] fresh = refl
limit_stays phase limit (report.Ready n ∷ reports) fresh = absurd (never_fresh Ready reports refl fresh)
limit_stays phase limit (r ∷ reports) fresh = limit_stays (phase_next phase r) limit reports fresh

-- ---- A request.

fresh_for_hello : (phase : Phase) → phase_fits phase Hello ≡ true → phase ≡ Fresh
fresh_for_hello Fresh e = refl
fresh_for_hello phase e = absurd (true≢false (sym e))

pub admissible_by : (one two : Configuration) → FieldsFit (Config two) → (requests : List Request) (answers : List Item) (request : Request) → IsAdmissible one requests answers request → IsAdmissible two requests answers request
admissible_by one two fits requests answers Hello m =
    let reports = Told requests answers in
    let fresh = fresh_for_hello (phase_after reports) (fits-where Hello (phase_after reports) m.1) in
    let limit = limit_stays Fresh 65535 reports fresh in
    let short = answers_fit.identity two fits in
    (m.0, m.1, ((short.fits, omega (arith, limit, short.short)), tt))
admissible_by one two fits requests answers request m = m
