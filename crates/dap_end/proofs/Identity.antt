-- A client's Configuration stays, whatever it does.
use Rattle.std.proofs.Common.{◌≡◌, ℕ, ◌∙◌, ap, List, inl, inr}
use Rattle.dap_accessing.specs.declared.report.Report.{Report}
use Rattle.nsp_link.specs.Link.{LinkValue}
use Rattle.dap_end.specs.Calls.{AskingEvent, AskingStepped, Asks, By, Came, GoesOn, Repeats}
use Rattle.dap_end.specs.Done.{AskingValue}
use Rattle.dap_end.specs.Headline.{WrittenPacket}
use Rattle.dap_end.proofs.Asked.{handed_is, read_grows}

-- after any event of it
pub identity-stays : (comes : LinkValue → List ℕ → Type 0) (old new : AskingValue) (reports told : List Report) (wrote sent more : List WrittenPacket) (event : AskingEvent) → AskingStepped comes (old, reports, wrote) event more (new, told, sent) → new.present.identity ≡ old.present.identity
identity-stays comes old new reports told wrote sent more (Asks request) s = s.1.identity
identity-stays comes old new reports told wrote sent more (By (Came bytes)) s = ap (λ (v : AskingValue). v.present.identity) s.0.3
identity-stays comes old new reports told wrote sent more (By GoesOn) s =
    let t = s.0 in
    let (heard, all, over) = t.2 in
    ap (λ (v : AskingValue). v.present.identity) t.4
    ∙ elim over [
      | inl same ↦ ap (λ (v : AskingValue). v.present.identity) same
      | inr h ↦ ap (λ (v : AskingValue). v.present.identity) (handed_is heard t.0 h.0 h.1)
    ]
    ∙ (read_grows old heard all.0 all.2).identity
identity-stays comes old new reports told wrote sent more (By (Repeats k)) s = ap (λ (v : AskingValue). v.present.identity) s.0.3
