use Rattle.std.proofs.Common.{◌≡◌, ◌≤◌, ◌<◌, ℕ, List, Some, Option, sym, ap, ◌∙◌, length, get_or, refl, true, arith, Bool}
use Rattle.std.specs.Prelude.{◌||◌, nat_lt, slice_get}
use Rattle.nsp_link.specs.Link.{LinkValue}
use Rattle.std.proofs.lemmas.Option.{slice_get-get_or, slice_get_past}
use Rattle.dap_world.specs.Machine.{is_old}
use Rattle.dap_world.specs.Inner.Ways.{is_old_segment}
use Rattle.dap_world.specs.declared.side.Wired.{Wired}
use Rattle.dap_world.proofs.side.due.Goals as goal

found : (wire : List Wired) (j : ℕ) (x : Wired) → true ≡ nat_lt j (length wire) → x ≡ get_or wire j x → slice_get wire j ≡ Some x
found wire j x lt at =
    let within : j < length wire = grind (arith, lt) in
    slice_get-get_or wire j x within ∙ ap (λ (y : Wired). Some y) (sym at)

-- the test by the counts that the link shows
told : (v : LinkValue) (k : Option ℕ) (a taken acked : ℕ) (b : Bool) → taken ≡ v.coming.received → acked ≡ v.acked → b ≡ (is_old_segment taken k || is_old a acked) → b ≡ (is_old_segment v.coming.received k || is_old a v.acked)
told v k a taken acked b t s e = e ∙ rw (t, s) refl

pub returns-then-is_stale_wired-clause-err : goal.returns-then-is_stale_wired-clause-err
returns-then-is_stale_wired-clause-err c = (
  c.in-Some.wired.now,
  found c.args.wire.now c.args.j c.in-Some.wired.now c.in-Some.ensures.lookup.0 c.in-Some.ensures.lookup.1,
  sym (told c.args.link.now c.in-Some.wired.now.segment c.in-Some.wired.now.acks c.received_count.result c.acked_count.result c.is_stale_wired.result
      c.received_count.ensures.value c.acked_count.ensures.value c.is_stale_wired.ensures) ∙ c.if-is_stale_wired.true,
)

pub returns-in-None-clause-err : goal.returns-in-None-clause-err
returns-in-None-clause-err c =
    let past : length c.args.wire.now ≤ c.args.j = grind (arith, c.in-None.ensures.lookup.0) in
    slice_get_past c.args.wire.now c.args.j past

pub returns-else-is_stale_wired-clause-ok : goal.returns-else-is_stale_wired-clause-ok
returns-else-is_stale_wired-clause-ok c = (
  found c.args.wire.now c.args.j c.in-Some.wired.now c.in-Some.ensures.lookup.0 c.in-Some.ensures.lookup.1,
  sym (told c.args.link.now c.in-Some.wired.now.segment c.in-Some.wired.now.acks c.received_count.result c.acked_count.result c.is_stale_wired.result
      c.received_count.ensures.value c.acked_count.ensures.value c.is_stale_wired.ensures) ∙ c.if-is_stale_wired.false,
)
