use Rattle.std.proofs.Common.{rules, arith, Ok, Some, None, ◌≡◌, [], ℕ, List, ap, sym, subst, ◌∙◌}
use Rattle.std.proofs.lemmas.List.{append-nil}
use Rattle.dap_listing.specs.Lines.{line_of}
use Rattle.dap_listing.specs.Listing.{CaptureLines, captures, line_limit, no_capture_more}
use Rattle.dap_listing.specs.Inner.Texts.{IsListing}
use Rattle.dap_listing.specs.Inner.Lines.{fault_of_line}
use Rattle.dap_listing.proofs.ListingLemmas.{captured_more, faults_after, skipped_more}
use Rattle.dap_listing.proofs.listing.list_lines.Goals as goal
use Rattle.dap_listing.proofs.listing.list_lines.Goals.{in-None, in-Some-2+in_ok-push_capture-in-Some-2}

pub loop-line-preserved : goal.loop-line-preserved
loop-line-preserved c =
    let before = c.loop-line in
    let limit = line_limit c.args.listed in
    let rest = before.rest.now in
    let line = c.in-Some.line.now in
    let after = c.in-Some.after.now in
    let cut = c.in-Some.ensures.first.0 in
    let shorter = c.in-Some.ensures.first.1 in
    elim c.match-branch-3.branch [
      | in-None w ↦
          let says : line_of limit line ≡ Ok None = rw (w.in-None.is, c.limit-in-Some.ensures) at c.in_ok-read_line.ensures.says in
          record {
            counted = omega (arith, shorter, before.invariant.counted);
            numbered = omega (arith, w.number-is, before.invariant.numbered);
            room = rw w.room-is before.invariant.room;
            clean = before.invariant.clean ∙ faults_after limit before.at rest line after cut (ap (fault_of_line before.at) says);
            listing = rw (w.text-is, w.number-is) (skipped_more c.args.listed limit 1 (captures limit c.args.input.now) rest line after before.text.items before.number cut says before.invariant.listing);
          }
      | in-Some-2+in_ok-push_capture-in-Some-2 w ↦
          let digits = w.in-Some-2.digits.now in
          let direction = w.in-Some-2.direction in
          let says : line_of limit line ≡ Ok (Some (direction, digits)) = rw (w.in-Some-2.is, c.limit-in-Some.ensures) at c.in_ok-read_line.ensures.says in
          let pushed = w.in_ok-push_capture-in-Some-2.ensures.added in
          record {
            counted = omega (arith, shorter, before.invariant.counted);
            numbered = omega (arith, w.number-is, before.invariant.numbered);
            room = search rules;
            clean = before.invariant.clean ∙ faults_after limit before.at rest line after cut (ap (fault_of_line before.at) says);
            listing = rw (w.text-is, w.number-is) (captured_more c.args.listed limit 1 (captures limit c.args.input.now) rest line after before.text.items w.push_capture.new.text.items direction digits pushed.0 pushed.1 before.number cut (sym says) pushed.2 pushed.3 pushed.4 before.invariant.listing);
          }
    ]

pub returns-clause-whole : goal.returns-clause-whole
returns-clause-whole c =
    let none : CaptureLines c.args.listed c.loop-line.number (captures (line_limit c.args.listed) c.loop-line.rest.now) [] =
    subst (λ (rest : List ℕ). CaptureLines c.args.listed c.loop-line.number (captures (line_limit c.args.listed) rest) []) (sym c.in_default.ensures.first) no_capture_more in
    subst (λ (text : List ℕ). IsListing c.args.listed c.args.input.now text) (append-nil c.loop-line.text.items) (c.loop-line.invariant.listing [] none)
