use Rattle.std.specs.Prelude.{codes, map}
use Rattle.cap_cli.specs.Opening.{shown as shown_as}
use Rattle.cap_cli.proofs.WriteLemmas.{front_behind, front_of_first}
use Rattle.cap_cli.proofs.opening.write_line.Goals as goal

pub returns-in_err-write_shown : goal.returns-in_err-write_shown
returns-in_err-write_shown g c =
    front_behind _ _ _ (codes "dapcap: ") _ c.in_ok-write_text.ensures.whole
    (front_of_first _ _ (map shown_as c.args.word.now) _ c.in_err-write_shown.ensures.front)

pub returns-in_err-write_text-2 : goal.returns-in_err-write_text-2
returns-in_err-write_text-2 g c =
    front_behind _ _ _ (codes "dapcap: ") _ c.in_ok-write_text.ensures.whole
    (front_behind _ _ _ (map shown_as c.args.word.now) _ c.in_ok-write_shown.ensures.whole
    (front_of_first _ _ (codes ": ") _ c.in_err-write_text-2.ensures.front))

pub returns-in_err-write_text-3 : goal.returns-in_err-write_text-3
returns-in_err-write_text-3 g c =
    front_behind _ _ _ (codes "dapcap: ") _ c.in_ok-write_text.ensures.whole
    (front_behind _ _ _ (map shown_as c.args.word.now) _ c.in_ok-write_shown.ensures.whole
    (front_behind _ _ _ (codes ": ") _ c.in_ok-write_text-2.ensures.whole
    (front_of_first _ _ c.args.said.now _ (rw c.as_bytes.ensures.value at c.in_err-write_text-3.ensures.front))))

pub returns : goal.returns
returns g c =
    front_behind _ _ _ (codes "dapcap: ") _ c.in_ok-write_text.ensures.whole
    (front_behind _ _ _ (map shown_as c.args.word.now) _ c.in_ok-write_shown.ensures.whole
    (front_behind _ _ _ (codes ": ") _ c.in_ok-write_text-2.ensures.whole
    (front_behind _ _ _ c.args.said.now (codes "\n") (rw c.as_bytes.ensures.value at c.in_ok-write_text-3.ensures.whole)
    c.write_text-4.ensures.front)))
