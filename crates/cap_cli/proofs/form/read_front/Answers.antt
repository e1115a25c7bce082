use Rattle.std.proofs.Common.{◌≡◌, ◌++◌, ◌<◌, ℕ, List, length, take, sym, subst}
use Rattle.cap_cli.proofs.FormLemmas.{needed_more, one_read, told}
use Rattle.std.specs.Io.KnownBytes.{Consumes}
use Rattle.cap_cli.specs.Forms.{form_of}
use Rattle.cap_cli.specs.Inner.Fronts.{MayTellMore}
use Rattle.cap_cli.proofs.form.read_front.Goals as goal

pub returns-clause-told : goal.returns-clause-told
returns-clause-told g c =
    let closed : (more : List ℕ) → form_of (c.loop-byte.front.items ++ more) ≡ form_of c.loop-byte.front.items = λ more.
    subst (λ (l : List ℕ). form_of (l ++ more) ≡ form_of l) c.as_slice.ensures.value (c.is_undecided.ensures.closed c.loop-byte-test.false more) in
    told _ _ c.loop-byte.front.items c.loop-byte.invariant.0 closed

pub loop-byte-preserved : goal.loop-byte-preserved
loop-byte-preserved g c =
    let now : MayTellMore c.loop-byte.front.items = subst MayTellMore c.as_slice.ensures.value (c.is_undecided.ensures.open c.loop-byte-test.true) in
    let items = sym c.push.ensures.items in
    let all : (k : ℕ) → k < length c.push.new.self.items → MayTellMore (take k c.push.new.self.items) =
    subst (λ (l : List ℕ). (k : ℕ) → k < length l → MayTellMore (take k l)) items (needed_more c.loop-byte.front.items _ c.loop-byte.invariant.1 now) in
    (subst (Consumes _ _) items (one_read _ _ _ c.loop-byte.front.items c.read.new.buf c.in_ok-read.field-0 c.loop-byte.invariant.0 c.in_ok-read.ensures.bytes.0 c.read.auto.buf c.if-branch-eq0.false), all)
