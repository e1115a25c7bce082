-- What both ends do alike: how it comes about, and that it follows from what the end did and what came, out of memory
-- aside.
use Rattle.std.proofs.Common.{◌≡◌, ◌≢◌, ℕ, refl, sym, ◌∙◌, subst, ap, false, true≢false, List, ◌++◌, inl, inr, IsTrue}
use Rattle.std.specs.Prelude.{Result, Ok, Err, OnOk, IfErr}
use Rattle.dap_fields.specs.Spelling.{AreBytes}
use Rattle.nsp_link.specs.declared.link.Got.{Got}
use Rattle.nsp_link.specs.declared.link.Got.TheVariants.{AckOnly}
use Rattle.nsp_link.specs.declared.fault.LinkFault.{LinkFault}
use Rattle.nsp_link.specs.declared.fault.LinkFault.TheVariants as fault
use Rattle.nsp_link.specs.Link.{Sends, may_send}
use Rattle.nsp_link.specs.Receiving.{Receives}
use Rattle.dap_end.specs.declared.fault.EndFault.{EndFault}
use Rattle.dap_end.specs.declared.fault.EndFault.TheVariants as end_fault
use Rattle.dap_end.specs.declared.fault.TakeFault.{TakeFault}
use Rattle.dap_end.specs.declared.fault.TakeFault.TheVariants as take_fault
use Rattle.dap_end.specs.Ports.{EndValue, PortValue}
use Rattle.dap_end.specs.Moved.{with_link}
use Rattle.dap_end.specs.Writing.{Extends, WroteMore, WroteAnswer, WrotePart}
use Rattle.dap_end.specs.Moved.{sent_more}
use Rattle.dap_end.specs.Turns.{EndOf, DidAll, WentOn, WritesReplies, TookIn, TookThen, TakesPacket}
use Rattle.dap_end.specs.Wanting.{is_want, why}
use Rattle.dap_end.specs.Inner.Wanting.{went_wanting, took_wanting}
use Rattle.dap_end.specs.Inner.Answered.{ended_by}
use Rattle.dap_end.proofs.Writing.{answer_one}
use Rattle.nsp_link.proofs.ForCallers.{receives_same}

-- ---- How it comes about.

abbrev linked : LinkFault → EndFault
linked f = end_fault.Link f

pub answered_by : {P : Type 0} (end : EndOf P) (old mid new : EndValue P) (got : Got) (out all : List (List ℕ)) (r : Result (Unit {0}) LinkFault) → DidAll end old mid (Ok tt) → new ≡ record mid { port = new.port }
    → OnOk r (Extends out all (WroteAnswer mid.port new.port got)) → IfErr r (λ f. (f ≡ fault.NoMemory) × Extends out all (WrotePart mid.port new.port got)) → WritesReplies end old new got out all (ended_by r)
answered_by end old mid new got out all (Ok u) done rest w why = record { mid = mid; done = done; rest = rest; wrote = w }
answered_by end old mid new got out all (Err f) done rest w why = inr (ap linked why.0, record { mid = mid; done = done; rest = rest; wrote = why.1 })

pub went_by : {P : Type 0} (end : EndOf P) (old mid new : EndValue P) (out all : List (List ℕ)) (r : Result (Unit {0}) LinkFault) → DidAll end old mid (Ok tt) → new ≡ record mid { port = new.port }
    → Extends out all (WroteMore mid.port new.port) → OnOk r (may_send new.port.link ≡ false) → IfErr r (λ f. (f ≡ fault.NoMemory) × IsTrue (may_send new.port.link)) → WentOn end old new out all (ended_by r)
went_by end old mid new out all (Ok u) done rest w full why =
    record { mid = mid; done = done; rest = rest; wrote = (w.0, w.1, (w.0, w.2, full, refl)) }
went_by end old mid new out all (Err f) done rest w full why = inr (ap linked why.0, record { mid = mid; done = done; rest = rest; wrote = (w.0, w.1, (w.2, inl why.1)) })

-- ---- Results.

abbrev got_by : Got → Result Got LinkFault
got_by got = Ok got

abbrev not_got : LinkFault → Result Got LinkFault
not_got f = Err f

ok_apart : (g : Got) (f : LinkFault) → got_by g ≡ not_got f → ⊥
ok_apart g f e = cc

ok_same : (g h : Got) → got_by g ≡ got_by h → g ≡ h
ok_same g h e = cc

err_same : (f g : LinkFault) → not_got f ≡ not_got g → f ≡ g
err_same f g e = cc

abbrev done_by : Result (Unit {0}) EndFault
done_by = Ok tt

abbrev failed_by : EndFault → Result (Unit {0}) EndFault
failed_by f = Err f

did_apart : (f : EndFault) → done_by ≡ failed_by f → ⊥
did_apart f e = cc

failed_same : (f g : EndFault) → failed_by f ≡ failed_by g → f ≡ g
failed_same f g e = cc

abbrev took : Got → Result Got TakeFault
took got = Ok got

abbrev refused : LinkFault → Result Got TakeFault
refused f = Err (take_fault.Refused f)

abbrev unfinished : Got → EndFault → Result Got TakeFault
unfinished got f = Err (take_fault.Unfinished got f)

-- what is no want isn't this
pub no_want : (f : LinkFault) → is_want (end_fault.Link f) ≡ false → f ≢ fault.NoMemory
no_want f e k = true≢false (sym (ap (λ (x : LinkFault). is_want (end_fault.Link x)) k) ∙ e)

-- a result in which memory wasn't wanting
pub went_well : (r : Result (Unit {0}) EndFault) → IfErr r (λ f. is_want f ≡ false) → went_wanting r ≡ false
went_well (Ok u) n = refl
went_well (Err f) n = n

pub took_well : (r : Result Got TakeFault) → IfErr r (λ f. is_want (why f) ≡ false) → took_wanting r ≡ false
took_well (Ok got) n = refl
took_well (Err (take_fault.Refused f)) n = n
took_well (Err (take_fault.Unfinished got f)) n = n

-- ---- It is determined.

-- Two ends that are alike do alike: all of it, or they stop alike.
pub record DoAlike {P : Type 0} (e d : EndOf P) (alike : EndValue P → EndValue P → Type 0) (known : EndValue P → Type 0) (told : Type 0) : Type 0 where
  pub port : (a b : EndValue P) → alike a b → a.port ≡ b.port
  pub moved : (a b : EndValue P) (p q : PortValue) → alike a b → p ≡ q → alike (record a { port = p }) (record b { port = q })
  pub sends : (v : EndValue P) → known v → (handed : List (List ℕ)) × Sends v.port.link handed
  pub took : (old new : EndValue P) (bytes : List ℕ) (r : Result Got LinkFault) → known old → Receives old.port.link new.port.link bytes r → new ≡ record old { port = with_link old.port new.port.link } → known new
  pub wrote : (old new : EndValue P) (n : ℕ) → known old → new ≡ record old { port = sent_more old.port n } → known new
  pub all : (old other one two : EndValue P) (r s : Result (Unit {0}) EndFault) → known old → alike old other → went_wanting r ≡ false → went_wanting s ≡ false → DidAll e old one r → DidAll d other two s
      → alike one two × (r ≡ s) × told × known one
  pub quiet : e.quiet → d.quiet → told

module _ {P : Type 0} (e d : EndOf P) (alike : EndValue P → EndValue P → Type 0) (known : EndValue P → Type 0) (told : Type 0) (by : DoAlike e d alike known told) where
  moved_to : (a b one two : EndValue P) (p q : PortValue) → alike a b → one ≡ record a { port = p } → two ≡ record b { port = q } → p ≡ q → alike one two
  moved_to a b one two p q like ra rb same =
      subst (λ (v : EndValue P). alike v two) (sym ra) (subst (λ (v : EndValue P). alike (record a { port = p }) v) (sym rb) (by.moved a b p q like same))

  pub answered_same : (old other one two : EndValue P) (got : Got) (out xs ys : List (List ℕ)) (r s : Result (Unit {0}) EndFault) → known old → alike old other → went_wanting r ≡ false → went_wanting s ≡ false
      → WritesReplies e old one got out xs r → WritesReplies d other two got out ys s → alike one two × (r ≡ s) × (xs ≡ ys) × told × known one
  answered_same old other one two got out xs ys (Ok u) (Ok w) k like nr ns a b =
      let t = by.all old other a.mid b.mid (Ok tt) (Ok tt) k like refl refl a.done b.done in
      let sent = by.sends a.mid t.3 in
      let wb : WroteAnswer a.mid.port two.port got b.wrote.0 = subst (λ (p : PortValue). WroteAnswer p two.port got b.wrote.0) (sym (by.port a.mid b.mid t.0)) b.wrote.2 in
      let w = answer_one a.mid.port one.port two.port sent.0 got a.wrote.0 b.wrote.0 sent.1 a.wrote.2 wb in (
        moved_to a.mid b.mid one two _ _ t.0 a.rest b.rest w.0,
        refl,
        a.wrote.1 ∙ ap (λ (l : List (List ℕ)). out ++ l) w.1 ∙ sym b.wrote.1,
        t.2,
        by.wrote a.mid one _ t.3 (a.rest ∙ ap (λ (p : PortValue). record a.mid { port = p }) a.wrote.2.1.sent),
      )
  answered_same old other one two got out xs ys (Ok u) (Err g) k like nr ns a (inl b) = absurd (did_apart g (by.all old other a.mid two (Ok tt) (Err g) k like refl ns a.done b.0).1)
  answered_same old other one two got out xs ys (Ok u) (Err g) k like nr ns a (inr b) = absurd (true≢false (sym (ap is_want b.0) ∙ ns))
  answered_same old other one two got out xs ys (Err f) (Ok w) k like nr ns (inl a) b = absurd (did_apart f (sym (by.all old other one b.mid (Err f) (Ok tt) k like nr refl a.0 b.done).1))
  answered_same old other one two got out xs ys (Err f) (Ok w) k like nr ns (inr a) b = absurd (true≢false (sym (ap is_want a.0) ∙ nr))
  answered_same old other one two got out xs ys (Err f) (Err g) k like nr ns (inl a) (inl b) =
      let t = by.all old other one two (Err f) (Err g) k like nr ns a.0 b.0 in (t.0, t.1, a.1 ∙ sym b.1, t.2, t.3)
  answered_same old other one two got out xs ys (Err f) (Err g) k like nr ns (inl a) (inr b) = absurd (true≢false (sym (ap is_want b.0) ∙ ns))
  answered_same old other one two got out xs ys (Err f) (Err g) k like nr ns (inr a) b = absurd (true≢false (sym (ap is_want a.0) ∙ nr))

  pub went_same : (old other one two : EndValue P) (out xs ys : List (List ℕ)) (r s : Result (Unit {0}) EndFault) → known old → alike old other → went_wanting r ≡ false → went_wanting s ≡ false
      → WentOn e old one out xs r → WentOn d other two out ys s → alike one two × (r ≡ s) × (xs ≡ ys) × told × known one
  went_same old other one two out xs ys r s k like nr ns a b = answered_same old other one two AckOnly out xs ys r s k like nr ns a b

  in_same : (old other one two : EndValue P) (bytes : List ℕ) (r s : Result Got LinkFault) → AreBytes bytes → known old → alike old other → r ≢ Err fault.NoMemory → s ≢ Err fault.NoMemory
      → TookIn old one bytes r → TookIn other two bytes s → (r ≡ s) × alike one two × known one
  in_same old other one two bytes r s fits k like nr ns a b =
      let port = by.port old other like in
      let rb : Receives old.port.link two.port.link bytes s = subst (λ (p : PortValue). Receives p.link two.port.link bytes s) (sym port) b.receives in
      let t = receives_same old.port.link one.port.link two.port.link bytes r s fits nr ns a.receives rb in
      let there = ap (with_link old.port) t.1 ∙ ap (λ (p : PortValue). with_link p two.port.link) port in
      (t.0, moved_to old other one two _ _ like a.rest b.rest there, by.took old one bytes r k a.receives a.rest)

  then_same : (old other one two : EndValue P) (bytes : List ℕ) (g h : Got) (out xs ys : List (List ℕ)) (r s : Result (Unit {0}) EndFault) → AreBytes bytes → known old → alike old other → went_wanting r ≡ false → went_wanting s ≡ false
      → TookThen e old one bytes g out xs r → TookThen d other two bytes h out ys s → alike one two × ((g ≡ h) × (r ≡ s)) × (xs ≡ ys) × told × known one
  then_same old other one two bytes g h out xs ys r s fits k like nr ns a b =
      let i = in_same old other a.0 b.0 bytes (Ok g) (Ok h) fits k like (ok_apart g fault.NoMemory) (ok_apart h fault.NoMemory) a.1 b.1 in
      let gots = ok_same g h i.0 in
      let t = answered_same a.0 b.0 one two g out xs ys r s i.2 i.1 nr ns a.2 (subst (λ (x : Got). WritesReplies d b.0 two x out ys s) (sym gots) b.2) in
      (t.0, (gots, t.1), t.2, t.3, t.4)

  in_apart : (old other one two : EndValue P) (bytes : List ℕ) (g : Got) (f : LinkFault) → AreBytes bytes → known old → alike old other → is_want (end_fault.Link f) ≡ false → TookIn old one bytes (Ok g) → TookIn other two bytes (Err f) → ⊥
  in_apart old other one two bytes g f fits k like n a b =
      ok_apart g f (in_same old other one two bytes (Ok g) (Err f) fits k like (ok_apart g fault.NoMemory) (λ e. no_want f n (err_same f fault.NoMemory e)) a b).0

  apart_in : (old other one two : EndValue P) (bytes : List ℕ) (g : Got) (f : LinkFault) → AreBytes bytes → known old → alike old other → is_want (end_fault.Link f) ≡ false → TookIn old one bytes (Err f) → TookIn other two bytes (Ok g) → ⊥
  apart_in old other one two bytes g f fits k like n a b =
      ok_apart g f (sym (in_same old other one two bytes (Err f) (Ok g) fits k like (λ e. no_want f n (err_same f fault.NoMemory e)) (ok_apart g fault.NoMemory) a b).0)

  pub took_same : (old other one two : EndValue P) (bytes : List ℕ) (out xs ys : List (List ℕ)) (r s : Result Got TakeFault) → AreBytes bytes → known old → alike old other → took_wanting r ≡ false → took_wanting s ≡ false
      → TakesPacket e old one bytes out xs r → TakesPacket d other two bytes out ys s → alike one two × (r ≡ s) × (xs ≡ ys) × told × known one
  took_same old other one two bytes out xs ys (Ok g) (Ok h) fits k like nr ns a b =
      let t = then_same old other one two bytes g h out xs ys (Ok tt) (Ok tt) fits k like refl refl a b in (t.0, ap took t.1.0, t.2, t.3, t.4)
  took_same old other one two bytes out xs ys (Ok g) (Err (take_fault.Refused f)) fits k like nr ns a b = absurd (in_apart old other a.0 two bytes g f fits k like ns a.1 b.0)
  took_same old other one two bytes out xs ys (Ok g) (Err (take_fault.Unfinished h f)) fits k like nr ns a b =
      absurd (did_apart f (then_same old other one two bytes g h out xs ys (Ok tt) (Err f) fits k like refl ns a b).1.1)
  took_same old other one two bytes out xs ys (Err (take_fault.Refused f)) (Ok h) fits k like nr ns a b = absurd (apart_in old other one b.0 bytes h f fits k like nr a.0 b.1)
  took_same old other one two bytes out xs ys (Err (take_fault.Refused f)) (Err (take_fault.Refused g)) fits k like nr ns a b =
      let t = in_same old other one two bytes (Err f) (Err g) fits k like (λ e. no_want f nr (err_same f fault.NoMemory e)) (λ e. no_want g ns (err_same g fault.NoMemory e)) a.0 b.0 in
      (t.1, ap refused (err_same f g t.0), a.1 ∙ sym b.1, by.quiet a.2 b.2, t.2)
  took_same old other one two bytes out xs ys (Err (take_fault.Refused f)) (Err (take_fault.Unfinished h g)) fits k like nr ns a b = absurd (apart_in old other one b.0 bytes h f fits k like nr a.0 b.1)
  took_same old other one two bytes out xs ys (Err (take_fault.Unfinished g f)) (Ok h) fits k like nr ns a b =
      absurd (did_apart f (sym (then_same old other one two bytes g h out xs ys (Err f) (Ok tt) fits k like nr refl a b).1.1))
  took_same old other one two bytes out xs ys (Err (take_fault.Unfinished g f)) (Err (take_fault.Refused h)) fits k like nr ns a b = absurd (in_apart old other a.0 two bytes g h fits k like ns a.1 b.0)
  took_same old other one two bytes out xs ys (Err (take_fault.Unfinished g f)) (Err (take_fault.Unfinished h i)) fits k like nr ns a b =
      let t = then_same old other one two bytes g h out xs ys (Err f) (Err i) fits k like nr ns a b in
      (t.0, ap (λ (x : Got). unfinished x f) t.1.0 ∙ ap (unfinished h) (failed_same f i t.1.1), t.2, t.3, t.4)
