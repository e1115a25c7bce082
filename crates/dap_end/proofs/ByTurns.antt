-- What ports and whatever serves do, one after another.
use Rattle.std.proofs.Common.{◌≡◌, ℕ, ◌-◌, ◌<◌, arith, refl, sym, ◌∙◌, subst, ap, List, [], ◌∷◌, length, inl, inr, false, IsTrue}
use Rattle.std.specs.Prelude.{Result, Ok, Err, OnOk, IfErr, Option, Some, None, MatchOption}
use Rattle.nsp_link.specs.declared.fault.LinkFault.{LinkFault}
use Rattle.nsp_link.specs.declared.fault.LinkFault.TheVariants as fault
use Rattle.nsp_link.specs.declared.link.LinkSetup.{LinkSetup}
use Rattle.nsp_link.specs.declared.link.Got.{Got}
use Rattle.nsp_link.specs.Link.{LinkValue, IsLink, may_send, waiting_bytes}
use Rattle.nsp_link.specs.Sending.{may_queue}
use Rattle.nsp_link.proofs.ForCallers.{bytes_queued, may_queue_parts}
use Rattle.dap_accessed.specs.Served.{ServesItemAt}
use Rattle.dap_end.specs.declared.fault.EndFault.{EndFault}
use Rattle.dap_end.specs.declared.fault.EndFault.TheVariants as end_fault
use Rattle.dap_end.specs.declared.fault.TakeFault.{TakeFault}
use Rattle.dap_end.specs.declared.fault.TakeFault.TheVariants as take_fault
use Rattle.dap_end.specs.Ports.{EndValue, HandsOver, PortValue, bytes_waiting}
use Rattle.dap_end.specs.By.{ServesAt, ServedBy, TurnsBy, MayServeAt, no_turn, one_turn, serves_by, end_with}
use Rattle.dap_end.specs.Moved.{with_outbox_sent}
use Rattle.dap_end.specs.Inner.Answered.{ended_by}
use Rattle.dap_end.specs.Done.{ServingValue}
use Rattle.dap_end.specs.Serving.{ServedOne, MayServe}
use Rattle.dap_end.specs.Taking.{HasRoom, ServedInTurn, serves}
use Rattle.dap_end.specs.Taking as taking
use Rattle.dap_end.specs.Turns.{WritesReplies, DidAll, EndOf, TakesPacket, WentOn, WroteThen}
use Rattle.dap_end.specs.Writing.{Extends, WroteMore}
use Rattle.std.specs.Result.{result_map_both}
use Rattle.dap_end.proofs.Turning.{went_by}
use Rattle.dap_end.proofs.Proceeding.{work, item_left}
use Rattle.dap_end.proofs.ServingOne.{served_one}

no_more : (p : PortValue) (inbox : List (List ℕ)) → p.link.coming.inbox ≡ inbox → p.outbox ≡ [] → (MayServeAt p → ⊥) → inbox ≡ []
no_more p [] is idle none = refl
no_more p (m ∷ inbox) is idle none = absurd (none (idle, (let long = ap length is in omega arith)))

pub none_left : (p : PortValue) → p.outbox ≡ [] → (MayServeAt p → ⊥) → p.link.coming.inbox ≡ []
none_left p idle none = no_more p p.link.coming.inbox refl idle none

-- how much is left to serve
abbrev pub left : PortValue → ℕ
left p = work p.link.coming.inbox - p.offset

module _ {P : Type 0} where
  -- what came stays
  pub inbox_posted : (v new : EndValue P) (n : ℕ) → HandsOver v new n → new.port.link.coming.inbox ≡ v.port.link.coming.inbox
  inbox_posted v new n p = ap (λ (x : EndValue P). x.port.link.coming.inbox) p.1

  pub none_waits : (v new : EndValue P) (n : ℕ) → HandsOver v new n → new.port.outbox ≡ []
  none_waits v new n p = ap (λ (x : EndValue P). x.port.outbox) p.1

  -- a link to which something was handed runs
  pub works_here : (old new : EndValue P) (n : ℕ) → HandsOver old new n → new.port.link.failed ≡ false
  works_here old new n p = ap (λ (v : EndValue P). v.port.link.failed) p.1 ∙ (may_queue_parts old.port.link old.port.outbox p.0).0

  pub falls : (serves : ServesAt P) (old new : EndValue P) (n : ℕ) → ServedBy serves old new n → left new.port < left old.port
  falls serves old new n s =
      subst (λ (p : PortValue). work p.link.coming.inbox - p.offset < left old.port) (sym s.port)
      (item_left old.port s.one)

  -- by the number that the link tells
  pub waiting_here : (told : ℕ) (link : LinkValue) (old new : EndValue P) (n : ℕ) → told ≡ waiting_bytes link → IsLink link → link ≡ new.port.link → HandsOver old new n → told ≡ bytes_waiting old.port
  waiting_here told link old new n value valid is p =
      let sized : link.setup ≡ old.port.link.setup = ap (λ (l : LinkValue). l.setup) is ∙ ap (λ (v : EndValue P). v.port.link.setup) p.1 in
      let pos : 0 < old.port.link.setup.seg_size = subst (λ (s : LinkSetup). 0 < s.seg_size) sized (omega (arith, valid.setup.0)) in
      let queued = bytes_queued old.port.link old.port.outbox pos in
      let here = ap (λ (l : LinkValue). waiting_bytes l) is ∙ ap (λ (v : EndValue P). waiting_bytes v.port.link) p.1 in
      omega (arith, value, here, queued)

  pub on_more : (serves : ServesAt P) (most : ℕ) (a b posted c : EndValue P) (count n : ℕ) → TurnsBy serves most a b → HandsOver b posted count → HasRoom most b.port → ServedBy serves posted c n → TurnsBy serves most a c
  on_more serves most a b posted c count n no_turn p room s = one_turn posted c count n p room s no_turn
  on_more serves most a b posted c count n (one_turn first mid k m q has t on) p room s = one_turn first mid k m q has t (on_more serves most mid b posted c count n on p room s)

  -- what waited was passed on
  pub hands : (p q : PortValue) (s : P) (n : ℕ) → IsTrue (may_queue p.link p.outbox) → (q ≡ with_outbox_sent p) × (n ≡ length p.outbox) → HandsOver (end_with p s) (end_with q s) n
  hands p q s n may is = (may, ap (λ (r : PortValue). end_with r s) is.0, is.1)

  -- all was served, and then segments were written
  pub gone_by : (e : EndOf P) (old served : EndValue P) (port : PortValue) (out all : List (List ℕ)) (r : Result (Unit {0}) LinkFault) → DidAll e old served (Ok tt) → Extends out all (WroteMore served.port port) → OnOk r (may_send port.link ≡ false)
      → IfErr r (λ f. (f ≡ fault.NoMemory) × IsTrue (may_send port.link)) → WentOn e old (end_with port served.present) out all (result_map_both (λ done. done) end_fault.Link r)
  gone_by e old served port out all (Ok u) d w full why = went_by e old served (end_with port served.present) out all (Ok u) d refl w full why
  gone_by e old served port out all (Err f) d w full why = went_by e old served (end_with port served.present) out all (Err f) d refl w full why

  -- ---- One end as another.

  pub record IsAlso (e f : EndOf P) : Type 0 where
    pub on : (a b : EndValue P) → e.on a b → f.on a b
    pub rests : (v : EndValue P) → e.rests v → f.rests v
    pub halts : (a b : EndValue P) (w : EndFault) → e.halts a b w → f.halts a b w
    pub quiet : e.quiet → f.quiet

  module _ (e f : EndOf P) (also : IsAlso e f) where
    pub map_did : (a b : EndValue P) (r : Result (Unit {0}) EndFault) → DidAll e a b r → DidAll f a b r
    map_did a b (Ok u) d = (d.0, d.1, also.on a d.0 d.2, also.rests d.0 d.3, d.4)
    map_did a b (Err w) d = (d.0, also.on a d.0 d.1, also.halts d.0 b w d.2)

    map_wrote : (writes : PortValue → PortValue → List (List ℕ) → Type 0) (a b : EndValue P) (out all : List (List ℕ)) → WroteThen e writes a b out all → WroteThen f writes a b out all
    map_wrote writes a b out all w = record { mid = w.mid; done = map_did a w.mid (Ok tt) w.done; rest = w.rest; wrote = w.wrote }

    pub map_answered : (a b : EndValue P) (got : Got) (out all : List (List ℕ)) (r : Result (Unit {0}) EndFault) → WritesReplies e a b got out all r → WritesReplies f a b got out all r
    map_answered a b got out all (Ok u) h = map_wrote _ a b out all h
    map_answered a b got out all (Err w) (inl h) = inl (map_did a b (Err w) h.0, h.1)
    map_answered a b got out all (Err w) (inr h) = inr (h.0, map_wrote _ a b out all h.1)

    pub map_takes : (a b : EndValue P) (bytes : List ℕ) (out all : List (List ℕ)) (r : Result Got TakeFault) → TakesPacket e a b bytes out all r → TakesPacket f a b bytes out all r
    map_takes a b bytes out all (Ok got) h = (h.0, h.1, map_answered h.0 b got out all (Ok tt) h.2)
    map_takes a b bytes out all (Err (take_fault.Refused w)) h = (h.0, h.1, also.quiet h.2)
    map_takes a b bytes out all (Err (take_fault.Unfinished got w)) h = (h.0, h.1, map_answered h.0 b got out all (Err w) h.2)

-- ---- A server of one link.

pub one_served : (old new : ServingValue) (n : ℕ) → ServedBy ServesItemAt old new n → ServedOne old new n
one_served old new n h =
    served_one old h.one.bytes h.one.later h.one.came h.one.fits new.present h.served new.port h.one.next n h.idle h.one.offset h.by h.next h.within h.port
    (h.count ∙ ap length (ap (λ (p : PortValue). p.outbox) h.port))

pub told : (old new : ServingValue) (o : Option ℕ)
    → MatchOption o ((new.port ≡ old.port) × (new.present ≡ old.present) × (MayServeAt old.port → ⊥)) (λ n. ServedBy ServesItemAt old new n)
    → MatchOption o ((new ≡ old) × (MayServe old → ⊥)) (λ n. ServedOne old new n)
told old new None h = (ap (λ (p : PortValue). end_with p new.present) h.0 ∙ ap (end_with old.port) h.1, h.2)
told old new (Some n) h = one_served old new n h

turns : (most : ℕ) (a b : ServingValue) → TurnsBy ServesItemAt most a b → ServedInTurn most a b
turns most a b no_turn = taking.begins
turns most a b (one_turn posted mid count n p room s on) = taking.goes posted mid count n p room (one_served posted mid n s) (turns most mid b on)

halts : (most : ℕ) (a b : ServingValue) (w : EndFault) → (serves_by ServesItemAt most).halts a b w → (serves most).halts a b w
halts most a b (end_fault.Link f) h = h
halts most a b (end_fault.Read f) h = h

pub one_link : (most : ℕ) → IsAlso (serves_by ServesItemAt most) (serves most)
one_link most =
    record {
      on = turns most;
      rests = λ v h. h;
      halts = halts most;
      quiet = λ h. h;
    }

pub did_ok : (most : ℕ) (a b : ServingValue) (r : Result (Unit {0}) LinkFault) → DidAll (serves_by ServesItemAt most) a b (ended_by r) → OnOk r (DidAll (serves most) a b (Ok tt))
did_ok most a b (Ok u) d = map_did (serves_by ServesItemAt most) (serves most) (one_link most) a b (Ok tt) d
did_ok most a b (Err f) d = tt

pub did_err : (most : ℕ) (a b : ServingValue) (r : Result (Unit {0}) LinkFault) → DidAll (serves_by ServesItemAt most) a b (ended_by r) → IfErr r (λ f. DidAll (serves most) a b (Err (end_fault.Link f)))
did_err most a b (Ok u) d = tt
did_err most a b (Err f) d = map_did (serves_by ServesItemAt most) (serves most) (one_link most) a b (Err (end_fault.Link f)) d
