-- Calls of an end are events. What an end does by itself is any relation in which it may do nothing.
use Rattle.std.proofs.Common.{◌≡◌, ℕ, ◌+◌, ◌<◌, refl, sym, ◌∙◌, subst, ap, append_assoc, true, false, List, [], ◌∷◌, ◌++◌, length, inl, inr}
use Rattle.std.specs.Prelude.{Bool, ◌-◌, Some, None, Result, Ok, Err}
use Rattle.std.proofs.lemmas.List.{append-nil, map-append}
use Rattle.nsp_link.specs.declared.link.Got.{Got}
use Rattle.nsp_link.specs.declared.link.Got.TheVariants.{AckOnly}
use Rattle.nsp_link.specs.declared.fault.LinkFault.{LinkFault}
use Rattle.nsp_link.specs.Link.{LinkValue, IsSpelling}
use Rattle.nsp_link.specs.Sending.{WritesSent, ack_packet_of}
use Rattle.dap_end.specs.declared.fault.EndFault.{EndFault}
use Rattle.dap_end.specs.declared.fault.TakeFault.{TakeFault}
use Rattle.dap_end.specs.declared.fault.TakeFault.TheVariants as take_fault
use Rattle.dap_end.specs.Ports.{EndValue}
use Rattle.dap_end.specs.Writing.{AcknowledgesIf, wants_ack, WroteAnswer, WroteMore}
use Rattle.dap_end.specs.Turns.{WritesReplies, DidAll, EndOf, WroteThen, WentOn, TookIn, TookThen, TakesPacket}
use Rattle.dap_end.specs.Runs.{RunsBy}
use Rattle.dap_end.specs.Headline.{WrittenPacket, written_bytes}
use Rattle.dap_end.specs.Calls.{numbered_packets, EndEvent, Came, GoesOn, Repeats, EndStepped}
use Rattle.dap_end.proofs.Packets.{ack_written}
use Rattle.dap_end.proofs.Emitting.{wrote_nothing}

-- one run after another
pub runs_then : {S E A : Type 0} (Goes : S → E → A → S → Type 0) (xs ys : List E) (a b c : S) → RunsBy Goes a xs b → RunsBy Goes b ys c → RunsBy Goes a (xs ++ ys) c
runs_then Goes [] ys a b c r q = subst (λ s. RunsBy Goes s ys c) r q
runs_then Goes (x ∷ xs) ys a b c r q = (r.0, r.1, r.2, runs_then Goes xs ys r.0 b c r.3 q)

-- the bytes of some packets, numbered
pub numbered_bytes : (k a : ℕ) (packets : List (List ℕ)) → written_bytes (numbered_packets k a packets) ≡ packets
numbered_bytes k a [] = refl
numbered_bytes k a (p ∷ packets) = ap (λ (l : List (List ℕ)). p ∷ l) (numbered_bytes (k + 1) a packets)

-- several packets after those that were there
behind : (out all packets : List (List ℕ)) (k a : ℕ) → all ≡ out ++ packets → all ≡ out ++ written_bytes (numbered_packets k a packets)
behind out all packets k a e = e ∙ ap (λ (l : List (List ℕ)). out ++ l) (sym (numbered_bytes k a packets))

bytes_append : (xs ys : List WrittenPacket) → written_bytes (xs ++ ys) ≡ written_bytes xs ++ written_bytes ys
bytes_append xs ys = map-append (λ (w : WrittenPacket). w.bytes) xs ys

module _ {P : Type 0} (Does : EndValue P → EndValue P → Type 0) (none : (v : EndValue P) → Does v v) (comes : LinkValue → List ℕ → Type 0) where
  -- an event of the end alone
  abbrev pub StepsBy : EndValue P → EndEvent → EndValue P → List WrittenPacket → Type 0
  StepsBy old event new ws = EndStepped (Unit {0}) Does comes old event new ws

  -- the end, and the packets so far
  abbrev pub So : Type 0
  So = EndValue P × List WrittenPacket

  -- after the event its packets follow those before
  abbrev pub SteppedBy : So → EndEvent → List WrittenPacket → So → Type 0
  SteppedBy old event more new = EndStepped (Unit {0}) Does comes old.0 event new.0 more × (new.1 ≡ old.1 ++ more)

  -- some events
  abbrev pub RunsIn : (old new : EndValue P) → List WrittenPacket → Type 0
  RunsIn old new wrote = (events : List EndEvent) × RunsBy SteppedBy (old, []) events (new, wrote)

  -- with packets that were there before
  pub shifted : (events : List EndEvent) (front : List WrittenPacket) (old new : So) → RunsBy SteppedBy old events new → RunsBy SteppedBy (old.0, front ++ old.1) events (new.0, front ++ new.1)
  shifted [] front old new r = ap (λ (x : So). (x.0, front ++ x.1)) r
  shifted (event ∷ events) front old new r =
      ((r.0.0, front ++ r.0.1), r.1, (r.2.0, ap (λ (l : List WrittenPacket). front ++ l) r.2.1 ∙ sym (append_assoc front old.1 r.1)), shifted events front r.0 new r.3)

  pub no_call : (v : EndValue P) → RunsIn v v []
  no_call v = ([], refl)

  pub more_calls : (old mid new : EndValue P) (ws more : List WrittenPacket) → RunsIn old mid ws → RunsIn mid new more → RunsIn old new (ws ++ more)
  more_calls old mid new ws more r q =
      let behind = subst (λ (l : List WrittenPacket). RunsBy SteppedBy (mid, l) q.0 (new, ws ++ more)) (append-nil ws) (shifted q.0 ws (mid, []) (new, more) q.1) in
      (r.0 ++ q.0, runs_then SteppedBy r.0 q.0 (old, []) (mid, ws) (new, ws ++ more) r.1 behind)

  one_event : (old new : EndValue P) (event : EndEvent) (ws : List WrittenPacket) → StepsBy old event new ws → RunsIn old new ws
  one_event old new event ws s = (event ∷ [], ((new, ws), ws, (s, refl), refl))

  -- something was done, and nothing written
  done_only : (old new : EndValue P) → Does old new → StepsBy old GoesOn new []
  done_only old new m = (new, [], m, wrote_nothing new.port, refl, refl)

  pub doing_is : (old new : EndValue P) → Does old new → RunsIn old new []
  doing_is old new m = one_event old new GoesOn [] (done_only old new m)

  pub writing_is : (old new : EndValue P) (bytes : List ℕ) → new ≡ record old { port = new.port } → WroteMore old.port new.port (bytes ∷ [])
      → RunsIn old new (record { bytes = bytes; segment = Some (old.port.link.sent + 1); acks = old.port.link.coming.received } ∷ [])
  writing_is old new bytes rest w = one_event old new GoesOn _ (old, bytes ∷ [], none old, w, rest, refl)

  pub again_is : (v : EndValue P) (i : ℕ) (bytes : List ℕ) → i < v.port.link.sent - v.port.link.acked → WritesSent v.port.link (Some (v.port.link.acked + 1 + i)) bytes
      → RunsIn v v (record { bytes = bytes; segment = Some (v.port.link.acked + 1 + i); acks = v.port.link.coming.received } ∷ [])
  again_is v i bytes lt w = one_event v v (Repeats (Some i)) _ (record { bytes = bytes; segment = Some (v.port.link.acked + 1 + i); acks = v.port.link.coming.received }, lt, (refl, refl, w), refl, refl, tt)

  ack_step : (v : EndValue P) (bytes : List ℕ) → IsSpelling (ack_packet_of v.port.link) bytes → StepsBy v (Repeats None) v (record { bytes = bytes; segment = None; acks = v.port.link.coming.received } ∷ [])
  ack_step v bytes s = (record { bytes = bytes; segment = None; acks = v.port.link.coming.received }, tt, (refl, refl, ack_written v.port.link bytes s), refl, refl, tt)

  pub ack_is : (v : EndValue P) (bytes : List ℕ) → IsSpelling (ack_packet_of v.port.link) bytes → RunsIn v v (record { bytes = bytes; segment = None; acks = v.port.link.coming.received } ∷ [])
  ack_is v bytes s = one_event v v (Repeats None) _ (ack_step v bytes s)

  came : (old new : EndValue P) (bytes : List ℕ) (r : Result Got LinkFault) → comes old.port.link bytes → TookIn old new bytes r → StepsBy old (Came bytes) new []
  came old new bytes r h t = (r, new.port.link, t.receives, t.rest, refl, tt, h)

  pub receiving_is : (old new : EndValue P) (bytes : List ℕ) (r : Result Got LinkFault) → comes old.port.link bytes → TookIn old new bytes r → RunsIn old new []
  receiving_is old new bytes r h t = one_event old new (Came bytes) [] (came old new bytes r h t)

  -- a run whose packets stand after those that were there
  abbrev pub AreCalls : (old new : EndValue P) → (out all : List (List ℕ)) → Type 0
  AreCalls old new out all = (wrote : List WrittenPacket) × RunsIn old new wrote × (all ≡ out ++ written_bytes wrote)

  took_by : (old mid new : EndValue P) (bytes : List ℕ) (out all : List (List ℕ)) → StepsBy old (Came bytes) mid [] → AreCalls mid new out all → AreCalls old new out all
  took_by old mid new bytes out all s c = (c.0, (Came bytes ∷ c.1.0, ((mid, []), [], (s, refl), c.1.1)), c.2)

  -- with an acknowledgement or without
  answered_is : (old served new : EndValue P) (out all packets written : List (List ℕ)) (wants : Bool) → Does old served → new ≡ record served { port = new.port } → WroteMore served.port new.port written → all ≡ out ++ packets
      → AcknowledgesIf new.port wants written packets → AreCalls old new out all
  answered_is old served new out all packets written false m rest w is ack =
      (_, one_event old new GoesOn _ (served, written, m, w, rest, refl), behind out all written _ _ (is ∙ ap (λ (l : List (List ℕ)). out ++ l) ack))
  answered_is old served new out all packets written true m rest w is ack =
      let first = numbered_packets (served.port.link.sent + 1) served.port.link.coming.received written in
      let last : WrittenPacket = record { bytes = ack.0; segment = None; acks = new.port.link.coming.received } in (
        first ++ last ∷ [],
        more_calls old new new first (last ∷ []) (one_event old new GoesOn first (served, written, m, w, rest, refl)) (ack_is new ack.0 ack.2),
        is ∙ ap (λ (l : List (List ℕ)). out ++ l) (ack.1 ∙ ap (λ (l : List (List ℕ)). l ++ ack.0 ∷ []) (sym (numbered_bytes _ _ written)) ∙ sym (bytes_append first (last ∷ []))),
      )

  module _ (end : EndOf P) (did : (a b : EndValue P) (r : Result (Unit {0}) EndFault) → DidAll end a b r → Does a b) where
    pub all_is : (old new : EndValue P) (r : Result (Unit {0}) EndFault) → DidAll end old new r → RunsIn old new []
    all_is old new r s = doing_is old new (did old new r s)

    whole_is : (old new : EndValue P) (got : Got) (out all : List (List ℕ)) → WroteThen end (λ p q. WroteAnswer p q got) old new out all → AreCalls old new out all
    whole_is old new got out all w =
        let (packets, is, a) = w.wrote in answered_is old w.mid new out all packets a.0 (wants_ack got (length a.0)) (did old w.mid (Ok tt) w.done) w.rest a.1 is a.3

    answer_is : (old new : EndValue P) (got : Got) (out all : List (List ℕ)) (r : Result (Unit {0}) EndFault) → WritesReplies end old new got out all r → AreCalls old new out all
    answer_is old new got out all (Ok done) w = whole_is old new got out all w
    answer_is old new got out all (Err f) (inl h) =
        ([], one_event old new GoesOn [] (done_only old new (did old new (Err f) h.0)), h.1 ∙ sym (append-nil out))
    answer_is old new got out all (Err f) (inr h) =
        let w = h.1 in
        (_, one_event old new GoesOn _ (w.mid, w.wrote.0, did old w.mid (Ok tt) w.done, w.wrote.2.0, w.rest, refl), behind out all w.wrote.0 _ _ w.wrote.1)

    pub going_on_is : (old new : EndValue P) (out all : List (List ℕ)) (r : Result (Unit {0}) EndFault) → WentOn end old new out all r → AreCalls old new out all
    going_on_is old new out all r w = answer_is old new AckOnly out all r w

    then_is : (old new : EndValue P) (bytes : List ℕ) (got : Got) (out all : List (List ℕ)) (r : Result (Unit {0}) EndFault) → comes old.port.link bytes → TookThen end old new bytes got out all r → AreCalls old new out all
    then_is old new bytes got out all r h (mid, t, a) = took_by old mid new bytes out all (came old mid bytes (Ok got) h t) (answer_is mid new got out all r a)

    pub taken_is : (old new : EndValue P) (bytes : List ℕ) (out all : List (List ℕ)) (r : Result Got TakeFault) → comes old.port.link bytes → TakesPacket end old new bytes out all r → AreCalls old new out all
    taken_is old new bytes out all (Ok got) h t = then_is old new bytes got out all (Ok tt) h t
    taken_is old new bytes out all (Err (take_fault.Refused f)) h t = ([], receiving_is old new bytes (Err f) h t.0, t.1 ∙ sym (append-nil out))
    taken_is old new bytes out all (Err (take_fault.Unfinished got f)) h t = then_is old new bytes got out all (Err f) h t
