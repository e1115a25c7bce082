-- The calls of an asking end are runs.
use Rattle.std.proofs.Common.{◌≡◌, ◌≢◌, ℕ, ◌+◌, ◌-◌, ◌<◌, refl, sym, ◌∙◌, subst, ap, append_assoc, List, [], ◌∷◌, ◌++◌, length, true, false, inl, inr}
use Rattle.std.specs.Prelude.{Bool, Option, Some, None, Result, Ok, Err, IfErr, option_to_list}
use Rattle.std.proofs.lemmas.List.{append-nil, map-append}
use Rattle.nsp_link.specs.declared.link.Got.{Got}
use Rattle.nsp_link.specs.declared.link.Got.TheVariants.{AckOnly}
use Rattle.nsp_link.specs.declared.fault.LinkFault.{LinkFault}
use Rattle.nsp_link.specs.Link.{LinkValue, IsSpelling}
use Rattle.nsp_link.specs.Sending.{WritesSent, ack_packet_of}
use Rattle.dap_accessing.specs.Request.{Request}
use Rattle.dap_accessing.specs.declared.report.Report.{Report}
use Rattle.dap_accessing.specs.declared.fault.ReadFault.{ReadFault}
use Rattle.dap_accessing.specs.declared.fault.ReadFault.TheVariants as read_fault
use Rattle.dap_accessing.specs.Present.{ClientState}
use Rattle.dap_end.specs.declared.fault.EndFault.{EndFault}
use Rattle.dap_end.specs.declared.fault.TakeFault.{TakeFault}
use Rattle.dap_end.specs.declared.fault.TakeFault.TheVariants as take_fault
use Rattle.dap_end.specs.Wanting.{why}
use Rattle.dap_end.specs.Runs.{RunsBy}
use Rattle.dap_end.specs.declared.fault.EndFault.TheVariants as end_fault
use Rattle.dap_end.specs.Ports.{HandsOver, PortValue}
use Rattle.dap_end.specs.Writing.{AcknowledgesIf, wants_ack, WroteMore, Extends, WroteAnswer, WrotePart}
use Rattle.dap_end.specs.Asking.{AskedOne, ReadOne, ReadNone}
use Rattle.dap_end.specs.Hearing.{ReadOn, ReadsAll, hears}
use Rattle.dap_end.specs.Hearing.{nothing_read, one_read as reads_first}
use Rattle.dap_end.specs.Done.{AskingValue}
use Rattle.dap_end.specs.Turns.{WritesReplies, DidAll, TakesPacket, TookIn, TookThen, WentOn, WroteThen}
use Rattle.dap_end.specs.Headline.{WrittenPacket, written_bytes}
use Rattle.dap_end.specs.Calls.{numbered_packets, Came, GoesOn, Repeats}
use Rattle.dap_end.specs.Calls.{AskingEvent, Asks, By, AskingStepped, AskingRunsAs, requests_in}
use Rattle.dap_end.proofs.Packets.{ack_written}
use Rattle.dap_end.proofs.Emitting.{wrote_nothing}
use Rattle.dap_end.proofs.Stepping.{numbered_bytes, runs_then}

-- ---- Runs join.

-- the end, and the reports and packets so far
abbrev pub SoFar : Type 0
SoFar = AskingValue × List Report × List WrittenPacket

pub requests_then : (xs ys : List AskingEvent) → requests_in (xs ++ ys) ≡ requests_in xs ++ requests_in ys
requests_then [] ys = refl
requests_then (Asks request ∷ xs) ys = ap (λ (l : List Request). request ∷ l) (requests_then xs ys)
requests_then (By event ∷ xs) ys = requests_then xs ys

module _ (comes : LinkValue → List ℕ → Type 0) where
  step_shifted : (event : AskingEvent) (rs : List Report) (front ws : List WrittenPacket) (old new : SoFar) → AskingStepped comes old event ws new → AskingStepped comes (old.0, rs ++ old.1, front ++ old.2) event ws (new.0, rs ++ new.1, front ++ new.2)
  step_shifted (Asks request) rs front ws old new s = (s.0, s.1, s.2, ap (λ (l : List Report). rs ++ l) s.3, ap (λ (l : List WrittenPacket). front ++ l) s.4)
  step_shifted (By (Came bytes)) rs front ws old new (s, e) =
      ((s.0, s.1, s.2, s.3, s.4, ap (λ (l : List Report). rs ++ l) s.5, s.6), ap (λ (l : List WrittenPacket). front ++ l) e ∙ sym (append_assoc front old.2 ws))
  step_shifted (By GoesOn) rs front ws old new (s, e) =
      let (heard, read, over) = s.2 in (
        (s.0, s.1, (heard, (read.0, ap (λ (l : List Report). rs ++ l) read.1 ∙ sym (append_assoc rs old.1 read.0), read.2), over), s.3, s.4, s.5),
        ap (λ (l : List WrittenPacket). front ++ l) e ∙ sym (append_assoc front old.2 ws),
      )
  step_shifted (By (Repeats k)) rs front ws old new (s, e) =
      ((s.0, s.1, s.2, s.3, s.4, ap (λ (l : List Report). rs ++ l) s.5), ap (λ (l : List WrittenPacket). front ++ l) e ∙ sym (append_assoc front old.2 ws))

  -- with reports and packets that were there before
  pub shifted : (events : List AskingEvent) (rs : List Report) (front : List WrittenPacket) (old new : SoFar) → RunsBy (AskingStepped comes) old events new → RunsBy (AskingStepped comes) (old.0, rs ++ old.1, front ++ old.2) events (new.0, rs ++ new.1, front ++ new.2)
  shifted [] rs front old new r = ap (λ (x : SoFar). (x.0, rs ++ x.1, front ++ x.2)) r
  shifted (event ∷ events) rs front old new r =
      ((r.0.0, rs ++ r.0.1, front ++ r.0.2), r.1, step_shifted event rs front r.1 old r.0 r.2, shifted events rs front r.0 new r.3)

  -- after these
  pub after_these : (events : List AskingEvent) (old new : AskingValue) (rs reports : List Report) (front wrote : List WrittenPacket) → RunsBy (AskingStepped comes) (old, [], []) events (new, reports, wrote)
      → RunsBy (AskingStepped comes) (old, rs, front) events (new, rs ++ reports, front ++ wrote)
  after_these events old new rs reports front wrote r =
      subst (λ (l : List Report). RunsBy (AskingStepped comes) (old, l, front) events (new, rs ++ reports, front ++ wrote)) (append-nil rs)
      (subst (λ (l : List WrittenPacket). RunsBy (AskingStepped comes) (old, rs ++ [], l) events (new, rs ++ reports, front ++ wrote)) (append-nil front) (shifted events rs front (old, [], []) (new, reports, wrote) r))

  pub no_call : (v : AskingValue) → AskingRunsAs comes [] v v [] []
  no_call v = ([], refl, refl)

  pub more_calls : (requests others : List Request) (old mid new : AskingValue) (rs ss : List Report) (ws more : List WrittenPacket) → AskingRunsAs comes requests old mid rs ws → AskingRunsAs comes others mid new ss more
      → AskingRunsAs comes (requests ++ others) old new (rs ++ ss) (ws ++ more)
  more_calls requests others old mid new rs ss ws more r q = (
    r.0 ++ q.0,
    ap (λ (l : List Request). l ++ others) r.1 ∙ ap (λ (l : List Request). requests_in r.0 ++ l) q.1 ∙ sym (requests_then r.0 q.0),
    runs_then (AskingStepped comes) r.0 q.0 (old, [], []) (mid, rs, ws) (new, rs ++ ss, ws ++ more) r.2 (after_these q.0 mid new rs ss ws more q.2),
  )

  -- ---- Calls are runs.

  one_event : (old new : AskingValue) (event : AskingEvent) (reports : List Report) (ws : List WrittenPacket) → AskingStepped comes (old, [], []) event ws (new, reports, ws) → AskingRunsAs comes (requests_in (event ∷ [])) old new reports ws
  one_event old new event reports ws s = (event ∷ [], refl, ((new, reports, ws), ws, s, refl))

  pub asking_is : (old new : AskingValue) (request : Request) (n : ℕ) → AskedOne request old new n → AskingRunsAs comes (request ∷ []) old new [] []
  asking_is old new request n a = one_event old new (Asks request) [] [] (n, a, refl, refl, refl)

  pub reading_is : (old new : AskingValue) (report : Option Report) → ReadOne old new report → AskingRunsAs comes [] old new (option_to_list report) []
  reading_is old new report r =
      one_event old new (By GoesOn) (option_to_list report) []
      ((new, [], (new, (option_to_list report, refl, reads_first new report [] r nothing_read (sym (append-nil (option_to_list report)))), inl refl), wrote_nothing new.port, refl, refl), refl)

  pub posting_is : (old new : AskingValue) (n : ℕ) → HandsOver old new n → AskingRunsAs comes [] old new [] []
  posting_is old new n h = one_event old new (By GoesOn) [] [] ((new, [], (old, ([], refl, nothing_read), inr (n, h)), wrote_nothing new.port, refl, refl), refl)

  pub writing_is : (old new : AskingValue) (bytes : List ℕ) → new ≡ record old { port = new.port } → WroteMore old.port new.port (bytes ∷ [])
      → AskingRunsAs comes [] old new [] (record { bytes = bytes; segment = Some (old.port.link.sent + 1); acks = old.port.link.coming.received } ∷ [])
  writing_is old new bytes rest w = one_event old new (By GoesOn) [] _ ((old, bytes ∷ [], (old, ([], refl, nothing_read), inl refl), w, rest, refl), refl)

  pub again_is : (v : AskingValue) (i : ℕ) (bytes : List ℕ) → i < v.port.link.sent - v.port.link.acked → WritesSent v.port.link (Some (v.port.link.acked + 1 + i)) bytes
      → AskingRunsAs comes [] v v [] (record { bytes = bytes; segment = Some (v.port.link.acked + 1 + i); acks = v.port.link.coming.received } ∷ [])
  again_is v i bytes lt w = one_event v v (By (Repeats (Some i))) [] _ ((record { bytes = bytes; segment = Some (v.port.link.acked + 1 + i); acks = v.port.link.coming.received }, lt, (refl, refl, w), refl, refl, refl), refl)

  pub ack_is : (v : AskingValue) (bytes : List ℕ) → IsSpelling (ack_packet_of v.port.link) bytes → AskingRunsAs comes [] v v [] (record { bytes = bytes; segment = None; acks = v.port.link.coming.received } ∷ [])
  ack_is v bytes s = one_event v v (By (Repeats None)) [] _ ((record { bytes = bytes; segment = None; acks = v.port.link.coming.received }, tt, (refl, refl, ack_written v.port.link bytes s), refl, refl, refl), refl)

  came : (old new : AskingValue) (bytes : List ℕ) (r : Result Got LinkFault) → comes old.port.link bytes → TookIn old new bytes r → AskingStepped comes (old, [], []) (By (Came bytes)) [] (new, [], [])
  came old new bytes r h t = ((r, new.port.link, t.receives, t.rest, refl, refl, h), refl)

  pub receiving_is : (old new : AskingValue) (bytes : List ℕ) (r : Result Got LinkFault) → comes old.port.link bytes → TookIn old new bytes r → AskingRunsAs comes [] old new [] []
  receiving_is old new bytes r h t = one_event old new (By (Came bytes)) [] [] (came old new bytes r h t)

  -- all was read and passed on, and these segments written
  goes : (old heard new : AskingValue) (before after : List Report) (packets : List (List ℕ)) → (h : DidAll (hears before after) old heard (Ok tt)) → WroteMore heard.port new.port packets → new ≡ record heard { port = new.port }
      → (let ws = numbered_packets (heard.port.link.sent + 1) heard.port.link.coming.received packets in AskingStepped comes (old, [], []) (By GoesOn) ws (new, h.2.0, ws))
  goes old heard new before after packets h w rest = ((heard, packets, (h.0, (h.2.0, refl, h.2.2), inr (h.1, h.4)), w, rest, refl), refl)

  -- a run whose packets and reports stand after those that were there
  abbrev pub AreAskingCalls : AskingValue → AskingValue → (out all : List (List ℕ)) → (before after : List Report) → Type 0
  AreAskingCalls old new out all before after =
      (reports : List Report) × (wrote : List WrittenPacket) × AskingRunsAs comes [] old new reports wrote × (all ≡ out ++ written_bytes wrote) × (after ≡ before ++ reports)

  behind : (out all packets : List (List ℕ)) (k a : ℕ) → all ≡ out ++ packets → all ≡ out ++ written_bytes (numbered_packets k a packets)
  behind out all packets k a e = e ∙ ap (λ (l : List (List ℕ)). out ++ l) (sym (numbered_bytes k a packets))

  took_by : (old mid new : AskingValue) (bytes : List ℕ) (out all : List (List ℕ)) (before after : List Report) → AskingStepped comes (old, [], []) (By (Came bytes)) [] (mid, [], []) → AreAskingCalls mid new out all before after
      → AreAskingCalls old new out all before after
  took_by old mid new bytes out all before after s c = (c.0, c.1, (By (Came bytes) ∷ c.2.0, c.2.1, ((mid, [], []), [], s, c.2.2)), c.3, c.4)

  answered_is : (old heard new : AskingValue) (out all packets written : List (List ℕ)) (before after : List Report) (wants : Bool) → DidAll (hears before after) old heard (Ok tt) → new ≡ record heard { port = new.port } → WroteMore heard.port new.port written
      → all ≡ out ++ packets → AcknowledgesIf new.port wants written packets → AreAskingCalls old new out all before after
  answered_is old heard new out all packets written before after false h rest w is ack =
      (h.2.0, _, one_event old new (By GoesOn) _ _ (goes old heard new before after written h w rest), behind out all written _ _ (is ∙ ap (λ (l : List (List ℕ)). out ++ l) ack), h.2.1)
  answered_is old heard new out all packets written before after true h rest w is ack =
      let first = numbered_packets (heard.port.link.sent + 1) heard.port.link.coming.received written in
      let last : WrittenPacket = record { bytes = ack.0; segment = None; acks = new.port.link.coming.received } in
      let both = more_calls [] [] old new new h.2.0 [] first (last ∷ []) (one_event old new (By GoesOn) _ first (goes old heard new before after written h w rest)) (ack_is new ack.0 ack.2) in (
        h.2.0,
        first ++ last ∷ [],
        subst (λ (l : List Report). AskingRunsAs comes [] old new l (first ++ last ∷ [])) (append-nil h.2.0) both,
        is ∙ ap (λ (l : List (List ℕ)). out ++ l) (ack.1 ∙ ap (λ (l : List (List ℕ)). l ++ ack.0 ∷ []) (sym (numbered_bytes _ _ written)) ∙ sym (map-append (λ (w : WrittenPacket). w.bytes) first (last ∷ []))),
        h.2.1,
      )

  whole_is : (old new : AskingValue) (got : Got) (out all : List (List ℕ)) (before after : List Report) → WroteThen (hears before after) (λ p q. WroteAnswer p q got) old new out all → AreAskingCalls old new out all before after
  whole_is old new got out all before after w =
      let (packets, is, a) = w.wrote in answered_is old w.mid new out all packets a.0 before after (wants_ack got (length a.0)) w.done w.rest a.1 is a.3

  some_is : (old new : AskingValue) (got : Got) (out all : List (List ℕ)) (before after : List Report) → WroteThen (hears before after) (λ p q. WrotePart p q got) old new out all → AreAskingCalls old new out all before after
  some_is old new got out all before after w =
      (w.done.2.0, _, one_event old new (By GoesOn) _ _ (goes old w.mid new before after w.wrote.0 w.done w.wrote.2.0 w.rest), behind out all w.wrote.0 _ _ w.wrote.1, w.done.2.1)

-- ---- Calls that didn't do all.

same_end : (mid new : AskingValue) → new.port ≡ mid.port → new.present ≡ mid.present → new ≡ mid
same_end mid new p a = ap (λ (x : PortValue). record new { port = x }) p ∙ ap (λ (x : ClientState). record mid { present = x }) a

-- an answer that wasn't read, and is in sequence, left the end as it was
none_read : (mid new : AskingValue) (f : ReadFault) → ReadNone mid new f → f ≢ read_fault.Unexpected → new ≡ mid
none_read mid new read_fault.Failed n other = same_end mid new n.port n.refused.1
none_read mid new read_fault.NoMemory n other = same_end mid new n.port n.refused.1
none_read mid new read_fault.Unexpected n other = absurd (other refl)

part_read : (old new : AskingValue) (before after : List Report) (f : ReadFault) → ReadsAll old new before after (Err f) → f ≢ read_fault.Unexpected → Extends before after (ReadOn old new)
part_read old new before after f (mid, on, n) other = subst (λ (v : AskingValue). Extends before after (ReadOn old v)) (sym (none_read mid new f n other)) on

heard_part : (old new : AskingValue) (before after : List Report) (f : EndFault) → DidAll (hears before after) old new (Err f) → f ≢ end_fault.Read read_fault.Unexpected → Extends before after (ReadOn old new)
heard_part old new before after (end_fault.Link f) h other = subst (λ (v : AskingValue). Extends before after (ReadOn old v)) (sym h.2.0) h.1
heard_part old new before after (end_fault.Read f) h other = part_read old new before after f h (λ e. other (ap (λ (x : ReadFault). end_fault.Read x) e))

module _ (comes : LinkValue → List ℕ → Type 0) where
  read_so : (old new : AskingValue) (before all : List Report) → Extends before all (ReadOn old new) → (reports : List Report) × AskingRunsAs comes [] old new reports [] × (all ≡ before ++ reports)
  read_so old new before all r = (r.0, one_event comes old new (By GoesOn) r.0 [] ((new, [], (new, (r.0, refl, r.2), inl refl), wrote_nothing new.port, refl, refl), refl), r.1)

  pub reading_all_is : (old new : AskingValue) (before all : List Report) (r : Result (Unit {0}) ReadFault) → IfErr r (λ f. f ≢ read_fault.Unexpected) → ReadsAll old new before all r
      → (reports : List Report) × AskingRunsAs comes [] old new reports [] × (all ≡ before ++ reports)
  reading_all_is old new before all (Ok done) other s = read_so old new before all s.0
  reading_all_is old new before all (Err f) other s = read_so old new before all (part_read old new before all f s other)

  -- some was read, and nothing else done
  read_only : (old new : AskingValue) (out all : List (List ℕ)) (before after : List Report) → Extends before after (ReadOn old new) → all ≡ out → AreAskingCalls comes old new out all before after
  read_only old new out all before after r same =
      (r.0, [], one_event comes old new (By GoesOn) r.0 [] ((new, [], (new, (r.0, refl, r.2), inl refl), wrote_nothing new.port, refl, refl), refl), same ∙ sym (append-nil out), r.1)

  answer_is : (old new : AskingValue) (got : Got) (out all : List (List ℕ)) (before after : List Report) (r : Result (Unit {0}) EndFault) → IfErr r (λ f. f ≢ end_fault.Read read_fault.Unexpected)
      → WritesReplies (hears before after) old new got out all r → AreAskingCalls comes old new out all before after
  answer_is old new got out all before after (Ok done) other w = whole_is comes old new got out all before after w
  answer_is old new got out all before after (Err f) other (inl h) = read_only old new out all before after (heard_part old new before after f h.0 other) h.1
  answer_is old new got out all before after (Err f) other (inr h) = some_is comes old new got out all before after h.1

  pub going_on_is : (old new : AskingValue) (out all : List (List ℕ)) (before after : List Report) (r : Result (Unit {0}) EndFault) → IfErr r (λ f. f ≢ end_fault.Read read_fault.Unexpected)
      → WentOn (hears before after) old new out all r → AreAskingCalls comes old new out all before after
  going_on_is old new out all before after r other w = answer_is old new AckOnly out all before after r other w

  then_is : (old new : AskingValue) (bytes : List ℕ) (got : Got) (out all : List (List ℕ)) (before after : List Report) (r : Result (Unit {0}) EndFault) → IfErr r (λ f. f ≢ end_fault.Read read_fault.Unexpected) → comes old.port.link bytes
      → TookThen (hears before after) old new bytes got out all r → AreAskingCalls comes old new out all before after
  then_is old new bytes got out all before after r other h (mid, t, a) =
      took_by comes old mid new bytes out all before after (came comes old mid bytes (Ok got) h t) (answer_is mid new got out all before after r other a)

  pub taken_is : (old new : AskingValue) (bytes : List ℕ) (out all : List (List ℕ)) (before after : List Report) (r : Result Got TakeFault) → IfErr r (λ f. why f ≢ end_fault.Read read_fault.Unexpected)
      → comes old.port.link bytes → TakesPacket (hears before after) old new bytes out all r → AreAskingCalls comes old new out all before after
  taken_is old new bytes out all before after (Ok got) other h t = then_is old new bytes got out all before after (Ok tt) tt h t
  taken_is old new bytes out all before after (Err (take_fault.Refused f)) other h t =
      ([], [], receiving_is comes old new bytes (Err f) h t.0, t.1 ∙ sym (append-nil out), t.2 ∙ sym (append-nil before))
  taken_is old new bytes out all before after (Err (take_fault.Unfinished got f)) other h t = then_is old new bytes got out all before after (Err f) other h t
