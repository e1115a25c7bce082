-- A line of the client is a run of it.
use Rattle.std.proofs.Common.{◌≡◌, ◌≢◌, ℕ, ◌+◌, ◌-◌, ◌≤◌, arith, refl, sym, ◌∙◌, subst, ap, append_assoc, Bool, true, false, List, [], ◌∷◌, ◌++◌, length, inl, inr}
use Rattle.std.specs.Prelude.{◌⊎◌, MatchBool, Option, Some, None, Result, Ok, Err, IfErr, codes, slice_get}
use Rattle.std.specs.List.{AllByRecursion, concat}
use Rattle.std.specs.Fmt.{decimal}
use Rattle.std.proofs.lemmas.List.{append-nil, map-append}
use Rattle.nsp_link.specs.declared.link.Got.{Got}
use Rattle.nsp_link.specs.declared.link.Got.TheVariants.{AckOnly}
use Rattle.nsp_link.specs.declared.fault.LinkFault.TheVariants as fault
use Rattle.nsp_link.specs.Link.{IsSpelling}
use Rattle.nsp_link.specs.Sending.{ack_packet_of}
use Rattle.dap_accessing.specs.Request.{Request}
use Rattle.dap_accessing.specs.declared.request.Request.TheVariants.{Fetch}
use Rattle.dap_accessing.specs.declared.report.Report.{Report}
use Rattle.dap_accessing.specs.declared.fault.AskFault.{AskFault}
use Rattle.dap_accessing.specs.declared.fault.AskFault.TheVariants as asking_fault
use Rattle.dap_accessing.specs.declared.fault.ReadFault.TheVariants as read
use Rattle.dap_end.specs.declared.fault.EndFault.{EndFault}
use Rattle.dap_end.specs.declared.fault.EndFault.TheVariants as end
use Rattle.dap_end.specs.declared.fault.TakeFault.{TakeFault}
use Rattle.dap_end.specs.declared.fault.TakeFault.TheVariants as take
use Rattle.dap_end.specs.Asking.{AskedOne, HasAsked}
use Rattle.dap_end.specs.Calls.{AskingRuns, IsOneOf}
use Rattle.dap_end.specs.Done.{AskingValue, nothing_asked}
use Rattle.dap_end.specs.Headline.{Arrival, WrittenPacket, written_bytes}
use Rattle.dap_end.specs.Hearing.{hears}
use Rattle.dap_end.specs.Joined.{IsBrought}
use Rattle.dap_end.specs.Ports.{new_port}
use Rattle.dap_end.specs.Turns.{TakesPacket, WritesReplies}
use Rattle.dap_end.specs.Wanting.{why}
use Rattle.dap_end.specs.Writing.{AreSegments}
use Rattle.dap_end.proofs.ForCallers.{asking_acks, asking_again, asking_goes_on, asking_is, asking_takes, more_asked}
use Rattle.dap_network.specs.Network.{Network, Peer}
use Rattle.dap_network.proofs.ForCallers.{peer_leads}
use Rattle.linewise.specs.declared.talking.Became.{Became}
use Rattle.linewise.specs.declared.talking.Became.TheVariants.{Done, NoMemory}
use Rattle.linewise.specs.Talks.{AnswersLine, ending_of, said_of}
use Rattle.texts.specs.Text.{line_feed}
use Rattle.dap_live.specs.declared.asking.Asking.{Asking}
use Rattle.dap_live.specs.declared.asking.Came.{Came}
use Rattle.dap_live.specs.declared.asking.Came.TheVariants.{Told, Untold}
use Rattle.dap_live.specs.declared.ask_orders.AskOrder.{AskOrder}
use Rattle.dap_live.specs.declared.ask_orders.AskOrder.TheVariants as order
use Rattle.dap_live.specs.declared.orders.Between.{Between}
use Rattle.dap_live.specs.Asking.{AnswersAsk, AskingDoes, AsksNot, ClientGoesOn, DoesAskOrder, Ends, HearsPacket, Resends, TellsAlone, answered, has_more, waiting}
use Rattle.dap_live.specs.AskOrders.{ask_order_of}
use Rattle.dap_live.specs.Both.{LeavesEnd}
use Rattle.dap_live.specs.Each.{told_text}
use Rattle.dap_live.specs.Sending.{AllAgain}
use Rattle.dap_live.specs.Texts.{ask_refusal, done_said, link_refusal, packet_text, packets_text}
use Rattle.dap_transcripts.specs.AskLines.{AskLineHappened, AskLineRuns, HasFailed, IsArrivalOfLine, IsAskPacket}
use Rattle.dap_transcripts.specs.Programs.{ClientLeads}
use Rattle.dap_transcripts.specs.Transcripts.{AreSome}
use Rattle.dap_transcripts.proofs.Lines.{done_speaks, none_wrote, taken_speaks}
use Rattle.dap_transcripts.proofs.Reporting.{speaks_told}
use Rattle.dap_transcripts.proofs.Speaking.{Speaks, no_feed_by, no_feed_decimal, speaks_all, speaks_before, speaks_both, speaks_ending, speaks_hex, speaks_link, speaks_none, speaks_packets, speaks_pieces}
use Rattle.dap_transcripts.proofs.Talking.{some_self}

-- ---- Runs without a packet that came.

-- A run in which no packet came. The packet lines of the text are the packets that were written, and the reports wait
-- after those before.
record Did (old new : Asking) (text : List ℕ) : Type 0 where
  requests : List Request
  reports : List Report
  wrote : List WrittenPacket
  runs : AskingRuns [] requests old.end new.end reports wrote
  speaks : Speaks text (written_bytes wrote)
  waits : new.reports.items ≡ old.reports.items ++ reports

none_ran : (v : AskingValue) → AskingRuns [] [] v v [] []
none_ran v = ([], refl, refl)

did_none : (old new : Asking) (text : List ℕ) → Speaks text [] → new ≡ old → Did old new text
did_none old new text quiet e =
    record {
      requests = [];
      reports = [];
      wrote = [];
      runs = subst (λ (v : AskingValue). AskingRuns [] [] old.end v [] []) (sym (ap (λ (a : Asking). a.end) e)) (none_ran old.end);
      speaks = quiet;
      waits = ap (λ (a : Asking). a.reports.items) e ∙ sym (append-nil old.reports.items);
    }

did_then : (old mid new : Asking) (one two : List ℕ) → Did old mid one → Did mid new two → Did old new (one ++ two)
did_then old mid new one two a b =
    record {
      requests = a.requests ++ b.requests;
      reports = a.reports ++ b.reports;
      wrote = a.wrote ++ b.wrote;
      runs = more_asked [] [] a.requests b.requests old.end mid.end new.end a.reports b.reports a.wrote b.wrote a.runs b.runs;
      speaks = subst (Speaks (one ++ two)) (sym (map-append (λ (w : WrittenPacket). w.bytes) a.wrote b.wrote)) (speaks_both one two (written_bytes a.wrote) (written_bytes b.wrote) a.speaks b.speaks);
      waits = b.waits ∙ ap (λ (l : List Report). l ++ b.reports) a.waits ∙ append_assoc old.reports.items a.reports b.reports;
    }

-- packets were written again, and nothing changed
did_again : (old : Asking) (text : List ℕ) (wrote : List WrittenPacket) → AskingRuns [] [] old.end old.end [] wrote → Speaks text (written_bytes wrote) → Did old old text
did_again old text wrote r s = record { requests = []; reports = []; wrote = wrote; runs = r; speaks = s; waits = sym (append-nil old.reports.items) }

-- ---- An unexpected answer.

-- All was done, or no answer was unexpected; or the client has failed.
expected_or : (old new : AskingValue) (got : Got) (before after : List Report) (packets : List (List ℕ)) (r : Result (Unit {0}) EndFault) → WritesReplies (hears before after) old new got [] packets r
    → IfErr r (λ f. f ≢ end.Read read.Unexpected) ⊎ (new.present.failed ≡ true)
expected_or old new got before after packets (Ok done) w = inl tt
expected_or old new got before after packets (Err (end.Link f)) w = inl (λ same. cc same)
expected_or old new got before after packets (Err (end.Read read.Failed)) w = inl (λ same. cc same)
expected_or old new got before after packets (Err (end.Read read.NoMemory)) w = inl (λ same. cc same)
expected_or old new got before after packets (Err (end.Read read.Unexpected)) (inl h) = inr h.0.2.refused.1
expected_or old new got before after packets (Err (end.Read read.Unexpected)) (inr h) = absurd (let e = h.0 in let none : ⊥ = cc in none)

taken_or : (old new : AskingValue) (bytes : List ℕ) (before after : List Report) (packets : List (List ℕ)) (r : Result Got TakeFault) → TakesPacket (hears before after) old new bytes [] packets r
    → IfErr r (λ f. why f ≢ end.Read read.Unexpected) ⊎ (new.present.failed ≡ true)
taken_or old new bytes before after packets (Ok got) t = inl tt
taken_or old new bytes before after packets (Err (take.Refused f)) t = inl (λ same. cc same)
taken_or old new bytes before after packets (Err (take.Unfinished got f)) t = expected_or t.0 new got before after packets (Err f) t.2

-- ---- Going on.

-- the client went on, or has failed
goes_on : (old new : Asking) (front text : List ℕ) (came : Came) → ClientGoesOn old front new text came → (more : List ℕ) × (text ≡ front ++ more) × (Did old new more ⊎ HasFailed new)
goes_on old new front text came g =
    let more = (done_said (told_text new) g.packets g.gone).0 in
    let says : Speaks more g.packets = done_speaks (told_text new) g.packets g.gone (speaks_told new) in (
      more,
      g.says,
      elim (expected_or old.end new.end AckOnly old.reports.items new.reports.items g.packets g.gone g.went) [
        | inl other ↦
            let r = asking_goes_on (IsOneOf []) old.end new.end [] g.packets old.reports.items new.reports.items g.gone other g.went in
            inl (record { requests = []; reports = r.0; wrote = r.1; runs = r.2; speaks = subst (Speaks more) r.3 says; waits = r.4 })
        | inr bad ↦ inr bad
      ],
    )

-- after something else
did_and : (old mid new : Asking) (front text : List ℕ) (came : Came) → Did old mid front → ClientGoesOn mid front new text came → Did old new text ⊎ HasFailed new
did_and old mid new front text came a g =
    let t = goes_on mid new front text came g in
    elim t.2 [
      | inl d ↦ inl (subst (Did old new) (sym t.1) (did_then old mid new front t.0 a d))
      | inr bad ↦ inr bad
    ]

-- ---- Every order.

-- What an order did is a run, in which its packet came, or none; or the client begins anew, or has failed.
record AskDid (o : AskOrder) (old new : Asking) (text : List ℕ) : Type 0 where
  came : List Arrival
  requests : List Request
  reports : List Report
  wrote : List WrittenPacket
  runs : AskingRuns came requests old.end new.end reports wrote
  heard : (came ≡ []) ⊎ ((bytes : List ℕ) × (o ≡ order.Packet bytes) × (came ≡ (old.end.port.link, bytes) ∷ []))
  speaks : Speaks text (written_bytes wrote)
  waits : new.reports.items ≡ old.reports.items ++ reports

-- a new end
abbrev IsAnew : Asking → Type 0
IsAnew new = HasAsked nothing_asked new.end × (new.end.port ≡ new_port new.setup)

abbrev AskedSo : AskOrder → Asking → Asking → List ℕ → Type 0
AskedSo o old new text = AskDid o old new text ⊎ ((IsAnew new × Speaks text []) ⊎ HasFailed new)

by_run : (o : AskOrder) (old new : Asking) (text : List ℕ) → Did old new text → AskedSo o old new text
by_run o old new text d = inl (record { came = []; requests = d.requests; reports = d.reports; wrote = d.wrote; runs = d.runs; heard = inl refl; speaks = d.speaks; waits = d.waits })

by_either : (o : AskOrder) (old new : Asking) (text : List ℕ) → Did old new text ⊎ HasFailed new → AskedSo o old new text
by_either o old new text (inl d) = by_run o old new text d
by_either o old new text (inr bad) = inr (inr bad)

stays : (o : AskOrder) (old new : Asking) (text : List ℕ) → Speaks text [] → new ≡ old → AskedSo o old new text
stays o old new text quiet e = by_run o old new text (did_none old new text quiet e)

hears_line : (old new : Asking) (bytes text : List ℕ) (came : Came) → HearsPacket old bytes new text came → AskedSo (order.Packet bytes) old new text
hears_line old new bytes text came h =
    let client = hears old.reports.items new.reports.items in
    let says : Speaks text h.packets =
    subst (λ (l : List ℕ). Speaks l h.packets) (sym h.says) (taken_speaks h.taken (told_text new) h.packets (speaks_told new) (none_wrote client old.end new.end bytes h.packets h.taken h.took)) in
    elim (taken_or old.end new.end bytes old.reports.items new.reports.items h.packets h.taken h.took) [
      | inl other ↦
          let r = asking_takes (IsOneOf ((old.end.port.link, bytes) ∷ [])) old.end new.end bytes [] h.packets old.reports.items new.reports.items h.taken other (inl refl) h.took in
          inl
          (record {
            came = (old.end.port.link, bytes) ∷ [];
            requests = [];
            reports = r.0;
            wrote = r.1;
            runs = r.2;
            heard = inr (bytes, refl, refl);
            speaks = subst (Speaks text) r.3 says;
            waits = r.4;
          })
      | inr bad ↦ inr (inr bad)
    ]

-- each segment from an index on, again
again_from : (v : AskingValue) (i : ℕ) (packets : List (List ℕ)) → AreSegments v.port.link (v.port.link.acked + 1 + i) packets → i + length packets ≤ v.port.link.sent - v.port.link.acked
    → (wrote : List WrittenPacket) × AskingRuns [] [] v v [] wrote × (packets ≡ written_bytes wrote)
again_from v i [] h lt = ([], none_ran v, refl)
again_from v i (bytes ∷ packets) h lt =
    let w : WrittenPacket = record { bytes = bytes; segment = Some (v.port.link.acked + 1 + i); acks = v.port.link.coming.received } in
    let one = asking_again (IsOneOf []) v i bytes (omega (arith, lt)) h.0 in
    let rest = again_from v (i + 1) packets (subst (λ (k : ℕ). AreSegments v.port.link k packets) (let e : (v.port.link.acked + 1 + i) + 1 ≡ v.port.link.acked + 1 + (i + 1) = omega arith in e) h.1) (omega (arith, lt)) in
    (w ∷ rest.0, more_asked [] [] [] [] v v v [] [] (w ∷ []) rest.0 one rest.1, ap (λ (l : List (List ℕ)). bytes ∷ l) rest.2)

all_again : (old : Asking) (packets : List (List ℕ)) → AllAgain old.end.port.link packets → Did old old (packets_text packets)
all_again old packets a =
    let v = old.end in
    let t = again_from v 0 packets (subst (λ (k : ℕ). AreSegments v.port.link k packets) (let e : v.port.link.acked + 1 ≡ v.port.link.acked + 1 + 0 = omega arith in e) a.0) (let n = a.1 in omega (arith, n)) in
    did_again old (packets_text packets) t.0 t.1 (subst (Speaks (packets_text packets)) t.2 (speaks_packets packets))

resends_by : (old new : Asking) (packets : List (List ℕ)) (text : List ℕ) (came : Came) (more : Bool) → AllAgain old.end.port.link packets
    → MatchBool more (ClientGoesOn old (packets_text packets) new text came) (TellsAlone old (packets_text packets) new text came) → AskedSo order.Resend old new text
resends_by old new packets text came true a g = by_either order.Resend old new text (did_and old old new (packets_text packets) text came (all_again old packets a) g)
resends_by old new packets text came false a (same, is, came_is) =
    by_run order.Resend old new text
    (subst (λ (n : Asking). Did old n text) (sym same)
    (subst (Did old old) (sym is) (did_then old old old (packets_text packets) (told_text old) (all_again old packets a) (did_none old old (told_text old) (speaks_told old) refl))))

resends : (old new : Asking) (text : List ℕ) (came : Came) (failing : Bool) → MatchBool failing (LeavesEnd (Untold Done) old new came × (text ≡ (link_refusal fault.Failed).0)) (Resends old new text came) → AskedSo order.Resend old new text
resends old new text came true h = stays order.Resend old new text (subst (λ (t : List ℕ). Speaks t []) (sym h.1) (speaks_link fault.Failed)) h.0.0
resends old new text came false (packets, a, g) = resends_by old new packets text came (has_more old.end) a g

acks : (old new : Asking) (text : List ℕ) (came : Came) (failing : Bool) → LeavesEnd (Untold Done) old new came
    → MatchBool failing (Unit {0} × (text ≡ (link_refusal fault.Failed).0)) ((bytes : List ℕ) × IsSpelling (ack_packet_of old.end.port.link) bytes × (text ≡ packet_text bytes)) → AskedSo order.Ack old new text
acks old new text came true l h = stays order.Ack old new text (subst (λ (t : List ℕ). Speaks t []) (sym h.1) (speaks_link fault.Failed)) l.0
acks old new text came false l (bytes, s, is) =
    by_run order.Ack old new text
    (subst (λ (n : Asking). Did old n text) (sym l.0) (subst (Did old old) (sym is) (did_again old (packet_text bytes) _ (asking_acks (IsOneOf []) old.end bytes s) (speaks_hex bytes))))

speaks_ask_refusal : (f : AskFault) → Speaks (ask_refusal f).0 []
speaks_ask_refusal asking_fault.Failed = λ rest. refl
speaks_ask_refusal asking_fault.Busy = λ rest. refl
speaks_ask_refusal asking_fault.WrongPhase = λ rest. refl
speaks_ask_refusal asking_fault.TooLarge = λ rest. refl
speaks_ask_refusal asking_fault.NoMemory = speaks_none

asks_not : (o : AskOrder) (old new : Asking) (text : List ℕ) (came : Came) (f : AskFault) → AsksNot old new text came f → AskedSo o old new text
asks_not o old new text came asking_fault.Busy g =
    by_either o old new text (did_and old old new (ask_refusal asking_fault.Busy).0 text came (did_none old old (ask_refusal asking_fault.Busy).0 (speaks_ask_refusal asking_fault.Busy) refl) g)
asks_not o old new text came asking_fault.Failed h = stays o old new text (subst (λ (t : List ℕ). Speaks t []) (sym h.1) (speaks_ask_refusal asking_fault.Failed)) h.0
asks_not o old new text came asking_fault.WrongPhase h = stays o old new text (subst (λ (t : List ℕ). Speaks t []) (sym h.1) (speaks_ask_refusal asking_fault.WrongPhase)) h.0
asks_not o old new text came asking_fault.TooLarge h = stays o old new text (subst (λ (t : List ℕ). Speaks t []) (sym h.1) (speaks_ask_refusal asking_fault.TooLarge)) h.0
asks_not o old new text came asking_fault.NoMemory h = stays o old new text (subst (λ (t : List ℕ). Speaks t []) (sym h.1) (speaks_ask_refusal asking_fault.NoMemory)) h.0

speaks_asked : (count : ℕ) → Speaks (concat (codes "asked " ∷ decimal count ∷ line_feed ∷ [])) []
speaks_asked count = speaks_pieces (codes "asked " ∷ decimal count ∷ []) (no_feed_by (codes "asked ") refl, (no_feed_decimal count, tt)) refl

-- the request was asked
did_ask : (old mid : Asking) (request : Request) (count : ℕ) → AskedOne request old.end mid.end count → mid.reports.items ≡ old.reports.items → Did old mid (concat (codes "asked " ∷ decimal count ∷ line_feed ∷ []))
did_ask old mid request count a same =
    record {
      requests = request ∷ [];
      reports = [];
      wrote = [];
      runs = asking_is (IsOneOf []) old.end mid.end request count a;
      speaks = speaks_asked count;
      waits = same ∙ sym (append-nil old.reports.items);
    }

asks : (o : AskOrder) (each : Bool) (old new : Asking) (request : Request) (text : List ℕ) (came : Came) → AnswersAsk each old request new text came → AskedSo o old new text
asks o each old new request text came (inl (count, mid, a, g)) = by_either o old new text (did_and old _ new _ text came (did_ask old _ request count a refl) g)
asks o each old new request text came (inr (f, why_not, n)) = asks_not o old new text came f n

asks_by : (o : AskOrder) (each : Bool) (old new : Asking) (request : Request) (text : List ℕ) (came : Came) (failing : Bool)
    → MatchBool failing (LeavesEnd (Untold Done) old new came × (text ≡ (link_refusal fault.Failed).0)) (AnswersAsk each old request new text came) → AskedSo o old new text
asks_by o each old new request text came true h = stays o old new text (subst (λ (t : List ℕ). Speaks t []) (sym h.1) (speaks_link fault.Failed)) h.0.0
asks_by o each old new request text came false h = asks o each old new request text came h

begins : (anew : Option Between) (old new : Asking) (text : List ℕ) (came : Came) → AskingDoes old (order.New anew) new text came → AskedSo (order.New anew) old new text
begins anew old new text came (inl h) =
    let n = h.0.1 in
    inr (inl ((n.asked, n.port ∙ ap new_port (sym n.is_setup)), subst (λ (t : List ℕ). Speaks t []) (sym h.1) speaks_none))
begins anew old new text came (inr h) = stays (order.New anew) old new text (subst (λ (t : List ℕ). Speaks t []) (sym h.3) (speaks_link h.0)) h.2

ask_did : (o : AskOrder) (old new : Asking) (text : List ℕ) (came : Came) → AskingDoes old o new text came → AskedSo o old new text
ask_did (order.Packet bytes) old new text came h = hears_line old new bytes text came h
ask_did order.Resend old new text came h = resends old new text came old.end.port.link.failed h
ask_did order.Ack old new text came h = acks old new text came old.end.port.link.failed h.0 h.1
ask_did (order.New anew) old new text came h = begins anew old new text came h
ask_did (order.Ask request) old new text came h = asks_by (order.Ask request) false old new request text came old.end.port.link.failed h
ask_did order.FetchEach old new text came h = asks_by order.FetchEach true old new Fetch text came old.end.port.link.failed h

-- ---- A line.

-- what waits to be reported is told, or still waits
ended_end : (came : Came) (mid new : Asking) (became : Became) → Ends came mid new became → (new.end ≡ mid.end) × (new.setup ≡ mid.setup) × ((told : List Report) × (told ++ new.reports.items ≡ mid.reports.items))
ended_end (Told was) mid new became h =
    (ap (λ (a : Asking). a.end) h.0.0, ap (λ (a : Asking). a.setup) h.0.0, (mid.reports.items, ap (λ (l : List Report). mid.reports.items ++ l) h.0.1 ∙ append-nil mid.reports.items))
ended_end (Untold was) mid new became h = (ap (λ (a : Asking). a.end) h.0, ap (λ (a : Asking). a.setup) h.0, ([], ap (λ (a : Asking). a.reports.items) h.0))

module _ (line : List ℕ) where
  heard_by : (o : AskOrder) (old : Asking) (came : List Arrival) → ask_order_of line ≡ Some o → (came ≡ []) ⊎ ((bytes : List ℕ) × (o ≡ order.Packet bytes) × (came ≡ (old.end.port.link, bytes) ∷ []))
      → (came ≡ []) ⊎ IsArrivalOfLine line old.end.port.link came
  heard_by o old came is (inl none) = inl none
  heard_by o old came is (inr h) = inr (h.0, is ∙ ap (λ (x : AskOrder). Some x) h.1, h.2)

  -- a run, after which some reports were told, and of whose packets these are told
  runs_line : (o : AskOrder) (old mid new : Asking) (text said : List ℕ) (became : Option Became) (packets : List (List ℕ)) → ask_order_of line ≡ Some o → (d : AskDid o old mid text) → new.end ≡ mid.end
      → ((told : List Report) × (told ++ new.reports.items ≡ mid.reports.items)) → Speaks said packets → AreSome packets (written_bytes d.wrote) → (became ≢ Some NoMemory → packets ≡ written_bytes d.wrote) → AskLineRuns line old new said became
  runs_line o old mid new text said became packets is d same tells speaks some all =
      record {
        came = d.came;
        requests = d.requests;
        reports = d.reports;
        wrote = d.wrote;
        runs = subst (λ (v : AskingValue). AskingRuns d.came d.requests old.end v d.reports d.wrote) (sym same) d.runs;
        heard = heard_by o old d.came is d.heard;
        packets = packets;
        said = speaks_all said packets speaks;
        are_some = some;
        are_all = all;
        waits = (tells.0, tells.1 ∙ d.waits);
      }

  -- an order was done, and answered with this text and an ending
  done_line : (o : AskOrder) (old mid new : Asking) (text said : List ℕ) (came : Came) (was : Became) (became : Option Became) → ask_order_of line ≡ Some o → AskedSo o old mid text → Ends came mid new was → ((ps : List (List ℕ)) → Speaks text ps → Speaks said ps)
      → AskLineHappened line old new said became
  done_line o old mid new text said came was became is (inl d) e f =
      let t = ended_end came mid new was e in
      inl (runs_line o old mid new text said became (written_bytes d.wrote) is d t.0 t.2 (f (written_bytes d.wrote) d.speaks) (some_self (written_bytes d.wrote)) (λ other. refl))
  done_line o old mid new text said came was became is (inr (inl a)) e f =
      let t = ended_end came mid new was e in
      inr (inl
      (subst (HasAsked nothing_asked) (sym t.0) a.0.0, ap (λ (v : AskingValue). v.port) t.0 ∙ a.0.1 ∙ ap new_port (sym t.1), speaks_all said [] (f [] a.1)))
  done_line o old mid new text said came was became is (inr (inr bad)) e f =
      let t = ended_end came mid new was e in inr (inr (ap (λ (v : AskingValue). v.present.failed) t.0 ∙ bad))

  -- an order was done, and memory was refused to its answer
  unsaid_line : (o : AskOrder) (old new : Asking) (text said : List ℕ) (became : Option Became) → ask_order_of line ≡ Some o → AskedSo o old new text → Speaks said [] → became ≡ Some NoMemory → AskLineHappened line old new said became
  unsaid_line o old new text said became is (inl d) s e = inl (runs_line o old new new text said became [] is d refl ([], refl) s tt (λ other. absurd (other e)))
  unsaid_line o old new text said became is (inr (inl a)) s e = inr (inl (a.0.0, a.0.1, speaks_all said [] s))
  unsaid_line o old new text said became is (inr (inr bad)) s e = inr (inr bad)

  -- nothing happened, and the answer says no packet
  quiet_line : (old new : Asking) (said : List ℕ) (became : Option Became) → Speaks said [] → new ≡ old → AskLineHappened line old new said became
  quiet_line old new said became s e =
      inl
      (record {
        came = [];
        requests = [];
        reports = [];
        wrote = [];
        runs = subst (λ (v : AskingValue). AskingRuns [] [] old.end v [] []) (sym (ap (λ (a : Asking). a.end) e)) (none_ran old.end);
        heard = inl refl;
        packets = [];
        said = speaks_all said [] s;
        are_some = tt;
        are_all = λ other. refl;
        waits = ([], ap (λ (a : Asking). a.reports.items) e ∙ sym (append-nil old.reports.items));
      })

  by_order : (o : Option AskOrder) (old new : Asking) (text said : List ℕ) (b : Became) → ask_order_of line ≡ o → DoesAskOrder old o new text b → ((ps : List (List ℕ)) → Speaks text ps → Speaks said ps) → AskLineHappened line old new said (Some b)
  by_order None old new text said b is h f = quiet_line old new said (Some b) (f [] (subst (λ (t : List ℕ). Speaks t []) (sym h.1) speaks_none)) h.0
  by_order (Some o) old new text said b is (inl (mid, came, does, e)) f = done_line o old mid new text said came b (Some b) is (ask_did o old mid text came does) e f
  by_order (Some o) old new text said b is (inr (inl same, none, w)) f = quiet_line old new said (Some b) (f [] (subst (λ (t : List ℕ). Speaks t []) (sym none) speaks_none)) same
  by_order (Some o) old new text said b is (inr (inr (t, came, does), none, w)) f =
      unsaid_line o old new t said (Some b) is (ask_did o old new t came does) (f [] (subst (λ (t : List ℕ). Speaks t []) (sym none) speaks_none)) (ap (λ (x : Became). Some x) w)

  pub text_happened : (old new : Asking) (text : List ℕ) (became : Became) → DoesAskOrder old (ask_order_of line) new text became → AskLineHappened line old new text (Some became)
  text_happened old new text became h = by_order (ask_order_of line) old new text text became refl h (λ ps s. s)

  pub by_line : (old new : Asking) (text said : List ℕ) (became : Option Became) → AnswersLine answered waiting old line new text became → said ≡ said_of text became (waiting new) → AskLineHappened line old new said became
  by_line old new text said None h e = quiet_line old new said None (subst (λ (l : List ℕ). Speaks l []) (sym e) speaks_none) h.2
  by_line old new text said (Some b) (inl h) e =
      quiet_line old new said (Some b)
      (subst (λ (l : List ℕ). Speaks l []) (sym (e ∙ ap (λ (t : List ℕ). t ++ ending_of b (waiting new)) h.2)) (speaks_ending b (waiting new))) h.1
  by_line old new text said (Some b) (inr h) e =
      by_order (ask_order_of line) old new text said b refl h.2
      (λ ps s. subst (λ (l : List ℕ). Speaks l ps) (sym e) (speaks_before text (ending_of b (waiting new)) ps s (speaks_ending b (waiting new))))

-- ---- Over a network.

brought : (line : List ℕ) (peer : Peer) (old : Asking) (came : List Arrival) → ((bytes : List ℕ) → IsAskPacket line bytes → IsBrought peer.from_node old.end.port.link bytes) → (came ≡ []) ⊎ IsArrivalOfLine line old.end.port.link came
    → AllByRecursion (λ c. IsBrought peer.from_node c.0 c.1) came
brought line peer old came brings (inl none) = subst (AllByRecursion (λ c. IsBrought peer.from_node c.0 c.1)) (sym none) tt
brought line peer old came brings (inr h) = subst (AllByRecursion (λ c. IsBrought peer.from_node c.0 c.1)) (sym h.2) (brings h.0 h.1, tt)

leads_by : (net : Network) (link : ℕ) (peer : Peer) (old new : Asking) (line text : List ℕ) (became : Became) → slice_get net.peers link ≡ Some (Some peer) → peer.client ≡ old.end
    → ((bytes : List ℕ) → IsAskPacket line bytes → IsBrought peer.from_node old.end.port.link bytes) → AskLineHappened line old new text (Some became) → ClientLeads net link peer text new
leads_by net link peer old new line text became there same brings (inl a) =
    inl (
      a.requests,
      a.reports,
      a.wrote,
      peer_leads link net peer new.end a.came a.requests a.reports a.wrote there (brought line peer old a.came brings a.heard) (subst (λ (v : AskingValue). AskingRuns a.came a.requests v new.end a.reports a.wrote) (sym same) a.runs),
      (a.packets, a.said, a.are_some),
    )
leads_by net link peer old new line text became there same brings (inr other) = inr other

pub client_leads : (net : Network) (link : ℕ) (peer : Peer) (old new : Asking) (line text : List ℕ) (became : Became) → slice_get net.peers link ≡ Some (Some peer) → peer.client ≡ old.end
    → ((bytes : List ℕ) → IsAskPacket line bytes → IsBrought peer.from_node old.end.port.link bytes) → answered old (Some line) new text became → ClientLeads net link peer text new
client_leads net link peer old new line text became there same brings a = leads_by net link peer old new line text became there same brings (text_happened line old new text became a)
