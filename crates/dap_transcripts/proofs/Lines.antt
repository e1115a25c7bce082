-- What a line does to the node of a server is what happens to it.
use Rattle.std.proofs.Common.{◌≡◌, ℕ, ◌+◌, ◌<◌, ◌≤◌, arith, refl, sym, ◌∙◌, subst, ap, Bool, true, false, List, [], ◌∷◌, ◌++◌, length, inl, inr}
use Rattle.std.specs.Prelude.{◌⊎◌, ◌-◌, IfSome, MatchBool, MatchOption, MatchResult, Option, Some, None, Result, Ok, Err}
use Rattle.std.specs.List.{position}
use Rattle.std.proofs.lemmas.List.{map-append}
use Rattle.dap_accessed.specs.declared.asked.Asked.{Asked}
use Rattle.dap_accessed.specs.Asked.{IsAsked}
use Rattle.rec_file.specs.declared.picks.Rights.{Rights}
use Rattle.dap_accessed.specs.declared.setup.Names.{Names}
use Rattle.dap_accessed.specs.Standing.{Files}
use Rattle.dap_accessed.specs.Naming.{index_by}
use Rattle.dap_accessed.proofs.ForCallers.{a_file_made_fully, index-within}
use Rattle.nsp_link.specs.declared.link.Got.{Got}
use Rattle.nsp_link.specs.declared.link.LinkSetup.{LinkSetup}
use Rattle.nsp_link.specs.declared.fault.LinkFault.{LinkFault}
use Rattle.nsp_link.specs.declared.fault.LinkFault.TheVariants as fault
use Rattle.dap_end.specs.declared.fault.EndFault.{EndFault}
use Rattle.dap_end.specs.declared.fault.TakeFault.{TakeFault}
use Rattle.dap_end.specs.declared.fault.TakeFault.TheVariants as take
use Rattle.dap_end.specs.Headline.{WrittenPacket, written_bytes}
use Rattle.dap_end.specs.Node.{HasPort, NodeValue, has_local, is_free_link, serves_on}
use Rattle.nsp_link.specs.Link.{IsSpelling}
use Rattle.nsp_link.specs.Sending.{ack_packet_of}
use Rattle.dap_accessed.specs.Setup.{all_rights}
use Rattle.dap_text.specs.declared.fault.FileFault.{FileFault}
use Rattle.dap_text.specs.declared.fault.FileFault.TheVariants as file_fault
use Rattle.dap_text.specs.declared.filed.FileLine.{FileLine}
use Rattle.dap_text.specs.declared.filed.RecordLine.{RecordLine}
use Rattle.dap_text.specs.Kept.{LineAsks, line_attributes}
use Rattle.dap_live.specs.Orders.{most_beside, setup_beside}
use Rattle.dap_end.specs.Ports.{EndValue, PortValue}
use Rattle.dap_end.specs.Writing.{AreSegments}
use Rattle.dap_network.specs.Happening.{GotFile, GotRecord, HappensOn, GotLink, LostLink, LostFile, NodeEvent, NodeRuns, NodeStepped, all_came, all_written}
use Rattle.dap_network.proofs.ForCallers.{ack_happens, again_happens, runs_join, take_happens, went_happens, all_came_more, all_written_more}
use Rattle.linewise.specs.declared.talking.Became.{Became}
use Rattle.linewise.specs.declared.talking.Became.TheVariants.{Done}
use Rattle.dap_live.specs.declared.node.Node.{Node}
use Rattle.dap_live.specs.declared.node_orders.NodeOrder.{NodeOrder}
use Rattle.dap_live.specs.declared.node_orders.NodeOrder.TheVariants as order
use Rattle.dap_live.specs.declared.orders.Between.{Between}
use Rattle.dap_live.specs.Both.{LeavesEnd}
use Rattle.dap_live.specs.Node.{AddsAsked, AddsLink, AddsRecordTo, BeginsOn, NoLink, DropsFile, GoesOnWith, NodeDoes, OnMeant, RefusesLink, RenewsOn, ResendsOn, Says, TakesOn, TakesPacketBy, about, is_work_left_at, meant, one_link}
use Rattle.dap_live.specs.Sending.{AllAgain}
use Rattle.dap_msg.specs.Codes.{reasons, stscode}
use Rattle.dap_text.specs.Answers.{got_text}
use Rattle.texts.specs.Text.{line_feed}
use Rattle.dap_end.specs.Turns.{EndOf, TakesPacket}
use Rattle.dap_transcripts.proofs.Speaking.{Speaks, speaks_add, speaks_after, speaks_before, speaks_both, speaks_end, speaks_files, speaks_got, speaks_hex, speaks_link, speaks_locked, speaks_no_links, speaks_none, speaks_packets, speaks_remove, speaks_status}
use Rattle.dap_live.specs.Texts.{LineAnswer, end_refusal, done_said, link_refusal, locked_text, packet_text, packets_text, taken_said}

-- nothing came, or the packet of this order
abbrev pub CameBy : NodeOrder → List (List ℕ) → Type 0
CameBy o came = (came ≡ []) ⊎ ((bytes : List ℕ) × (o ≡ order.Packet bytes) × (came ≡ bytes ∷ []))

-- What a line did: some events. What came is the packet of the line. The packet lines of the text are the packets that
-- were written.
pub record LineDid (o : NodeOrder) (old new : NodeValue) (text : List ℕ) : Type 0 where
  pub events : List NodeEvent
  pub runs : NodeRuns old events new
  pub came : CameBy o (all_came events)
  pub speaks : Speaks text (written_bytes (all_written events))

-- the same, where nothing came
record NoneCame (old new : NodeValue) (text : List ℕ) : Type 0 where
  events : List NodeEvent
  runs : NodeRuns old events new
  none : all_came events ≡ []
  speaks : Speaks text (written_bytes (all_written events))

by_none : (o : NodeOrder) (old new : NodeValue) (text : List ℕ) → NoneCame old new text → LineDid o old new text
by_none o old new text n = record { events = n.events; runs = n.runs; came = inl n.none; speaks = n.speaks }

-- nothing happened
nothing_came : (old new : NodeValue) (text : List ℕ) → Speaks text [] → new ≡ old → NoneCame old new text
nothing_came old new text quiet e = record { events = []; runs = e; none = refl; speaks = quiet }

-- what happened on a link where nothing came
on_link : (link : ℕ) (old new : NodeValue) (wrote : List WrittenPacket) (text : List ℕ) → HappensOn link old [] wrote new → Speaks text (written_bytes wrote) → NoneCame old new text
on_link link old new wrote text h says =
    record { events = h.0; runs = h.1; none = h.2.came_all; speaks = subst (λ (l : List WrittenPacket). Speaks text (written_bytes l)) (sym h.2.wrote_all) says }

-- one after another
then_none : (old mid new : NodeValue) (one two : List ℕ) → NoneCame old mid one → NoneCame mid new two → NoneCame old new (one ++ two)
then_none old mid new one two a b =
    record {
      events = a.events ++ b.events;
      runs = runs_join a.events b.events old mid new a.runs b.runs;
      none = all_came_more a.events b.events ∙ ap (λ (l : List (List ℕ)). l ++ all_came b.events) a.none ∙ b.none;
      speaks = subst (λ (l : List WrittenPacket). Speaks (one ++ two) (written_bytes l)) (sym (all_written_more a.events b.events))
          (subst (Speaks (one ++ two)) (sym (map-append (λ (w : WrittenPacket). w.bytes) (all_written a.events) (all_written b.events)))
          (speaks_both one two (written_bytes (all_written a.events)) (written_bytes (all_written b.events)) a.speaks b.speaks));
    }

module _ (o : NodeOrder) where
  nothing : (old new : NodeValue) (text : List ℕ) → Speaks text [] → new ≡ old → LineDid o old new text
  nothing old new text quiet e = by_none o old new text (nothing_came old new text quiet e)

  -- one event in which no packet came or was written
  one_event : (old new : NodeValue) (text : List ℕ) (event : NodeEvent) → Speaks text [] → NodeStepped old event new → all_came (event ∷ []) ≡ [] → all_written (event ∷ []) ≡ [] → LineDid o old new text
  one_event old new text event quiet s came wrote =
      record {
        events = event ∷ [];
        runs = (new, s, refl);
        came = inl came;
        speaks = subst (λ (l : List WrittenPacket). Speaks text (written_bytes l)) (sym wrote) quiet;
      }

-- ---- A packet.

-- what is told beside them says no packet
pub done_speaks : (told : List ℕ) (packets : List (List ℕ)) (r : Result (Unit {0}) EndFault) → Speaks told [] → Speaks (done_said told packets r).0 packets
done_speaks told packets (Ok u) quiet = speaks_after told (packets_text packets) packets quiet (speaks_packets packets)
done_speaks told packets (Err f) quiet =
    speaks_after told (packets_text packets ++ (end_refusal f).0) packets quiet (speaks_before (packets_text packets) (end_refusal f).0 packets (speaks_packets packets) (speaks_end f))

-- of a packet that is refused none is written
abbrev pub Wrote : Result Got TakeFault → List (List ℕ) → Type 0
Wrote (Err (take.Refused f)) packets = packets ≡ []
Wrote r packets = Unit {0}

pub taken_speaks : (r : Result Got TakeFault) (told : List ℕ) (packets : List (List ℕ)) → Speaks told [] → Wrote r packets → Speaks (taken_said r told packets).0 packets
taken_speaks (Ok got) told packets quiet w = speaks_after (got_text got ++ line_feed) (done_said told packets (Ok tt)).0 packets (speaks_got got) (done_speaks told packets (Ok tt) quiet)
taken_speaks (Err (take.Refused f)) told packets quiet w = subst (Speaks (link_refusal f).0) (sym w) (speaks_link f)
taken_speaks (Err (take.Unfinished got f)) told packets quiet w = speaks_after (got_text got ++ line_feed) (done_said told packets (Err f)).0 packets (speaks_got got) (done_speaks told packets (Err f) quiet)

pub none_wrote : {P : Type 0} (end : EndOf P) (a b : EndValue P) (bytes : List ℕ) (packets : List (List ℕ)) (r : Result Got TakeFault) → TakesPacket end a b bytes [] packets r → Wrote r packets
none_wrote end a b bytes packets (Ok got) t = tt
none_wrote end a b bytes packets (Err (take.Refused f)) t = t.1
none_wrote end a b bytes packets (Err (take.Unfinished got f)) t = tt

takes_line : (link : ℕ) (old new : Node) (bytes text : List ℕ) (became : Became) → TakesOn link old bytes new text became → LineDid (order.Packet bytes) old.node new.node text
takes_line link old new bytes text became x =
    let t = take_happens link old.most_waiting old.node new.node bytes [] x.packets x.taken x.took in
    let h = t.1 in
    let says : Speaks text x.packets = subst (λ (l : List ℕ). Speaks l x.packets) (sym x.says) (taken_speaks x.taken (locked_text new.node.noted.locked) x.packets (speaks_locked new.node.noted.locked) (none_wrote (serves_on link old.most_waiting) _ _ bytes x.packets x.taken x.took.does)) in
    record {
      events = h.0;
      runs = h.1;
      came = inr (bytes, refl, h.2.came_all);
      speaks = subst (λ (l : List WrittenPacket). Speaks text (written_bytes l)) (sym h.2.wrote_all) (subst (Speaks text) t.2 says);
    }

refuses_line : (o : NodeOrder) (f : LinkFault) (old new : Node) (text : List ℕ) (became : Became) → RefusesLink f old new text became → LineDid o old.node new.node text
refuses_line o f old new text became r = nothing o old.node new.node text (subst (λ (l : List ℕ). Speaks l []) (sym r.1) (speaks_link f)) (ap (λ (n : Node). n.node) r.0)

found_line : (found : Result ℕ LinkFault) (old new : Node) (bytes text : List ℕ) (became : Became) → MatchResult found (λ link. TakesOn link old bytes new text became) (λ f. RefusesLink f old new text became) → LineDid (order.Packet bytes) old.node new.node text
found_line (Ok link) old new bytes text became h = takes_line link old new bytes text became h
found_line (Err f) old new bytes text became h = refuses_line (order.Packet bytes) f old new text became h

packet_by : (one : Option ℕ) (old new : Node) (bytes text : List ℕ) (became : Became) → MatchOption one (TakesPacketBy old bytes new text became) (λ link. TakesOn link old bytes new text became) → LineDid (order.Packet bytes) old.node new.node text
packet_by None old new bytes text became h = found_line h.0 old new bytes text became h.2
packet_by (Some link) old new bytes text became h = takes_line link old new bytes text became h

-- ---- Segments again, and acknowledgements.

goes_line : (link : ℕ) (old new : Node) (front text : List ℕ) (became : Became) → GoesOnWith link old front new text became → (more : List ℕ) × (text ≡ front ++ more) × NoneCame old.node new.node more
goes_line link old new front text became g =
    let more = (done_said (locked_text new.node.noted.locked) g.packets g.gone).0 in
    let t = went_happens link old.most_waiting old.node new.node [] g.packets g.gone g.went in
    (more, g.says, on_link link old.node new.node t.0 more t.1 (subst (Speaks more) t.2 (done_speaks (locked_text new.node.noted.locked) g.packets g.gone (speaks_locked new.node.noted.locked))))

-- each segment from an index on
again_from : (link : ℕ) (node : NodeValue) (p : PortValue) (i : ℕ) (packets : List (List ℕ)) → HasPort link node p → AreSegments p.link (p.link.acked + 1 + i) packets → i + length packets ≤ p.link.sent - p.link.acked → NoneCame node node (packets_text packets)
again_from link node p i [] at h lt = nothing_came node node [] speaks_none refl
again_from link node p i (bytes ∷ packets) at h lt =
    let one = again_happens link node p at i bytes (omega (arith, lt)) h.0 in
    let rest = again_from link node p (i + 1) packets at (subst (λ (k : ℕ). AreSegments p.link k packets) (let e : (p.link.acked + 1 + i) + 1 ≡ p.link.acked + 1 + (i + 1) = omega arith in e) h.1) (omega (arith, lt)) in
    then_none node node node (packet_text bytes) (packets_text packets) (on_link link node node _ (packet_text bytes) one (speaks_hex bytes)) rest

resends_by : (o : NodeOrder) (link : ℕ) (p : PortValue) (old new : Node) (packets : List (List ℕ)) (text : List ℕ) (became : Became) (left : Bool) → HasPort link old.node p → AllAgain p.link packets
    → MatchBool left (GoesOnWith link old (packets_text packets) new text became) (Says (packets_text packets, Done) (about link old) new text became) → LineDid o old.node new.node text
resends_by o link p old new packets text became true at a g =
    let again = again_from link old.node p 0 packets at (subst (λ (k : ℕ). AreSegments p.link k packets) (let e : p.link.acked + 1 ≡ p.link.acked + 1 + 0 = omega arith in e) a.0) (let n = a.1 in omega (arith, n)) in
    let more = goes_line link old new (packets_text packets) text became g in
    by_none o old.node new.node text (subst (NoneCame old.node new.node) (sym more.1) (then_none old.node old.node new.node (packets_text packets) more.0 again more.2))
resends_by o link p old new packets text became false at a g =
    let again = again_from link old.node p 0 packets at (subst (λ (k : ℕ). AreSegments p.link k packets) (let e : p.link.acked + 1 ≡ p.link.acked + 1 + 0 = omega arith in e) a.0) (let n = a.1 in omega (arith, n)) in
    by_none o old.node new.node text (subst (λ (v : NodeValue). NoneCame old.node v text) (sym (ap (λ (n : Node). n.node) g.0)) (subst (NoneCame old.node old.node) (sym g.1) again))

failed_line : (o : NodeOrder) (link : ℕ) (old new : Node) (text : List ℕ) (became : Became) → LeavesEnd Done (about link old) new became → text ≡ (link_refusal fault.Failed).0 → LineDid o old.node new.node text
failed_line o link old new text became l e = nothing o old.node new.node text (subst (λ (t : List ℕ). Speaks t []) (sym e) (speaks_link fault.Failed)) (ap (λ (n : Node). n.node) l.0)

resend_by : (o : NodeOrder) (link : ℕ) (p : PortValue) (old new : Node) (text : List ℕ) (became : Became) (failed : Bool) → HasPort link old.node p → MatchBool failed (LeavesEnd Done (about link old) new became × (text ≡ (link_refusal fault.Failed).0)) (ResendsOn link p old new text became) → LineDid o old.node new.node text
resend_by o link p old new text became true at h = failed_line o link old new text became h.0 h.1
resend_by o link p old new text became false at h = resends_by o link p old new h.0 text became (is_work_left_at old.most_waiting p) at h.1 h.2

ack_by : (o : NodeOrder) (link : ℕ) (p : PortValue) (old new : Node) (text : List ℕ) (became : Became) (failed : Bool) → HasPort link old.node p → LeavesEnd Done (about link old) new became
    → MatchBool failed (Unit {0} × (text ≡ (link_refusal fault.Failed).0)) ((bytes : List ℕ) × IsSpelling (ack_packet_of p.link) bytes × (text ≡ packet_text bytes)) → LineDid o old.node new.node text
ack_by o link p old new text became true at l h = failed_line o link old new text became l h.1
ack_by o link p old new text became false at l h =
    let one = on_link link old.node old.node _ (packet_text h.0) (ack_happens link old.node p at h.0 h.1) (speaks_hex h.0) in
    by_none o old.node new.node text (subst (λ (v : NodeValue). NoneCame old.node v text) (sym (ap (λ (n : Node). n.node) l.0)) (subst (NoneCame old.node old.node) (sym h.2) one))

meant_by : (o : NodeOrder) (link : Option ℕ) (Does : ℕ → Type 0) (old new : Node) (text : List ℕ) (became : Became) → OnMeant link Does old new text became → ((i : ℕ) → Does i → LineDid o old.node new.node text) → LineDid o old.node new.node text
meant_by o None Does old new text became h f = refuses_line o fault.WrongLink old new text became h
meant_by o (Some link) Does old new text became h f = f link h

-- ---- Links that begin and end.

begins_line : (o : NodeOrder) (link : ℕ) (setup : LinkSetup) (most : Rights) (old new : Node) (text : List ℕ) (became : Became) → BeginsOn link setup most old new text became → LineDid o old.node new.node text
begins_line o link setup most old new text became (inl h) = one_event o old.node new.node text (GotLink link setup most) (subst (λ (t : List ℕ). Speaks t []) (sym h.1) speaks_none) (h.0.is_setup, h.0.began) refl refl
begins_line o link setup most old new text became (inr h) = refuses_line o h.0 old new text became h.2

pub no_link_quiet : (setup : LinkSetup) (said : LineAnswer) → NoLink setup said → Speaks said.0 []
no_link_quiet setup said (inl h) = subst (λ (a : LineAnswer). Speaks a.0 []) (sym h.1) (speaks_link fault.BadSetup)
no_link_quiet setup said (inr h) = subst (λ (a : LineAnswer). Speaks a.0 []) (sym h.1) speaks_no_links

adds_by : (o : NodeOrder) (free : Option ℕ) (setup : LinkSetup) (most : Rights) (old new : Node) (text : List ℕ) (became : Became)
    → MatchOption free ((said : LineAnswer) × NoLink setup said × Says said old new text became) (λ link. BeginsOn link setup most old new text became) → LineDid o old.node new.node text
adds_by o None setup most old new text became h = nothing o old.node new.node text (subst (λ (t : List ℕ). Speaks t []) (sym h.2.1) (no_link_quiet setup h.0 h.1)) (ap (λ (n : Node). n.node) h.2.0)
adds_by o (Some link) setup most old new text became h = begins_line o link setup most old new text became h

renews_line : (o : NodeOrder) (link : ℕ) (anew : Option Between) (old new : Node) (text : List ℕ) (became : Became) → RenewsOn link anew old new text became → LineDid o old.node new.node text
renews_line o link anew old new text became h = begins_line o link _ _ (about link old) new text became h.2

new_by : (o : NodeOrder) (there : Option ℕ) (b : Between) (old new : Node) (text : List ℕ) (became : Became)
    → MatchOption there (AddsLink (setup_beside old.usual b) (most_beside all_rights b) old new text became) (λ link. RenewsOn link (Some b) old new text became) → LineDid o old.node new.node text
new_by o None b old new text became h = adds_by o (position is_free_link old.node.ports) (setup_beside old.usual b) (most_beside all_rights b) old new text became h
new_by o (Some link) b old new text became h = renews_line o link (Some b) old new text became h

-- ---- Files.

-- what is asked for may be made
pub good_asked : (file : FileLine) (asked : Asked) → LineAsks file (Ok asked) → IsAsked asked
good_asked file asked h = a_file_made_fully (line_attributes file asked.look) (Some asked) (sym h.1)

file_by : (o : NodeOrder) (file : FileLine) (asks : Result Asked FileFault) (old new : Node) (text : List ℕ) (became : Became) → LineAsks file asks
    → AddsAsked old file.name asks new text became → LineDid o old.node new.node text
file_by o file (Ok asked) old new text became asks (inl h) =
    one_event o old.node new.node text (GotFile file.name asked) (subst (λ (t : List ℕ). Speaks t []) (sym h.1) speaks_none) (good_asked file asked asks, h.0.first, h.0.given.given, h.0.given.ports) refl refl
file_by o file (Ok asked) old new text became asks (inr h) = nothing o old.node new.node text (subst (λ (t : List ℕ). Speaks t []) (sym h.3) (speaks_add h.0)) (ap (λ (n : Node). n.node) h.2)
file_by o file (Err file_fault.BadKept) old new text became asks h = nothing o old.node new.node text (subst (λ (t : List ℕ). Speaks t []) (sym h.1) speaks_none) (ap (λ (n : Node). n.node) h.0)
file_by o file (Err file_fault.BadAttributes) old new text became asks h =
    nothing o old.node new.node text (subst (λ (t : List ℕ). Speaks t []) (sym h.1) (speaks_status stscode.access_refused reasons.bad_attributes)) (ap (λ (n : Node). n.node) h.0)
file_by o file (Err file_fault.NoMemory) old new text became asks h = absurd asks

pub found_within : (names : Names) (name : List ℕ) (files : Files) (at : ℕ) → index_by names name files ≡ Some at → at < length files
found_within names name files at e = subst (λ (x : Option ℕ). IfSome x (λ n. n < length files)) e (index-within names name files)

record_line_did : (o : NodeOrder) (r : RecordLine) (old new : Node) (text : List ℕ) (became : Became) → AddsRecordTo old r new text became → LineDid o old.node new.node text
record_line_did o r old new text became (inl h) =
    let g = h.0.given in
    let v = old.node.noted.shared in
    one_event o old.node new.node text (GotRecord g.0 r.number r.body) (subst (λ (t : List ℕ). Speaks t []) (sym h.1) speaks_none) (found_within v.setup.names h.0.name v.files g.0 g.1, g.2.0, g.2.1.given, g.2.1.ports) refl refl
record_line_did o r old new text became (inr h) = nothing o old.node new.node text (subst (λ (t : List ℕ). Speaks t []) (sym h.3) (speaks_add h.0)) (ap (λ (n : Node). n.node) h.2)

drops_line : (o : NodeOrder) (name : List ℕ) (old new : Node) (text : List ℕ) (became : Became) → DropsFile old name new text became → LineDid o old.node new.node text
drops_line o name old new text became (inl h) = one_event o old.node new.node text (LostFile h.0.drops.0) (subst (λ (t : List ℕ). Speaks t []) (sym h.1) speaks_none) (h.0.drops.2, h.0.ports) refl refl
drops_line o name old new text became (inr h) = nothing o old.node new.node text (subst (λ (t : List ℕ). Speaks t []) (sym h.3) (speaks_remove h.0)) (ap (λ (n : Node). n.node) h.2)

-- ---- Every order.

pub order_did : (o : NodeOrder) (old new : Node) (text : List ℕ) (became : Became) → NodeDoes old o new text became → LineDid o old.node new.node text
order_did (order.Packet bytes) old new text became h = packet_by (one_link old.node.ports) old new bytes text became h
order_did (order.Resend local) old new text became h = meant_by (order.Resend local) (meant local old.node.ports) _ old new text became h (λ link d. resend_by (order.Resend local) link d.0 old new text became d.0.link.failed d.1 d.2)
order_did (order.Ack local) old new text became h = meant_by (order.Ack local) (meant local old.node.ports) _ old new text became h (λ link d. ack_by (order.Ack local) link d.0 old new text became d.0.link.failed d.1 d.2.0 d.2.1)
order_did (order.Close local) old new text became h =
    meant_by (order.Close local) (position (has_local local) old.node.ports) _ old new text became h
    (λ link d. one_event (order.Close local) old.node new.node text (LostLink link) (subst (λ (t : List ℕ). Speaks t []) (sym d.1) speaks_none) d.0.ended refl refl)
order_did (order.Renew anew) old new text became h = meant_by (order.Renew anew) (one_link old.node.ports) _ old new text became h (λ link d. renews_line (order.Renew anew) link anew old new text became d)
order_did (order.New b) old new text became h = new_by (order.New b) (position (has_local b.local) old.node.ports) b old new text became h
order_did order.Files old new text became h = nothing order.Files old.node new.node text (speaks_files old.node.noted.shared.files text became h.1) (ap (λ (n : Node). n.node) h.0)
order_did (order.File file) old new text became h =
    file_by (order.File file) file h.0 old new text became h.1 h.2
order_did (order.Record r) old new text became h = record_line_did (order.Record r) r old new text became h
order_did (order.Drop name) old new text became h = drops_line (order.Drop name) name old new text became h
