-- A client that is joined to a link, whatever serves there.
use Rattle.std.proofs.Common.{◌≡◌, ℕ, ◌≤◌, arith, refl, sym, ◌∙◌, subst, ap, List, [], ◌∷◌, ◌++◌, length, inl, inr}
use Rattle.std.specs.Prelude.{None, Option, Some, IfSome, All}
use Rattle.std.proofs.lemmas.List.{append-nil}
use Rattle.nsp_link.specs.declared.link.LinkSetup.{LinkSetup}
use Rattle.nsp_link.specs.Link.{LinkValue, Stands, new_link, with_inbox, AreShort}
use Rattle.nsp_link.specs.Receiving.{Receives}
use Rattle.nsp_link.proofs.ForCallers.{stands_new, may_queue_parts}
use Rattle.dap_accessing.specs.Request.{Request}
use Rattle.dap_accessing.specs.declared.report.Report.{Report}
use Rattle.dap_accessing.specs.Told.{Told}
use Rattle.dap_end.specs.Histories.{asked_one}
use Rattle.dap_end.specs.Ports.{PortValue, new_port}
use Rattle.dap_end.specs.Asking.{HasAsked}
use Rattle.dap_end.specs.Done.{AskingValue, ClientHistory, nothing_asked}
use Rattle.dap_end.specs.Headline.{WrittenPacket}
use Rattle.dap_end.specs.Joined.{IsBrought}
use Rattle.dap_end.specs.Calls.{AskingEvent, AskingStepped, Asks, By, Came, GoesOn, Repeats, WroteOne, requests_in}
use Rattle.dap_end.specs.Inner.Running.{AreOpposite}
use Rattle.dap_end.proofs.Taking.{grown}
use Rattle.dap_end.proofs.Proceeding.{none_short}
use Rattle.dap_end.proofs.Asked.{asked_history, handed_is, handed_history, read_grows, still_received, still_sent}
use Rattle.dap_end.proofs.Packets.{written_on}
use Rattle.dap_end.proofs.Hearing.{HandedOver}
use Rattle.dap_end.proofs.Ways.{IsWay, AreJoined, swapped, comes}
use Rattle.dap_end.proofs.Moving.{wrote_one, goes, again_sent}

-- a client, every packet that it wrote, what was asked of it, and what it reported
pub record Client : Type 0 where
  pub a : AskingValue
  pub wrote : List WrittenPacket
  pub requests : List Request
  pub reports : List Report

-- The link was handed these NSP messages, gave those away, and wrote these packets.
pub record IsJoinedTo (link : LinkValue) (handed given : List (List ℕ)) (wire : List WrittenPacket) (c : Client) : Type 0 where
  pub asked : ClientHistory
  pub asking : HasAsked asked c.a
  pub requests : asked.requests ≡ c.requests
  pub told : c.reports ≡ Told asked.requests asked.answers
  pub ways : AreJoined c.a.port.link link asked.handed handed asked.given given c.wrote wire

-- ---- New ends.

new_way : (s t : LinkSetup) → AreOpposite s t → IsWay (new_link s) (new_link t) [] [] []
new_way s t o =
    record {
      positive = omega (arith, o.good.0);
      there = sym (ap (λ (x : LinkSetup). x.remote) o.facing);
      back = sym (ap (λ (x : LinkSetup). x.local) o.facing);
      limit = sym (ap (λ (x : LinkSetup). x.max_message) o.facing);
      stands = stands_new t s.seg_size [];
      short = none_short (new_link t);
      packets = tt;
      counts = tt;
      acked_taken = omega arith;
      taken_sent = omega arith;
      within = omega arith;
      window = o.good.3;
      held = tt;
    }

turned : (s t : LinkSetup) → AreOpposite s t → AreOpposite t s
turned s t o =
    record {
      good = o.other_good;
      other_good = o.good;
      facing =
          ap (λ (x : ℕ). record s { local = x }) (sym (ap (λ (x : LinkSetup). x.remote) o.facing))
          ∙ ap (λ (x : ℕ). record s { local = t.remote; remote = x }) (sym (ap (λ (x : LinkSetup). x.local) o.facing))
          ∙ ap (λ (x : ℕ). record s { local = t.remote; remote = t.local; max_message = x }) (sym (ap (λ (x : LinkSetup). x.max_message) o.facing));
    }

-- a new client, whose setup is opposite
pub new_joined : (s t : LinkSetup) (c : Client) → AreOpposite s t → c.a.port ≡ new_port s → HasAsked nothing_asked c.a → c.wrote ≡ [] → c.requests ≡ [] → c.reports ≡ [] → IsJoinedTo (new_link t) [] [] [] c
new_joined s t c o port asking wrote requests reports =
    let ways : AreJoined (new_link s) (new_link t) [] [] [] [] [] [] = record { there = new_way s t o; back = new_way t s (turned s t o); works_a = refl; works_b = refl } in
    record {
      asked = nothing_asked;
      asking = asking;
      requests = sym requests;
      told = reports;
      ways =
          subst (λ (l : List WrittenPacket). AreJoined c.a.port.link (new_link t) [] [] [] [] l []) (sym wrote)
          (subst (λ (x : PortValue). AreJoined x.link (new_link t) [] [] [] [] [] []) (sym port) ways);
    }

-- ---- The client is called.

-- the front of what it did before a segment is written: it read, and passed on
record Hands (past : ClientHistory) (old heard handed : AskingValue) : Type 0 where
  now : ClientHistory
  is : HasAsked now handed
  requests : now.requests ≡ past.requests
  answers : now.answers ≡ past.answers
  more : List (List ℕ)
  more_is : now.handed ≡ past.handed ++ more
  short : AreShort heard.port.link more
  given : now.given ≡ past.given
  link : handed.port.link ≡ record (with_inbox heard.port.link handed.port.link.coming.inbox) { queue = handed.port.link.queue }
  same : (size : ℕ) (messages given : List (List ℕ)) → Stands heard.port.link size messages given → Stands handed.port.link size messages given

hands : (past : ClientHistory) (old heard handed : AskingValue) → HasAsked past heard → HandedOver heard handed → Hands past old heard handed
hands past old heard handed h (inl same) =
    subst (Hands past old heard) (sym same)
    (record { now = past; is = h; requests = refl; answers = refl; more = []; more_is = sym (append-nil past.handed); short = none_short heard.port.link; given = refl; link = refl; same = λ size messages given s. s })
hands past old heard handed h (inr k) =
    let one = k.1 in
    subst (Hands past old heard) (sym (handed_is heard handed k.0 one))
    (record {
      now = record past { handed = past.handed ++ heard.port.outbox };
      is = subst (HasAsked (record past { handed = past.handed ++ heard.port.outbox })) (handed_is heard handed k.0 one) (handed_history heard handed k.0 one past h);
      requests = refl;
      answers = refl;
      more = heard.port.outbox;
      more_is = refl;
      short = (may_queue_parts heard.port.link heard.port.outbox one.0).1;
      given = refl;
      link = refl;
      same = λ size messages given s. record { taken = s.taken; held = s.held };
    })

link_trans : (a b c : LinkValue) → b ≡ with_inbox a b.coming.inbox → c ≡ record (with_inbox b c.coming.inbox) { queue = c.queue } → c ≡ record (with_inbox a c.coming.inbox) { queue = c.queue }
link_trans a b c ab bc = bc ∙ ap (λ (l : LinkValue). record (with_inbox l c.coming.inbox) { queue = c.queue }) ab

module _ (link : LinkValue) (handed given : List (List ℕ)) (wire : List WrittenPacket) where
  -- a client that is so joined
  abbrev Is : Client → Type 0
  Is c = IsJoinedTo link handed given wire c

  wrote_a : (old new : Client) (ws : List WrittenPacket) (w : WrittenPacket) (k : Option ℕ) → WroteOne old.a.port.link k w → new.a ≡ old.a → new.reports ≡ old.reports → ws ≡ w ∷ [] → IfSome k (λ n. n ≤ old.a.port.link.sent) → new.wrote ≡ old.wrote ++ ws
      → new.requests ≡ old.requests ++ [] → Is old → Is new
  wrote_a old new ws w k one same none is was at more j =
      let ways = wrote_one old.a.port.link link j.asked.handed handed j.asked.given given old.wrote wire k w j.ways j.asking.sends was one in
      record {
        asked = j.asked;
        asking = subst (HasAsked j.asked) (sym same) j.asking;
        requests = j.requests ∙ sym (more ∙ append-nil old.requests);
        told = none ∙ j.told;
        ways =
            subst (λ (v : AskingValue). AreJoined v.port.link link j.asked.handed handed j.asked.given given new.wrote wire) (sym same)
            (subst (λ (l : List WrittenPacket). AreJoined old.a.port.link link j.asked.handed handed j.asked.given given l wire) (sym (at ∙ ap (λ (l : List WrittenPacket). old.wrote ++ l) is)) ways);
      }

  -- an event of the client, by which so much more is asked
  pub asks : (old new : Client) (event : AskingEvent) (ws : List WrittenPacket) → AskingStepped (IsBrought wire) (old.a, old.reports, old.wrote) event ws (new.a, new.reports, new.wrote) → new.requests ≡ old.requests ++ requests_in (event ∷ []) → Is old → Is new
  asks old new (By (Came bytes)) ws (t, at) more j =
      let g = grown old.a.port.link t.1 bytes t.0 t.2 in
      let back = swapped old.a.port.link link j.asked.handed handed j.asked.given given old.wrote wire j.ways in
      let ways = comes link old.a.port.link t.1 handed j.asked.handed given j.asked.given wire old.wrote t.6.0 t.6.1 t.0 back t.6.2 t.6.4
      (subst (λ (x : List ℕ). Receives old.a.port.link t.1 x t.0) t.6.3 t.2) (written_on old.a.port.link t.1 g j.asked.handed old.wrote j.ways.there.packets) in
      record {
        asked = j.asked;
        asking = subst (HasAsked j.asked) (sym t.3) (still_received old.a t.1 g t.2.sends j.asked j.asking);
        requests = j.requests ∙ sym (more ∙ append-nil old.requests);
        told = t.5 ∙ j.told;
        ways =
            subst (λ (l : List WrittenPacket). AreJoined new.a.port.link link j.asked.handed handed j.asked.given given l wire) (sym (at ∙ ap (λ (l : List WrittenPacket). old.wrote ++ l) t.4 ∙ append-nil old.wrote))
            (subst (λ (v : AskingValue). AreJoined v.port.link link j.asked.handed handed j.asked.given given old.wrote wire) (sym t.3)
            (swapped link t.1 handed j.asked.handed given j.asked.given wire old.wrote ways));
      }
  asks old new (Asks request) ws t more j =
      let a = t.1 in
      record {
        asked = asked_one j.asked old.a.present.identity request;
        asking = asked_history request old.a new.a t.0 a j.asked j.asking;
        requests = ap (λ (l : List Request). l ++ request ∷ []) j.requests ∙ sym more;
        told = t.3 ∙ j.told ∙ sym (a.asks.told j.asked.requests j.asked.answers j.asking.asking);
        ways =
            subst (λ (l : List WrittenPacket). AreJoined new.a.port.link link j.asked.handed handed j.asked.given given l wire) (sym t.4)
            (subst (λ (x : PortValue). AreJoined x.link link j.asked.handed handed j.asked.given given old.wrote wire) (sym a.port) j.ways);
      }
  asks old new (By GoesOn) ws (t, at) more j =
      let (heard, all, over) = t.2 in
      let m = read_grows old.a heard all.0 all.2 in
      let read = m.past j.asked j.asking in
      let g = read.1 in
      let h = hands read.0 old.a heard t.0 g.is over in
      let limit : heard.port.link.setup.max_message ≡ old.a.port.link.setup.max_message = ap (λ (l : LinkValue). l.setup.max_message) m.link in
      let short : AreShort old.a.port.link h.more = subst (λ (n : ℕ). All (λ m. length m ≤ n) h.more) limit h.short in
      let stands : Stands t.0.port.link link.setup.seg_size handed h.now.given =
      h.same link.setup.seg_size handed h.now.given (subst (λ (l : List (List ℕ)). Stands heard.port.link link.setup.seg_size handed l) (sym h.given) (g.stands link.setup.seg_size handed j.ways.back.stands)) in
      let ways = goes old.a.port.link link t.0.port.link new.a.port t.0.port j.asked.handed handed j.asked.given given h.more h.now.given h.now.handed old.wrote wire t.1 j.ways refl
      (link_trans old.a.port.link heard.port.link t.0.port.link m.link h.link) t.3 (h.more_is ∙ ap (λ (l : List (List ℕ)). l ++ h.more) g.handed) short stands h.is.sends in
      record {
        asked = h.now;
        asking = subst (HasAsked h.now) (sym t.4) (still_sent t.0 new.a.port (length t.1) t.3.sent h.now h.is);
        requests = h.requests ∙ g.requests ∙ j.requests ∙ sym (more ∙ append-nil old.requests);
        told = all.1 ∙ ap (λ (l : List Report). l ++ all.0) j.told ∙ sym g.told ∙ ap (λ (l : List Request). Told l read.0.answers) (sym (h.requests ∙ g.requests)) ∙ ap (Told h.now.requests) (sym h.answers);
        ways = subst (λ (l : List WrittenPacket). AreJoined new.a.port.link link h.now.handed handed h.now.given given l wire) (sym (at ∙ ap (λ (l : List WrittenPacket). old.wrote ++ l) t.5)) ways;
      }
  asks old new (By (Repeats (Some i))) ws (t, at) more j = wrote_a old new ws t.0 _ t.2 t.3 t.5 t.4 (again_sent old.a.port.link i t.1) at more j
  asks old new (By (Repeats None)) ws (t, at) more j = wrote_a old new ws t.0 _ t.2 t.3 t.5 t.4 tt at more j
