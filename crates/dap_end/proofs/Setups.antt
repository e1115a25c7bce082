-- A call on a link of a node leaves the setup of the link as it was.
use Rattle.std.proofs.Common.{◌≡◌, ℕ, List, ap, refl, ◌∙◌, inl, inr}
use Rattle.std.specs.Prelude.{Ok, Err, Result}
use Rattle.nsp_link.specs.declared.link.Got.{Got}
use Rattle.nsp_link.specs.declared.link.LinkSetup.{LinkSetup}
use Rattle.nsp_link.specs.declared.fault.LinkFault.{LinkFault}
use Rattle.dap_shared.specs.Noted.{NotedServed}
use Rattle.dap_end.specs.declared.fault.EndFault.{EndFault}
use Rattle.dap_end.specs.declared.fault.EndFault.TheVariants as end_fault
use Rattle.dap_end.specs.declared.fault.TakeFault.{TakeFault}
use Rattle.dap_end.specs.declared.fault.TakeFault.TheVariants as take_fault
use Rattle.dap_end.specs.Ports.{HandsOver, PortValue}
use Rattle.dap_end.specs.By.{HaltsBy, TurnsBy, no_turn, one_turn}
use Rattle.dap_end.specs.Node.{NodeLinkValue, serves_on}
use Rattle.dap_end.specs.Turns.{WritesReplies, DidAll, TakesPacket, TookIn}
use Rattle.dap_end.specs.Writing.{WroteMore}
use Rattle.dap_end.proofs.Taking.{grown}

abbrev setup-of : NodeLinkValue → LinkSetup
setup-of v = v.port.link.setup

abbrev Same : (a b : NodeLinkValue) → Type 0
Same a b = b.port.link.setup ≡ a.port.link.setup

by-hands : (a b : NodeLinkValue) (n : ℕ) → HandsOver a b n → Same a b
by-hands a b n h = ap setup-of h.1

by-turns : (link most : ℕ) (a b : NodeLinkValue) → TurnsBy (NotedServed link) most a b → Same a b
by-turns link most a b no_turn = refl
by-turns link most a b (one_turn posted mid count n p room s on) =
    by-turns link most mid b on ∙ (ap (λ (q : PortValue). q.link.setup) s.port ∙ by-hands a posted count p)

by-halts : (most : ℕ) (a b : NodeLinkValue) (w : EndFault) → HaltsBy most a b w → Same a b
by-halts most a b (end_fault.Link w) (inl h) = ap setup-of h.0
by-halts most a b (end_fault.Link w) (inr h) = by-hands a b h.2.0 h.2.1
by-halts most a b (end_fault.Read w) h = absurd h

by-did : (link most : ℕ) (a b : NodeLinkValue) (r : Result (Unit {0}) EndFault) → DidAll (serves_on link most) a b r → Same a b
by-did link most a b (Ok u) h = by-hands h.0 b h.1 h.4 ∙ by-turns link most a h.0 h.2
by-did link most a b (Err w) h = by-halts most h.0 b w h.2 ∙ by-turns link most a h.0 h.1

by-more : (p q : PortValue) (packets : List (List ℕ)) → WroteMore p q packets → q.link.setup ≡ p.link.setup
by-more p q packets w = ap (λ (x : PortValue). x.link.setup) w.sent

pub by-answered : (link most : ℕ) (a b : NodeLinkValue) (got : Got) (out all : List (List ℕ)) (r : Result (Unit {0}) EndFault) → WritesReplies (serves_on link most) a b got out all r → Same a b
by-answered link most a b got out all (Ok u) h = by-more h.mid.port b.port _ h.wrote.2.1 ∙ by-did link most a h.mid (Ok tt) h.done
by-answered link most a b got out all (Err w) (inl h) = by-did link most a b (Err w) h.0
by-answered link most a b got out all (Err w) (inr h) = by-more h.1.mid.port b.port _ h.1.wrote.2.0 ∙ by-did link most a h.1.mid (Ok tt) h.1.done

by-took : (a b : NodeLinkValue) (bytes : List ℕ) (r : Result Got LinkFault) → TookIn a b bytes r → Same a b
by-took a b bytes r t = (grown a.port.link b.port.link bytes r t.receives).setup

pub by-takes : (link most : ℕ) (a b : NodeLinkValue) (bytes : List ℕ) (out all : List (List ℕ)) (r : Result Got TakeFault) → TakesPacket (serves_on link most) a b bytes out all r → Same a b
by-takes link most a b bytes out all (Ok got) h = by-answered link most h.0 b got out all (Ok tt) h.2 ∙ by-took a h.0 bytes (Ok got) h.1
by-takes link most a b bytes out all (Err (take_fault.Refused w)) h = by-took a b bytes (Err w) h.0
by-takes link most a b bytes out all (Err (take_fault.Unfinished got w)) h = by-answered link most h.0 b got out all (Err w) h.2 ∙ by-took a h.0 bytes (Ok got) h.1
