-- What an item that is served on a link of a node leaves as it was, a call on the link leaves so.
use Rattle.std.proofs.Common.{◌≡◌, ℕ, List, length, ap, refl, ◌∙◌, inl, inr}
use Rattle.std.specs.Prelude.{Ok, Err, Result}
use Rattle.nsp_link.specs.declared.link.Got.{Got}
use Rattle.dap_accessed.specs.declared.served.Served.{Served}
use Rattle.dap_shared.specs.Noted.{NotedServed, NotedValue}
use Rattle.dap_end.specs.declared.fault.EndFault.{EndFault}
use Rattle.dap_end.specs.declared.fault.EndFault.TheVariants as end_fault
use Rattle.dap_end.specs.declared.fault.TakeFault.{TakeFault}
use Rattle.dap_end.specs.declared.fault.TakeFault.TheVariants as take_fault
use Rattle.dap_end.specs.Ports.{HandsOver, PortValue}
use Rattle.dap_end.specs.By.{HaltsBy, TurnsBy, no_turn, one_turn}
use Rattle.dap_end.specs.Node.{NodeLinkValue, serves_on}
use Rattle.dap_end.specs.Turns.{WritesReplies, DidAll, TakesPacket, WroteThen}

abbrev pub Keeps : {A : Type 0} → (NotedValue → A) → Type 0
Keeps f = (link at : ℕ) (bytes : List ℕ) (old new : NotedValue) (served : Served) → NotedServed link bytes at old new served → f new ≡ f old

module _ (A : Type 0) (f : NotedValue → A) (kept : Keeps f) where
  of-link : NodeLinkValue → A
  of-link v = f v.present

  abbrev Same : (a b : NodeLinkValue) → Type 0
  Same a b = f b.present ≡ f a.present

  by-equal : (a b c : NodeLinkValue) → b ≡ record a { port = c.port } → Same a b
  by-equal a b c is = ap (λ (v : NodeLinkValue). f v.present) is

  by-hands : (a b : NodeLinkValue) (n : ℕ) → HandsOver a b n → Same a b
  by-hands a b n h = ap (λ (v : NodeLinkValue). f v.present) h.1

  by-turns : (link most : ℕ) (a b : NodeLinkValue) → TurnsBy (NotedServed link) most a b → Same a b
  by-turns link most a b no_turn = refl
  by-turns link most a b (one_turn posted mid count n p room s on) = by-turns link most mid b on ∙ (kept link _ _ _ _ _ s.by ∙ by-hands a posted count p)

  by-halts : (most : ℕ) (a b : NodeLinkValue) (w : EndFault) → HaltsBy most a b w → Same a b
  by-halts most a b (end_fault.Link w) (inl h) = ap (λ (v : NodeLinkValue). f v.present) h.0
  by-halts most a b (end_fault.Link w) (inr h) = by-hands a b h.2.0 h.2.1
  by-halts most a b (end_fault.Read w) h = absurd h

  by-did : (link most : ℕ) (a b : NodeLinkValue) (r : Result (Unit {0}) EndFault) → DidAll (serves_on link most) a b r → Same a b
  by-did link most a b (Ok u) h = by-hands h.0 b h.1 h.4 ∙ by-turns link most a h.0 h.2
  by-did link most a b (Err w) h = by-halts most h.0 b w h.2 ∙ by-turns link most a h.0 h.1

  by-wrote : (link most : ℕ) (writes : PortValue → PortValue → List (List ℕ) → Type 0) (a b : NodeLinkValue) (out all : List (List ℕ)) → WroteThen (serves_on link most) writes a b out all → Same a b
  by-wrote link most writes a b out all w = by-equal w.mid b b w.rest ∙ by-did link most a w.mid (Ok tt) w.done

  pub by-answered : (link most : ℕ) (a b : NodeLinkValue) (got : Got) (out all : List (List ℕ)) (r : Result (Unit {0}) EndFault) → WritesReplies (serves_on link most) a b got out all r → Same a b
  by-answered link most a b got out all (Ok u) h = by-wrote link most _ a b out all h
  by-answered link most a b got out all (Err w) (inl h) = by-did link most a b (Err w) h.0
  by-answered link most a b got out all (Err w) (inr h) = by-wrote link most _ a b out all h.1

  pub by-takes : (link most : ℕ) (a b : NodeLinkValue) (bytes : List ℕ) (out all : List (List ℕ)) (r : Result Got TakeFault) → TakesPacket (serves_on link most) a b bytes out all r → Same a b
  by-takes link most a b bytes out all (Ok got) h = by-answered link most h.0 b got out all (Ok tt) h.2 ∙ ap (λ (v : NodeLinkValue). f v.present) h.1.rest
  by-takes link most a b bytes out all (Err (take_fault.Refused w)) h = ap (λ (v : NodeLinkValue). f v.present) h.0.rest
  by-takes link most a b bytes out all (Err (take_fault.Unfinished got w)) h = by-answered link most h.0 b got out all (Err w) h.2 ∙ ap (λ (v : NodeLinkValue). f v.present) h.1.rest

-- as many links
abbrev pub links-of : NotedValue → ℕ
links-of v = length v.shared.sessions

pub keeps-links : Keeps links-of
keeps-links link at bytes old new served s = s.serves.shared.same_links

-- their addresses
abbrev pub addresses-of : NotedValue → List ℕ
addresses-of v = v.addresses

pub keeps-addresses : Keeps addresses-of
keeps-addresses link at bytes old new served s = s.serves.same_addresses
