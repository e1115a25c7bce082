-- A talk with the program is what happens to its node.
use Rattle.std.proofs.Common.{◌≡◌, ◌≢◌, ℕ, zero, suc, arith, refl, sym, ◌∙◌, subst, ap, Bool, true, false, List, [], ◌∷◌, ◌++◌, length, inl, inr}
use Rattle.std.specs.Prelude.{◌⊎◌, ◌==◌, if◌then◌else◌, Option, Some, None, replicate, slice_get}
use Rattle.std.specs.List.{AllByRecursion}
use Rattle.std.specs.Io.BufRead.{first_line}
use Rattle.std.proofs.lemmas.List.{length-set}
use Rattle.nsp_link.specs.declared.link.LinkSetup.{LinkSetup}
use Rattle.dap_accessed.specs.Sessions.{session_with}
use Rattle.dap_accessed.specs.Setup.{all_rights}
use Rattle.dap_accessed.specs.declared.setup.ServerSetup.{ServerSetup}
use Rattle.dap_shared.specs.Nodes.{Begins, node_after}
use Rattle.dap_shared.specs.Shared.{SharedAfter, SharedBegins, SharedValue, shared_of}
use Rattle.dap_shared.proofs.ForCallers.{begins-shared, new-shared}
use Rattle.dap_end.specs.Headline.{written_bytes}
use Rattle.dap_end.specs.Node.{NodeValue}
use Rattle.dap_end.specs.Ports.{PortValue, new_port}
use Rattle.dap_network.specs.Happening.{GotFile, GotRecord, GotLink, LostLink, LostFile, NodeEvent, NodeRuns, NodeStepped, PacketCame, Continued, WroteAgain, all_came, all_written}
use Rattle.dap_network.specs.Happening as network
use Rattle.linewise.specs.declared.talking.Became.{Became}
use Rattle.linewise.specs.declared.talking.Became.TheVariants.{NoMemory}
use Rattle.linewise.specs.Talks.{AnswersLine, ending_of, said_of}
use Rattle.dap_live.specs.declared.node.Node.{Node}
use Rattle.dap_live.specs.declared.node_orders.NodeOrder.{NodeOrder}
use Rattle.dap_live.specs.declared.node_orders.NodeOrder.TheVariants as order
use Rattle.dap_live.specs.Node.{DoesNodeOrder, IsNewNode, IsNotDone, about_any, answered, before_line, is_alone, named_by, waiting}
use Rattle.dap_live.specs.NodeOrders.{node_order_of}
use Rattle.dap_transcripts.specs.Transcripts.{AreSome, IsPacketOfLine}
use Rattle.dap_transcripts.proofs.Lines.{CameBy, LineDid, order_did}
use Rattle.dap_transcripts.proofs.Speaking.{Speaks, speaks_before, speaks_ending, speaks_none}

-- ---- Some of a list.

some_after : {A : Type 0} (ys vs us : List A) → AreSome us vs → AreSome us (ys ++ vs)
some_after [] vs us h = h
some_after (y ∷ ys) vs [] h = tt
some_after (y ∷ ys) vs (u ∷ us) h = inr (some_after ys vs (u ∷ us) h)

pub some_both : {A : Type 0} (xs ys us vs : List A) → AreSome xs ys → AreSome us vs → AreSome (xs ++ us) (ys ++ vs)
some_both [] ys us vs h k = some_after ys vs us k
some_both (x ∷ xs) [] us vs h k = absurd h
some_both (x ∷ xs) (y ∷ ys) us vs (inl h) k = inl (h.0, some_both xs ys us vs h.1 k)
some_both (x ∷ xs) (y ∷ ys) us vs (inr h) k = inr (some_both (x ∷ xs) ys us vs h k)

pub some_self : {A : Type 0} (xs : List A) → AreSome xs xs
some_self [] = tt
some_self (x ∷ xs) = inl (refl, some_self xs)

pub all_front : {A : Type 0} (P : A → Type 0) (xs : List A) (x : A) → AllByRecursion P (xs ++ x ∷ []) → AllByRecursion P xs × P x
all_front P [] x h = (tt, h.0)
all_front P (y ∷ xs) x h = let rest = all_front P xs x h.1 in ((h.0, rest.0), rest.1)

-- ---- As many links.

step_length : (event : NodeEvent) (old new : NodeValue) → NodeStepped old event new → length new.ports ≡ length old.ports
step_length (PacketCame link c) old new s = ap length s.ports ∙ length-set old.ports link (Some s.after)
step_length (Continued link wrote) old new s = ap length s.ports ∙ length-set old.ports link (Some s.after)
step_length (WroteAgain link index w) old new s = ap length s.ports ∙ length-set old.ports link (Some s.after)
step_length (GotLink link setup most) old new s = ap length s.1.ports ∙ length-set old.ports link (Some (new_port setup))
step_length (LostLink link) old new s = ap length s.ports ∙ length-set old.ports link None
step_length (GotFile name shape) old new s = ap length s.3
step_length (GotRecord at number body) old new s = ap length s.3
step_length (LostFile at) old new s = ap length s.1

pub runs_length : (events : List NodeEvent) (old new : NodeValue) → NodeRuns old events new → length new.ports ≡ length old.ports
runs_length [] old new r = ap (λ (v : NodeValue). length v.ports) r
runs_length (event ∷ events) old new r = runs_length events r.0 new r.2 ∙ step_length event old r.0 r.1

-- ---- A line.

named : (old new : Node) (link : Option ℕ) → new ≡ about_any link old → new.node ≡ old.node
named old new None e = ap (λ (n : Node). n.node) e
named old new (Some link) e = ap (λ (n : Node). n.node) e

-- What a line did, and what was answered to it.
pub record Answered (alone : Bool) (rest : List ℕ) (old new : NodeValue) (said : List ℕ) (became : Option Became) : Type 0 where
  pub events : List NodeEvent
  pub runs : NodeRuns old events new
  pub heard : (all_came events ≡ []) ⊎ IsPacketOfLine alone (first_line rest) (all_came events)
  pub packets : List (List ℕ)
  pub speaks : Speaks said packets
  pub are_some : AreSome packets (written_bytes (all_written events))
  pub are_all : became ≢ Some NoMemory → packets ≡ written_bytes (all_written events)

pub not_done : (old new : Node) (o : NodeOrder) → IsNotDone old o new → new.node ≡ old.node
not_done old new (order.File file) e = ap (λ (n : Node). n.node) e
not_done old new (order.Packet bytes) e = named old new None e
not_done old new (order.Resend local) e = named old new (named_by old (order.Resend local)) e
not_done old new (order.Ack local) e = named old new (named_by old (order.Ack local)) e
not_done old new (order.Close local) e = named old new None e
not_done old new (order.Renew anew) e = named old new (named_by old (order.Renew anew)) e
not_done old new (order.New b) e = named old new (named_by old (order.New b)) e
not_done old new order.Files e = named old new None e
not_done old new (order.Record r) e = named old new None e
not_done old new (order.Drop name) e = named old new None e

module _ (alone : Bool) (rest : List ℕ) where
  heard_by : (o : NodeOrder) (came : List (List ℕ)) → node_order_of alone (first_line rest) ≡ Some o → CameBy o came → (came ≡ []) ⊎ IsPacketOfLine alone (first_line rest) came
  heard_by o came is (inl none) = inl none
  heard_by o came is (inr h) = inr (h.0, is ∙ ap (λ (x : NodeOrder). Some x) h.1, h.2)

  -- nothing happened, and the answer says no packet
  quiet_line : (old new : NodeValue) (said : List ℕ) (became : Option Became) → Speaks said [] → new ≡ old → Answered alone rest old new said became
  quiet_line old new said became s e = record { events = []; runs = e; heard = inl refl; packets = []; speaks = s; are_some = tt; are_all = λ d. refl }

  -- an order was done, and answered
  done_line : (o : NodeOrder) (old new : NodeValue) (text said : List ℕ) (became : Option Became) → node_order_of alone (first_line rest) ≡ Some o → LineDid o old new text → ((ps : List (List ℕ)) → Speaks text ps → Speaks said ps) → Answered alone rest old new said became
  done_line o old new text said became is d f =
      record {
        events = d.events;
        runs = d.runs;
        heard = heard_by o (all_came d.events) is d.came;
        packets = written_bytes (all_written d.events);
        speaks = f (written_bytes (all_written d.events)) d.speaks;
        are_some = some_self (written_bytes (all_written d.events));
        are_all = λ e. refl;
      }

  -- an order was done, and memory was refused to its answer
  unsaid_line : (o : NodeOrder) (old new : NodeValue) (text said : List ℕ) (became : Option Became) → node_order_of alone (first_line rest) ≡ Some o → LineDid o old new text → Speaks said [] → became ≡ Some NoMemory → Answered alone rest old new said became
  unsaid_line o old new text said became is d s e =
      let a = done_line o old new text text became is d (λ ps h. h) in
      record { events = a.events; runs = a.runs; heard = a.heard; packets = []; speaks = s; are_some = tt; are_all = λ other. absurd (other e) }

  by_order : (o : Option NodeOrder) (old new : Node) (text said : List ℕ) (b : Became) → node_order_of alone (first_line rest) ≡ o → DoesNodeOrder (before_line old) o new text b → said ≡ text ++ ending_of b (waiting new) → Answered alone rest old.node new.node said (Some b)
  by_order None old new text said b is h e =
      quiet_line old.node new.node said (Some b)
      (subst (λ (l : List ℕ). Speaks l []) (sym (e ∙ ap (λ (t : List ℕ). t ++ ending_of b (waiting new)) h.1)) (speaks_ending b (waiting new))) (ap (λ (n : Node). n.node) h.0)
  by_order (Some o) old new text said b is (inl h) e =
      done_line o old.node new.node text said (Some b) is (order_did o (before_line old) new text b h) (λ ps s. subst (λ (l : List ℕ). Speaks l ps) (sym e) (speaks_before text (ending_of b (waiting new)) ps s (speaks_ending b (waiting new))))
  by_order (Some o) old new text said b is (inr (inl n, none, w, may)) e =
      quiet_line old.node new.node said (Some b)
      (subst (λ (l : List ℕ). Speaks l []) (sym (e ∙ ap (λ (t : List ℕ). t ++ ending_of b (waiting new)) none)) (speaks_ending b (waiting new))) (not_done (before_line old) new o n)
  by_order (Some o) old new text said b is (inr (inr d, none, w, may)) e =
      unsaid_line o old.node new.node d.0 said (Some b) is (order_did o (before_line old) new d.0 d.1 d.2)
      (subst (λ (l : List ℕ). Speaks l []) (sym (e ∙ ap (λ (t : List ℕ). t ++ ending_of b (waiting new)) none)) (speaks_ending b (waiting new))) (ap (λ (x : Became). Some x) w)

  pub by_line : (old new : Node) (text said : List ℕ) (became : Option Became) → alone ≡ is_alone old.node → AnswersLine answered waiting old (first_line rest) new text became → said ≡ said_of text became (waiting new) → Answered alone rest old.node new.node said became
  by_line old new text said None same h e = quiet_line old.node new.node said None (subst (λ (l : List ℕ). Speaks l []) (sym e) speaks_none) (ap (λ (n : Node). n.node) h.2)
  by_line old new text said (Some b) same (inl h) e =
      quiet_line old.node new.node said (Some b)
      (subst (λ (l : List ℕ). Speaks l []) (sym (e ∙ ap (λ (t : List ℕ). t ++ ending_of b (waiting new)) h.2)) (speaks_ending b (waiting new))) (ap (λ (n : Node). n.node) h.1)
  by_line old new text said (Some b) same (inr h) e =
      by_order (node_order_of alone (first_line rest)) old new text said b refl (subst (λ (a : Bool). DoesNodeOrder (before_line old) (node_order_of a (first_line rest)) new text b) (sym same) h.2) e

-- ---- A new node.

pub record Started (node : NodeValue) : Type 0 where
  pub base : NodeValue
  pub is_new : network.IsNodeWithoutLinks [] base
  pub events : List NodeEvent
  pub runs : NodeRuns base events node
  pub none_came : all_came events ≡ []
  pub none_written : all_written events ≡ []

no_port : (n link : ℕ) (p : PortValue) → slice_get (replicate n None) link ≡ Some (Some p) → ⊥
no_port zero link p e = cc
no_port (suc n) zero p e = cc
no_port (suc n) (suc link) p e = no_port n link p e

several : (own : ServerSetup) (links most : ℕ) (usual : LinkSetup) (one : Node) → (links == 1) ≡ false → IsNewNode own links usual most one → Started one.node
several own links most usual one e n =
    record {
      base = one.node;
      is_new = record {
        shared = subst (λ (b : Bool). SharedAfter [] (if b then Begins 0 all_rights ∷ [] else []) one.node.noted.shared) e n.stands;
        none = λ link p at. no_port links link p (sym (ap (λ (l : List (Option PortValue)). slice_get l link) (n.ports ∙ ap (λ (b : Bool). if b then Some (new_port usual) ∷ [] else replicate links None) e)) ∙ at);
      };
      events = [];
      runs = refl;
      none_came = refl;
      none_written = refl;
    }

only : (own : ServerSetup) (most : ℕ) (usual : LinkSetup) (one : Node) → IsNewNode own 1 usual most one → Started one.node
only own most usual one n =
    let v = one.node.noted.shared in
    let old : SharedValue = record { own = own.identity.bufsiz; setup = own; files = []; sessions = replicate 1 (session_with own) } in
    let began = begins-shared old 0 all_rights (omega arith) in
    let base : NodeValue = record { noted = record { shared = old; addresses = 0 ∷ []; locked = [] }; ports = None ∷ [] } in
    let is : v ≡ shared_of own (node_after own [] 1 (Begins 0 all_rights ∷ [])) =
    n.stands.stands ∙ ap (λ (o : ServerSetup). shared_of o (node_after o [] (length v.sessions) (Begins 0 all_rights ∷ []))) n.setup ∙ ap (λ (k : ℕ). shared_of own (node_after own [] k (Begins 0 all_rights ∷ []))) n.sessions in
    record {
      base = base;
      is_new = record { shared = new-shared own 1 (replicate 1 (session_with own)) refl; none = λ link p at. no_port 1 link p at };
      events = GotLink 0 usual all_rights ∷ [];
      runs = (one.node, (n.only_setup refl, record { shared = subst (SharedBegins 0 all_rights old) (sym is) began; address = record { addresses = n.addresses; locked = n.locked }; ports = n.ports }), refl);
      none_came = refl;
      none_written = refl;
    }

pub started : (own : ServerSetup) (links most : ℕ) (usual : LinkSetup) (one : Node) (b : Bool) → (links == 1) ≡ b → IsNewNode own links usual most one → Started one.node
started own links most usual one true e n = let is : links ≡ 1 = grind (arith, e) in only own most usual one (subst (λ (k : ℕ). IsNewNode own k usual most one) is n)
started own links most usual one false e n = several own links most usual one e n
