-- A new node: without links, or with the only one.
use Rattle.std.proofs.Common.{◌≡◌, ◌==◌, ℕ, sym, ◌∙◌, subst, ap, Bool, false, List, [], ◌∷◌, Some, None}
use Rattle.std.specs.Prelude.{Option, if◌then◌else◌, replicate, set}
use Rattle.std.proofs.lemmas.Bool.{both_ways}
use Rattle.nsp_link.specs.declared.link.LinkSetup.{LinkSetup}
use Rattle.nsp_link.specs.Link.{IsSetup}
use Rattle.dap_accessed.specs.declared.setup.ServerSetup.{ServerSetup}
use Rattle.dap_accessed.specs.Setup.{all_rights}
use Rattle.dap_shared.specs.Nodes.{Begins}
use Rattle.dap_shared.specs.Shared.{SharedAfter}
use Rattle.dap_end.specs.Ports.{PortValue, new_port}
use Rattle.dap_end.specs.Node.{BeganOn}
use Rattle.dap_live.specs.declared.node.Node.{Node}
use Rattle.dap_live.specs.Node.{IsNewNode}
use Rattle.dap_live.specs.Inner.Filing.{HasNoBytes}

-- with room for several links, or for none, no link is there
pub new_several : (own : ServerSetup) (links : ℕ) (usual : LinkSetup) (most : ℕ) (node : Node) → (links == 1) ≡ false → HasNoBytes own links usual most node → IsNewNode own links usual most node
new_several own links usual most node several e =
    record {
      stands = subst (λ (b : Bool). SharedAfter [] (if b then Begins 0 all_rights ∷ [] else []) node.node.noted.shared) (sym several) e.stands;
      setup = e.setup;
      sessions = e.sessions;
      locked = e.locked;
      addresses = subst (λ (b : Bool). node.node.noted.addresses ≡ (if b then usual.local ∷ [] else replicate links 0)) (sym several) e.addresses;
      ports = subst (λ (b : Bool). node.node.ports ≡ (if b then Some (new_port usual) ∷ [] else replicate links None)) (sym several) e.ports;
      its = e.its;
      is_usual = e.is_usual;
      only_setup = λ one. absurd (both_ways (links == 1) several (ap (λ (n : ℕ). n == 1) one));
      most_waiting = e.most_waiting;
      last = subst (λ (b : Bool). node.last ≡ (if b then Some 0 else None)) (sym several) e.last;
      used = e.used;
      given = e.given;
    }

only-one : (own : ServerSetup) (usual : LinkSetup) (most : ℕ) (empty node : Node) → HasNoBytes own 1 usual most empty → IsSetup empty.usual → BeganOn 0 empty.usual all_rights empty.node node.node
    → node ≡ record empty { node = node.node; last = Some 0 } → IsNewNode own 1 usual most node
only-one own usual most empty node e good began rest =
    record {
      stands = began.shared.stands [] [] e.stands;
      setup = began.shared.same_setup ∙ e.setup;
      sessions = began.shared.same_links ∙ e.sessions;
      locked = began.address.locked ∙ e.locked;
      addresses = began.address.addresses ∙ ap (λ (l : List ℕ). set l 0 empty.usual.local) e.addresses ∙ ap (λ (s : LinkSetup). s.local ∷ []) e.is_usual;
      ports = began.ports ∙ ap (λ (l : List (Option PortValue)). set l 0 (Some (new_port empty.usual))) e.ports ∙ ap (λ (s : LinkSetup). Some (new_port s) ∷ []) e.is_usual;
      its = ap (λ (n : Node). n.own) rest ∙ e.its;
      is_usual = ap (λ (n : Node). n.usual) rest ∙ e.is_usual;
      only_setup = λ one. subst IsSetup e.is_usual good;
      most_waiting = ap (λ (n : Node). n.most_waiting) rest ∙ e.most_waiting;
      last = ap (λ (n : Node). n.last) rest;
      used = ap (λ (n : Node). n.used) rest ∙ e.used;
      given = ap (λ (n : Node). n.given) rest ∙ e.given;
    }

-- with room for one, it is there
pub new_only : (own : ServerSetup) (links : ℕ) (usual : LinkSetup) (most : ℕ) (empty node : Node) → links ≡ 1 → HasNoBytes own links usual most empty → IsSetup empty.usual → BeganOn 0 empty.usual all_rights empty.node node.node
    → node ≡ record empty { node = node.node; last = Some 0 } → IsNewNode own links usual most node
new_only own links usual most empty node one e good began rest =
    subst (λ (n : ℕ). IsNewNode own n usual most node) (sym one) (only-one own usual most empty node (subst (λ (n : ℕ). HasNoBytes own n usual most empty) one e) good began rest)
