-- What is done on a link of a node, by what its calls say.
use Rattle.std.proofs.Common.{◌≡◌, ◌⊎◌, inl, inr, ℕ, true, false, List, Some, refl, ap, sym, subst, ◌∙◌}
use Rattle.std.specs.Prelude.{IfErr, MatchOption, OnOk, Option, None, Ok, Err, Result}
use Rattle.dap_accessed.specs.Adding.{MayStore}
use Rattle.dap_accessed.specs.Standing.{file_at}
use Rattle.dap_accessed.specs.Naming.{index_by}
use Rattle.dap_shared.specs.Nodes.{GivesRecord, with_record_at}
use Rattle.dap_shared.specs.Shared.{AtFile, SharedGiven}
use Rattle.nsp_link.specs.Link.{IsSetup, LinkValue, SetupFault}
use Rattle.nsp_link.specs.declared.link.LinkSetup.{LinkSetup}
use Rattle.nsp_link.specs.declared.fault.LinkFault.{LinkFault}
use Rattle.nsp_link.specs.declared.fault.LinkFault.TheVariants.{BadSetup, Failed}
use Rattle.dap_end.specs.Ports.{PortValue}
use Rattle.dap_end.specs.Node.{AtPort, HasPort, IsTaken, NodeValue, NoneHasCome, NotBegun}
use Rattle.linewise.specs.declared.talking.Became.{Became}
use Rattle.linewise.specs.declared.talking.Became.TheVariants as became_of
use Rattle.dap_live.specs.declared.node.Node.{Node}
use Rattle.dap_live.specs.Both.{LeavesEnd}
use Rattle.dap_live.specs.declared.orders.Between.{Between}
use Rattle.dap_live.specs.Orders.{setup_beside}
use Rattle.dap_live.specs.Sending.{AllAgain, UnlessFailed}
use Rattle.dap_live.specs.Texts.{link_refusal, packets_text}
use Rattle.dap_live.specs.declared.node_orders.NodeOrder.TheVariants as order
use Rattle.dap_live.specs.Inner.NodeReaching.{IsDoneWithText, NodeReaches}
use Rattle.dap_live.specs.Node.{GivesRecordTo, GoesOnWith, ResendsOn, TakesOn, TakesPacketBy, about, about_any, is_work_left_at, meant, one_link}
use Rattle.dap_live.proofs.ReachLemmas.{unless_failed, unless_runs, where_left, where_none}

module _ (link : ℕ) (old : Node) (l : LinkValue) (at : AtPort link old.node (λ p. l ≡ p.link)) where
  again-there : (packets : List (List ℕ)) → AllAgain l packets → AllAgain at.0.link packets
  again-there packets all = subst (λ (k : LinkValue). AllAgain k packets) at.2 all

  -- segments were sent again, and then it went on
  pub resends-on : (front : List ℕ) (packets : List (List ℕ)) → AllAgain l packets → front ≡ packets_text packets → is_work_left_at old.most_waiting at.0 ≡ true
      → (new : Node) (text : List ℕ) (became : Became) → GoesOnWith link old front new text became → AtPort link old.node (λ p. ResendsOn link p old new text became)
  resends-on front packets all is left new text became goes =
      (at.0, at.1, (packets, again-there packets all, where_left _ left _ _ (subst (λ (f : List ℕ). GoesOnWith link old f new text became) is goes)))

  -- or nothing was left to do
  pub resends-alone : (text : List ℕ) (packets : List (List ℕ)) → AllAgain l packets → text ≡ packets_text packets → is_work_left_at old.most_waiting at.0 ≡ false
      → AtPort link old.node (λ p. ResendsOn link p old (about link old) text became_of.Done)
  resends-alone text packets all is none = (at.0, at.1, (packets, again-there packets all, where_none _ none _ _ (refl, is, refl)))

  -- the link runs
  pub on-running : l.failed ≡ false → (new : Node) (text : List ℕ) (became : Became) → AtPort link old.node (λ p. ResendsOn link p old new text became)
      → AtPort link old.node (λ p. UnlessFailed p.link text (LeavesEnd became_of.Done (about link old) new became) (ResendsOn link p old new text became))
  on-running runs new text became (p, there, this) =
      let one : at.0 ≡ p = (let same : Some (Some at.0) ≡ Some (Some p) = sym at.1 ∙ there in cc) in
      let works : p.link.failed ≡ false = ap (λ (q : PortValue). q.link.failed) (sym one) ∙ ap (λ (k : LinkValue). k.failed) (sym at.2) ∙ runs in
      (p, there, unless_runs p.link.failed works _ _ this)

  -- it has failed
  pub on-failed : l.failed ≡ true → (text : List ℕ) → text ≡ (link_refusal Failed).0
      → AtPort link old.node (λ p. UnlessFailed p.link text (LeavesEnd became_of.Done (about link old) (about link old) became_of.Done) (ResendsOn link p old (about link old) text became_of.Done))
  on-failed failed text is =
      let stands : at.0.link.failed ≡ true = ap (λ (k : LinkValue). k.failed) (sym at.2) ∙ failed in
      (at.0, at.1, unless_failed at.0.link.failed stands _ _ ((refl, refl), is))

-- the line concerns the link already
pub about-goes : (link : ℕ) (old : Node) (front : List ℕ) (new : Node) (text : List ℕ) (became : Became) → GoesOnWith link (about link old) front new text became → GoesOnWith link old front new text became
about-goes link old front new text became h = record { gone = h.gone; packets = h.packets; went = h.went; rest = h.rest; says = h.says; ended = h.ended }

-- ---- The link that a line names.

pub on-some : (o : Option ℕ) (link : ℕ) → Some link ≡ o → (Nothing : Type 0) (This : ℕ → Type 0) → This link → MatchOption o Nothing This
on-some (Some l) link e Nothing This this = subst This (let same : link ≡ l = cc in same) this
on-some None link e Nothing This this = absurd (let none : ⊥ = cc in none)

pub on-none : (o : Option ℕ) → None ≡ o → (Nothing : Type 0) (This : ℕ → Type 0) → Nothing → MatchOption o Nothing This
on-none None e Nothing This nothing = nothing
on-none (Some l) e Nothing This nothing = absurd (let none : ⊥ = cc in none)

pub about-some : (o : Option ℕ) (link : ℕ) (old new : Node) → Some link ≡ o → new ≡ about link old → new ≡ about_any o old
about-some (Some l) link old new e is = is ∙ ap (λ (i : ℕ). about i old) (let same : link ≡ l = cc in same)
about-some None link old new e is = absurd (let none : ⊥ = cc in none)

pub about-none : (o : Option ℕ) (old new : Node) → None ≡ o → new ≡ old → new ≡ about_any o old
about-none None old new e is = is
about-none (Some l) old new e is = absurd (let none : ⊥ = cc in none)

-- how far `resend` was done
pub reaches-resend : (local : Option ℕ) (link : ℕ) (old new : Node) → Some link ≡ meant local old.node.ports
    → ((new ≡ about link old) ⊎ IsDoneWithText (λ said became. AtPort link old.node (λ p. UnlessFailed p.link said (LeavesEnd became_of.Done (about link old) new became) (ResendsOn link p old new said became))))
    → NodeReaches old (order.Resend local) new
reaches-resend local link old new found (inl same) = inl (about-some _ link old new found same)
reaches-resend local link old new found (inr done) = inr (done.0, done.1, on-some _ link found _ _ done.2)

-- and a packet of the only link
pub reaches-one : (link : ℕ) (old new : Node) (bytes : List ℕ) → Some link ≡ one_link old.node.ports → IsDoneWithText (TakesOn link old bytes new) → NodeReaches old (order.Packet bytes) new
reaches-one link old new bytes one done = inr (done.0, done.1, on-some _ link one _ _ done.2)

-- and one by its addresses
pub reaches-by : (old new : Node) (bytes : List ℕ) → None ≡ one_link old.node.ports → (new ≡ old) ⊎ IsDoneWithText (TakesPacketBy old bytes new) → NodeReaches old (order.Packet bytes) new
reaches-by old new bytes none (inl same) = inl same
reaches-by old new bytes none (inr done) = inr (done.0, done.1, on-none _ none _ _ done.2)

-- ---- A link begins whose local address no other link has.

fault-of : (link : ℕ) (setup : LinkSetup) (v : NodeValue) (f : LinkFault) → (IsTaken link setup.local v → ⊥) → (f ≡ BadSetup) × ((IsSetup setup → ⊥) ⊎ IsTaken link setup.local v) → SetupFault setup f
fault-of link setup v f alone (is, inl bad) = inl (is, bad)
fault-of link setup v f alone (is, inr taken) = absurd (alone taken)

not-begun : (link : ℕ) (setup : LinkSetup) (v : NodeValue) (f : LinkFault) → (IsTaken link setup.local v → ⊥) → NotBegun link setup v f → SetupFault setup f
not-begun link setup v f alone (inl h) = fault-of link setup v f alone h
not-begun link setup v f alone (inr h) = inr (h.0, h.1)

pub begun-err : (link : ℕ) (setup : LinkSetup) (old new : NodeValue) (r : Result (Unit {0}) LinkFault) → ((other : ℕ) (p : PortValue) → HasPort other old p → p.link.setup.local ≡ setup.local → other ≡ link)
    → IfErr r (λ f. (new ≡ old) × NotBegun link setup old f) → IfErr r (λ f. (new ≡ old) × SetupFault setup f)
begun-err link setup old new (Ok u) alone h = tt
begun-err link setup old new (Err f) alone h = (h.0, not-begun link setup old f (λ taken. taken.4 (alone taken.0 taken.1 taken.2 taken.3)) h.1)

-- the local address of such a setup
pub beside-local : (setup : LinkSetup) (b : Between) → (setup_beside setup b).local ≡ b.local
beside-local setup b = refl

-- the link that was found is the only one
pub only-link : (o : Option ℕ) (i j : ℕ) → o ≡ Some i → o ≡ Some j → j ≡ i
only-link o i j e f = let same : Some j ≡ Some i = sym f ∙ e in (let is : j ≡ i = cc in is)

-- and where none was found, there is none
pub no-link : (o : Option ℕ) (j : ℕ) → o ≡ None → o ≡ Some j → ⊥
no-link o j e f = let same : Some j ≡ None = sym f ∙ e in (let none : ⊥ = cc in none)

-- ---- A record is given to the file of a name.

index-one : (o : Option ℕ) (i j : ℕ) → o ≡ Some i → o ≡ Some j → i ≡ j
index-one o i j e f = (let both : Some i ≡ Some j = sym e ∙ f in cc)

pub gives-record : (name : List ℕ) (number : ℕ) (body : List ℕ) (old new : NodeValue) → NoneHasCome old.ports
    → AtFile name old.noted.shared (λ at. MayStore (file_at at old.noted.shared.files) number body)
    → AtFile name old.noted.shared (λ at. SharedGiven (GivesRecord at number body) old.noted.shared new.noted.shared)
    → AtFile name old.noted.shared (λ at. new.noted.shared.files ≡ with_record_at at number body old.noted.shared.files)
    → new.ports ≡ old.ports → new.noted ≡ record old.noted { shared = new.noted.shared } → GivesRecordTo name number body old new
gives-record name number body old new idle (i, here, may) (j, there, given) (k, then, files) ports notes =
    let index = index_by old.noted.shared.setup.names name old.noted.shared.files in (
      i,
      here,
      (
        may,
        record {
          files = subst (λ (n : ℕ). new.noted.shared.files ≡ with_record_at n number body old.noted.shared.files) (index-one index k i then here) files;
          idle = idle;
          given = subst (λ (n : ℕ). SharedGiven (GivesRecord n number body) old.noted.shared new.noted.shared) (index-one index j i there here) given;
          notes = notes;
          ports = ports;
        },
      ),
    )

-- what four facts of a result that is good come to
pub on-all : {T F : Type 0} {A B C D R : Type 0} (r : Result T F) → OnOk r A → OnOk r B → OnOk r C → OnOk r D → (A → B → C → D → R) → OnOk r R
on-all (Ok x) a b c d next = next a b c d
on-all (Err f) a b c d next = tt
