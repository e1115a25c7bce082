use Rattle.std.proofs.Common.{◌≡◌, ℕ, refl, sym, subst, ap, List, [], inl, inr}
use Rattle.std.specs.Prelude.{◌⊎◌, Option, Some, None}
use Rattle.dap_end.specs.Headline.{written_bytes}
use Rattle.linewise.specs.declared.talking.Became.{Became}
use Rattle.dap_network.specs.Network.{Network}
use Rattle.dap_live.specs.declared.node.Node.{Node}
use Rattle.dap_live.specs.declared.node_orders.NodeOrder.{NodeOrder}
use Rattle.dap_live.specs.Node.{DoesNodeOrder, before_line, is_alone}
use Rattle.dap_live.specs.NodeOrders.{node_order_of}
use Rattle.dap_transcripts.specs.Programs.{BringsIn, ServerLeads}
use Rattle.dap_transcripts.proofs.AskLines.{client_leads}
use Rattle.dap_transcripts.proofs.Leading.{Ends, order_leads, still}
use Rattle.dap_transcripts.proofs.Speaking.{Speaks, speaks_all, speaks_none}
use Rattle.dap_transcripts.proofs.Talking.{not_done, some_self}
use Rattle.dap_transcripts.proofs.programs.program_lines_lead.Goals as goal

module _ (net : Network) (old new : Node) (same : net.node ≡ old.node) where
  -- the text says what was written, or memory was refused to it
  parted : (text said : List ℕ) → Ends net old new same text → (said ≡ text) ⊎ (said ≡ []) → ServerLeads net old new said
  parted text said (inr b) how = inr b
  parted text said (inl (link, wrote, l, s)) (inl e) =
      inl (
        l.then_net,
        link,
        wrote,
        l.leads,
        l.is,
        l.wrote_so,
        (written_bytes wrote, speaks_all said (written_bytes wrote) (subst (λ (t : List ℕ). Speaks t (written_bytes wrote)) (sym e) s), some_self (written_bytes wrote)),
      )
  parted text said (inl (link, wrote, l, s)) (inr none) =
      inl (l.then_net, link, wrote, l.leads, l.is, l.wrote_so, ([], speaks_all said [] (subst (λ (t : List ℕ). Speaks t []) (sym none) speaks_none), tt))

  by_order : (o : Option NodeOrder) (line text : List ℕ) (became : Became) → node_order_of (is_alone old.node) line ≡ o → BringsIn net old line → DoesNodeOrder (before_line old) o new text became → ServerLeads net old new text
  by_order None line text became is brings h = parted text text (still net old new same text (subst (λ (t : List ℕ). Speaks t []) (sym h.1) speaks_none) (ap (λ (n : Node). n.node) h.0)) (inl refl)
  by_order (Some o) line text became is brings (inl h) = parted text text (order_leads net old new same o line text became is brings h) (inl refl)
  by_order (Some o) line text became is brings (inr (inl n, none, w, may)) =
      parted text text (still net old new same text (subst (λ (t : List ℕ). Speaks t []) (sym none) speaks_none) (not_done (before_line old) new o n)) (inl refl)
  by_order (Some o) line text became is brings (inr (inr d, none, w, may)) = parted d.0 text (order_leads net old new same o line d.0 d.1 is brings d.2) (inr none)

  server_leads : (line text : List ℕ) (became : Became) → BringsIn net old line → DoesNodeOrder (before_line old) (node_order_of (is_alone old.node) line) new text became → ServerLeads net old new text
  server_leads line text became brings h = by_order (node_order_of (is_alone old.node) line) line text became refl brings h

pub returns-clause-server : goal.returns-clause-server
returns-clause-server c = λ net old new line text became same many brings a. server_leads net old new same line text became brings a

pub returns-clause-client : goal.returns-clause-client
returns-clause-client c = λ net link peer old new line text became there same brings a. client_leads net link peer old new line text became there same brings a
