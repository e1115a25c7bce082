-- A node of one link.
use Rattle.std.proofs.Common.{◌≡◌, Bool, false, List, [], ◌∷◌, ◌++◌, Option, Some, None, map, refl, ap, sym, ◌∙◌, append_assoc}
use Rattle.std.specs.Prelude.{if◌then◌else◌}
use Rattle.std.proofs.lemmas.List.{append-nil}
use Rattle.dap_accessed.specs.declared.setup.ServerSetup.{ServerSetup}
use Rattle.rec_file.specs.declared.picks.Rights.{Rights}
use Rattle.dap_msg.specs.declared.items.Item.{Item}
use Rattle.dap_accessed.specs.declared.phase.OpenFile.{OpenFile}
use Rattle.dap_accessed.specs.Replies.{bare_status}
use Rattle.dap_accessed.specs.Accesses.{refuse_access}
use Rattle.dap_accessed.specs.Effects.{Does}
use Rattle.dap_accessed.specs.Standing.{Files, start}
use Rattle.dap_accessed.specs.Groups.{GroupedItems, stands_after}
use Rattle.dap_accessed.specs.Groups.{after_item, next_group}
use Rattle.dap_accessed.proofs.ForCallers.{cut-more}
use Rattle.dap_shared.specs.Sharing.{is_locked, asks_to_open, file_locked}
use Rattle.dap_shared.specs.Nodes.{Node, Serves, Begins, exchange_of, after_all, after_event, after_more, asked_on, more_beside, node_after, setup_with}

-- where no other link has a file open, none is locked
none-locked : (asked : Option OpenFile) → is_locked (None ∷ []) asked ≡ false
none-locked None = refl
none-locked (Some asked) = refl

module _ (own : ServerSetup) (most : Rights) where
  abbrev its : ServerSetup
  its = setup_with most own

  abbrev pub node_of : GroupedItems → Node
  node_of c = record { files = c.standing.scene.files; exchanges = exchange_of most c ∷ [] }

  pub alone : (c : GroupedItems) (item : Item) → more_beside its (None ∷ []) c item ≡ after_item its c item
  alone c item =
      let s = c.standing in
      ap (λ (b : Bool). if b then next_group its s item (Does (refuse_access s.scene (bare_status file_locked))) else after_item its c item)
      (none-locked (asks_to_open its s.scene.files s.state item))

  one-served : (c : GroupedItems) (item : Item) → after_event own (node_of c) (Serves 0 item) ≡ node_of (after_item its c item)
  one-served c item = ap (λ (d : GroupedItems). after_more most 0 (asked_on own 0 (node_of c) item) c d (exchange_of most c ∷ [])) (alone c item)

  pub served-on : (first : Files) (before more : List Item) →
      after_all own (node_of (stands_after its first before)) (map (Serves 0) more) ≡ node_of (stands_after its first (before ++ more))
  served-on first before [] = ap (λ (l : List Item). node_of (stands_after its first l)) (sym (append-nil before))
  served-on first before (item ∷ more) =
      ap (λ (n : Node). after_all own n (map (Serves 0) more)) (one-served (stands_after its first before) item)
      ∙ ap (λ (c : GroupedItems). after_all own (node_of c) (map (Serves 0) more)) (sym (cut-more its (start first) before item))
      ∙ served-on first (before ++ item ∷ []) more
      ∙ ap (λ (l : List Item). node_of (stands_after its first l)) (append_assoc before (item ∷ []) more)

  -- where the link began with these rights
  pub one-begun : (first : Files) (items : List Item) → node_after own first 1 (Begins 0 most ∷ map (Serves 0) items) ≡ node_of (stands_after its first items)
  one-begun first items = served-on first [] items

pub one-link : (own : ServerSetup) (first : Files) (items : List Item) → node_after own first 1 (map (Serves 0) items) ≡ node_of own own.most (stands_after own first items)
one-link own first items = served-on own own.most first [] items
