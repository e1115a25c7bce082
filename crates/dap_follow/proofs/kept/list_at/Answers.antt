use Rattle.std.proofs.Common.{◌++◌, ◌∷◌, List, refl, sym, subst, ◌∙◌}
use Rattle.dap_follow.specs.Keeping.Kept.{KeepsPieces}
use Rattle.dap_follow.specs.declared.kept.Kept.{Kept}
use Rattle.dap_follow.proofs.JoinLemmas.{inserted_entries, lists_room, lists_run}
use Rattle.dap_follow.proofs.kept.list_at.Goals as goal

pub returns-clause-lists : goal.returns-clause-lists
returns-clause-lists c = record {
  from = refl;
  to = refl;
  bytes_are = c.in_ok-gather.ensures;
  keeps = λ xs zs m is from to front back.
      subst (λ (l : List Kept). KeepsPieces (xs ++ m ∷ zs) l) (sym c.in_ok-put_at.ensures.items)
      (lists_run c.args.index c.args.kept.now.items c.listed.result c.in_ok-index.index c.join.new.kept.items c.in_ok-index.run' c.in_ok-index.ensures.joins
      c.listed.ensures.listed xs zs m is (c.listed.ensures.from ∙ from) (c.listed.ensures.to ∙ to) front back);
  room = lists_room c.args.index c.args.kept.now.items c.listed.result c.in_ok-index.index c.join.new.kept.items c.in_ok-index.run' c.put_at.new.kept.items c.in_ok-index.ensures.joins
      c.listed.ensures.room c.in_ok-put_at.ensures.items;
  entries = inserted_entries c.args.index c.args.kept.now.items c.listed.result c.in_ok-index.index c.join.new.kept.items c.in_ok-index.run' c.put_at.new.kept.items c.in_ok-index.ensures.joins
      (λ listed. c.listed.ensures.room) c.in_ok-put_at.ensures.items;
}
