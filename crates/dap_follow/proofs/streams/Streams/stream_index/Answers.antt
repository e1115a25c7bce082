use Rattle.std.proofs.Common.{◌≡◌, Bool, false, Some, is_some, position, arith, sym, subst}
use Rattle.std.specs.Map.{keys_of, lookup}
use Rattle.indexmap.specs.IndexMap.{insert_entry}
use Rattle.dap_follow.specs.declared.streams.Stream.{Stream}
use Rattle.dap_follow.proofs.EntryLemmas.{indexed_known, indexed_new}
use Rattle.dap_follow.proofs.NameLemmas.{eq_is}
use Rattle.dap_follow.proofs.streams.Streams.stream_index.Goals as goal

pub returns-in-Some-clause-indexed : goal.returns-in-Some-clause-indexed
returns-in-Some-clause-indexed c =
    let stream = c.args.stream in
    let index = c.in-Some.index in
    let entries = c.args.self.now.live.entries in
    indexed_known stream c.args.number index entries (omega arith) (sym (subst (λ (e : Stream → Stream → Bool). Some index ≡ position (e stream) (keys_of entries)) eq_is c.in-Some.ensures.index))

pub returns-in_ok-insert-in-None-clause-indexed : goal.returns-in_ok-insert-in-None-clause-indexed
returns-in_ok-insert-in-None-clause-indexed c =
    let stream = c.args.stream in
    let old = c.args.self.now.live.entries in
    let new = c.insert.new.self.entries in
    let first = c.new-first.result in
    indexed_new stream c.args.number c.len.result old new first (omega arith) (sym (subst (λ (e : Stream → Stream → Bool). false ≡ is_some (lookup (e stream) old)) eq_is c.in-None.ensures.found))
    (subst (λ (e : Stream → Stream → Bool). new ≡ insert_entry e old stream first) eq_is c.in_ok-insert-in-None.ensures.entries) c.len.ensures.len c.new-first.ensures.highest c.new-first.ensures.kept c.new-first.ensures.held
