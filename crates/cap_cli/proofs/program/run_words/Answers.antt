use Rattle.std.proofs.Common.{rules, ◌≡◌, map, string_bytes, subst}
use Rattle.std.specs.Prelude.{Ok}
use Rattle.cap_cli.specs.Program.{ListsTask, after_name}
use Rattle.cap_cli.specs.Words.{WantedListing, wanted_by, wished_listing, wish_of}
use Rattle.cap_cli.proofs.RunLemmas.{one_wanted}
use Rattle.cap_cli.proofs.program.run_words.Goals as goal

pub returns-in-Ok-Listing-clause-wants_listing : goal.returns-in-Ok-Listing-clause-wants_listing
returns-in-Ok-Listing-clause-wants_listing g c asked is =
    let old = g.W.Write.contents c.args.writer.now in
    let new = g.W.Write.contents c.list_task.new.writer in
    let told = g.E.Write.contents c.args.error_writer.now in
    let tells = g.E.Write.contents c.list_task.new.error_writer in
    let read : wish_of (after_name (map string_bytes c.args.words.now)) ≡ Ok (wished_listing (wanted_by c.in-Ok-Listing.task)) = search rules in
    let same = one_wanted _ (wanted_by c.in-Ok-Listing.task) asked read is in
    subst (λ (a : WantedListing). ListsTask (g.O.Opens.held c.args.source.now) (g.O.Opens.refuses c.args.source.now) a old new told tells c.list_task.result) same c.list_task.ensures
