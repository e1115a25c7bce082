use Rattle.std.proofs.Common.{rules}
use Rattle.std.proofs.lemmas.List.Sorted.{answers_always}
use Rattle.lower_tests.proofs.files.list_file.search.Goals as goal

-- the closure gives an entry's number
pub returns-clause-found : goal.returns-clause-found
returns-clause-found c = c.binary_search_by_key.ensures.position (λ e. e.0) (answers_always _ _ _ (λ f a r g called. search rules))
