use Rattle.std.proofs.Common.{◌∙◌}
use Rattle.texts.proofs.WordLemmas.{some_words}
use Rattle.texts.proofs.words.Words.end.Goals as goal

pub returns-in-Some : goal.returns-in-Some
returns-in-Some c none = some_words c.in-Some.field-0.now (rw c.in-Some.is at c.self.view_is ∙ none)
