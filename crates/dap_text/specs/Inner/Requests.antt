-- The words after the first one of a request, where they say one of several.
use Rattle.std.specs.Prelude.{◌∷◌, [], codes, Option, Some, None}
use Rattle.dap_accessing.specs.Request.{Request}
use Rattle.dap_accessing.specs.declared.request.Request.TheVariants as request
use Rattle.dap_accessing.specs.declared.request.By.TheVariants.{Next, Key, Rfa}
use Rattle.dap_accessing.specs.declared.request.How.TheVariants.{Again, Skip, Abort}
use Rattle.texts.specs.Words.{Words, ends, field, long, one_of, text_of, word}

-- nothing, or `key N`, or `rfa N`
abbrev pub get_of : Words → Option Request
get_of = one_of (
    ends (request.Get Next)
    ∷ word (codes "key") (field long (λ number. ends (request.Get (Key number))))
    ∷ word (codes "rfa") (field long (λ number. ends (request.Get (Rfa number))))
    ∷ [])

-- BODY, or `key N BODY`
abbrev pub put_of : Words → Option Request
put_of = one_of (
    field text_of (λ body. ends (request.Put None body))
    ∷ word (codes "key") (field long (λ number. field text_of (λ body. ends (request.Put (Some number) body))))
    ∷ [])

-- `again`, `skip` or `abort`
abbrev pub continue_of : Words → Option Request
continue_of = one_of (
    word (codes "again") (ends (request.Continue Again))
    ∷ word (codes "skip") (ends (request.Continue Skip))
    ∷ word (codes "abort") (ends (request.Continue Abort))
    ∷ [])
