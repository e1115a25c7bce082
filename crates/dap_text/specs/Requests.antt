-- A request in words.
use Rattle.std.specs.Prelude.{◌∷◌, [], codes, Option, Some, None, option_map}
use Rattle.dap_accessing.specs.Request.{Request}
use Rattle.dap_accessing.specs.declared.request.Request.TheVariants as request
use Rattle.dap_accessing.specs.declared.request.By.TheVariants.{Next, Key, Rfa}
use Rattle.dap_accessing.specs.declared.request.How.TheVariants.{Again, Skip, Abort}
use Rattle.texts.specs.Words.{Words, decimal_of, ends, field, long, one_of, short, text_of, texts_of, word}

-- the request that these words are, all of them: one of fourteen words, and its arguments
abbrev pub request_of : Words → Option Request
request_of = one_of (
    word (codes "hello") (ends request.Hello)
    ∷ word (codes "create")
    (field text_of (λ name. field (decimal_of 255) (λ org. field (decimal_of 255) (λ rfm. field short (λ mrs.
    field long (λ mrn. field (decimal_of 15) (λ fac. ends (request.Create name org rfm mrs mrn fac))))))))
    ∷ word (codes "open") (field text_of (λ name. field (decimal_of 15) (λ fac. ends (request.OpenFile name fac))))
    ∷ word (codes "connect") (ends request.Connect)
    ∷ word (codes "get") (ends (request.Get Next))
    ∷ word (codes "get") (word (codes "key") (field long (λ number. ends (request.Get (Key number)))))
    ∷ word (codes "get") (word (codes "rfa") (field long (λ number. ends (request.Get (Rfa number)))))
    ∷ word (codes "put") (field text_of (λ body. ends (request.Put None body)))
    ∷ word (codes "put")
    (word (codes "key") (field long (λ number. field text_of (λ body. ends (request.Put (Some number) body)))))
    ∷ word (codes "update") (field text_of (λ body. ends (request.Update body)))
    ∷ word (codes "delete") (ends request.Delete)
    ∷ word (codes "rewind") (ends request.Rewind)
    ∷ word (codes "fetch") (ends request.Fetch)
    ∷ word (codes "store") (λ bodies. option_map request.Store (texts_of bodies))
    ∷ word (codes "continue") (word (codes "again") (ends (request.Continue Again)))
    ∷ word (codes "continue") (word (codes "skip") (ends (request.Continue Skip)))
    ∷ word (codes "continue") (word (codes "abort") (ends (request.Continue Abort)))
    ∷ word (codes "close") (ends request.Close)
    ∷ word (codes "purge") (ends request.Purge)
    ∷ [])
