use Rattle.dap_end.proofs.Running.{receiving_is, serving_is, serving_all_is, posting_is, writing_is, again_is, ack_is, going_on_is, taken_is}
use Rattle.std.proofs.Common.{[], ◌∷◌, refl, inl}
use Rattle.dap_end.specs.Calls.{IsOneOf}
use Rattle.dap_end.proofs.Arriving.{more_served}
use Rattle.dap_end.proofs.laws.calls_are_runs.Goals as goal

pub returns-clause-none : goal.returns-clause-none
returns-clause-none c = λ v. ([], refl)

pub returns-clause-more : goal.returns-clause-more
returns-clause-more c = more_served

pub returns-clause-receive : goal.returns-clause-receive
returns-clause-receive c = λ old new bytes r t. receiving_is (IsOneOf ((old.port.link, bytes) ∷ [])) old new bytes r (inl refl) t

pub returns-clause-serve : goal.returns-clause-serve
returns-clause-serve c = serving_is (IsOneOf [])

pub returns-clause-serve_all : goal.returns-clause-serve_all
returns-clause-serve_all c = serving_all_is (IsOneOf [])

pub returns-clause-post : goal.returns-clause-post
returns-clause-post c = posting_is (IsOneOf [])

pub returns-clause-emit : goal.returns-clause-emit
returns-clause-emit c = writing_is (IsOneOf [])

pub returns-clause-resend : goal.returns-clause-resend
returns-clause-resend c = again_is (IsOneOf [])

pub returns-clause-ack : goal.returns-clause-ack
returns-clause-ack c = ack_is (IsOneOf [])

pub returns-clause-go_on : goal.returns-clause-go_on
returns-clause-go_on c = going_on_is (IsOneOf [])

pub returns-clause-take : goal.returns-clause-take
returns-clause-take c = λ most old new bytes out all r t. taken_is (IsOneOf ((old.port.link, bytes) ∷ [])) most old new bytes out all r (inl refl) t
