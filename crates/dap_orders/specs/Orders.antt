-- What the lines of a schedule say: a setup, or an event.
use Rattle.std.specs.Prelude.{ℕ, List, [], ◌∷◌, codes, bytes_eq, Option, option_map}
use Rattle.std.specs.Map.{lookup}
use Rattle.dap_events.specs.declared.event.End.{End}
use Rattle.dap_events.specs.declared.event.End.TheVariants.{A, B}
use Rattle.dap_events.specs.declared.event.Event.{Event}
use Rattle.dap_events.specs.declared.event.Event.TheVariants as event
use Rattle.dap_events.specs.declared.setup.WorldSetup.{WorldSetup}
use Rattle.dap_orders.specs.declared.orders.Order.{Order}
use Rattle.dap_orders.specs.declared.orders.Order.TheVariants as order
use Rattle.dap_text.specs.Requests.{request_of}
use Rattle.texts.specs.Words.{Words, ends, field, long, one_of, short, word, words_of}

-- an end
abbrev pub end_word : List ℕ → Option End
end_word word = lookup (bytes_eq word) ((codes "a", A) ∷ (codes "b", B) ∷ [])

-- an end, and no word after it
abbrev pub one_end : (End → Event) → Words → Option Event
one_end event = field end_word (λ end. ends (event end))

-- an end and a number, and no word after them
abbrev pub end_and_number : (End → ℕ → Event) → Words → Option Event
end_and_number event = field end_word (λ end. field long (λ number. ends (event end number)))

-- the event of a line, by its first word and those after it
abbrev pub event_of : List ℕ → Option Event
event_of line = one_of (
    word (codes "ask") (λ words. option_map event.Ask (request_of words))
    ∷ word (codes "post") (one_end event.Post)
    ∷ word (codes "emit") (one_end event.Emit)
    ∷ word (codes "resend") (end_and_number event.Resend)
    ∷ word (codes "ack") (one_end event.Ack)
    ∷ word (codes "deliver") (end_and_number event.Deliver)
    ∷ word (codes "serve") (ends event.Serve)
    ∷ word (codes "read") (ends event.Read)
    ∷ []) (words_of line)

-- `setup SEG WINDOW BUFA BUFB`; whether a world may have these sizes isn't checked here
abbrev pub world_setup_of : List ℕ → Option WorldSetup
world_setup_of line =
    word (codes "setup") (field long (λ seg_size. field long (λ window. field short (λ bufsiz_a. field short (λ bufsiz_b.
    ends (record { seg_size = seg_size; window = window; bufsiz_a = bufsiz_a; bufsiz_b = bufsiz_b })))))) (words_of line)

-- the event that an order is for
abbrev pub event_of_order : Order → Event
event_of_order (order.Ask request) = event.Ask request
event_of_order (order.Post end) = event.Post end
event_of_order (order.Emit end) = event.Emit end
event_of_order (order.Resend end back) = event.Resend end back
event_of_order (order.Ack end) = event.Ack end
event_of_order (order.Deliver end index) = event.Deliver end index
event_of_order order.Serve = event.Serve
event_of_order order.Read = event.Read
