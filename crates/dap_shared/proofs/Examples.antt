-- Rows that compute: what the definitions say of small histories.
use Rattle.std.proofs.Common.{◌≡◌, ℕ, List, [], ◌∷◌, ◌++◌, Some, refl, true, false, map}
use Rattle.std.specs.Prelude.{option_map, length}
use Rattle.dap_msg.specs.BothEnds.{config_of, complete_with}
use Rattle.dap_msg.specs.declared.message.Message.TheVariants.{Access}
use Rattle.dap_msg.specs.declared.items.Item.{Item}
use Rattle.dap_msg.specs.declared.items.Item.TheVariants.{Whole}
use Rattle.dap_accessed.specs.Setup.{all_rights, plain_setup}
use Rattle.rec_file.specs.declared.picks.Rights.{Rights}
use Rattle.rec_file.specs.Files.{FileVal}
use Rattle.dap_accessed.specs.declared.phase.OpenFile.{OpenFile}
use Rattle.dap_accessed.specs.Asked.{plainly}
use Rattle.dap_accessed.specs.Standing.{plain_shape}
use Rattle.rec_file.specs.Looks.{plain_look}
use Rattle.dap_accessed.specs.Replies.{bare_status, refused_access, opened_with, complete_response}
use Rattle.dap_shared.specs.Nodes.{Event, Serves, Begins, Gives, Drops, AnswersOn, FilesAfter, node_after, exchange_at, open_on}

abbrev hello : Item
hello = Whole (config_of 1024)

-- ACCFUNC, name and FAC
abbrev accesses : ℕ → ℕ → ℕ → Item
accesses func name fac = Whole (Access (record { func = func; opt = 0; name = name ∷ []; fac = fac; shr = 0; display = 0; password = [] }))

abbrev ends : ℕ → Item
ends func = Whole (complete_with func)

-- two links said hello
abbrev both : List Event → List Event
both events = Serves 0 hello ∷ Serves 1 hello ∷ events

-- A makes file 65; B can't open it, and can't make one of its name; A closes it, and B opens it.
abbrev locked : List Event
locked = both (Serves 0 (accesses 2 65 0) ∷ Serves 1 (accesses 1 65 2) ∷ Serves 1 (accesses 2 65 0) ∷ Serves 0 (ends 1) ∷ Serves 1 (accesses 1 65 2) ∷ [])

b-is-told : AnswersOn 1 (plain_setup 1024) [] 2 locked ≡ config_of 1024 ∷ bare_status 0x4030 ∷ refused_access 1 ∷ opened_with plain_shape plain_look
b-is-told = refl

-- two that read share it; one that would write is kept out till both closed it
abbrev readers : List Event
readers = both (Serves 0 (accesses 2 65 0) ∷ Serves 0 (ends 1) ∷ Serves 0 (accesses 1 65 2) ∷ Serves 1 (accesses 1 65 0) ∷ Serves 0 (ends 1) ∷ Serves 0 (accesses 1 65 9) ∷ Serves 1 (ends 1) ∷ Serves 0 (accesses 1 65 9) ∷ [])

readers-share : AnswersOn 1 (plain_setup 1024) [] 2 readers ≡ config_of 1024 ∷ (opened_with plain_shape plain_look ++ complete_response ∷ [])
readers-share = refl

writer-waits : AnswersOn 0 (plain_setup 1024) [] 2 readers ≡ config_of 1024 ∷ (opened_with plain_shape plain_look ++ complete_response ∷ (opened_with plain_shape plain_look ++ complete_response ∷ bare_status 0x4030 ∷ opened_with plain_shape plain_look))
writer-waits = refl

-- A makes 65, B makes 66 after it; A purges its file: B's is the first then, and still open
abbrev purged : List Event
purged = both (Serves 0 (accesses 2 65 0) ∷ Serves 1 (accesses 2 66 0) ∷ Serves 0 (ends 3) ∷ [])

b-moved-up : option_map (λ (o : OpenFile). o.at) (open_on (exchange_at 1 (node_after (plain_setup 1024) [] 2 purged))) ≡ Some 0
b-moved-up = refl

one-left : length (FilesAfter (plain_setup 1024) [] 2 purged) ≡ 1
one-left = refl

-- a link that begins anew lets go of what it had open
abbrev gone : List Event
gone = both (Serves 0 (accesses 2 65 0) ∷ Begins 0 all_rights ∷ Serves 1 (accesses 1 65 2) ∷ [])

b-opens-it : AnswersOn 1 (plain_setup 1024) [] 2 gone ≡ config_of 1024 ∷ opened_with plain_shape plain_look
b-opens-it = refl

-- A may only read: an Access that would write is refused, a create too; one that only reads isn't.
abbrev reader : Rights
reader = record { get = true; put = false; upd = false; del = false }

abbrev limited : List Event
limited = Begins 0 reader ∷ both (Serves 1 (accesses 2 65 0) ∷ Serves 1 (ends 1) ∷ Serves 0 (accesses 1 65 9) ∷ Serves 0 (accesses 2 66 0) ∷ Serves 0 (accesses 1 65 0) ∷ [])

a-is-refused : AnswersOn 0 (plain_setup 1024) [] 2 limited ≡ config_of 1024 ∷ refused_access 2 ∷ refused_access 2 ∷ opened_with plain_shape plain_look
a-is-refused = refl

-- B has the second file open: it isn't dropped, and the first one is, so that B's is the first then
abbrev dropped : List Event
dropped = both (Gives (65 ∷ []) (plainly plain_shape) ∷ Gives (66 ∷ []) (plainly plain_shape) ∷ Serves 1 (accesses 1 66 0) ∷ Drops 1 ∷ Drops 0 ∷ [])

the-second-stays : map (λ (f : List ℕ × FileVal). f.0) (FilesAfter (plain_setup 1024) [] 2 dropped) ≡ (66 ∷ []) ∷ []
the-second-stays = refl

b-moved-to-the-first : option_map (λ (o : OpenFile). o.at) (open_on (exchange_at 1 (node_after (plain_setup 1024) [] 2 dropped))) ≡ Some 0
b-moved-to-the-first = refl
