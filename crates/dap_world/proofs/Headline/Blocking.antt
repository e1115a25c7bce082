-- No NSP message is longer than its receiver takes.
use Rattle.std.proofs.Common.{ℕ, ◌≤◌, List, [], ◌∷◌, ◌++◌, length, map, Some, None, sym, subst, ap, arith, lit<}
use Rattle.dap_msg.specs.declared.message.Message.{Message}
use Rattle.dap_msg.specs.declared.message.Message.TheVariants.{Filedata}
use Rattle.dap_msg.specs.Canon.{canon}
use Rattle.dap_msg.specs.declared.items.Item.{Item}
use Rattle.dap_msg.specs.declared.items.Item.TheVariants.{Whole}
use Rattle.dap_msg.specs.Codes.{cmpfunc}
use Rattle.dap_msg.specs.BothEnds.{complete_with}
use Rattle.dap_msg.specs.Sendable.{AreSendable}
use Rattle.dap_msg.specs.Blocked.{NspMessage, blocked_bytes, Blocked, all_joined, messages_in}
use Rattle.dap_msg.specs.Inner.Blocked.{IsWithinLimit, AllWithin}
use Rattle.dap_msg.proofs.ForCallers.{messages_in-Blocked, within_limit}
use Rattle.std.proofs.lemmas.List.{append-nil}
use Rattle.dap_world.specs.Plain.{answers_added, limit_for, Asked, messages_of}
use Rattle.dap_accessed.specs.Served.{AllAtMost}
use Rattle.dap_accessed.proofs.ForCallers.{HasShortType, added-sends, no-files}
use Rattle.dap_accessing.specs.Request.{Request}
use Rattle.dap_accessing.specs.declared.request.Request.TheVariants as request
use Rattle.dap_accessing.specs.declared.request.By.TheVariants as by
use Rattle.dap_world.specs.Inner.Within.{AreWithin}
use Rattle.dap_world.specs.Agreement.{IsBufsiz, items_of}
use Rattle.dap_world.specs.Inner.Agreement.{AnswersWithin}
use Rattle.dap_accessed.specs.Setup.{plain_setup}
use Rattle.dap_world.proofs.Plain.{plain_fits}
use Rattle.dap_world.proofs.Headline.Within.{answers-within}

alone : (m : Message) (limit : ℕ) → length (canon m) ≤ limit → length (blocked_bytes (m ∷ [])) ≤ limit
alone m limit h = let one = ap length (append-nil (canon m)) in omega (arith, one, h)

pub within-one : (limit : ℕ) (p : NspMessage) → IsWithinLimit limit p → AreWithin limit p → length (blocked_bytes p) ≤ limit
within-one limit [] h all = absurd h
within-one limit (m ∷ []) h all = alone m limit all.0
within-one limit (m ∷ n ∷ more) h all = h

pub within-front : (limit : ℕ) (xs ys : List Message) → AreWithin limit (xs ++ ys) → AreWithin limit xs
within-front limit [] ys h = tt
within-front limit (x ∷ xs) ys h = (h.0, within-front limit xs ys h.1)

pub within-back : (limit : ℕ) (xs ys : List Message) → AreWithin limit (xs ++ ys) → AreWithin limit ys
within-back limit [] ys h = h
within-back limit (x ∷ xs) ys h = within-back limit xs ys h.1

packets-within : (limit most : ℕ) (packets : List NspMessage) → limit ≤ most → AllWithin limit packets → AreWithin limit (messages_in packets) → AllAtMost most (all_joined packets)
packets-within limit most [] le h all = tt
packets-within limit most (p ∷ packets) le h all =
    let one = within-one limit p h.0 (within-front limit p (messages_in packets) all) in
    (omega (arith, one, le), packets-within limit most packets le h.1 (within-back limit p (messages_in packets) all))

-- messages that are no longer than the limit, joined as far as it goes
pub blocked-within : (limit most : ℕ) (messages : List Message) → limit ≤ most → AreWithin limit messages → AllAtMost most (all_joined (Blocked limit messages))
blocked-within limit most messages le all =
    packets-within limit most (Blocked limit messages) le (within_limit limit messages) (subst (AreWithin limit) (sym (messages_in-Blocked limit messages)) all)

sendable-within : (limit : ℕ) (messages : List Message) → AreSendable limit messages → AreWithin limit messages
sendable-within limit [] h = tt
sendable-within limit (m ∷ messages) h = (h.0.1, sendable-within limit messages h.1)

-- ---- The types of what is asked.

abbrev AllShort : List Item → Type 0
AllShort [] = Unit {0}
AllShort (item ∷ items) = HasShortType item × AllShort items

short-append : (xs ys : List Message) → AllShort (map Whole xs) → AllShort (map Whole ys) → AllShort (map Whole (xs ++ ys))
short-append [] ys h k = k
short-append (x ∷ xs) ys h k = (h.0, short-append xs ys h.1 k)

short-records : (bodies : List (List ℕ)) → AllShort (map Whole (map (Filedata []) bodies))
short-records [] = tt
short-records (body ∷ bodies) = (lit< tt, short-records bodies)

short-messages : (n : ℕ) (r : Request) → AllShort (map Whole (messages_of n r))
short-messages n request.Hello = (lit< tt, tt)
short-messages n (request.Create name org rfm mrs mrn fac) = (lit< tt, (lit< tt, tt))
short-messages n (request.OpenFile name fac) = (lit< tt, (lit< tt, tt))
short-messages n request.Connect = (lit< tt, tt)
short-messages n (request.Get by.Next) = (lit< tt, tt)
short-messages n (request.Get (by.Key k)) = (lit< tt, tt)
short-messages n (request.Get (by.Rfa k)) = (lit< tt, tt)
short-messages n (request.Put None body) = (lit< tt, (lit< tt, tt))
short-messages n (request.Put (Some k) body) = (lit< tt, (lit< tt, tt))
short-messages n (request.Update body) = (lit< tt, (lit< tt, tt))
short-messages n request.Delete = (lit< tt, tt)
short-messages n request.Rewind = (lit< tt, tt)
short-messages n request.Fetch = (lit< tt, tt)
short-messages n (request.Store bodies) = (lit< tt, short-append (map (Filedata []) bodies) (complete_with cmpfunc.end_of_stream ∷ []) (short-records bodies) (lit< tt, tt))
short-messages n (request.Continue how) = (lit< tt, tt)
short-messages n request.Close = (lit< tt, tt)
short-messages n request.Purge = (lit< tt, tt)

short-asked : (n : ℕ) (rs : List Request) → AllShort (items_of n rs)
short-asked n [] = tt
short-asked n (r ∷ rs) = short-append (messages_of n r) (Asked n rs) (short-messages n r) (short-asked n rs)

short-there : (front back : List Item) (item : Item) → AllShort (front ++ item ∷ back) → HasShortType item
short-there [] back item h = h.0
short-there (first ∷ front) back item h = short-there front back item h.1

-- ---- The answers.

pub answers-blocked : (own_a own_b : ℕ) → IsBufsiz own_a → IsBufsiz own_b → (rs : List Request) → AnswersWithin own_a own_b rs
answers-blocked own_a own_b a b rs = λ front back item e.
    let short = short-there front back item (subst AllShort (sym e) (short-asked own_a rs)) in
    let sends = added-sends (plain_setup own_b) (plain_fits own_b b) [] no-files front item short in
    blocked-within (limit_for own_b [] front) own_a (answers_added own_b [] front item) (answers-within own_a a own_b rs front (item ∷ back) e)
    (sendable-within (limit_for own_b [] front) (answers_added own_b [] front item) sends)
