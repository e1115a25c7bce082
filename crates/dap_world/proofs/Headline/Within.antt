-- No end is sent what it doesn't take.
use Rattle.std.proofs.Common.{◌≡◌, ℕ, ◌≤◌, List, [], ◌∷◌, ◌++◌, length, map, Some, None, sym, subst, true, arith}
use Rattle.dap_msg.specs.declared.message.Message.{Message}
use Rattle.dap_msg.specs.declared.message.Message.TheVariants.{Filedata}
use Rattle.dap_msg.specs.Canon.{canon}
use Rattle.dap_msg.specs.declared.items.Item.{Item}
use Rattle.dap_msg.specs.declared.items.Item.TheVariants.{Whole}
use Rattle.dap_msg.specs.BothEnds.{complete_with, message_limit, plain_identity}
use Rattle.dap_accessed.specs.Setup.{plain_setup}
use Rattle.dap_msg.proofs.ForCallers.{answers_fit}
use Rattle.dap_accessed.specs.Standing.{ServerState}
use Rattle.dap_accessed.specs.Standing as at
use Rattle.dap_world.specs.Plain.{stands_after, Asked, messages_of, IsAdmissible}
use Rattle.dap_accessing.specs.Request.{Request}
use Rattle.dap_accessing.specs.declared.request.Request.TheVariants as request
use Rattle.dap_accessing.specs.declared.request.By.TheVariants as by
use Rattle.dap_accessing.specs.declared.phase.Phase.{Phase}
use Rattle.dap_accessing.specs.declared.phase.Phase.TheVariants.{Fresh, Ready, Opened, Connected, Stopped}
use Rattle.dap_msg.specs.Sendable.{AreSendable}
use Rattle.dap_accessing.specs.Phase.{phase_after, limit_after}
use Rattle.dap_accessing.specs.Phases.{phase_fits}
use Rattle.dap_accessing.proofs.ForCallers.{fits-where}
use Rattle.dap_world.specs.Inner.Within.{AreWithin, LimitWithin}
use Rattle.dap_world.specs.Agreement.{IsBufsiz, AreAdmissible, items_of, request_answers, reports_of}
use Rattle.dap_end.specs.Agreement.{AgreeAt}
use Rattle.dap_end.proofs.ForCallers.{limit-own}
use Rattle.dap_world.proofs.Headline.Limits.{AllFit, after-all}
use Rattle.dap_world.proofs.Headline.Agreeing.{both-agree}

-- ---- What the accessed end takes for the limit.

module _ (n : ℕ) (b : IsBufsiz n) where
  abbrev Small : ℕ → Type 0
  Small limit = limit ≤ n

  config-fits : Small (message_limit n)
  config-fits = omega (arith, limit-own n b)

  fits-append : (xs ys : List Message) → AllFit Small (map Whole xs) → AllFit Small (map Whole ys) → AllFit Small (map Whole (xs ++ ys))
  fits-append [] ys h k = k
  fits-append (x ∷ xs) ys h k = (h.0, fits-append xs ys h.1 k)

  records-fit : (bodies : List (List ℕ)) → AllFit Small (map Whole (map (Filedata []) bodies))
  records-fit [] = tt
  records-fit (body ∷ bodies) = (tt, records-fit bodies)

  messages-fit : (r : Request) → AllFit Small (map Whole (messages_of n r))
  messages-fit request.Hello = (config-fits, tt)
  messages-fit (request.Create name org rfm mrs mrn fac) = (tt, (tt, tt))
  messages-fit (request.OpenFile name fac) = (tt, (tt, tt))
  messages-fit request.Connect = (tt, tt)
  messages-fit (request.Get by.Next) = (tt, tt)
  messages-fit (request.Get (by.Key k)) = (tt, tt)
  messages-fit (request.Get (by.Rfa k)) = (tt, tt)
  messages-fit (request.Put None body) = (tt, (tt, tt))
  messages-fit (request.Put (Some k) body) = (tt, (tt, tt))
  messages-fit (request.Update body) = (tt, (tt, tt))
  messages-fit request.Delete = (tt, tt)
  messages-fit request.Rewind = (tt, tt)
  messages-fit request.Fetch = (tt, tt)
  messages-fit (request.Store bodies) = (tt, fits-append (map (Filedata []) bodies) (complete_with 4 ∷ []) (records-fit bodies) (tt, tt))
  messages-fit (request.Continue how) = (tt, tt)
  messages-fit request.Close = (tt, tt)
  messages-fit request.Purge = (tt, tt)

  asked-fit : (rs : List Request) → AllFit Small (items_of n rs)
  asked-fit [] = tt
  asked-fit (r ∷ rs) = fits-append (messages_of n r) (Asked n rs) (messages-fit r) (asked-fit rs)

  front-fit : (front back : List Item) → AllFit Small (front ++ back) → AllFit Small front
  front-fit [] back h = tt
  front-fit (item ∷ front) back h = (h.0, front-fit front back h.1)

  pub answers-within : (own_b : ℕ) (rs : List Request) → LimitWithin n own_b rs
  answers-within own_b rs = λ front back e. after-all Small (plain_setup own_b) front b.least (front-fit front back (subst (AllFit Small) (sym e) (asked-fit rs)))

-- ---- What the accessing end sends.

all-within : (limit own : ℕ) (messages : List Message) → limit ≡ own → AreSendable limit messages → AreWithin own messages
all-within limit own [] e h = tt
all-within limit own (m ∷ messages) e h = (subst (λ n. length (canon m) ≤ n) e h.0.1, all-within limit own messages e h.1)

module _ (own_a own_b : ℕ) (a : IsBufsiz own_a) (b : IsBufsiz own_b) where
  hello-within : AreWithin own_b (messages_of own_a request.Hello)
  hello-within = let least = b.least in let short = (answers_fit.config own_a (omega (arith, a.most))).short in (omega (arith, short, least), tt)

  fresh-within : (r : Request) → phase_fits Fresh r ≡ true → AreWithin own_b (messages_of own_a r)
  fresh-within request.Hello e = hello-within
  fresh-within r e = cc

  in-phase : (phase : Phase) (state : ServerState) (limit_b limit_a : ℕ) (r : Request) → AgreeAt (plain_identity own_a) (plain_setup own_b) phase state limit_b limit_a → phase_fits phase r ≡ true → AreSendable limit_a (messages_of own_a r) → AreWithin own_b (messages_of own_a r)
  in-phase Fresh state limit_b limit_a r h e s = fresh-within r e
  in-phase Ready at.Ready limit_b limit_a r h e s = all-within limit_a own_b (messages_of own_a r) h.1 s
  in-phase Opened (at.Opened o) limit_b limit_a r h e s = all-within limit_a own_b (messages_of own_a r) h.1 s
  in-phase Connected (at.Connected o t) limit_b limit_a r h e s = all-within limit_a own_b (messages_of own_a r) h.1 s
  in-phase Stopped (at.Stopped o t) limit_b limit_a r h e s = all-within limit_a own_b (messages_of own_a r) h.1 s
  in-phase Ready state limit_b limit_a r h e s = absurd h
  in-phase Opened state limit_b limit_a r h e s = absurd h
  in-phase Connected state limit_b limit_a r h e s = absurd h
  in-phase Stopped state limit_b limit_a r h e s = absurd h

  pub messages-within : (rs : List Request) → AreAdmissible own_a own_b [] rs → (r : Request) → IsAdmissible own_a rs (map Whole (request_answers own_a own_b rs)) r → AreWithin own_b (messages_of own_a r)
  messages-within rs m r h =
      let s = (stands_after own_b [] (items_of own_a rs)).standing in
      let reports = reports_of own_a own_b rs in
      in-phase (phase_after reports) s.state s.scene.limit (limit_after reports) r (both-agree own_a own_b a b rs m).states (fits-where r (phase_after reports) h.1) h.2
