-- A link of a node and what passed on it, whoever its peer is.
use Rattle.std.proofs.Common.{◌≡◌, ℕ, ◌+◌, ◌<◌, refl, sym, ◌∙◌, subst, ap, false, List, [], ◌∷◌, ◌++◌, length, arith}
use Rattle.std.specs.Prelude.{Option, Result}
use Rattle.std.specs.List.{AllByRecursion}
use Rattle.dap_msg.specs.declared.items.Item.{Item}
use Rattle.dap_msg.specs.declared.message.Message.{Message}
use Rattle.dap_msg.specs.Blocked.{NspMessage}
use Rattle.nsp_link.specs.declared.link.Got.{Got}
use Rattle.nsp_link.specs.declared.link.LinkSetup.{LinkSetup}
use Rattle.nsp_link.specs.declared.fault.LinkFault.{LinkFault}
use Rattle.nsp_link.specs.Coming.{Coming}
use Rattle.nsp_link.specs.Cutting.{Piece}
use Rattle.nsp_link.specs.Link.{LinkValue}
use Rattle.nsp_link.specs.Receiving.{Receives}
use Rattle.nsp_link.proofs.ForCallers.{stands_new as link_stands_new}
use Rattle.dap_end.specs.Calls.{WroteOne, numbered_packets}
use Rattle.dap_end.specs.Going.{AreFrontOf}
use Rattle.dap_end.specs.Headline.{AreWrittenOf, Arrival, IsFromPeer, WrittenPacket}
use Rattle.dap_end.specs.Moved.{sent_more, with_link}
use Rattle.dap_end.specs.Ports.{PortValue, new_port}
use Rattle.dap_end.specs.Writing.{WroteMore}
use Rattle.dap_end.proofs.ForCallers.{grown, served_prefix, written_on, all_written, numbered_written, one_written, StandsThen, some_peer, some_size, then_stands, went_written}
use Rattle.dap_network.specs.Served.{CameAs, IsMadeOf}
use Rattle.dap_network.proofs.Segments.{made_more, made_none}
use Rattle.dap_network.proofs.Standing.{PortGrew, PortStands, SameCounts, stands_new, stands_received, stands_sent}

abbrev pub FromPeer : (size : ℕ) (messages : List (List ℕ)) → List Arrival → Type 0
FromPeer size messages came = AllByRecursion (λ c. IsFromPeer size messages c.0 c.1) came

-- These packets came and these were written; these items were served, and answered by these NSP messages.
pub record AnyLink (came : List Arrival) (wrote : List WrittenPacket) (items : List Item) (packets : List NspMessage) (answers : List Message) (port : PortValue) : Type 0 where
  pub given : List (List ℕ)
  pub handed : List (List ℕ)
  pub stands : PortStands given handed packets items answers port
  pub made : IsMadeOf came port.link given
  pub carried : AreWrittenOf port.link handed wrote
  pub peer : (size : ℕ) (messages : List (List ℕ)) → FromPeer size messages came → StandsThen port.link (some_size size) messages given

-- the link began
unfoldable pub any_new : (setup : LinkSetup) → AnyLink [] [] [] [] [] (new_port setup)
any_new setup =
    record {
      given = [];
      handed = [];
      stands = stands_new setup;
      made = made_none setup;
      carried = tt;
      peer = λ size messages all. (link_stands_new setup (some_size size) messages, refl);
    }

-- ---- Of all that came.

pub all_front : {A : Type 0} (P : A → Type 0) (xs : List A) (x : A) → AllByRecursion P (xs ++ x ∷ []) → AllByRecursion P xs × P x
all_front P [] x h = (tt, h.0)
all_front P (y ∷ xs) x h = let rest = all_front P xs x h.1 in ((h.0, rest.0), rest.1)

-- ---- What was taken doesn't move where the node goes on.

pub counts_same : (given left : List (List ℕ)) (old new : LinkValue) → SameCounts old new → left ++ new.coming.inbox ≡ given ++ old.coming.inbox → record old.coming { inbox = given ++ old.coming.inbox } ≡ record new.coming { inbox = left ++ new.coming.inbox }
counts_same given left old new same all =
    ap (λ (l : List (List ℕ)). record old.coming { inbox = l }) (sym all)
    ∙ ap (λ (c : Coming). record c { inbox = left ++ new.coming.inbox }) (sym (ap (λ (l : LinkValue). l.coming) same))

pub made_grew : (came : List Arrival) (given left : List (List ℕ)) (old new : LinkValue) → SameCounts old new → left ++ new.coming.inbox ≡ given ++ old.coming.inbox → IsMadeOf came old given → IsMadeOf came new left
made_grew came given left old new same all m =
    record {
      pieces = m.pieces;
      all = m.all;
      taken = m.taken ∙ counts_same given left old new same all;
      held = subst (λ (l : List (ℕ × Piece)). AllByRecursion (λ h. CameAs came h.0 h.1) l) (sym (ap (λ (l : LinkValue). l.held) same)) m.held;
    }

module _ (came : List Arrival) (wrote : List WrittenPacket) (items : List Item) (packets : List NspMessage) (answers : List Message) (port : PortValue) (h : AnyLink came wrote items packets answers port) where
  -- a packet came
  unfoldable pub any_came : (link : LinkValue) (bytes : List ℕ) (r : Result Got LinkFault) → Receives port.link link bytes r → AnyLink (came ++ (port.link, bytes) ∷ []) wrote items packets answers (with_link port link)
  any_came link bytes r x =
      let g = grown port.link link bytes r x in
      record {
        given = h.given;
        handed = h.handed;
        stands = stands_received h.given h.handed packets items answers port h.stands link g x.sends;
        made = made_more came port.link bytes h.given h.made link r x;
        carried = written_on port.link link g h.handed wrote h.carried;
        peer = λ size messages all. (let split = all_front (λ (c : Arrival). IsFromPeer size messages c.0 c.1) came (port.link, bytes) all in
            then_stands port.link link (some_size size) messages h.given bytes r (some_peer size messages port.link bytes split.1) (h.peer size messages split.0) x);
      }

  -- a packet was written again, or an acknowledgement
  unfoldable pub any_again : (k : Option ℕ) (w : WrittenPacket) → WroteOne port.link k w → AnyLink came (wrote ++ w ∷ []) items packets answers port
  any_again k w one =
      record {
        given = h.given;
        handed = h.handed;
        stands = h.stands;
        made = h.made;
        carried = all_written port.link h.handed wrote (w ∷ []) h.carried (one_written port.link h.handed k w h.stands.sends one, tt);
        peer = h.peer;
      }

  -- the port went on, and then wrote packets
  unfoldable pub any_went : (given handed : List (List ℕ)) (blocks : List NspMessage) (more : List Item) (others : List Message) (mid new : PortValue) (bytes : List (List ℕ)) → PortStands given handed blocks more others mid → PortGrew h.given h.handed given handed port mid → WroteMore mid new bytes
      → AnyLink came (wrote ++ numbered_packets (mid.link.sent + 1) mid.link.coming.received bytes) more blocks others new
  any_went given handed blocks more others mid new bytes stands grew w =
      let ws = numbered_packets (mid.link.sent + 1) mid.link.coming.received bytes in
      let now = sent_more mid (length bytes) in
      let made = made_grew came h.given given port.link mid.link grew.link grew.all h.made in
      let after = numbered_written mid.link handed (mid.link.sent + 1) bytes stands.sends w.writes in
      let here : AnyLink came (wrote ++ ws) more blocks others now = record {
        given = given;
        handed = handed;
        stands = stands_sent given handed blocks more others mid stands (length bytes);
        made = record { pieces = made.pieces; all = made.all; taken = made.taken; held = made.held };
        carried = went_written port.link mid.link now.link h.handed grew.more.0 handed wrote ws grew.link grew.more.1 refl h.carried after;
        peer = λ size messages all. (let before = h.peer size messages all in
            let then = grew.stands (some_size size) messages before.0 in
            let works : mid.link.failed ≡ false = ap (λ (l : LinkValue). l.failed) grew.link ∙ before.1 in
            (record { taken = then.taken; held = then.held }, works));
      } in
      record {
        given = given;
        handed = handed;
        stands = subst (PortStands given handed blocks more others) (sym w.sent) here.stands;
        made = subst (λ (p : PortValue). IsMadeOf came p.link given) (sym w.sent) here.made;
        carried = subst (λ (p : PortValue). AreWrittenOf p.link handed (wrote ++ ws)) (sym w.sent) here.carried;
        peer = λ size messages all. subst (λ (p : PortValue). StandsThen p.link (some_size size) messages given) (sym w.sent) (here.peer size messages all);
      }

  -- what was served are the first items of what a peer sent
  pub any_front : (size : ℕ) (messages : List (List ℕ)) → FromPeer size messages came → AreFrontOf messages items
  any_front size messages all =
      let s = h.peer size messages all in
      let some : 0 < some_size size = omega arith in
      served_prefix port.link (some_size size) messages h.given port.offset items some s.0 h.stands.gone
