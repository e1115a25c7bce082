-- What a client reads on its link is a front of the answers that were given there, and what was served is a front of
-- what its requests ask.
use Rattle.std.proofs.Common.{◌≡◌, ℕ, sym, ◌∙◌, subst, ap, append_assoc, List, [], ◌∷◌, ◌++◌, map}
use Rattle.std.specs.Prelude.{Some}
use Rattle.std.proofs.lemmas.List.{map-append}
use Rattle.dap_fields.specs.Spelling.{AreBytes}
use Rattle.dap_msg.specs.declared.items.Item.{Item}
use Rattle.dap_msg.specs.declared.items.Item.TheVariants.{Whole}
use Rattle.dap_msg.specs.declared.message.Message.{Message}
use Rattle.dap_msg.specs.Blocked.{AllFit, NspMessage}
use Rattle.dap_msg.specs.Items.{ItemAt}
use Rattle.dap_accessing.specs.Asked.{Asked}
use Rattle.dap_end.specs.Going.{AreFrontOf, processed_after}
use Rattle.dap_end.specs.Headline.{Arrival, WrittenPacket}
use Rattle.dap_end.specs.Ports.{PortValue, gone_on}
use Rattle.dap_end.proofs.ForCallers.{ends_within, first_ones, port_given, port_gone, served_prefix}
use Rattle.dap_network.specs.Network.{Peer}
use Rattle.dap_network.proofs.Linked.{LinkStands, kept}

-- The link is so after these items and answers, and its peer is this client, whatever passed on it.
pub record ClientStands (items : List Item) (answers : List Message) (port : PortValue) (peer : Peer) : Type 0 where
  pub came : List Arrival
  pub wrote : List WrittenPacket
  pub packets : List NspMessage
  pub stands : LinkStands came wrote items packets answers port (Some peer)

module _ (items : List Item) (answers : List Message) (port : PortValue) (peer : Peer) (j : ClientStands items answers port peer) where
  -- items that are a front of what was passed on are a front of the answers
  front_of : (read : List Item) → AreFrontOf j.stands.any.handed read → (back : List Item) × (read ++ back ≡ map Whole answers)
  front_of read front =
      let p = j.stands.any.stands in
      let r = first_ones j.packets j.stands.any.handed port.outbox read p.full (subst AllFit (sym p.told) p.fit) p.waiting front in
      (map Whole r.rest, ap (λ (l : List Item). l ++ map Whole r.rest) r.is ∙ sym (map-append Whole r.taken r.rest) ∙ ap (map Whole) (r.split ∙ p.told))

  -- what was read
  pub read_front : (back : List Item) × (j.stands.joined.joined.asked.answers ++ back ≡ map Whole answers)
  read_front =
      let c = j.stands.joined.joined in
      let a = peer.client.port in
      front_of c.asked.answers (served_prefix a.link port.link.setup.seg_size j.stands.any.handed c.asked.given a.offset c.asked.answers c.ways.back.positive c.ways.back.stands c.asking.gone)

  -- the next answer too
  pub next_front : (bytes : List ℕ) (later : List (List ℕ)) (answer : Item) (next : ℕ) → AreBytes bytes → peer.client.port.link.coming.inbox ≡ bytes ∷ later → ItemAt bytes peer.client.port.offset answer next
      → (back : List Item) × (j.stands.joined.joined.asked.answers ++ answer ∷ back ≡ map Whole answers)
  next_front bytes later answer next fits came reads =
      let c = j.stands.joined.joined in
      let a = peer.client.port in
      let size = port.link.setup.seg_size in
      let within = ends_within bytes a.offset answer next reads in
      let gone = port_gone a bytes later next c.asked.given c.asked.answers answer fits came c.asking.gone reads within in
      let stands = port_given a bytes later next size j.stands.any.handed c.asked.given came c.ways.back.stands in
      let q = gone_on a bytes later next in
      let front = served_prefix q.link size j.stands.any.handed (processed_after c.asked.given bytes next) q.offset (c.asked.answers ++ answer ∷ []) c.ways.back.positive stands gone in
      let all = front_of (c.asked.answers ++ answer ∷ []) front in
      (all.0, sym (append_assoc c.asked.answers (answer ∷ []) all.0) ∙ all.1)

  -- what was served
  pub taken_front : (back : List Item) × (items ++ back ≡ map Whole (Asked peer.client.present.identity peer.requests))
  taken_front =
      let k = kept j.came j.wrote items j.packets answers port peer j.stands.any j.stands.joined in
      let t = k.taken_in_order in
      (map Whole t.0, ap (λ (l : List Item). l ++ map Whole t.0) k.served ∙ sym (map-append Whole k.taken t.0) ∙ ap (map Whole) t.1)
