use Rattle.std.proofs.Common.{rules, ◌≡◌, ◌<◌, ◌^◌, ◌+◌, ◌++◌, List, ℕ, refl, ap, sym, ◌∙◌, subst}
use Rattle.std.proofs.lemmas.Result.{on_ok_weaker}
use Rattle.decnet_frames.specs.Found.{found_seen}
use Rattle.dap_follow.specs.Keeping.Lister.{takes}
use Rattle.dap_follow.specs.declared.lister.Lister.{Lister}
use Rattle.dap_follow.proofs.ListLemmas.{seen_by, takes_joined, takes_single}
use Rattle.dap_follow.proofs.lister.ListerTakes.take.Goals as goal

pub returns : goal.returns
returns c =
    let old = c.args.self.now in
    let packet = found_seen c.args.found.now in
    let seen = c.decode_value-seen.result in
    let new = c.push_single.new.self in
    on_ok_weaker c.push_single.result
    (λ said.
    let is : c.push_single.new.text.items ≡ said.0 = said.2 ∙ ap (λ (l : List ℕ). l ++ said.0) c.requires in
    subst (λ (t : List ℕ). takes old packet new t) (sym is)
    (takes_single old _ new packet seen said.0 refl refl refl c.if-self.false (seen_by seen packet.bytes c.decode_value-seen.ensures.found c.decode_value-seen.ensures.fault) c.push_single.ensures.same said.1))
    c.push_single.ensures.single

pub returns-then-self : goal.returns-then-self
returns-then-self c =
    let old = c.args.self.now in
    let packet = found_seen c.args.found.now in
    let seen = c.decode_value-seen.result in
    let new = c.push_joined.new.self in
    let mid : Lister = record { alloc = old.alloc; chosen = old.chosen; packets = old.packets + 1; streams = old.streams; message = old.message } in
    let few : old.packets < 2 ^ 50 = search rules in
    on_ok_weaker c.push_joined.result
    (λ said.
    let is : c.push_joined.new.text.items ≡ said.0 = said.2 ∙ ap (λ (l : List ℕ). l ++ said.0) c.requires in
    subst (λ (t : List ℕ). takes old packet new t) (sym is)
    (takes_joined old mid new packet seen said.0 refl refl refl few c.if-self.true (seen_by seen packet.bytes c.decode_value-seen.ensures.found c.decode_value-seen.ensures.fault)
    c.push_joined.ensures.chosen c.push_joined.ensures.packets said.1))
    c.push_joined.ensures.joined
