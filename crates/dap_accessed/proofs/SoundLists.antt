-- Every list of items leaves an end sound.
use Rattle.std.proofs.Common.{List, [], ◌∷◌, ◌++◌, sym, subst, append_assoc}
use Rattle.dap_accessed.specs.declared.setup.ServerSetup.{ServerSetup}
use Rattle.std.proofs.lemmas.List.{append-nil}
use Rattle.dap_msg.specs.declared.items.Item.{Item}
use Rattle.dap_accessed.specs.Standing.{Files, start}
use Rattle.dap_accessed.specs.Groups.{stands_after}
use Rattle.dap_accessed.specs.Sound.{AreFiles, IsSound}
use Rattle.dap_accessed.proofs.Cuts.{cut-more}
use Rattle.dap_accessed.proofs.SoundGroups.{start-sound, more-sound}

-- the items that come after those before
sound-on : (own : ServerSetup) (first : Files) (before more : List Item) → IsSound (stands_after own first before) → IsSound (stands_after own first (before ++ more))
sound-on own first before [] h = subst (λ (l : List Item). IsSound (stands_after own first l)) (sym (append-nil before)) h
sound-on own first before (item ∷ more) h =
    let c = stands_after own first before in
    let one : IsSound (stands_after own first (before ++ item ∷ [])) = subst IsSound (sym (cut-more own (start first) before item)) (more-sound own c.standing c.begun item h) in
    subst (λ (l : List Item). IsSound (stands_after own first l)) (append_assoc before (item ∷ []) more) (sound-on own first (before ++ item ∷ []) more one)

pub all-sound : (own : ServerSetup) (first : Files) (items : List Item) → AreFiles first → IsSound (stands_after own first items)
all-sound own first items good = sound-on own first [] items (start-sound first good)
