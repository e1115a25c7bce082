-- What isn't stale is due.
use Rattle.std.proofs.Common.{◌≡◌, ℕ, zero, suc, ◌+◌, ◌≤◌, Bool, true, false, arith, refl, ◌∙◌, subst, List, [], ◌∷◌}
use Rattle.std.specs.Prelude.{◌||◌, Option, Some, None, IfSome, slice_get}
use Rattle.std.specs.List.{AllByRecursion}
use Rattle.nsp_seg.specs.declared.packet.Packet.{Packet}
use Rattle.nsp_seg.specs.Packets.{Spells}
use Rattle.nsp_seg.specs.declared.packet.Packet.TheVariants.{Segment, DataAck}
use Rattle.nsp_link.specs.Limits.{max_window, max_segments}
use Rattle.nsp_link.specs.Link.{LinkValue, IsBetween}
use Rattle.nsp_link.specs.Due.{IsDue, taken_after}
use Rattle.nsp_link.specs.Cutting.{cut}
use Rattle.nsp_link.proofs.ForCallers.{written_spells}
use Rattle.dap_world.specs.Machine.{is_old}
use Rattle.dap_world.specs.Inner.Ways.{is_old_segment}
use Rattle.dap_world.specs.declared.side.Wired.{Wired}
use Rattle.dap_world.specs.Inner.Sides.{SideValue}
use Rattle.dap_world.specs.Inner.Ways.{IsWay, is_old_wired}

-- A packet is no further ahead than the numbers tell, makes no more than 2^40 segments taken, and acknowledges nothing
-- that was never sent.
pub record IsNear (v : LinkValue) (w : Wired) : Type 0 where
  pub segment : IfSome w.segment (λ k. k ≤ v.coming.received + max_window)
  pub few : taken_after v w.segment ≤ max_segments
  pub acks : w.acks ≤ v.sent

abbrev pub AllNear : LinkValue → List Wired → Type 0
AllNear v wire = AllByRecursion (IsNear v) wire

-- the packet is due at the link, as one of a peer that cuts these messages by this size
pub record IsDueAs (v : LinkValue) (size : ℕ) (messages given : List (List ℕ)) (w : Wired) : Type 0 where
  pub value : Packet
  pub spelled : Spells value w.packet.items
  pub due : IsDue v size messages given value w.segment w.acks
  pub few : taken_after v w.segment ≤ max_segments

pub all_at : {X : Type 0} (P : X → Type 0) → (xs : List X) (j : ℕ) (x : X) → AllByRecursion P xs → slice_get xs j ≡ Some x → P x
all_at P [] j x all e = let no : ⊥ = cc in absurd no
all_at {X} P (y ∷ xs) zero x all e = let same : y ≡ x = cc in subst P same all.0
all_at P (y ∷ xs) (suc j) x all e = all_at P xs j x all.1 e

between : (src dst src' dst' : ℕ) (p : Packet) → src ≡ src' → dst ≡ dst' → IsBetween src dst p → IsBetween src' dst' p
between src dst src' dst' (Segment s) e e' h = (h.0 ∙ e, h.1 ∙ e')
between src dst src' dst' (DataAck s) e e' h = (h.0 ∙ e, h.1 ∙ e')

pub young_segment : (taken : ℕ) (k : Option ℕ) → is_old_segment taken k ≡ false → IfSome k (λ n. taken + 1 ≤ n + 2047)
young_segment taken None e = tt
young_segment taken (Some k) e = grind (arith, e)

pub young_ack : (acks acked : ℕ) → is_old acks acked ≡ false → acked ≤ acks + 2047
young_ack acks acked e = grind (arith, e)

pub neither : (a b : Bool) → (a || b) ≡ false → (a ≡ false) × (b ≡ false)
neither false false e = (refl, refl)
neither false true e = let no : ⊥ = cc in absurd no
neither true b e = let no : ⊥ = cc in absurd no

-- the j-th packet is due unless it is stale
pub due : (from : SideValue) (v : LinkValue) (messages given : List (List ℕ)) (j : ℕ) (w : Wired)
    → IsWay from v messages given → AllNear v from.wire → slice_get from.wire j ≡ Some w → is_old_wired v w ≡ false → IsDueAs v from.link.setup.seg_size messages given w
due from v messages given j w way near at young =
    let written = written_spells from.link.setup.local from.link.setup.remote (cut from.link.setup.seg_size messages) w.segment w.acks w.packet.items (all_at _ from.wire j w way.wire at) in
    let close : IsNear v w = all_at (IsNear v) from.wire j w near at in
    let both = neither (is_old_segment v.coming.received w.segment) (is_old w.acks v.acked) young in
    record {
      value = written.0;
      spelled = written.1;
      due = (
        way.listening,
        way.stands,
        record {
          positive = way.size;
          short = way.short;
          way = between from.link.setup.local from.link.setup.remote v.setup.remote v.setup.local written.0 way.there way.back written.2;
          carries = written.3;
          fresh = (young_segment v.coming.received w.segment both.0, young_ack w.acks v.acked both.1);
          near = close.segment;
          believable = close.acks;
        },
      );
      few = close.few;
    }
