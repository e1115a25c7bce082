-- What is said of the messages sent stays true when more are sent.
use Rattle.std.proofs.Common.{◌≡◌, ℕ, ◌-◌, List, [], ◌∷◌, ◌++◌, take, Option, Some, None, refl, sym, ap, ◌∙◌, arith, append_assoc}
use Rattle.std.specs.Prelude.{slice_get}
use Rattle.std.proofs.lemmas.List.{length-append, take-append-le, get_or_append_left, drop-append-le}
use Rattle.std.proofs.lemmas.Option.{slice_get_within, get_or_from_slice_get, slice_get-get_or}
use Rattle.nsp_seg.specs.declared.packet.Packet.{Packet}
use Rattle.nsp_seg.specs.declared.packet.Packet.TheVariants.{Segment, DataAck}
use Rattle.nsp_link.specs.Cutting.{Piece, cut, part_after}
use Rattle.std.specs.List.{AllByRecursion}
use Rattle.nsp_link.specs.declared.link.LinkSetup.{LinkSetup}
use Rattle.nsp_link.specs.Coming.{nothing_came, with_all_taken}
use Rattle.nsp_link.specs.Link.{LinkValue, Carries, IsWrittenPacket, Writes, Stands, Sends, new_link, with_inbox}
use Rattle.nsp_link.specs.Sending.{queued_link}
use Rattle.nsp_link.proofs.Taking.{cut-append}
use Rattle.nsp_link.proofs.Taken.{taken_few, taken_given}

kept_index : (xs ys : List Piece) (i : ℕ) (p : Piece) → slice_get xs i ≡ Some p → slice_get (xs ++ ys) i ≡ Some p
kept_index xs ys i p at =
    let lt = slice_get_within xs i p at in
    let longer = length-append xs ys in
    let here = get_or_from_slice_get xs i p p at in
    slice_get-get_or (xs ++ ys) i p (omega arith) ∙ ap (λ (q : Piece). Some q) (get_or_append_left xs ys p i lt ∙ here)

pub carries_more : (p : Packet) (size : ℕ) (ms more : List (List ℕ)) (k : Option ℕ) (a : ℕ) → Carries p (cut size ms) k a → Carries p (cut size (ms ++ more)) k a
carries_more (Segment s) size ms more (Some k) a c = (c.0, rw (cut-append size ms more) (kept_index (cut size ms) (cut size more) (k - 1) _ c.1), c.2, c.3)
carries_more (Segment s) size ms more None a c = c
carries_more (DataAck s) size ms more None a c = c
carries_more (DataAck s) size ms more (Some k) a c = c

pub written_longer : (src dst : ℕ) (pieces more : List Piece) (k : Option ℕ) (a : ℕ) (bytes : List ℕ) → IsWrittenPacket src dst pieces k a bytes → IsWrittenPacket src dst (pieces ++ more) k a bytes
written_longer src dst pieces more (Some k) a bytes (p, is, spells) = (p, (is.0, is.1, kept_index pieces more (k - 1) is.0 is.2, is.3), spells)
written_longer src dst pieces more None a bytes w = w

pub writes_more : (v : LinkValue) (ms more : List (List ℕ)) (k : Option ℕ) (a : ℕ) (bytes : List ℕ) → Writes v ms k a bytes → Writes v (ms ++ more) k a bytes
writes_more v ms more k a bytes w = rw (cut-append v.setup.seg_size ms more) (written_longer v.setup.local v.setup.remote (cut v.setup.seg_size ms) (cut v.setup.seg_size more) k a bytes w)

held_more : (xs ys : List Piece) (held : List (ℕ × Piece)) → AllByRecursion (λ h. slice_get xs (h.0 - 1) ≡ Some h.1) held → AllByRecursion (λ h. slice_get (xs ++ ys) (h.0 - 1) ≡ Some h.1) held
held_more xs ys [] all = tt
held_more xs ys (h ∷ hs) all = (kept_index xs ys (h.0 - 1) h.1 all.0, held_more xs ys hs all.1)

pub stands_more : (v : LinkValue) (size : ℕ) (ms more given : List (List ℕ)) → Stands v size ms given → Stands v size (ms ++ more) given
stands_more v size ms more given st =
    let joined = cut-append size ms more in
    let few = taken_few v.coming size ms given st.taken in
    record {
      taken = ap (with_all_taken nothing_came) (ap (take v.coming.received) joined ∙ take-append-le v.coming.received (cut size ms) (cut size more) few) ∙ st.taken;
      held = rw joined (held_more (cut size ms) (cut size more) v.held st.held);
    }

-- a new end stands before any messages
pub stands_new : (s : LinkSetup) (size : ℕ) (ms : List (List ℕ)) → Stands (new_link s) size ms []
unfolding with_all_taken
stands_new s size ms = record { taken = refl; held = tt }

pub sends_new : (s : LinkSetup) → Sends (new_link s) []
unfolding cut part_after
sends_new s = record { queue = refl; acked = omega arith; part = refl }

-- more messages are sent
pub sends_all : (v : LinkValue) (messages more : List (List ℕ)) → Sends v messages → Sends (queued_link v (cut v.setup.seg_size more)) (messages ++ more)
sends_all v messages more sends =
    let joined = cut-append v.setup.seg_size messages more in
    record {
      queue = rw (joined, drop-append-le v.acked (cut v.setup.seg_size messages) (cut v.setup.seg_size more) sends.acked, sends.queue) refl;
      acked = rw joined (omega (arith, length-append (cut v.setup.seg_size messages) (cut v.setup.seg_size more), sends.acked));
      part = rw (joined, take-append-le v.acked (cut v.setup.seg_size messages) (cut v.setup.seg_size more) sends.acked) sends.part;
    }

-- the oldest message that waits is handed out
pub stands_given : (v : LinkValue) (bytes : List ℕ) (later : List (List ℕ)) (size : ℕ) (messages given : List (List ℕ)) → v.coming.inbox ≡ bytes ∷ later → Stands v size messages given → Stands (with_inbox v later) size messages (given ++ bytes ∷ [])
stands_given v bytes later size messages given inbox st = record {
  taken = taken_given v.coming size messages given (given ++ bytes ∷ []) later (ap (λ (ms : List (List ℕ)). given ++ ms) inbox ∙ sym (append_assoc given (bytes ∷ []) later)) st.taken;
  held = st.held;
}
