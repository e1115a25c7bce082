use Rattle.std.proofs.Common.{◌≡◌, ◌*◌, take, drop, length}
use Rattle.hex.specs.Hex.{decode_pairs}
use Rattle.hex.proofs.Pairs.{prepend}
use Rattle.texts.proofs.decode.decode_hex.Given as goal

abbrev pub invariant-bytes : goal.invariant-bytes
invariant-bytes l = record {
  size : length l.room ≡ length l.initial.room;
  decoded : decode_pairs 0 l.digits ≡ prepend (take l.i l.room) (decode_pairs (2 * l.i) (drop (2 * l.i) l.digits));
}
