use Rattle.std.proofs.Common.{◌≡◌, ◌++◌, ◌*◌, take, drop, length}
use Rattle.hex.specs.Hex.{encode_lower}
use Rattle.texts.proofs.encode.encode_hex.Given as goal

abbrev pub invariant-bytes : goal.invariant-bytes
invariant-bytes l = record {
  size : length l.room ≡ length l.initial.room;
  written : take (2 * l.i) l.room ++ encode_lower (drop l.i l.bytes) ≡ encode_lower l.bytes;
}
