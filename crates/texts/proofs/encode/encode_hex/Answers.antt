use Rattle.std.proofs.Common.{◌+◌, ◌*◌, ◌∙◌, length-set, arith}
use Rattle.hex.specs.Hex.{lower_digits}
use Rattle.hex.proofs.Pairs.{encode_done, encode_step}
use Rattle.texts.proofs.encode.encode_hex.Goals as goal

pub bytes-preserved : goal.bytes-preserved
bytes-preserved c = record {
  size = length-set _ (2 * c.bytes.i + 1) c.digit_of-in-bytes.result ∙ length-set c.bytes.room (2 * c.bytes.i) c.digit_of.result ∙ c.bytes.invariant.size;
  written = encode_step lower_digits c.args.bytes.now c.bytes.room c.bytes.i c.digit_of.result c.digit_of-in-bytes.result (omega (arith, c.bytes-test.true)) (omega (arith, c.bytes-test.true, c.requires.size, c.bytes.invariant.size)) c.digit_of.ensures c.digit_of-in-bytes.ensures c.bytes.invariant.written;
}

pub returns-clause-digits : goal.returns-clause-digits
returns-clause-digits c =
    encode_done lower_digits c.args.bytes.now c.bytes.room c.bytes.i (omega (arith, c.bytes-test.false)) (c.bytes.invariant.size ∙ c.requires.size) c.bytes.invariant.written
