use Rattle.std.proofs.Common.{◌≡◌, ◌%◌, ◌∙◌, length, length-set, arith}
use Rattle.hex.proofs.Pairs.{decode_done, decode_step}
use Rattle.hex.proofs.HexLemmas.{decode_of-even}
use Rattle.texts.proofs.decode.decode_hex.Goals as goal

pub bytes-preserved : goal.bytes-preserved
bytes-preserved c = record {
  size = length-set c.bytes.room c.bytes.i c.pair.result ∙ c.bytes.invariant.size;
  decoded = decode_step c.args.digits.now c.bytes.room c.bytes.i c.pair.result (omega (arith, c.requires.size, c.bytes-test.true)) (omega (arith, c.bytes-test.true, c.bytes.invariant.size)) (c.pair.ensures _) c.bytes.invariant.decoded;
}

pub returns-clause-bytes : goal.returns-clause-bytes
returns-clause-bytes c =
    let even : length c.args.digits.now % 2 ≡ 0 = omega (arith, c.requires.size) in
    decode_of-even c.args.digits.now even
    ∙ decode_done c.args.digits.now c.bytes.room c.bytes.i (omega (arith, c.bytes-test.false, c.bytes.invariant.size)) (omega (arith, c.bytes-test.false, c.requires.size)) c.bytes.invariant.decoded
