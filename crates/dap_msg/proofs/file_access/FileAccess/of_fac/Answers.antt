use Rattle.std.proofs.Common.{arith}
use Rattle.dap_msg.specs.Codes.{fac_bits}
use Rattle.dap_msg.proofs.Flags.{operations_of, asks_alike}
use Rattle.dap_msg.proofs.file_access.FileAccess.of_fac.Goals as goal

pub returns : goal.returns
returns c =
    let bits = operations_of c.args.fac _ (c.from_bits_truncate.ensures tt) in
    record {
      bits = bits;
      put = asks_alike c.args.fac c.from_bits_truncate.result.0 fac_bits.put (omega (arith, bits));
      get = asks_alike c.args.fac c.from_bits_truncate.result.0 fac_bits.get (omega (arith, bits));
      delete = asks_alike c.args.fac c.from_bits_truncate.result.0 fac_bits.delete (omega (arith, bits));
      update = asks_alike c.args.fac c.from_bits_truncate.result.0 fac_bits.update (omega (arith, bits));
    }
