use Rattle.dap_msg.proofs.Values.{limits}
use Rattle.dap_msg.proofs.encoding.encode_counted.Goals as goal

pub encode_here-requires : goal.encode_here-requires
encode_here-requires c = record { fits = limits c.args.message.now c.requires.fits; counted = c.requires.counted }

pub encode_apart-requires-clause-fits : goal.encode_apart-requires-clause-fits
encode_apart-requires-clause-fits c = limits c.args.message.now c.requires.fits
