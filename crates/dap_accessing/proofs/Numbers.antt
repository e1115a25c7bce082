-- The numbers in a message that was read have at most 8 bytes.
use Rattle.std.proofs.Common.{ℕ, ◌≤◌, List, [], length, arith, lit≤}
use Rattle.std.specs.Prelude.{Option, Some, None, unwrap_or}
use Rattle.dap_msg.specs.declared.message.Message.{Message}
use Rattle.dap_msg.specs.declared.message.Message.TheVariants.{Config, Attrib, Access, Control, Contran, Ack, Accomp, Filedata, Status, Other}
use Rattle.dap_msg.specs.Grammar.{Image}
use Rattle.dap_msg.specs.Fitting.{FitsOption, FieldsFit}
use Rattle.dap_accessing.specs.Inner.Hears.{HasShortNumbers}

option_short : (o : Option (List ℕ)) → FitsOption (Image 5) o → length (unwrap_or o []) ≤ 8
option_short (Some image) f = omega (arith, f)
option_short None f = lit≤ tt

pub short_numbers : (m : Message) → FieldsFit m → HasShortNumbers m
short_numbers (Config c) f = tt
short_numbers (Attrib a) f = option_short a.mrn f.9
short_numbers (Access a) f = tt
short_numbers (Control c) f = tt
short_numbers (Contran func) f = tt
short_numbers Ack f = tt
short_numbers (Accomp c) f = tt
short_numbers (Filedata recnum payload) f = f
short_numbers (Status s) f = f.2
short_numbers (Other number body) f = tt
