use Rattle.std.proofs.Common.{refl}
use Rattle.dap_msg.proofs.Canonical.{closed_spelling}
use Rattle.dap_msg.proofs.Values.{limits}
use Rattle.dap_msg.proofs.fitting.fits_value.Goals as goal

pub returns-then-fields_fit : goal.returns-then-fields_fit
returns-then-fields_fit c =
    let m = c.args.message.now in
    (λ t. closed_spelling m (record { fields = c.if-fields_fit.ensures.0 refl; length = c.operand_fits.ensures.0 t }), λ h. c.operand_fits.ensures.1 (limits m h).length)

pub returns-else-fields_fit : goal.returns-else-fields_fit
returns-else-fields_fit c = (λ t. absurd cc, λ h. c.fields_fit.ensures.1 (limits c.args.message.now h).fields)
