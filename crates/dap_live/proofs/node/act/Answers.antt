use Rattle.std.proofs.Common.{subst, sym}
use Rattle.dap_live.specs.Inner.NodeReaching.{NodeReaches}
use Rattle.dap_live.proofs.ResultLemmas.{err_always}
use Rattle.dap_live.proofs.node.act.Goals as goal

pub returns-in_err-take_packet-in-Packet-clause-err : goal.returns-in_err-take_packet-in-Packet-clause-err
returns-in_err-take_packet-in-Packet-clause-err c =
    err_always c.from_residual.result (subst (λ o. NodeReaches c.args.node.now o c.take_packet.new.node) (sym c.in-Packet.is) c.in_err-take_packet-in-Packet.ensures.err)

pub returns-in_err-resend-in-Resend-clause-err : goal.returns-in_err-resend-in-Resend-clause-err
returns-in_err-resend-in-Resend-clause-err c =
    err_always c.from_residual-in_err-resend-in-Resend.result (subst (λ o. NodeReaches c.args.node.now o c.resend.new.node) (sym c.in-Resend.is) c.in_err-resend-in-Resend.ensures.err)
