use Rattle.std.proofs.Common.{arith}
use Rattle.dap_msg.proofs.Messages.{header_leaves, short_size}
use Rattle.dap_msg.proofs.decoding.message_in_front.Goals as goal

pub overflow_sub-result : goal.overflow_sub-result
overflow_sub-result c = omega (arith, header_leaves _ _ _ (λ i. omega (arith, c.type_inv.input i)) c.in_ok-header.ensures)

pub overflow_sub-result-then-rest-len : goal.overflow_sub-result-then-rest-len
overflow_sub-result-then-rest-len c =
    omega (arith, c.length_size.ensures, short_size c.in_ok-header.header.high, header_leaves _ _ _ (λ i. omega (arith, c.type_inv.input i)) c.in_ok-header.ensures)

pub overflow_sub-end : goal.overflow_sub-end
overflow_sub-end c =
    omega (arith, c.split_at.ensures.back_len, header_leaves _ _ _ (λ i. omega (arith, c.type_inv.input i)) c.in_ok-header.ensures)
