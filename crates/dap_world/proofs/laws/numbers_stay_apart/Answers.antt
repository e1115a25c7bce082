use Rattle.dap_world.proofs.Steps.Apart.{counts_in_order, within_window, are_near, segments_told, acks_told}
use Rattle.dap_world.proofs.laws.numbers_stay_apart.Goals as goal

pub returns-clause-order : goal.returns-clause-order
returns-clause-order c = counts_in_order

pub returns-clause-window : goal.returns-clause-window
returns-clause-window c = within_window

pub returns-clause-near : goal.returns-clause-near
returns-clause-near c = are_near

pub returns-clause-segments : goal.returns-clause-segments
returns-clause-segments c = segments_told

pub returns-clause-acks : goal.returns-clause-acks
returns-clause-acks c = acks_told
