use Rattle.std.proofs.Common.{◌≡◌, ◌≤◌, ◌<◌, ◌-◌, ◌++◌, ℕ, List, length}
use Rattle.dap_listing.proofs.MessageLemmas.{GoesOn}
use Rattle.dap_listing.proofs.message.push_messages.Given as goal

abbrev pub invariant-items : goal.invariant-items
invariant-items l = record {
  inside : l.at ≤ length l.nsp_message;
  before_end : 0 < length l.nsp_message → l.at < length l.nsp_message;
  so_far : (done : List ℕ) × (l.text.items ≡ l.initial.text.items ++ done) × GoesOn l.in_words l.nsp_message l.at done;
}

abbrev pub decreases-items : goal.decreases-items
decreases-items l = length l.nsp_message - l.at
