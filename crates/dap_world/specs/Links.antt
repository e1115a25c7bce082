-- What the link of an end has of the other end's NSP messages, as far as it took their segments and the end
-- processed them.
use Rattle.std.specs.Prelude.{ℕ, ◌-◌, nat_le, if◌then◌else◌, List, [], ◌∷◌, length, take}
use Rattle.dap_msg.specs.Blocked.{NspMessage, all_joined}
use Rattle.nsp_link.specs.Cutting.{Piece, cut}
use Rattle.nsp_link.specs.Coming.{Coming, nothing_came, with_all_taken}
use Rattle.dap_events.specs.declared.event.End.{End}
use Rattle.dap_events.specs.declared.event.End.TheVariants.{A, B}
use Rattle.dap_world.specs.Machine.{State, end_of, other_end}

-- the segments of what the other end passed to its link
abbrev pub coming_to : State → End → List Piece
coming_to s end = cut s.seg_size (all_joined (end_of s (other_end end)).handed)

-- what those that the end took make: whole messages, and the bytes of one that is begun
abbrev pub came_to : State → End → Coming
came_to s end = with_all_taken nothing_came (take (end_of s end).taken (coming_to s end))

-- how many of the DAP messages in them the end processed: A reads them, and B serves them
abbrev pub gone_through : State → End → ℕ
gone_through s A = s.read
gone_through s B = s.served

-- the first of these NSP messages, as many as are whole in the first n DAP messages
abbrev pub whole_among : ℕ → List NspMessage → List NspMessage
whole_among n [] = []
whole_among n (packet ∷ packets) = if nat_le (length packet) n then packet ∷ whole_among (n - length packet) packets else []

-- the NSP messages that left the link: the end has processed them
abbrev pub left_link : State → End → List (List ℕ)
left_link s end = all_joined (whole_among (gone_through s end) (end_of s (other_end end)).handed)
