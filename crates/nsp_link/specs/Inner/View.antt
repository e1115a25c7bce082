-- The value of a link end's fields.
use Rattle.std.specs.Prelude.{Some, None, ◌≡◌, ◌≤◌, ◌+◌, ◌*◌, length, slice_get}
use Rattle.nsp_link.specs.declared.link.LinkEnd.TheInside.{Inside}
use Rattle.nsp_link.specs.Limits.{max_limit}
use Rattle.nsp_link.specs.Link.{LinkValue, IsLink, waiting_bytes}
use Rattle.nsp_link.specs.Inner.Pieces.{piece_values, coming_of, held_from}

abbrev pub link_view : Inside → LinkValue
link_view a = record {
  setup = a.setup;
  sent = a.sent;
  acked = a.acked;
  queue = piece_values a.queue.items;
  part = a.part;
  coming = coming_of a.incoming;
  held = held_from (a.incoming.received + 1) a.held.items;
  failed = a.failed;
}

-- What holds of the fields: there is a slot for each number of the window, that of the next one is free, and the
-- filled ones are counted.
pub record IsLinkInside (a : Inside) : Type 0 where
  pub link : IsLink (link_view a)
  pub slots : length a.held.items ≡ a.setup.window
  pub capacity : a.held.capacity ≡ a.setup.window
  pub free : slice_get a.held.items 0 ≡ Some None
  pub counted : a.early ≡ length (held_from (a.incoming.received + 1) a.held.items)
  -- the bytes that wait are counted; of each segment, acknowledged or not, there are no more than a message may have
  pub waiting : a.waiting ≡ waiting_bytes (link_view a)
  pub few_bytes : a.waiting ≤ max_limit * (a.acked + length a.queue.items)
