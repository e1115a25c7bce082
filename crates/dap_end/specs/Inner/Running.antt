-- What a list of calls leaves, as proofs go over it.
use Rattle.std.specs.Prelude.{◌≡◌, ℕ, List, [], ◌++◌, map}
use Rattle.dap_msg.specs.declared.message.Message.{Message}
use Rattle.dap_msg.specs.declared.items.Item.{Item}
use Rattle.dap_msg.specs.declared.items.Item.TheVariants.{Whole}
use Rattle.nsp_link.specs.declared.link.LinkSetup.{LinkSetup}
use Rattle.nsp_link.specs.Link.{IsSetup, Stands, with_inbox, AreShort}
use Rattle.dap_accessed.specs.Standing.{Files}
use Rattle.dap_accessed.specs.Groups.{Answers, After}
use Rattle.dap_accessing.specs.Asked.{Asked}
use Rattle.dap_accessing.specs.Told.{Told}
use Rattle.dap_end.specs.Ports.{new_port}
use Rattle.dap_end.specs.Done.{ServingValue, ServerHistory, nothing_yet, nothing_asked}
use Rattle.dap_end.specs.Serving.{IsAfter}
use Rattle.dap_end.specs.Asking.{HasAsked}
use Rattle.dap_end.specs.Writing.{Extends}
use Rattle.dap_end.specs.Joined.{Pair}

-- What the end did grew into this.
pub record Grew (history now : ServerHistory) (old new : ServingValue) : Type 0 where
  pub is : IsAfter now new
  pub first : now.first ≡ history.first
  pub items : (more : List Item) × (now.items ≡ history.items ++ more)
  pub handed : Extends history.handed now.handed (AreShort old.port.link)
  -- what left the link was served
  pub given : now.given ++ new.port.link.coming.inbox ≡ history.given ++ old.port.link.coming.inbox
  pub stands : (size : ℕ) (messages : List (List ℕ))
      → Stands old.port.link size messages history.given
      → Stands new.port.link size messages now.given

-- more was served and passed on
pub record ServedMore (old new : ServingValue) : Type 0 where
  -- what came and what is queued may have moved, and nothing else of the link
  pub link : new.port.link ≡ record (with_inbox old.port.link new.port.link.coming.inbox) { queue = new.port.link.queue }
  pub own : new.present.own ≡ old.present.own
  pub setup : new.present.setup ≡ old.present.setup
  pub past : (history : ServerHistory) → IsAfter history old
      → (now : ServerHistory) × Grew history now old new

-- the setups of the two ends of one link: but for their segments and windows they differ in the addresses, exchanged
pub record AreOpposite (s t : LinkSetup) : Type 0 where
  pub good : IsSetup s
  pub other_good : IsSetup t
  pub facing : t ≡ record s { local = s.remote; remote = s.local; seg_size = t.seg_size; window = t.window }

-- both are new, the one that serves with these files
pub record AreNew (s t : LinkSetup) (first : Files) (p : Pair) : Type 0 where
  pub port_a : p.a.port ≡ new_port s
  pub asking : HasAsked nothing_asked p.a
  pub port_b : p.b.port ≡ new_port t
  pub serving : IsAfter (nothing_yet first) p.b
  pub none : p ≡ record { a = p.a; b = p.b; from_a = []; from_b = []; requests = []; reports = [] }

-- The messages that were served are the first of those that the requests ask, each once and in order; the files are
-- those after them; the answers that were read are the first of the answers to them, and the reports are those that the
-- definition gives for these.
pub record PairHeadline (first : Files) (p : Pair) : Type 0 where
  pub taken : List Message
  pub taken_in_order : (rest : List Message) × (taken ++ rest ≡ Asked p.a.present.identity p.requests)
  pub files_after : p.b.present.files ≡ After p.b.present.setup first (map Whole taken)
  pub read : List Message
  pub read_in_order : (rest : List Message) × (read ++ rest ≡ Answers p.b.present.setup first (map Whole taken))
  pub reports_told : p.reports ≡ Told p.requests (map Whole read)
