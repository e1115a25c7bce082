-- What is proved of all ends, of plain ones.
use Rattle.std.proofs.Common.{◌≡◌, ℕ, ◌≤◌, List, [], ◌∷◌, ◌++◌, arith, lit<}
use Rattle.dap_msg.specs.BothEnds.{plain_identity}
use Rattle.dap_msg.specs.Blocked.{NspMessage}
use Rattle.dap_msg.specs.declared.items.Item.{Item}
use Rattle.dap_msg.specs.Fitting.{FieldsFit}
use Rattle.dap_msg.specs.declared.message.Message.TheVariants.{Config}
use Rattle.dap_accessed.specs.Setup.{plain_setup}
use Rattle.dap_accessed.specs.Standing.{Files}
use Rattle.dap_accessed.proofs.ForCallers as accessed
use Rattle.dap_accessing.specs.Request.{Request}
use Rattle.dap_end.specs.Histories.{AreFull}
use Rattle.dap_end.proofs.ForCallers as ends
use Rattle.dap_world.specs.Agreement.{IsBufsiz}
use Rattle.dap_world.specs.Plain.{messages_of, Asked, Answers, answers_added}
use Rattle.dap_world.specs.Inner.Parts.{answer_packets}

-- the messages of one request more
pub Asked-more : (own : ℕ) (requests : List Request) (request : Request) → Asked own (requests ++ request ∷ []) ≡ Asked own requests ++ messages_of own request
Asked-more own requests request = ends.Asked-more (plain_identity own) requests request

-- the answers to one item more
pub Answers-more : (own : ℕ) (first : Files) (items : List Item) (item : Item) → Answers own first (items ++ item ∷ []) ≡ Answers own first items ++ answers_added own first items item
Answers-more own first items item = accessed.Answers-more (plain_setup own) first items item

-- the same as NSP messages
abbrev pub answer_to : (own : ℕ) → Files → (before : List Item) → Item → List NspMessage
answer_to own first before item = ends.answer_to (plain_setup own) first before item

pub answers-more : (own : ℕ) (items : List Item) (item : Item) → answer_packets own [] (items ++ item ∷ []) ≡ answer_packets own [] items ++ answer_to own [] items item
answers-more own items item = ends.answers-more (plain_setup own) [] items item

-- none of these is empty
pub answers_full : (own : ℕ) (before items : List Item) → AreFull (answer_packets own before items)
answers_full own before items = ends.answers_full (plain_setup own) [] before items

-- what a plain end says of itself has a spelling
pub plain_fits : (own : ℕ) → IsBufsiz own → FieldsFit (Config (plain_identity own))
plain_fits own b = (omega (arith, b.most), lit< tt, lit< tt, lit< tt, lit< tt, lit< tt, lit< tt, lit< tt, lit< tt)
