-- The headline: what was sent, taken, filed and reported, whatever the network did.
use Rattle.std.specs.Prelude.{ℕ, ◌≡◌, ◌≤◌, List, [], ◌++◌, length, map, take}
use Rattle.dap_msg.specs.declared.message.Message.{Message}
use Rattle.dap_msg.specs.declared.items.Item.TheVariants.{Whole}
use Rattle.dap_accessed.specs.Standing.{Files}
use Rattle.dap_world.specs.Plain.{Answers, After, Asked}
use Rattle.dap_accessing.specs.Request.{Request}
use Rattle.dap_accessing.specs.declared.report.Report.{Report}
use Rattle.dap_accessing.specs.Told.{Told}
use Rattle.dap_world.specs.Machine.{State, sent_by, served_by_b, files_of, reports_by_a}

-- The messages that A sent are a prefix of those that the requests ask. Those that B served are the first of these,
-- each once and in order. The files are those after what was served. The reports are those of the requests and of the
-- first answers to what was served.
pub record Headline (own_a own_b : ℕ) (requests : List Request) (sent taken : List Message) (taken_count : ℕ) (files : Files) (reports : List Report) (read_count : ℕ) : Type 0 where
  pub sent_in_order : (rest : List Message) × (sent ++ rest ≡ Asked own_a requests)
  pub taken_in_order : taken ≡ take taken_count sent
  pub taken_there : taken_count ≤ length sent
  pub files_after : files ≡ After own_b [] (map Whole taken)
  pub reports_told : reports ≡ Told requests (map Whole (take read_count (Answers own_b [] (map Whole taken))))
  pub answers_there : read_count ≤ length (Answers own_b [] (map Whole taken))

-- The headline of what the readers of a world in this state answer. Three clauses hold by the definitions of these
-- readers (`taken_in_order`, `files_after`, `reports_told`); the other three are proved of every run.
abbrev pub HeadlineOf : State → Type 0
HeadlineOf s =
    Headline s.own_a s.own_b s.requests (sent_by s.a) (served_by_b s) s.served (files_of s) (reports_by_a s) s.read
