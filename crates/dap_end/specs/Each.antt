-- A client from which records of a batch under way were taken out.
use Rattle.std.specs.Prelude.{ℕ, List}
use Rattle.dap_accessing.specs.Each.{put_back}
use Rattle.dap_end.specs.Done.{AskingValue}

-- the client as if these records were still kept before those that it has
abbrev pub with_told : (told : List (ℕ × List ℕ)) → AskingValue → AskingValue
with_told told v = record v { present = put_back told v.present }
