-- The messages of responses have a spelling, and all but a record have a short one.
use Rattle.std.specs.Prelude.{ℕ, ◌^◌, ◌<◌, ◌≤◌, List, length}
use Rattle.dap_msg.specs.Message.{Message, Configuration, StatusFields, Ack, Config, Status}
use Rattle.dap_msg.specs.Fitting.{FieldsFit}
use Rattle.dap_msg.specs.Canon.{canon, Fits}
use Rattle.dap_msg.specs.BothEnds.{config_of, complete_with, attributes_of, data_message, min_buffer}

-- the message has a spelling, and that is short
pub record IsShortAnswer (m : Message) : Type 0 where
  pub fits : Fits m
  pub short : length (canon m) ≤ min_buffer

-- Each message of a response has a spelling.
pub record AnswersFit : Type 0 where
  pub config : (bufsiz : ℕ) → bufsiz < 2 ^ 16 → IsShortAnswer (config_of bufsiz)
  pub identity : (own : Configuration) → FieldsFit (Config own) → IsShortAnswer (Config own)
  pub attributes : (org rfm mrs mrn : ℕ) → org < 2 ^ 8 → rfm < 2 ^ 8 → mrs < 2 ^ 16 → IsShortAnswer (attributes_of org rfm mrs mrn)
  pub ack : IsShortAnswer Ack
  pub complete : (func : ℕ) → func < 2 ^ 8 → IsShortAnswer (complete_with func)
  pub status : (s : StatusFields) → s.code < 2 ^ 16 → length s.rfa ≤ 4 → length s.recnum ≤ 4 → length s.stv ≤ 4 → IsShortAnswer (Status s)
  pub filedata : (number : ℕ) (body : List ℕ) → length body ≤ 32767
      → Fits (data_message number body)
