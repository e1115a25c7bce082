-- What is true of a session, and what its calls do.
use Rattle.std.specs.Prelude.{ℕ, ◌≡◌, ◌≤◌, List, Option, IfSome}
use Rattle.std.specs.Global.{Vec}
use Rattle.dap_msg.specs.BothEnds.{min_buffer}
use Rattle.dap_msg.specs.Fitting.{FieldsFit}
use Rattle.dap_msg.specs.declared.message.Message.{Message}
use Rattle.dap_msg.specs.declared.message.Message.TheVariants.{Config}
use Rattle.dap_accessed.specs.declared.asked.Asked.{Asked}
use Rattle.dap_accessed.specs.Asked.{IsAsked}
use Rattle.dap_accessed.specs.declared.setup.ServerSetup.{ServerSetup}
use Rattle.dap_accessed.specs.declared.phase.Phase.{Phase}
use Rattle.dap_accessed.specs.Served.{AreAnswers}
use Rattle.dap_accessed.specs.Sessions.{SessionValue}

pub record IsSession (own : ServerSetup) (limit : ℕ) (kept : Option Asked) : Type 0 where
  pub setup : FieldsFit (Config own.identity)
  pub good : IfSome kept IsAsked
  -- every answer but a record goes to the peer
  pub room : min_buffer ≤ limit

-- the phase moved, and these are the answers
pub record Enters (old : SessionValue) (phase : Phase) (messages : List Message) (new : SessionValue) (answers : Vec (Vec ℕ)) : Type 0 where
  pub session : new ≡ record old { phase = phase }
  pub answered : AreAnswers old.limit messages answers
