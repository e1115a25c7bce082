-- What one turn of serving does.
use Rattle.std.specs.Prelude.{ℕ, Bool, true, false, Result, Ok, Err}
use Rattle.nsp_link.specs.declared.fault.LinkFault.{LinkFault}
use Rattle.dap_end.specs.declared.fault.EndFault.TheVariants as end_fault
use Rattle.dap_end.specs.Ports.{EndValue, HandsOver}
use Rattle.dap_end.specs.By.{HaltsBy, PortRests, ServedBy, ServesAt}
use Rattle.dap_end.specs.Taking.{HasRoom}

-- what waited was passed on, and the next item served
pub record ServedOn {P : Type 0} (serves : ServesAt P) (most : ℕ) (old new : EndValue P) : Type 0 where
  pub posted : EndValue P
  pub count : ℕ
  pub hands : HandsOver old posted count
  pub room : HasRoom most old.port
  pub answered : ℕ
  pub served : ServedBy serves posted new answered

-- what waited was passed on, and no more is served: before that it was so, and is so still
pub record Paused {P : Type 0} (most : ℕ) (old new : EndValue P) : Type 0 where
  pub count : ℕ
  pub hands : HandsOver old new count
  pub before : PortRests most old.port
  pub rests : PortRests most new.port

-- it says whether an item was served
abbrev pub Turned : {P : Type 0} → ServesAt P → (most : ℕ) → (old new : EndValue P) → Result Bool LinkFault → Type 0
Turned serves most old new (Ok true) = ServedOn serves most old new
Turned serves most old new (Ok false) = Paused most old new
Turned serves most old new (Err f) = HaltsBy most old new (end_fault.Link f)
