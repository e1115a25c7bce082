-- How much a link of a node keeps, and when it has served all that came.
use Rattle.std.specs.Prelude.{◌≡◌, ◌⊎◌, ℕ, ◌+◌, ◌<◌, ◌≤◌, List, [], slice_get, Ok}
use Rattle.nsp_link.specs.declared.link.Got.TheVariants.{AckOnly}
use Rattle.nsp_link.specs.Cutting.{total_length}
use Rattle.dap_end.specs.By.{ServedBy, ServesAt, TurnsBy}
use Rattle.dap_end.specs.Node.{NodeValue, OnLink, serves_on}
use Rattle.dap_end.specs.Ports.{EndValue, HandsOver, PortValue, bytes_waiting}
use Rattle.dap_end.specs.Turns.{EndOf, TookIn, WritesReplies}

-- No more bytes wait than before; or fewer than the limit and the answers to one item that was served meanwhile.
abbrev pub IsBoundedBy : {P : Type 0} → ServesAt P → (most : ℕ) → (old first new : EndValue P) → Type 0
IsBoundedBy {P} serves most old first new =
    (bytes_waiting new.port ≤ bytes_waiting old.port)
    ⊎ ((last posted mid : EndValue P) × (count n : ℕ) × TurnsBy serves most first last × HandsOver last posted count × ServedBy serves posted mid n
    × (bytes_waiting new.port < most + total_length mid.port.outbox))

-- nothing of what came is unserved, and no answer waits or isn't acknowledged
pub record IsDone (port : PortValue) : Type 0 where
  pub served : port.link.coming.inbox ≡ []
  pub idle : port.outbox ≡ []
  pub empty : port.link.queue ≡ []
  pub acknowledged : port.link.sent ≡ port.link.acked

-- A packet came that has no segment and acknowledges all that was sent, and all was done that this lets the end do.
pub record IsClean {P : Type 0} (end : EndOf P) (old new : EndValue P) : Type 0 where
  pub bytes : List ℕ
  pub mid : EndValue P
  pub took : TookIn old mid bytes (Ok AckOnly)
  pub acknowledges : mid.port.link.acked ≡ old.port.link.sent
  pub out : List (List ℕ)
  pub all : List (List ℕ)
  pub answers : WritesReplies end mid new AckOnly out all (Ok tt)

-- So often such packets came on a link, and between them whatever was done that left this link as it was.
pub data CleanStretch (link most : ℕ) : ℕ → NodeValue → NodeValue → Type 0 where
  at_rest : {v : NodeValue} → CleanStretch link most 0 v v
  one_clean : {n : ℕ} {old new : NodeValue} (mid : NodeValue) → OnLink link (IsClean (serves_on link most)) old mid → CleanStretch link most n mid new → CleanStretch link most (n + 1) old new
  others_do : {n : ℕ} {old new : NodeValue} (mid : NodeValue) → slice_get mid.ports link ≡ slice_get old.ports link → CleanStretch link most n mid new → CleanStretch link most n old new
