-- What both ends have in common: they receive a packet and go on, and then write.
use Rattle.std.specs.Prelude.{◌≡◌, ◌⊎◌, ℕ, List, Result, Ok, Err}
use Rattle.nsp_link.specs.declared.link.Got.{Got}
use Rattle.nsp_link.specs.declared.link.Got.TheVariants.{AckOnly}
use Rattle.nsp_link.specs.declared.fault.LinkFault.{LinkFault}
use Rattle.nsp_link.specs.declared.fault.LinkFault.TheVariants as fault
use Rattle.nsp_link.specs.Receiving.{Receives}
use Rattle.dap_end.specs.declared.fault.EndFault.{EndFault}
use Rattle.dap_end.specs.declared.fault.EndFault.TheVariants as end_fault
use Rattle.dap_end.specs.declared.fault.TakeFault.{TakeFault}
use Rattle.dap_end.specs.declared.fault.TakeFault.TheVariants as take_fault
use Rattle.dap_end.specs.Ports.{EndValue, HandsOver, PortValue}
use Rattle.dap_end.specs.Writing.{Extends, WroteAnswer, WrotePart}

-- One of the two ends.
pub record EndOf (P : Type 0) : Type 1 where
  pub on : EndValue P → EndValue P → Type 0  -- some of what came was processed
  pub rests : EndValue P → Type 0  -- nothing is left to process here
  pub halts : EndValue P → EndValue P → EndFault → Type 0  -- why the first end goes on no further, and what it is then
  pub quiet : Type 0  -- nothing is reported

-- All that came was processed, and then what waits was passed on; or some of it was, and this is why no more.
abbrev pub DidAll : {P : Type 0} → EndOf P → (old new : EndValue P) → Result (Unit {0}) EndFault → Type 0
DidAll {P} end old new (Ok done) =
    (mid : EndValue P) × (n : ℕ) × end.on old mid × end.rests mid × HandsOver mid new n
DidAll {P} end old new (Err f) = (mid : EndValue P) × end.on old mid × end.halts mid new f

-- All was done, and then packets were written after those that were there.
pub record WroteThen {P : Type 0} (end : EndOf P) (writes : PortValue → PortValue → List (List ℕ) → Type 0)
    (old new : EndValue P) (out all : List (List ℕ)) : Type 0 where
  pub mid : EndValue P
  pub done : DidAll end old mid (Ok tt)
  pub rest : new ≡ record mid { port = new.port }
  pub wrote : Extends out all (writes mid.port new.port)

-- All was done, and all packets that answer this are written; or not all was done, and none is; or memory was refused
-- for a packet, and those before it are.
abbrev pub WritesReplies : {P : Type 0} → EndOf P → (old new : EndValue P) → Got → (out all : List (List ℕ)) → Result (Unit {0}) EndFault → Type 0
WritesReplies end old new got out all (Ok done) = WroteThen end (λ p q. WroteAnswer p q got) old new out all
WritesReplies end old new got out all (Err f) =
    (DidAll end old new (Err f) × (all ≡ out))
    ⊎ ((f ≡ end_fault.Link fault.NoMemory) × WroteThen end (λ p q. WrotePart p q got) old new out all)

-- what going on does: no acknowledgement is due
abbrev pub WentOn : {P : Type 0} → EndOf P → (old new : EndValue P) → (out all : List (List ℕ)) → Result (Unit {0}) EndFault → Type 0
WentOn end old new = WritesReplies end old new AckOnly

-- The packet was received, or refused.
pub record TookIn {P : Type 0} (old new : EndValue P) (bytes : List ℕ) (result : Result Got LinkFault) : Type 0 where
  pub receives : Receives old.port.link new.port.link bytes result
  pub rest : new ≡ record old { port = record old.port { link = new.port.link } }

-- it was received, and then answered
abbrev pub TookThen : {P : Type 0} → EndOf P → (old new : EndValue P) → (bytes : List ℕ) → Got → (out all : List (List ℕ)) → Result (Unit {0}) EndFault → Type 0
TookThen {P} end old new bytes got out all result =
    (mid : EndValue P) × TookIn old mid bytes (Ok got)
    × WritesReplies end mid new got out all result

-- What a packet does. Of one that is refused nothing is taken, written or reported.
abbrev pub TakesPacket : {P : Type 0} → EndOf P → (old new : EndValue P) → (bytes : List ℕ) → (out all : List (List ℕ)) → Result Got TakeFault → Type 0
TakesPacket end old new bytes out all (Ok got) = TookThen end old new bytes got out all (Ok tt)
TakesPacket end old new bytes out all (Err (take_fault.Refused f)) = TookIn old new bytes (Err f) × (all ≡ out) × end.quiet
TakesPacket end old new bytes out all (Err (take_fault.Unfinished got f)) = TookThen end old new bytes got out all (Err f)
