-- Two servers that differ in what they say of themselves alone.
use Rattle.std.specs.Prelude.{◌≡◌, ◌⊎◌, List, [], ◌∷◌}
use Rattle.dap_msg.specs.declared.message.Configuration.{Configuration}
use Rattle.dap_msg.specs.declared.message.Message.{Message}
use Rattle.dap_msg.specs.declared.message.Message.TheVariants.{Config}
use Rattle.dap_accessed.specs.declared.setup.ServerSetup.{ServerSetup}

-- they compare names in one way, give the same rights, and both are full or none is
pub record AreTwins (one other : ServerSetup) : Type 0 where
  pub names : one.names ≡ other.names
  pub most : one.most ≡ other.most
  pub full : one.full ≡ other.full

-- two messages are the same, or each is the Configuration of its server
abbrev pub SameMessage : (one other : Configuration) → Message → Message → Type 0
SameMessage one other m n = (m ≡ n) ⊎ ((m ≡ Config one) × (n ≡ Config other))

-- two lists of messages are the same, but that each server sends its Configuration
abbrev pub SameMessages : (one other : Configuration) → List Message → List Message → Type 0
SameMessages one other [] [] = Unit {0}
SameMessages one other (m ∷ ms) (n ∷ ns) = SameMessage one other m n × SameMessages one other ms ns
SameMessages one other _ _ = ⊥
