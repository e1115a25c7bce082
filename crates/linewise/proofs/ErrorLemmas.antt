-- What an error of `clap` is, from the kinds that the words can give.
use Rattle.std.proofs.Common.{◌≡◌, ◌⊎◌, inl, inr, [], ◌∷◌}
use Rattle.std.proofs.Common.{subst}
use Rattle.clap.specs.Words.{HasKind, Kinds, kind_of}
use Rattle.clap.specs.declared.error.Error.{Error}
use Rattle.clap.specs.declared.error.kind.ErrorKind.TheVariants.{OutOfMemory, DisplayHelp}
use Rattle.linewise.specs.Mistakes.{IsMistake, AreMistakes}

-- an error where nothing is at fault is out of memory
pub only_memory : (kinds : Kinds) (e : Error) → kinds ≡ [] → HasKind kinds e → kind_of e ≡ OutOfMemory
only_memory [] e none (inl memory) = memory
only_memory [] e none (inr among) = elim among [ ]
only_memory (kind ∷ kinds) e none has = let no : ⊥ = cc in absurd no

pub memory_or_mistake : (kinds : Kinds) (e : Error) → AreMistakes kinds → HasKind kinds e → (kind_of e ≡ OutOfMemory) ⊎ IsMistake (kind_of e)
memory_or_mistake kinds e mistakes (inl memory) = inl memory
memory_or_mistake kinds e mistakes (inr among) = inr (mistakes.1 (kind_of e) among)

pub memory_or_help : (kinds : Kinds) (e : Error) → kinds ≡ DisplayHelp ∷ [] → HasKind kinds e → (kind_of e ≡ OutOfMemory) ⊎ (kind_of e ≡ DisplayHelp)
memory_or_help kinds e help has =
    elim (subst (λ (k : Kinds). HasKind k e) help has) [
      | inl memory ↦ inl memory
      | inr among ↦ elim among [ inl here ↦ inr here | inr later ↦ elim later [ ] ]
    ]
