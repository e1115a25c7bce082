-- What a taker makes of packets, one after the other.
use Rattle.std.proofs.Common.{◌≡◌, ℕ, List, [], ◌∷◌, ◌++◌, ap, sym, ◌∙◌, subst, append_assoc}
use Rattle.decnet_frames.specs.Found.{FoundPacket, TakesAll, Taking}

pub takes_append : {T : Type 0} (taken : Taking T) (old mid new : T) (some others : List FoundPacket) (first second : List ℕ)
    → TakesAll taken old some mid first → TakesAll taken mid others new second → TakesAll taken old (some ++ others) new (first ++ second)
takes_append {T} taken old mid new [] others first second (same, none) more =
    subst (λ (xs : List ℕ). TakesAll taken old others new (xs ++ second)) (sym none) (subst (λ (t : T). TakesAll taken t others new second) same more)
takes_append taken old mid new (found ∷ some) others first second (now, one, rest, took, takes, is) more =
    (now, one, rest ++ second, took, takes_append taken now mid new some others rest second takes more, ap (λ l. l ++ second) is ∙ append_assoc one rest second)
