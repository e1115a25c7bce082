-- The rights of a list of names, one by one.
use Rattle.std.proofs.Common.{◌≡◌, ◌==◌, refl, ◌+◌, ◌∙◌, ℕ, List, take, drop, ap, Option, Some, None}
use Rattle.std.specs.List.{position}
use Rattle.std.specs.Option.{option_and_then}
use Rattle.rec_file.specs.declared.picks.Rights.{Rights}
use Rattle.texts.proofs.ForCallers.{some_part, only_part}
use Rattle.dap_live.specs.Rights.{comma_separated, with_right, with_rights}

last_right : (found : Option Rights) → option_and_then (λ more. Some more) found ≡ found
last_right None = refl
last_right (Some more) = refl

pub one_right : (rights : Rights) (names : List ℕ) → position (λ byte. byte == 44) names ≡ None → with_rights rights (comma_separated names) ≡ with_right rights names
one_right rights names none =
    ap (λ l. with_rights rights l) (only_part 44 names none) ∙ last_right (with_right rights names)

pub some_right : (rights : Rights) (names : List ℕ) (end : ℕ) (first : Option Rights) → position (λ byte. byte == 44) names ≡ Some end → with_right rights (take end names) ≡ first → with_rights rights (comma_separated names) ≡ option_and_then (λ more. with_rights more (comma_separated (drop (end + 1) names))) first
some_right rights names end first found one =
    ap (λ l. with_rights rights l) (some_part 44 names end found).0
    ∙ ap (λ o. option_and_then (λ more. with_rights more (comma_separated (drop (end + 1) names))) o) one
