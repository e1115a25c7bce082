-- What holds of a result by what holds of another one.
use Rattle.std.specs.Prelude.{Result, Ok, Err, IfOk, OnOk, OnErr}

module _ {A E : Type 0} where
  pub ok_from : {P Q : A → Type 0} (r : Result A E) → IfOk r P → ((a : A) → P a → Q a) → IfOk r Q
  ok_from (Ok a) holds next = next a holds
  ok_from (Err e) holds next = tt

  pub ok_both : {P : Type 0} {Q R : A → Type 0} (r : Result A E) → OnOk r P → IfOk r Q → ((a : A) → P → Q a → R a) → IfOk r R
  ok_both (Ok a) on holds next = next a on holds
  ok_both (Err e) on holds next = tt

  pub err_always : {P : Type 0} (r : Result A E) → P → OnErr r P
  err_always (Ok a) holds = tt
  err_always (Err e) holds = holds

  pub err_from : {P Q : Type 0} (r : Result A E) → OnErr r P → (P → Q) → OnErr r Q
  err_from (Ok a) holds next = tt
  err_from (Err e) holds next = next holds
