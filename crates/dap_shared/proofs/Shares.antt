-- No two links share a file that one of them may change, and what a link has open stays as it is while others are
-- served.
use Rattle.std.proofs.Common.{◌≡◌, ◌≢◌, ℕ, suc, ◌+◌, ◌-◌, ◌<◌, ◌≤◌, Bool, true, false, List, [], ◌∷◌, ◌++◌, length, Option, Some, None, refl, ap, sym, subst, ◌∙◌, inl, inr, arith, eq-eqb}
use Rattle.std.specs.Prelude.{IfSome, if◌then◌else◌, ◌==◌, ◌||◌, ◌&&◌, drop, nat_le, nat_lt, option_map}
use Rattle.std.proofs.lemmas.Bool.Decides.{nat_tests}
use Rattle.std.specs.List.{remove}
use Rattle.std.specs.Option.{option_or}
use Rattle.std.proofs.lemmas.Bool.{cases_lt, cases_eq, lt-ltb, le-ltb, ne_eqb}
use Rattle.std.proofs.lemmas.List.{append-nil, drop_all, get_or-set_other, get_or_append_left, length-append, take_all}
use Rattle.std.proofs.lemmas.List.Edits.{length-remove, get_or-remove_below, get_or-remove_above}
use Rattle.dap_accessed.specs.declared.phase.OpenFile.{OpenFile}
use Rattle.dap_accessed.specs.Setup.{all_rights}
use Rattle.rec_file.specs.Files.{FileVal}
use Rattle.dap_accessed.specs.Standing.{Files, plain_shape, new_file, with_file, name_at}
use Rattle.dap_accessed.proofs.ForCallers.{length-with}
use Rattle.dap_accessed.specs.Sessions.{moved_up}
use Rattle.dap_shared.specs.Sharing.{has_alone, has_made, is_fewer, are_apart}
use Rattle.dap_shared.specs.Keeping.{AreApart, entry_at}
use Rattle.dap_shared.proofs.Changes.{may_write, Moved, keeps, closes, writes, opens, makes, replaces, removes, erases}

-- ---- Two that are open.

pub differ : (one two : OpenFile) → has_alone one ≡ true → are_apart one two ≡ false → one.at ≢ two.at
differ one two alone e same =
    let both : are_apart one two ≡ true = ap (λ b. b && (has_alone one || has_alone two)) (eq-eqb one.at two.at same) ∙ ap (λ b. b || has_alone two) alone in
    let none : true ≡ false = sym both ∙ e in cc

apart-by : (one two : OpenFile) → one.at ≢ two.at → are_apart one two ≡ false
apart-by one two d = ap (λ b. b && (has_alone one || has_alone two)) (ne_eqb one.at two.at d)

or-true : (b : Bool) → (b || true) ≡ true
or-true true = refl
or-true false = refl

alone-writes : (o : OpenFile) → may_write o.rights ≡ true → has_alone o ≡ true
alone-writes o e = ap (λ b. o.is_new || b) e ∙ or-true o.is_new

and-false : (b : Bool) → (b && false) ≡ false
and-false true = refl
and-false false = refl

-- ---- A file was removed.

abbrev pub shifted : Option OpenFile → OpenFile → OpenFile
shifted None o = o
shifted (Some removed) o = moved_up removed.at o

above-at : (r : ℕ) (o : OpenFile) → r < o.at → (moved_up r o).at ≡ o.at - 1
above-at r o lt = ap (λ b. if b then o.at - 1 else o.at) (lt-ltb r o.at lt)

below-at : (r : ℕ) (o : OpenFile) → o.at ≤ r → (moved_up r o).at ≡ o.at
below-at r o le = ap (λ b. if b then o.at - 1 else o.at) (le-ltb r o.at le)

-- two indices that aren't that of the removed file stay two
pub still-differ : (r : ℕ) (one two : OpenFile) → one.at ≢ r → two.at ≢ r → one.at ≢ two.at → (moved_up r one).at ≢ (moved_up r two).at
still-differ r one two a b d same =
    elim (cases_lt r one.at) [
      | inl up ↦ elim (cases_lt r two.at) [
        | inl high ↦ d (let p = above-at r one up in let q = above-at r two high in omega (arith, same, p, q, up, high))
        | inr low ↦ b (let p = above-at r one up in let q = below-at r two low in omega (arith, same, p, q, up, low))
      ]
      | inr down ↦ elim (cases_lt r two.at) [
        | inl high ↦ a (let p = below-at r one down in let q = above-at r two high in omega (arith, same, p, q, down, high))
        | inr low ↦ d (let p = below-at r one down in let q = below-at r two low in omega (arith, same, p, q))
      ]
    ]

pub still-apart : (r : ℕ) (one two : OpenFile) → one.at ≢ r → two.at ≢ r → are_apart one two ≡ false → are_apart (moved_up r one) (moved_up r two) ≡ false
still-apart r one two a b e =
    elim (cases_eq one.at two.at) [
      | inl same ↦
          let neither-alone : (has_alone one || has_alone two) ≡ false = sym (ap (λ t. t && (has_alone one || has_alone two)) (eq-eqb one.at two.at same)) ∙ e in
          ap (λ t. ((moved_up r one).at == (moved_up r two).at) && t) neither-alone ∙ and-false ((moved_up r one).at == (moved_up r two).at)
      | inr d ↦ apart-by (moved_up r one) (moved_up r two) (still-differ r one two a b d)
    ]

-- ---- What one link does, and what another has open.

-- what was removed, by the lengths of the tables
abbrev pub gone : (before after : Files) → (held new asks : Option OpenFile) → Option OpenFile
gone before after held new asks = if is_fewer (has_made held new) before after then option_or held asks else None

pub none-gone : (before after : Files) (held new asks : Option OpenFile) → is_fewer (has_made held new) before after ≡ false → gone before after held new asks ≡ None
none-gone before after held new asks e = ap (λ b. if b then option_or held asks else None) e

-- where none is made, as many files
as-many : (made : Bool) (before after : Files) → made ≡ false → length before ≤ length after → is_fewer made before after ≡ false
as-many made before after e le = ap (λ m. if m then nat_le (length after) (length before) else nat_lt (length after) (length before)) e ∙ le-ltb (length after) (length before) le

longer : (made : Bool) (before after : Files) → length before < length after → is_fewer made before after ≡ false
longer true before after lt = grind (arith, nat_tests, lt)
longer false before after lt = grind (arith, nat_tests, lt)

none-made : (held : Option OpenFile) → has_made held None ≡ false
none-made None = refl
none-made (Some o) = refl

same-made : (held : Option OpenFile) → has_made held held ≡ false
same-made None = refl
same-made (Some o) = refl

pub stays-none : (files : Files) (held asks : Option OpenFile) → gone files files held None asks ≡ None
stays-none files held asks = none-gone files files held None asks (as-many (has_made held None) files files (none-made held) (omega arith))

index-of : (o r : OpenFile) → Some o ≡ Some r → o.at ≡ r.at
index-of o r e = let same : o ≡ r = cc in ap (λ (x : OpenFile). x.at) same

pub record Aside (before after : Files) (held removed : Option OpenFile) (p : OpenFile) : Type 0 where
  pub within : (shifted removed p).at < length after
  pub same : entry_at (shifted removed p).at after ≡ entry_at p.at before
  pub apart : AreApart held (Some (shifted removed p))
  pub elsewhere : (r : OpenFile) → removed ≡ Some r → p.at ≢ r.at

module _ (before : Files) (asks : Option OpenFile) (p : OpenFile) (there : p.at < length before) (free : (o : OpenFile) → asks ≡ Some o → are_apart o p ≡ false) where
  -- the file at another index is removed
  without : (o : OpenFile) → o.at < length before → o.at ≢ p.at → Aside before (remove before o.at) None (Some o) p
  without o w d =
      let n = length-remove before o.at w in
      elim (cases_lt o.at p.at) [
        | inl up ↦
            let at = above-at o.at p up in
            record {
              within = omega (arith, n, at, up, there);
              same =
                  ap (λ k. entry_at k (remove before o.at)) at ∙ get_or-remove_above before o.at ([], new_file plain_shape) (p.at - 1) (omega (arith, up)) w
                  ∙ ap (λ k. entry_at k before) (let back : p.at - 1 + 1 ≡ p.at = omega (arith, up) in back);
              apart = tt;
              elsewhere = λ r e same. d (index-of o r e ∙ sym same);
            }
        | inr down ↦
            let at = below-at o.at p down in
            let lt : p.at < o.at = elim (cases_eq p.at o.at) [ inl same ↦ absurd (d (sym same)) | inr other ↦ omega (arith, down, other) ] in
            record {
              within = omega (arith, n, at, lt, w);
              same = ap (λ k. entry_at k (remove before o.at)) at ∙ get_or-remove_below before o.at ([], new_file plain_shape) p.at lt w;
              apart = tt;
              elsewhere = λ r e same. d (index-of o r e ∙ sym same);
            }
      ]

  shorter : (o : OpenFile) → o.at < length before → nat_lt (length (remove before o.at)) (length before) ≡ true
  shorter o w = let n = length-remove before o.at w in lt-ltb (length (remove before o.at)) (length before) (omega (arith, n))

  is-gone : (o : OpenFile) → o.at < length before → gone before (remove before o.at) (Some o) None asks ≡ Some o
  is-gone o w = ap (λ b. if b then Some o else None) (shorter o w)

  is-erased : (o : OpenFile) → o.at < length before → asks ≡ Some o → gone before (remove before o.at) None None asks ≡ Some o
  is-erased o w asked = ap (λ b. if b then asks else None) (shorter o w) ∙ asked

  -- one more stands where one was removed
  replaced-many : (r : OpenFile) (entry : List ℕ × FileVal) → r.at < length before → length (remove before r.at ++ entry ∷ []) ≡ length before
  replaced-many r entry w =
      let n = length-remove before r.at w in let m = length-append (remove before r.at) (entry ∷ []) in omega (arith, n, m, w)

  is-replaced : (r : OpenFile) (entry : List ℕ × FileVal) (o : OpenFile) → r.at < length before → o.is_new ≡ true → asks ≡ Some r → gone before (remove before r.at ++ entry ∷ []) None (Some o) asks ≡ Some r
  is-replaced r entry o w new asked =
      let after = remove before r.at ++ entry ∷ [] in
      ap (λ m. if (if m then nat_le (length after) (length before) else nat_lt (length after) (length before)) then asks else None) new
      ∙ ap (λ n. if nat_le n (length before) then asks else None) (replaced-many r entry w)
      ∙ ap (λ b. if b then asks else None) (le-self (length before)) ∙ asked
    where
      le-self : (n : ℕ) → nat_le n n ≡ true
      le-self n = grind (arith, nat_tests)

  -- and one more is made after all that are left
  one-more : (r : OpenFile) (entry : List ℕ × FileVal) (o : OpenFile) → o.at ≡ length (remove before r.at) → Aside before (remove before r.at) None (Some r) p
      → Aside before (remove before r.at ++ entry ∷ []) (Some o) (Some r) p
  one-more r entry o at a =
      let q = shifted (Some r) p in
      let m = length-append (remove before r.at) (entry ∷ []) in
      let w = a.within in
      record {
        within = omega (arith, m, w);
        same = get_or_append_left (remove before r.at) (entry ∷ []) ([], new_file plain_shape) q.at w ∙ a.same;
        apart = apart-by o q (λ e. absurd (omega (arith, e, at, w)));
        elsewhere = a.elsewhere;
      }

  pub aside : (held : Option OpenFile) (after : Files) (new : Option OpenFile) → Moved before asks held after new → IfSome held (λ o. o.at < length before) → AreApart held (Some p)
      → Aside before after new (gone before after held new asks) p
  aside held _ _ (keeps _) w a =
      subst (λ (r : Option OpenFile). Aside before before held r p) (sym (none-gone before before held held asks (as-many (has_made held held) before before (same-made held) (omega arith)))) (record { within = there; same = refl; apart = a; elsewhere = λ r e. cc })
  aside held _ _ (closes _) w a =
      subst (λ (r : Option OpenFile). Aside before before None r p) (sym (stays-none before held asks)) (record { within = there; same = refl; apart = tt; elsewhere = λ r e. cc })
  aside (Some o) _ _ (writes _ file may) w a =
      let d = differ o p (alone-writes o may) a in
      let n = length-with before o.at file in
      subst (λ (r : Option OpenFile). Aside before (with_file o.at file before) (Some o) r p) (sym (none-gone before (with_file o.at file before) (Some o) (Some o) asks (as-many false before (with_file o.at file before) refl (omega (arith, n)))))
      (record {
        within = omega (arith, n, there);
        same = get_or-set_other before o.at p.at (name_at o.at before, file) ([], new_file plain_shape) (λ e. d (sym e));
        apart = a;
        elsewhere = λ r e. cc;
      })
  aside None _ _ (opens o lt asked old) w a =
      subst (λ (r : Option OpenFile). Aside before before (Some o) r p) (sym (none-gone before before None (Some o) asks (as-many o.is_new before before old (omega arith)))) (record { within = there; same = refl; apart = free o asked; elsewhere = λ r e. cc })
  aside None _ _ (makes entry o at) w a =
      let n = length-append before (entry ∷ []) in
      subst (λ (r : Option OpenFile). Aside before (before ++ entry ∷ []) (Some o) r p) (sym (none-gone before (before ++ entry ∷ []) None (Some o) asks (longer o.is_new before (before ++ entry ∷ []) (omega (arith, n)))))
      (record {
        within = omega (arith, n, there);
        same = get_or_append_left before (entry ∷ []) ([], new_file plain_shape) p.at there;
        apart = apart-by o p (λ e. absurd (omega (arith, e, at, there)));
        elsewhere = λ r e. cc;
      })
  aside None _ _ (replaces r entry o lt may asked new at) w a =
      subst (λ (x : Option OpenFile). Aside before (remove before r.at ++ entry ∷ []) (Some o) x p)
      (sym (is-replaced r entry o lt new asked))
      (one-more r entry o at (without r lt (differ r p (alone-writes r may) (free r asked))))
  aside (Some o) _ _ (removes _ new) w a =
      subst (λ (r : Option OpenFile). Aside before (remove before o.at) None r p) (sym (is-gone o w))
      (without o w (differ o p (ap (λ b. b || may_write o.rights) new) a))
  aside None _ _ (erases o lt may asked) w a =
      subst (λ (r : Option OpenFile). Aside before (remove before o.at) None r p)
      (sym (is-erased o lt asked))
      (without o lt (differ o p (alone-writes o may) (free o asked)))

-- ---- A file that is dropped, as if a link that made it had removed it.

abbrev pub dropped : ℕ → OpenFile
dropped at = record { at = at; is_new = true; rights = all_rights }

remove-beyond : (files : Files) (at : ℕ) → length files ≤ at → remove files at ≡ files
remove-beyond files at le =
    ap (λ (l : Files). l ++ drop (suc at) files) (take_all at files le) ∙ ap (λ (l : Files). files ++ l) (drop_all (suc at) files (omega (arith, le))) ∙ append-nil files

pub aside-dropped : (before : Files) (at : ℕ) (p : OpenFile) → p.at < length before → at ≢ p.at → Aside before (remove before at) None (Some (dropped at)) p
aside-dropped before at p there d =
    elim (cases_lt at (length before)) [
      | inl lt ↦
          let n = length-remove before at lt in
          let gone-is : gone before (remove before at) (Some (dropped at)) None None ≡ Some (dropped at) =
          ap (λ b. if b then Some (dropped at) else None) (lt-ltb (length (remove before at)) (length before) (omega (arith, n))) in
          subst (λ (r : Option OpenFile). Aside before (remove before at) None r p) gone-is
          (aside before None p there (λ o e. cc) (Some (dropped at)) (remove before at) None (removes (dropped at) refl) lt (apart-by (dropped at) p d))
      | inr le ↦
          let same = remove-beyond before at le in
          let low = below-at at p (omega (arith, there, le)) in
          subst (λ (l : Files). Aside before l None (Some (dropped at)) p) (sym same)
          (record { within = omega (arith, low, there); same = ap (λ k. entry_at k before) low; apart = tt; elsewhere = λ r e equal. d (index-of (dropped at) r e ∙ sym equal) })
    ]

-- ---- Two other links.

two-shifted : (r : Option OpenFile) (p q : OpenFile) → ((o : OpenFile) → r ≡ Some o → p.at ≢ o.at) → ((o : OpenFile) → r ≡ Some o → q.at ≢ o.at) → are_apart p q ≡ false → are_apart (shifted r p) (shifted r q) ≡ false
two-shifted None p q f g e = e
two-shifted (Some o) p q f g e = still-apart o.at p q (f o refl) (g o refl) e

pub two-options : (r x y : Option OpenFile) → AreApart x y → ((p : OpenFile) → x ≡ Some p → (o : OpenFile) → r ≡ Some o → p.at ≢ o.at) → ((q : OpenFile) → y ≡ Some q → (o : OpenFile) → r ≡ Some o → q.at ≢ o.at)
    → AreApart (option_map (shifted r) x) (option_map (shifted r) y)
two-options r None None h f g = tt
two-options r None (Some q) h f g = tt
two-options r (Some p) None h f g = tt
two-options r (Some p) (Some q) h f g = two-shifted r p q (f p refl) (g q refl) h

-- ---- The link itself.

pub own-within : (before : Files) (asks held : Option OpenFile) (after : Files) (new : Option OpenFile) → Moved before asks held after new → IfSome held (λ o. o.at < length before) → IfSome new (λ o. o.at < length after)
own-within before asks held _ _ (keeps _) w = w
own-within before asks held _ _ (closes _) w = tt
own-within before asks (Some o) _ _ (writes _ file may) w = omega (arith, w, length-with before o.at file)
own-within before asks None _ _ (opens o lt asked old) w = lt
own-within before asks None _ _ (makes entry o at) w = omega (arith, at, length-append before (entry ∷ []))
own-within before asks None _ _ (replaces r entry o lt may asked new at) w = omega (arith, at, length-append (remove before r.at) (entry ∷ []))
own-within before asks (Some o) _ _ (removes _ new) w = tt
own-within before asks None _ _ (erases o lt may asked) w = tt
