-- What is read is spelled so.
use Rattle.std.proofs.Common.{◌≡◌, ℕ, ◌+◌, ◌*◌, ◌/◌, ◌%◌, ◌<◌, ◌≤◌, Bool, true, false, List, [], ◌∷◌, ◌++◌, length, Option, Some, None, Result, Ok, Err, refl, sym, ◌∙◌, ap, arith, inl, inr}
use Rattle.std.specs.Prelude.{IfOk, IfSome, is_some, if◌then◌else◌, ◌==◌, nat_lt}
use Rattle.std.specs.Result.{result_ok}
use Rattle.byteorder.specs.Endian.{little_bytes}
use Rattle.std.proofs.lemmas.Bool.{cases_eq, eq-eqb, ne_eqb, eqb-true, eqb-false, ltb-false}
use Rattle.nsp_session.specs.declared.session.EndName.{EndName}
use Rattle.nsp_session.specs.declared.session.EndName.TheVariants.{Number, Named, Grouped}
use Rattle.nsp_session.specs.declared.session.Access.{Access}
use Rattle.nsp_session.specs.declared.session.Session.{Session}
use Rattle.nsp_session.specs.declared.session.SessionFault.{SessionFault}
use Rattle.nsp_session.specs.Sessions.{max_name, max_grouped, max_access, max_data, image, name_spelling, NameFits, access_spelling, AccessFits, data_spelling, menu_of, SpellsSession}
use Rattle.nsp_session.specs.Reading.{read_session_byte, read_session_word, read_image, read_named, read_grouped, read_name, read_access, read_access_if, read_data_if, read_session}
use Rattle.nsp_session.proofs.Fields.{IsBytes, Takes, ok_same, bind_ok, guard_ok, byte_found, word_found, image_found, regroup}

named_found : (object : ℕ) (bytes : List ℕ) (x : EndName × List ℕ) → IsBytes bytes → object < 256 → read_named object bytes ≡ Ok x → Takes (1 ∷ object ∷ bytes) (name_spelling x.0) x.1 × NameFits x.0
unfolding read_named
named_found object bytes x fits small e =
    let n = bind_ok (read_image max_name bytes) _ x e in
    let f = image_found max_name bytes n.0 fits n.1 in
    let name : EndName = Named (record { object = object; name = n.0.0 }) in
    let same : (name, n.0.1) ≡ x = ok_same (name, n.0.1) x n.2 in
    rw (← same) (record { split = ap (λ r. 1 ∷ object ∷ r) f.0.split; rest_bytes = f.0.rest_bytes }, (small, f.1))

joined_group : (bytes r s back front : List ℕ) (object group user : ℕ) → bytes ≡ little_bytes 2 group ++ r → r ≡ little_bytes 2 user ++ s → s ≡ image front ++ back
    → 2 ∷ object ∷ bytes ≡ (2 ∷ object ∷ [] ++ little_bytes 2 group ++ little_bytes 2 user ++ image front) ++ back
joined_group bytes r s back front object group user p q u = rw (p, q, u) refl

grouped_found : (object : ℕ) (bytes : List ℕ) (x : EndName × List ℕ) → IsBytes bytes → object < 256 → read_grouped object bytes ≡ Ok x → Takes (2 ∷ object ∷ bytes) (name_spelling x.0) x.1 × NameFits x.0
unfolding read_grouped
grouped_found object bytes x fits small e =
    let g = bind_ok (read_session_word bytes) _ x e in
    let gf = word_found bytes g.0 fits g.1 in
    let u = bind_ok (read_session_word g.0.1) _ x g.2 in
    let uf = word_found g.0.1 u.0 gf.0.rest_bytes u.1 in
    let n = bind_ok (read_image max_grouped u.0.1) _ x u.2 in
    let nf = image_found max_grouped u.0.1 n.0 uf.0.rest_bytes n.1 in
    let name : EndName = Grouped (record { object = object; group = g.0.0; user = u.0.0; name = n.0.0 }) in
    let same : (name, n.0.1) ≡ x = ok_same (name, n.0.1) x n.2 in
    rw (← same) (
      record {
        split = joined_group bytes g.0.1 u.0.1 n.0.1 n.0.0 object g.0.0 u.0.0 gf.0.split uf.0.split nf.0.split;
        rest_bytes = nf.0.rest_bytes;
      },
      (small, gf.1, uf.1, nf.1),
    )

two_bytes : (bytes r s : List ℕ) (a b : ℕ) → bytes ≡ a ∷ [] ++ r → r ≡ b ∷ [] ++ s → bytes ≡ a ∷ b ∷ s
two_bytes bytes r s a b p q = rw (p, q) refl

takes_same : (one other front rest : List ℕ) → one ≡ other → Takes other front rest → Takes one front rest
takes_same one other front rest e t = record { split = e ∙ t.split; rest_bytes = t.rest_bytes }

above_one : (n : ℕ) → n ≤ 2 → (n ≡ 0 → ⊥) → (n ≡ 1 → ⊥) → n ≡ 2
above_one n le a b = omega (arith, a, b)

-- what follows FORMAT and the number, by FORMAT
form_found : (form object : ℕ) (bytes rest : List ℕ) (x : EndName × List ℕ) → bytes ≡ form ∷ object ∷ rest → IsBytes rest → object < 256 → form ≤ 2
    → (if form == 0 then Ok (Number object, rest) else (if form == 1 then read_named object rest else read_grouped object rest)) ≡ Ok x
    → Takes bytes (name_spelling x.0) x.1 × NameFits x.0
form_found form object bytes rest x both fits small few e =
    elim (cases_eq form 0) [
      | inl none ↦
          let k = rw (eq-eqb form 0 none) at e in
          let name : EndName = Number object in
          let same : (name, rest) ≡ x = ok_same (name, rest) x k in
          let start : bytes ≡ 0 ∷ object ∷ rest = both ∙ ap (λ n. n ∷ object ∷ rest) none in
          rw (← same) (record { split = start; rest_bytes = fits }, small)
      | inr more ↦ elim (cases_eq form 1) [
        | inl one ↦
            let k = rw (ne_eqb form 0 more, eq-eqb form 1 one) at e in
            let t = named_found object rest x fits small k in
            let start : bytes ≡ 1 ∷ object ∷ rest = both ∙ ap (λ n. n ∷ object ∷ rest) one in
            (takes_same bytes (1 ∷ object ∷ rest) (name_spelling x.0) x.1 start t.0, t.1)
        | inr other ↦
            let k = rw (ne_eqb form 0 more, ne_eqb form 1 other) at e in
            let t = grouped_found object rest x fits small k in
            let start : bytes ≡ 2 ∷ object ∷ rest = both ∙ ap (λ n. n ∷ object ∷ rest) (above_one form few more other) in
            (takes_same bytes (2 ∷ object ∷ rest) (name_spelling x.0) x.1 start t.0, t.1)
      ]
    ]

name_found : (bytes : List ℕ) (x : EndName × List ℕ) → IsBytes bytes → read_name bytes ≡ Ok x → Takes bytes (name_spelling x.0) x.1 × NameFits x.0
unfolding read_name
name_found bytes x fits e =
    let f = bind_ok (read_session_byte bytes) _ x e in
    let ff = byte_found bytes f.0 fits f.1 in
    let g = guard_ok (nat_lt 2 f.0.0) _ _ x f.2 in
    let o = bind_ok (read_session_byte f.0.1) _ x g.1 in
    let of = byte_found f.0.1 o.0 ff.0.rest_bytes o.1 in
    let both = two_bytes bytes f.0.1 o.0.1 f.0.0 o.0.0 ff.0.split of.0.split in
    let few : f.0.0 ≤ 2 = ltb-false 2 f.0.0 g.0 in
    form_found f.0.0 o.0.0 bytes o.0.1 x both of.0.rest_bytes of.1 few o.2

joined_images : (bytes r s back a b c : List ℕ) → bytes ≡ image a ++ r → r ≡ image b ++ s → s ≡ image c ++ back → bytes ≡ (image a ++ image b ++ image c) ++ back
joined_images bytes r s back a b c p q u = rw (p, q, u) (sym (regroup a b c back))

access_found : (has : Bool) (bytes : List ℕ) (x : Option Access × List ℕ) → IsBytes bytes → read_access_if has bytes ≡ Ok x → Takes bytes (access_spelling x.0) x.1 × IfSome x.0 AccessFits × (is_some x.0 ≡ has)
unfolding read_access_if read_access
access_found false bytes x fits e =
    let none : Option Access = None in
    let same : (none, bytes) ≡ x = ok_same (none, bytes) x e in
    rw (← same) (record { split = refl; rest_bytes = fits }, tt, refl)
access_found true bytes x fits e =
    let w = bind_ok (read_access bytes) _ x e in
    let u = bind_ok (read_image max_access bytes) _ w.0 w.1 in
    let uf = image_found max_access bytes u.0 fits u.1 in
    let p = bind_ok (read_image max_access u.0.1) _ w.0 u.2 in
    let pf = image_found max_access u.0.1 p.0 uf.0.rest_bytes p.1 in
    let a = bind_ok (read_image max_access p.0.1) _ w.0 p.2 in
    let af = image_found max_access p.0.1 a.0 pf.0.rest_bytes a.1 in
    let access : Access = record { user = u.0.0; password = p.0.0; account = a.0.0 } in
    let inner : (access, a.0.1) ≡ w.0 = ok_same (access, a.0.1) w.0 a.2 in
    let some : Option Access × List ℕ = (Some access, a.0.1) in
    let same : some ≡ x = ap (λ (y : Access × List ℕ). (Some y.0, y.1)) inner ∙ ok_same (Some w.0.0, w.0.1) x w.2 in
    rw (← same) (
      record {
        split = joined_images bytes u.0.1 p.0.1 a.0.1 u.0.0 p.0.0 a.0.0 uf.0.split pf.0.split af.0.split;
        rest_bytes = af.0.rest_bytes;
      },
      (uf.1, pf.1, af.1),
      refl,
    )

data_found : (has : Bool) (bytes : List ℕ) (x : Option (List ℕ) × List ℕ) → IsBytes bytes → read_data_if has bytes ≡ Ok x → Takes bytes (data_spelling x.0) x.1 × IfSome x.0 (λ d. length d ≤ max_data) × (is_some x.0 ≡ has)
unfolding read_data_if
data_found false bytes x fits e =
    let none : Option (List ℕ) = None in
    let same : (none, bytes) ≡ x = ok_same (none, bytes) x e in
    rw (← same) (record { split = refl; rest_bytes = fits }, tt, refl)
data_found true bytes x fits e =
    let w = bind_ok (read_image max_data bytes) _ x e in
    let wf = image_found max_data bytes w.0 fits w.1 in
    let some : Option (List ℕ) × List ℕ = (Some w.0.0, w.0.1) in
    let same : some ≡ x = ok_same some x w.2 in
    rw (← same) (record { split = wf.0.split; rest_bytes = wf.0.rest_bytes }, wf.1, refl)

-- the byte of MENUVER is made of its three parts
bit_part : (m : ℕ) (a d : Bool) → d ≡ (m / 2 % 2 == 1) → a ≡ (m % 2 == 1) → m ≡ 4 * (m / 4) + (if d then 2 else 0) + (if a then 1 else 0)
bit_part m true true ed ea = let x = eqb-true (m / 2 % 2) 1 (sym ed) in let y = eqb-true (m % 2) 1 (sym ea) in omega (arith, x, y)
bit_part m true false ed ea = let x = eqb-false (m / 2 % 2) 1 (sym ed) in let y = eqb-true (m % 2) 1 (sym ea) in omega (arith, x, y)
bit_part m false true ed ea = let x = eqb-true (m / 2 % 2) 1 (sym ed) in let y = eqb-false (m % 2) 1 (sym ea) in omega (arith, x, y)
bit_part m false false ed ea = let x = eqb-false (m / 2 % 2) 1 (sym ed) in let y = eqb-false (m % 2) 1 (sym ea) in omega (arith, x, y)

joined_session : (bytes r s t u v a b c d : List ℕ) (m n : ℕ) → bytes ≡ a ++ r → r ≡ b ++ s → s ≡ m ∷ [] ++ t → m ≡ n → t ≡ c ++ u → u ≡ d ++ v → bytes ≡ a ++ (b ++ (n ∷ [] ++ (c ++ (d ++ v))))
joined_session bytes r s t u v a b c d m n p q k same l w = rw (p, q, k, l, w, same) refl

pub session_found : (bytes : List ℕ) (x : Session) → IsBytes bytes → read_session bytes ≡ Ok x → SpellsSession x bytes
unfolding read_session
session_found bytes x fits e =
    let d = bind_ok (read_name bytes) _ x e in
    let df = name_found bytes d.0 fits d.1 in
    let s = bind_ok (read_name d.0.1) _ x d.2 in
    let sf = name_found d.0.1 s.0 df.0.rest_bytes s.1 in
    let m = bind_ok (read_session_byte s.0.1) _ x s.2 in
    let mf = byte_found s.0.1 m.0 sf.0.rest_bytes m.1 in
    let a = bind_ok (read_access_if (m.0.0 % 2 == 1) m.0.1) _ x m.2 in
    let af = access_found (m.0.0 % 2 == 1) m.0.1 a.0 mf.0.rest_bytes a.1 in
    let u = bind_ok (read_data_if (m.0.0 / 2 % 2 == 1) a.0.1) _ x a.2 in
    let uf = data_found (m.0.0 / 2 % 2 == 1) a.0.1 u.0 af.0.rest_bytes u.1 in
    let value : Session = record { dst = d.0.0; src = s.0.0; version = m.0.0 / 4; access = a.0.0; user_data = u.0.0; rest = u.0.1 } in
    let same : value ≡ x = ok_same value x u.2 in
    let small = mf.1 in
    rw (← same) (record {
      fits = record { dst = df.1; src = sf.1; version = omega (arith, small); access = af.1; user_data = uf.1 };
      spelled = joined_session bytes d.0.1 s.0.1 m.0.1 a.0.1 u.0.1 (name_spelling d.0.0) (name_spelling s.0.0) (access_spelling a.0.0) (data_spelling u.0.0) m.0.0 (menu_of value)
          df.0.split sf.0.split mf.0.split (bit_part m.0.0 (is_some a.0.0) (is_some u.0.0) uf.2 af.2) af.0.split uf.0.split;
    })

pub given-found : (r : Result Session SessionFault) (bytes : List ℕ) → IsBytes bytes → r ≡ read_session bytes → IfOk r (λ s. SpellsSession s bytes)
given-found (Ok s) bytes fits g = session_found bytes s fits (sym g)
given-found (Err f) bytes fits g = tt

pub some_found : (r : Result Session SessionFault) (bytes : List ℕ) → IfOk r (λ s. SpellsSession s bytes) → IfSome (result_ok r) (λ s. SpellsSession s bytes)
some_found (Ok s) bytes h = h
some_found (Err f) bytes h = tt
