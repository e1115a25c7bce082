-- What is read is spelled so.
use Rattle.std.proofs.Common.{◌≡◌, ℕ, ◌<◌, ◌^◌, Bool, true, false, List, [], ◌∷◌, ◌++◌, suc, Result, Ok, Err, refl, arith, inl, inr, sym}
use Rattle.std.specs.Prelude.{IfOk, IfSome, if◌then◌else◌}
use Rattle.std.specs.Result.{result_ok}
use Rattle.byteorder.specs.Endian.{little_bytes}
use Rattle.std.proofs.lemmas.Bool.{cases_eq, eq-eqb, ne_eqb}
use Rattle.nsp_control.specs.declared.packet.Control.{Control}
use Rattle.nsp_control.specs.declared.packet.Control.TheVariants.{Connect, Confirm, Disconnect, DisconnectConfirm, ConnectAck}
use Rattle.nsp_control.specs.declared.packet.ControlFault.{ControlFault}
use Rattle.nsp_control.specs.Packets.{SpellsControl}
use Rattle.nsp_control.specs.Reading.{read_control_byte, read_control_word, read_zero, read_address, read_sizes, read_reason, read_connect, read_confirm, read_disconnect, read_disconnect_confirm, read_connect_ack, at_end, read_control}
use Rattle.nsp_control.proofs.Fields.{IsBytes, Takes, ok_same, bind_ok, byte_found, word_found}

-- an address that has to be 0
zero_found : (at : ℕ) (bytes : List ℕ) (x : ℕ × List ℕ) → IsBytes bytes → read_zero at bytes ≡ Ok x → Takes bytes (little_bytes 2 x.0) x.1 × (x.0 ≡ 0)
unfolding read_zero
zero_found at bytes x fits e =
    let b = bind_ok (read_control_word at bytes) _ x e in
    let w = word_found at bytes b.0 fits b.1 in
    elim (cases_eq b.0.0 0) [
      | inl z ↦ let g = rw (eq-eqb b.0.0 0 z) at b.2 in let same : b.0 ≡ x = ok_same b.0 x g in rw (← same) (w.0, z)
      | inr n ↦ let g = rw (ne_eqb b.0.0 0 n) at b.2 in absurd cc
    ]

address_found : (at : ℕ) (bytes : List ℕ) (x : ℕ × List ℕ) → IsBytes bytes → read_address at bytes ≡ Ok x → Takes bytes (little_bytes 2 x.0) x.1 × (x.0 < 2 ^ 16) × (0 < x.0)
unfolding read_address
address_found at bytes x fits e =
    let b = bind_ok (read_control_word at bytes) _ x e in
    let w = word_found at bytes b.0 fits b.1 in
    elim (cases_eq b.0.0 0) [
      | inl z ↦ let g = rw (eq-eqb b.0.0 0 z) at b.2 in absurd cc
      | inr n ↦ let g = rw (ne_eqb b.0.0 0 n) at b.2 in let same : b.0 ≡ x = ok_same b.0 x g in rw (← same) (w.0, w.1, omega (arith, n))
    ]

-- SERVICES, INFO and SEGSIZE
record Sized (bytes : List ℕ) (x : ℕ × ℕ × ℕ × List ℕ) : Type 0 where
  split : bytes ≡ x.0 ∷ x.1 ∷ [] ++ little_bytes 2 x.2 ++ x.3
  services : x.0 < 256
  info : x.1 < 256
  size : x.2 < 2 ^ 16

two_words : (bytes r s t front : List ℕ) (a b : ℕ) → bytes ≡ a ∷ [] ++ r → r ≡ b ∷ [] ++ s → s ≡ front ++ t → bytes ≡ a ∷ b ∷ front ++ t
two_words bytes r s t front a b p q u = rw (p, q, u) refl

sizes_found : (bytes : List ℕ) (x : ℕ × ℕ × ℕ × List ℕ) → IsBytes bytes → read_sizes bytes ≡ Ok x → Sized bytes x
unfolding read_sizes
sizes_found bytes x fits e =
    let a = bind_ok (read_control_byte 5 bytes) _ x e in
    let af = byte_found 5 bytes a.0 fits a.1 in
    let b = bind_ok (read_control_byte 6 a.0.1) _ x a.2 in
    let bf = byte_found 6 a.0.1 b.0 af.0.rest_bytes b.1 in
    let c = bind_ok (read_control_word 7 b.0.1) _ x b.2 in
    let cf = word_found 7 b.0.1 c.0 bf.0.rest_bytes c.1 in
    let same : (a.0.0, b.0.0, c.0.0, c.0.1) ≡ x = ok_same (a.0.0, b.0.0, c.0.0, c.0.1) x c.2 in
    rw (← same) (record {
      split = two_words bytes a.0.1 b.0.1 c.0.1 (little_bytes 2 c.0.0) a.0.0 b.0.0 af.0.split bf.0.split cf.0.split;
      services = af.1;
      info = bf.1;
      size = cf.1;
    })

-- both addresses and a reason
record Reasoned (bytes : List ℕ) (x : ℕ × ℕ × ℕ × List ℕ) : Type 0 where
  split : bytes ≡ little_bytes 2 x.0 ++ little_bytes 2 x.1 ++ little_bytes 2 x.2 ++ x.3
  dst : x.0 < 2 ^ 16
  src : x.1 < 2 ^ 16
  reason : x.2 < 2 ^ 16

three_words : (bytes r s t : List ℕ) (a b c : ℕ) → bytes ≡ little_bytes 2 a ++ r → r ≡ little_bytes 2 b ++ s → s ≡ little_bytes 2 c ++ t → bytes ≡ little_bytes 2 a ++ little_bytes 2 b ++ little_bytes 2 c ++ t
three_words bytes r s t a b c p q u = rw (p, q, u) refl

reason_found : (bytes : List ℕ) (x : ℕ × ℕ × ℕ × List ℕ) → IsBytes bytes → read_reason bytes ≡ Ok x → Reasoned bytes x
unfolding read_reason
reason_found bytes x fits e =
    let a = bind_ok (read_control_word 1 bytes) _ x e in
    let af = word_found 1 bytes a.0 fits a.1 in
    let b = bind_ok (read_control_word 3 a.0.1) _ x a.2 in
    let bf = word_found 3 a.0.1 b.0 af.0.rest_bytes b.1 in
    let c = bind_ok (read_control_word 5 b.0.1) _ x b.2 in
    let cf = word_found 5 b.0.1 c.0 bf.0.rest_bytes c.1 in
    let same : (a.0.0, b.0.0, c.0.0, c.0.1) ≡ x = ok_same (a.0.0, b.0.0, c.0.0, c.0.1) x c.2 in
    rw (← same) (record {
      split = three_words bytes a.0.1 b.0.1 c.0.1 a.0.0 b.0.0 c.0.0 af.0.split bf.0.split cf.0.split;
      dst = af.1;
      src = bf.1;
      reason = cf.1;
    })

-- ---- packets

joined_connect : (flag : ℕ) (bytes r s body : List ℕ) (none src services info size : ℕ) → bytes ≡ little_bytes 2 none ++ r → none ≡ 0 → r ≡ little_bytes 2 src ++ s → s ≡ services ∷ info ∷ [] ++ little_bytes 2 size ++ body
    → flag ∷ bytes ≡ flag ∷ 0 ∷ 0 ∷ [] ++ little_bytes 2 src ++ services ∷ info ∷ [] ++ little_bytes 2 size ++ body
joined_connect flag bytes r s body none src services info size p z q u = rw (p, z, q, u) refl

connect_found : (again : Bool) (bytes : List ℕ) (p : Control) → IsBytes bytes → read_connect again bytes ≡ Ok p → SpellsControl p ((if again then 0x68 else 0x18) ∷ bytes)
unfolding read_connect
connect_found again bytes p fits e =
    let z = bind_ok (read_zero 1 bytes) _ p e in
    let zf = zero_found 1 bytes z.0 fits z.1 in
    let s = bind_ok (read_address 3 z.0.1) _ p z.2 in
    let sf = address_found 3 z.0.1 s.0 zf.0.rest_bytes s.1 in
    let t = bind_ok (read_sizes s.0.1) _ p s.2 in
    let tf = sizes_found s.0.1 t.0 sf.0.rest_bytes t.1 in
    let packet : Control = Connect (record { again = again; src = s.0.0; services = t.0.0; info = t.0.1; seg_size = t.0.2; body = t.0.3 }) in
    let same : packet ≡ p = ok_same packet p t.2 in
    rw (← same) (record {
      fits = (sf.2, sf.1, tf.services, tf.info, tf.size);
      spelled = joined_connect (if again then 0x68 else 0x18) bytes z.0.1 s.0.1 t.0.3 z.0.0 s.0.0 t.0.0 t.0.1 t.0.2 zf.0.split zf.1 sf.0.split tf.split;
    })

joined_confirm : (flag : ℕ) (bytes r s body : List ℕ) (dst src services info size : ℕ) → bytes ≡ little_bytes 2 dst ++ r → r ≡ little_bytes 2 src ++ s → s ≡ services ∷ info ∷ [] ++ little_bytes 2 size ++ body
    → flag ∷ bytes ≡ flag ∷ [] ++ little_bytes 2 dst ++ little_bytes 2 src ++ services ∷ info ∷ [] ++ little_bytes 2 size ++ body
joined_confirm flag bytes r s body dst src services info size p q u = rw (p, q, u) refl

confirm_found : (bytes : List ℕ) (p : Control) → IsBytes bytes → read_confirm bytes ≡ Ok p → SpellsControl p (0x28 ∷ bytes)
unfolding read_confirm
confirm_found bytes p fits e =
    let d = bind_ok (read_address 1 bytes) _ p e in
    let df = address_found 1 bytes d.0 fits d.1 in
    let s = bind_ok (read_address 3 d.0.1) _ p d.2 in
    let sf = address_found 3 d.0.1 s.0 df.0.rest_bytes s.1 in
    let t = bind_ok (read_sizes s.0.1) _ p s.2 in
    let tf = sizes_found s.0.1 t.0 sf.0.rest_bytes t.1 in
    let packet : Control = Confirm (record { dst = d.0.0; src = s.0.0; services = t.0.0; info = t.0.1; seg_size = t.0.2; body = t.0.3 }) in
    let same : packet ≡ p = ok_same packet p t.2 in
    rw (← same) (record {
      fits = (df.2, df.1, sf.2, sf.1, tf.services, tf.info, tf.size);
      spelled = joined_confirm 0x28 bytes d.0.1 s.0.1 t.0.3 d.0.0 s.0.0 t.0.0 t.0.1 t.0.2 df.0.split sf.0.split tf.split;
    })

-- at the front of the bytes a first one stands
with_flag : (flag : ℕ) (bytes rest : List ℕ) (a b c : ℕ) → bytes ≡ little_bytes 2 a ++ little_bytes 2 b ++ little_bytes 2 c ++ rest → flag ∷ bytes ≡ flag ∷ [] ++ little_bytes 2 a ++ little_bytes 2 b ++ little_bytes 2 c ++ rest
with_flag flag bytes rest a b c p = rw p refl

disconnect_found : (bytes : List ℕ) (p : Control) → IsBytes bytes → read_disconnect bytes ≡ Ok p → SpellsControl p (0x38 ∷ bytes)
unfolding read_disconnect
disconnect_found bytes p fits e =
    let x = bind_ok (read_reason bytes) _ p e in
    let f = reason_found bytes x.0 fits x.1 in
    let packet : Control = Disconnect (record { dst = x.0.0; src = x.0.1; reason = x.0.2; body = x.0.3 }) in
    let same : packet ≡ p = ok_same packet p x.2 in
    rw (← same) (record { fits = (f.dst, f.src, f.reason); spelled = with_flag 0x38 bytes x.0.3 x.0.0 x.0.1 x.0.2 f.split })

at_end_ok : (at : ℕ) (rest : List ℕ) (p q : Control) → at_end at rest p ≡ Ok q → (rest ≡ []) × (p ≡ q)
at_end_ok at [] p q e = (refl, ok_same p q e)
at_end_ok at (x ∷ rest) p q e = absurd cc

ended : (flag : ℕ) (bytes rest : List ℕ) (a b c : ℕ) → bytes ≡ little_bytes 2 a ++ little_bytes 2 b ++ little_bytes 2 c ++ rest → rest ≡ [] → flag ∷ bytes ≡ flag ∷ [] ++ little_bytes 2 a ++ little_bytes 2 b ++ little_bytes 2 c
ended flag bytes rest a b c p n = rw (p, n) refl

disconnect_confirm_found : (bytes : List ℕ) (p : Control) → IsBytes bytes → read_disconnect_confirm bytes ≡ Ok p → SpellsControl p (0x48 ∷ bytes)
unfolding read_disconnect_confirm
disconnect_confirm_found bytes p fits e =
    let x = bind_ok (read_reason bytes) _ p e in
    let f = reason_found bytes x.0 fits x.1 in
    let packet : Control = DisconnectConfirm (record { dst = x.0.0; src = x.0.1; reason = x.0.2 }) in
    let end = at_end_ok 7 x.0.3 packet p x.2 in
    let same : packet ≡ p = end.1 in
    rw (← same) (record { fits = (f.dst, f.src, f.reason); spelled = ended 0x48 bytes x.0.3 x.0.0 x.0.1 x.0.2 f.split end.0 })

one_word : (flag : ℕ) (bytes rest : List ℕ) (a : ℕ) → bytes ≡ little_bytes 2 a ++ rest → rest ≡ [] → flag ∷ bytes ≡ flag ∷ [] ++ little_bytes 2 a
one_word flag bytes rest a p n = rw (p, n) refl

connect_ack_found : (bytes : List ℕ) (p : Control) → IsBytes bytes → read_connect_ack bytes ≡ Ok p → SpellsControl p (0x24 ∷ bytes)
unfolding read_connect_ack
connect_ack_found bytes p fits e =
    let x = bind_ok (read_control_word 1 bytes) _ p e in
    let f = word_found 1 bytes x.0 fits x.1 in
    let packet : Control = ConnectAck x.0.0 in
    let end = at_end_ok 3 x.0.1 packet p x.2 in
    let same : packet ≡ p = end.1 in
    rw (← same) (record { fits = f.1; spelled = one_word 0x24 bytes x.0.1 x.0.0 f.0.split end.0 })

pub read_found : (bytes : List ℕ) (p : Control) → IsBytes bytes → read_control bytes ≡ Ok p → SpellsControl p bytes
unfolding read_control
read_found [] p fits e = absurd cc
read_found (flag ∷ rest) p fits e =
    let more : IsBytes rest = λ i. fits (suc i) in
    elim (cases_eq flag 0x18) [
      | inl a ↦ rw a (connect_found false rest p more (rw (eq-eqb flag 0x18 a) at e))
      | inr a ↦ elim (cases_eq flag 0x68) [
        | inl b ↦ rw b (connect_found true rest p more (rw (ne_eqb flag 0x18 a, eq-eqb flag 0x68 b) at e))
        | inr b ↦ elim (cases_eq flag 0x28) [
          | inl c ↦ rw c (confirm_found rest p more (rw (ne_eqb flag 0x18 a, ne_eqb flag 0x68 b, eq-eqb flag 0x28 c) at e))
          | inr c ↦ elim (cases_eq flag 0x38) [
            | inl d ↦ rw d (disconnect_found rest p more (rw (ne_eqb flag 0x18 a, ne_eqb flag 0x68 b, ne_eqb flag 0x28 c, eq-eqb flag 0x38 d) at e))
            | inr d ↦ elim (cases_eq flag 0x48) [
              | inl g ↦ rw g (disconnect_confirm_found rest p more (rw (ne_eqb flag 0x18 a, ne_eqb flag 0x68 b, ne_eqb flag 0x28 c, ne_eqb flag 0x38 d, eq-eqb flag 0x48 g) at e))
              | inr g ↦ elim (cases_eq flag 0x24) [
                | inl h ↦ rw h (connect_ack_found rest p more (rw (ne_eqb flag 0x18 a, ne_eqb flag 0x68 b, ne_eqb flag 0x28 c, ne_eqb flag 0x38 d, ne_eqb flag 0x48 g, eq-eqb flag 0x24 h) at e))
                | inr h ↦ let k = rw (ne_eqb flag 0x18 a, ne_eqb flag 0x68 b, ne_eqb flag 0x28 c, ne_eqb flag 0x38 d, ne_eqb flag 0x48 g, ne_eqb flag 0x24 h) at e in absurd cc
              ]
            ]
          ]
        ]
      ]
    ]

pub given-found : (r : Result Control ControlFault) (bytes : List ℕ) → IsBytes bytes → r ≡ read_control bytes → IfOk r (λ p. SpellsControl p bytes)
given-found (Ok p) bytes fits g = read_found bytes p fits (sym g)
given-found (Err f) bytes fits g = tt

pub some_found : (r : Result Control ControlFault) (bytes : List ℕ) → IfOk r (λ p. SpellsControl p bytes) → IfSome (result_ok r) (λ p. SpellsControl p bytes)
some_found (Ok p) bytes h = h
some_found (Err f) bytes h = tt
