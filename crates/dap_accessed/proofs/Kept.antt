-- An operation leaves a file that obeys its shape.
use Rattle.std.proofs.Common.{◌≡◌, ℕ, ◌+◌, ◌≤◌, Bool, true, false, length, Option, Some, None, IsSome, refl, ap, arith}
use Rattle.std.specs.Prelude.{not, ◌&&◌, ◌||◌, nat_eq, nat_le, is_none, option_and_then, unwrap_or, if◌then◌else◌}
use Rattle.std.proofs.lemmas.Bool.Decides.{nat_tests}
use Rattle.std.specs.FinMap.{get}
use Rattle.rec_file.specs.declared.refusals.Refusal.{Refusal}
use Rattle.rec_file.specs.Shapes.{is_seq, max_number, allows_length}
use Rattle.rec_file.specs.Files.{FileVal, IsFile, highest_of}
use Rattle.rec_file.specs.Acts.{Operation, get_record, put_record, update_record, delete_record, StreamVal, out_of_range, is_free_number, current_of, keeps_length, free_number, refusals_of, first_refusal, target_number, effect_of, outcome_of, act}
use Rattle.rec_file.proofs.ForCallers.{IsFile-placed, IsFile-replaced, IsFile-removed}

pub passed : (b : Bool) (r : Refusal) (rest : Option Refusal) → (if b then Some r else rest) ≡ None → (b ≡ false) × (rest ≡ None)
passed true r rest e = cc
passed false r rest e = (refl, e)

pub both : (a b : Bool) → (a && b) ≡ true → (a ≡ true) × (b ≡ true)
both true b e = (refl, e)
both false b e = cc

pub neither : (a b : Bool) → (a || b) ≡ false → (a ≡ false) × (b ≡ false)
neither true b e = cc
neither false b e = (refl, e)

pub un_not : (b : Bool) → not b ≡ false → b ≡ true
un_not true e = refl
un_not false e = cc

pub in_range : (file : FileVal) (n : ℕ) → out_of_range file.shape n ≡ false → (1 ≤ n) × (n ≤ max_number file.shape)
in_range file n e =
    let parts = neither (nat_eq n 0) (not (nat_le n (max_number file.shape))) e in
    let zero = parts.0 in
    let low : nat_le n (max_number file.shape) ≡ true = un_not (nat_le n (max_number file.shape)) parts.1 in
    (grind (arith, nat_tests), grind (arith, nat_tests))

some_of : {X : Type 0} (o : Option X) → is_none o ≡ false → IsSome o
some_of None e = cc
some_of (Some x) e = refl

there : (file : FileVal) (n : ℕ) (free : Bool) → is_free_number file n ≡ free → is_none (if free then None else Some n) ≡ false → IsSome (get file.records (unwrap_or (if free then None else Some n) 0))
there file n true e h = cc
there file n false e h = some_of (get file.records n) e

-- a number that isn't occupied counts as none
abbrev if_occupied : FileVal → Option ℕ → Option ℕ
if_occupied file current = option_and_then (λ n. if is_free_number file n then None else Some n) current

occupied : (file : FileVal) (current : Option ℕ) → is_none (if_occupied file current) ≡ false → IsSome (get file.records (unwrap_or (if_occupied file current) 0))
occupied file None h = cc
occupied file (Some n) h = there file n (is_free_number file n) refl h

-- the file after an operation that isn't refused
abbrev file_after : Operation → FileVal → StreamVal → FileVal
file_after op file stream = (effect_of op (target_number op file stream) file stream).file

after-keeps : (op : Operation) (file : FileVal) (stream : StreamVal) → IsFile file → first_refusal (refusals_of op file stream) ≡ None → IsFile (file_after op file stream)
after-keeps (get_record pick) file stream h e = h
after-keeps (put_record None body) file stream h e =
    let p = passed (not stream.rights.put) _ _ e in
    let q = passed (not (allows_length file.shape (length body))) _ _ p.1 in
    let r = passed (out_of_range file.shape (free_number file stream)) _ _ q.1 in
    let range = in_range file (free_number file stream) r.0 in
    IsFile-placed file (free_number file stream) body h range.0 range.1
    (λ seq. ap (λ b. if b then highest_of file.records + 1 else stream.next) seq)
    (un_not (allows_length file.shape (length body)) q.0)
after-keeps (put_record (Some n) body) file stream h e =
    let p = passed (not stream.rights.put) _ _ e in
    let s = passed (is_seq file.shape.org) _ _ p.1 in
    let q = passed (not (allows_length file.shape (length body))) _ _ s.1 in
    let r = passed (out_of_range file.shape n) _ _ q.1 in
    let range = in_range file n r.0 in
    IsFile-placed file n body h range.0 range.1 (λ seq. cc (s.0, seq)) (un_not (allows_length file.shape (length body)) q.0)
after-keeps (update_record body) file stream h e =
    let p = passed (not stream.rights.upd) _ _ e in
    let c = passed (is_none (current_of file stream)) _ _ p.1 in
    let q = passed (not (allows_length file.shape (length body) && keeps_length file (current_of file stream) body)) _ _ c.1 in
    IsFile-replaced file (unwrap_or (current_of file stream) 0) body h (occupied file stream.current c.0)
    (both (allows_length file.shape (length body)) (keeps_length file (current_of file stream) body) (un_not _ q.0)).0
after-keeps delete_record file stream h e =
    let p = passed (not stream.rights.del) _ _ e in
    let s = passed (is_seq file.shape.org) _ _ p.1 in
    IsFile-removed file (unwrap_or (current_of file stream) 0) h s.0

outcome-keeps : (r : Option Refusal) (op : Operation) (file : FileVal) (stream : StreamVal) → IsFile file → (r ≡ None → IsFile (file_after op file stream)) → IsFile (outcome_of r op file stream).file
outcome-keeps None op file stream h after = after refl
outcome-keeps (Some refusal) op file stream h after = h

pub act-keeps : (op : Operation) (file : FileVal) (stream : StreamVal) → IsFile file → IsFile (act op file stream).file
act-keeps op file stream h = outcome-keeps (first_refusal (refusals_of op file stream)) op file stream h (after-keeps op file stream h)
