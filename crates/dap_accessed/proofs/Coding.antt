-- What RMS's codes leave as it is: how many answers there are, Data messages, that each answer may be sent, and that a
-- refusal is no success.
use Rattle.std.proofs.Common.{◌≡◌, ℕ, ◌^◌, ◌<◌, Bool, true, false, List, [], ◌∷◌, ◌++◌, map, refl, ap, lit<}
use Rattle.std.specs.Prelude.{if◌then◌else◌, ◌==◌}
use Rattle.std.specs.List.{AllByRecursion}
use Rattle.dap_msg.specs.Codes as codes
use Rattle.dap_msg.specs.declared.message.Message.{Message}
use Rattle.dap_accessed.specs.Replies.{coded}
use Rattle.dap_accessed.specs.Records.{filedata_of}

-- records, and then one more answer
pub coded-records : (full : Bool) (records : List (ℕ × List ℕ)) (m : Message) → map (coded full) (map filedata_of records ++ m ∷ []) ≡ map filedata_of records ++ coded full m ∷ []
coded-records full [] m = refl
coded-records full (r ∷ records) m = ap (λ (l : List Message). filedata_of r ∷ l) (coded-records full records m)

-- where there is no answer then, there was none
pub coded-none : (full : Bool) (answers : List Message) → map (coded full) answers ≡ [] → answers ≡ []
coded-none full [] e = refl
coded-none full (m ∷ answers) e = cc

-- ---- A code has two bytes.

abbrev AreSmall : List (ℕ × ℕ) → Type 0
AreSmall errors = AllByRecursion (λ (entry : ℕ × ℕ). entry.1 < 2 ^ 16) errors

either : (b : Bool) (one two : ℕ) → one < 2 ^ 16 → two < 2 ^ 16 → (if b then one else two) < 2 ^ 16
either true one two h k = h
either false one two h k = k

error-small : (errors : List (ℕ × ℕ)) (reason code : ℕ) → AreSmall errors → code < 2 ^ 16 → codes.error_in errors reason code < 2 ^ 16
error-small [] reason code all h = h
error-small (entry ∷ errors) reason code all h = either (entry.0 == reason) _ _ all.0 (error-small errors reason code all.1 h)

access-small : AreSmall codes.access_errors
access-small = (lit< tt, (lit< tt, (lit< tt, tt)))

record-small : AreSmall codes.record_errors
record-small = (lit< tt, (lit< tt, (lit< tt, (lit< tt, (lit< tt, (lit< tt, (lit< tt, (lit< tt, (lit< tt, (lit< tt, tt))))))))))

rms-small : (code reason : ℕ) → code < 2 ^ 16 → codes.rms_code code reason < 2 ^ 16
rms-small code reason h =
    either (code == codes.stscode.access_refused) _ _ (error-small codes.access_errors reason code access-small h)
    (either (code == codes.stscode.record_refused) _ _ (error-small codes.record_errors reason code record-small h) h)

pub coded-small : (full : Bool) (code reason : ℕ) → code < 2 ^ 16 → (if full then codes.rms_code code reason else code) < 2 ^ 16
coded-small full code reason h = either full _ _ (rms-small code reason h) h

-- ---- A code of RMS is no success.

abbrev AreFailures : List (ℕ × ℕ) → Type 0
AreFailures errors = AllByRecursion (λ (entry : ℕ × ℕ). codes.is_success entry.1 ≡ false) errors

either-fails : (b : Bool) (one two : ℕ) → codes.is_success one ≡ false → codes.is_success two ≡ false → codes.is_success (if b then one else two) ≡ false
either-fails true one two h k = h
either-fails false one two h k = k

error-fails : (errors : List (ℕ × ℕ)) (reason code : ℕ) → AreFailures errors → codes.is_success code ≡ false → codes.is_success (codes.error_in errors reason code) ≡ false
error-fails [] reason code all h = h
error-fails (entry ∷ errors) reason code all h = either-fails (entry.0 == reason) _ _ all.0 (error-fails errors reason code all.1 h)

-- of a refused Access
pub access-fails : (full : Bool) (reason : ℕ) → codes.is_success (if full then codes.rms_code codes.stscode.access_refused reason else codes.stscode.access_refused) ≡ false
access-fails true reason = error-fails codes.access_errors reason codes.stscode.access_refused (refl, (refl, (refl, tt))) refl
access-fails false reason = refl

-- of a refused operation on a record
pub record-fails : (full : Bool) (reason : ℕ) → codes.is_success (if full then codes.rms_code codes.stscode.record_refused reason else codes.stscode.record_refused) ≡ false
record-fails true reason = error-fails codes.record_errors reason codes.stscode.record_refused (refl, (refl, (refl, (refl, (refl, (refl, (refl, (refl, (refl, (refl, tt)))))))))) refl
record-fails false reason = refl
