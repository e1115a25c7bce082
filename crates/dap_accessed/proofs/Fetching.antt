-- A fetch goes from record to record.
use Rattle.std.proofs.Common.{◌≡◌, ℕ, ◌+◌, ◌≤◌, true, false, List, [], ◌∷◌, ◌++◌, map, length, refl, ap, sym, subst, ◌∙◌}
use Rattle.std.specs.Global.{Vec}
use Rattle.std.proofs.lemmas.List.{append-nil, map-append}
use Rattle.std.proofs.Common.{append_assoc, arith, cond, inl, inr}
use Rattle.std.specs.Prelude.{nat_le}
use Rattle.std.specs.List.{filter}
use Rattle.std.specs.FinMap.{entries}
use Rattle.std.proofs.lemmas.Bool.{cases_lt, lt-leb, le-leb}
use Rattle.dap_msg.specs.declared.message.Message.{Message}
use Rattle.dap_msg.specs.Canon.{canon}
use Rattle.dap_msg.specs.BothEnds.{four_bytes}
use Rattle.dap_msg.specs.Sizes.{file_data_size}
use Rattle.dap_msg.proofs.ForCallers.{file_data_measured}
use Rattle.rec_file.specs.Limits.{max_record_number}
use Rattle.rec_file.specs.Files.{FileVal, Records, records_from}
use Rattle.rec_file.specs.Acts.{StreamVal}
use Rattle.dap_accessed.specs.declared.phase.OpenFile.{OpenFile}
use Rattle.std.specs.Prelude.{fold, take_while, drop}
use Rattle.std.specs.List.{prefix_len}
use Rattle.std.proofs.lemmas.List.Sums.{take_while-cons}
use Rattle.std.proofs.Common.{suc}
use Rattle.dap_msg.specs.Codes as codes
use Rattle.dap_accessed.specs.Standing.{Scene, Effect, enters, Connected, Stopped, the_file}
use Rattle.dap_accessed.specs.Replies.{bare_status, too_large}
use Rattle.dap_accessed.specs.Records.{filedata_of, fits_limit, at_number}
use Rattle.dap_accessed.specs.Transfers.{fetch, fetch_ends}
use Rattle.dap_accessed.specs.Served.{AreAnswers}

-- the records before the first that is too large, and that one and all after it
abbrev leading : ℕ → List (ℕ × List ℕ) → List (ℕ × List ℕ)
leading limit rs = take_while (fits_limit limit) rs

abbrev beyond : ℕ → List (ℕ × List ℕ) → List (ℕ × List ℕ)
beyond limit rs = drop (prefix_len (fits_limit limit) rs) rs

abbrev behind : ℕ → List (ℕ × List ℕ) → ℕ
behind n records = fold (λ n r. r.0 + 1) n records

-- These records were given, from n on, and what is left begins at next.
pub record GoesOn (limit : ℕ) (file : FileVal) (n next : ℕ) (answers : Vec (Vec ℕ)) : Type 0 where
  pub given : List (ℕ × List ℕ)
  pub leads : leading limit (records_from file.records n) ≡ given ++ leading limit (records_from file.records next)
  pub fails : beyond limit (records_from file.records n) ≡ beyond limit (records_from file.records next)
  pub stands : next ≡ behind n given
  pub above : 1 ≤ next
  pub within : next ≤ max_record_number + 1
  pub answered : AreAnswers limit (map filedata_of given) answers

behind-more : (n : ℕ) (given : List (ℕ × List ℕ)) (r : ℕ × List ℕ) → behind n (given ++ r ∷ []) ≡ r.0 + 1
behind-more n [] r = refl
behind-more n (s ∷ given) r = behind-more (s.0 + 1) given r

-- how long the Filedata of a record is
pub filedata_size : (r : ℕ × List ℕ) → length (canon (filedata_of r)) ≡ file_data_size 4 (length r.1)
filedata_size r = file_data_measured (four_bytes r.0) r.1

leading-fits : (limit : ℕ) (r : ℕ × List ℕ) (rest : List (ℕ × List ℕ)) → fits_limit limit r ≡ true → leading limit (r ∷ rest) ≡ r ∷ leading limit rest
leading-fits limit r rest e = take_while-cons (fits_limit limit) r rest ∙ ap (λ b. cond b (r ∷ leading limit rest) []) e

failing-fits : (limit : ℕ) (r : ℕ × List ℕ) (rest : List (ℕ × List ℕ)) → fits_limit limit r ≡ true → beyond limit (r ∷ rest) ≡ beyond limit rest
failing-fits limit r rest e =
    let one : prefix_len (fits_limit limit) (r ∷ rest) ≡ 1 + prefix_len (fits_limit limit) rest = ap (λ b. cond b (1 + prefix_len (fits_limit limit) rest) 0) e in
    let next : prefix_len (fits_limit limit) (r ∷ rest) ≡ suc (prefix_len (fits_limit limit) rest) = one ∙ omega arith in
    ap (λ n. drop n (r ∷ rest)) next

leading-large : (limit : ℕ) (r : ℕ × List ℕ) (rest : List (ℕ × List ℕ)) → fits_limit limit r ≡ false → leading limit (r ∷ rest) ≡ []
leading-large limit r rest e = rw e refl

failing-large : (limit : ℕ) (r : ℕ × List ℕ) (rest : List (ℕ × List ℕ)) → fits_limit limit r ≡ false → beyond limit (r ∷ rest) ≡ r ∷ rest
failing-large limit r rest e = rw e refl

pub begins : (limit : ℕ) (file : FileVal) (n : ℕ) (answers : Vec (Vec ℕ)) → 1 ≤ n → n ≤ max_record_number + 1 → AreAnswers limit [] answers → GoesOn limit file n n answers
begins limit file n answers above within a = record { given = []; leads = refl; fails = refl; stands = refl; above = above; within = within; answered = a }

-- one record more
pub goes_on : (limit : ℕ) (file : FileVal) (n next : ℕ) (old new : Vec (Vec ℕ)) (r : ℕ × List ℕ) (g : GoesOn limit file n next old)
    → records_from file.records next ≡ r ∷ records_from file.records (r.0 + 1) → fits_limit limit r ≡ true → r.0 ≤ max_record_number
    → AreAnswers limit (map filedata_of g.given ++ filedata_of r ∷ []) new → GoesOn limit file n (r.0 + 1) new
goes_on limit file n next old new r g some fits within a =
    record {
      given = g.given ++ r ∷ [];
      leads = g.leads ∙ ap (λ l. g.given ++ leading limit l) some ∙ ap (λ l. g.given ++ l) (leading-fits limit r (records_from file.records (r.0 + 1)) fits)
          ∙ sym (append_assoc g.given (r ∷ []) (leading limit (records_from file.records (r.0 + 1))));
      fails = g.fails ∙ ap (beyond limit) some ∙ failing-fits limit r (records_from file.records (r.0 + 1)) fits;
      stands = sym (behind-more n g.given r);
      above = omega arith;
      within = omega (arith, within);
      answered = subst (λ (l : List Message). AreAnswers limit l new) (sym (map-append filedata_of g.given (r ∷ []))) a;
    }

abbrev fetch_of : ℕ → Scene → OpenFile → StreamVal → FileVal → Effect
fetch_of limit scene opened stream file =
    fetch_ends scene opened stream (leading limit (records_from file.records stream.next)) (beyond limit (records_from file.records stream.next))

fetched : (scene : Scene) (opened : OpenFile) (stream : StreamVal) (file : FileVal) → file ≡ the_file scene.files opened → fetch scene opened stream ≡ fetch_of scene.limit scene opened stream file
fetched scene opened stream file e = ap (fetch_of scene.limit scene opened stream) (sym e)

-- the end of the file
pub ends_there : (scene : Scene) (opened : OpenFile) (stream : StreamVal) (file : FileVal) (next : ℕ) (answers : Vec (Vec ℕ)) → file ≡ the_file scene.files opened
    → (g : GoesOn scene.limit file stream.next next answers) → records_from file.records next ≡ []
    → fetch scene opened stream ≡ enters scene (Connected opened (at_number next stream)) (map filedata_of g.given ++ bare_status codes.stscode.end_of_file ∷ [])
ends_there scene opened stream file next answers e g none =
    fetched scene opened stream file e
    ∙ ap (λ (rest : List (ℕ × List ℕ)). fetch_ends scene opened stream (leading scene.limit (records_from file.records stream.next)) rest) (g.fails ∙ ap (beyond scene.limit) none)
    ∙ ap (λ (given : List (ℕ × List ℕ)). fetch_ends scene opened stream given []) (g.leads ∙ ap (λ l. g.given ++ leading scene.limit l) none ∙ append-nil g.given)
    ∙ ap (λ (n : ℕ). enters scene (Connected opened (at_number n stream)) (map filedata_of g.given ++ bare_status codes.stscode.end_of_file ∷ [])) (sym g.stands)

-- a record that is too large
pub stops_there : (scene : Scene) (opened : OpenFile) (stream : StreamVal) (file : FileVal) (next : ℕ) (answers : Vec (Vec ℕ)) (r : ℕ × List ℕ) (rest : List (ℕ × List ℕ)) → file ≡ the_file scene.files opened
    → (g : GoesOn scene.limit file stream.next next answers) → records_from file.records next ≡ r ∷ rest → fits_limit scene.limit r ≡ false
    → fetch scene opened stream ≡ enters scene (Stopped opened (at_number r.0 stream)) (map filedata_of g.given ++ too_large ∷ [])
stops_there scene opened stream file next answers r rest e g some large =
    fetched scene opened stream file e
    ∙ ap (λ (rest : List (ℕ × List ℕ)). fetch_ends scene opened stream (leading scene.limit (records_from file.records stream.next)) rest) (g.fails ∙ ap (beyond scene.limit) some ∙ failing-large scene.limit r rest large)
    ∙ ap (λ (given : List (ℕ × List ℕ)). fetch_ends scene opened stream given (r ∷ rest)) (g.leads ∙ ap (λ l. g.given ++ leading scene.limit l) some ∙ ap (λ l. g.given ++ l) (leading-large scene.limit r rest large) ∙ append-nil g.given)

from_there : (n : ℕ) (es : List (ℕ × List ℕ)) (r : ℕ × List ℕ) (rest : List (ℕ × List ℕ)) → filter (λ (e : ℕ × List ℕ). nat_le n e.0) es ≡ r ∷ rest → n ≤ r.0
from_there n [] r rest is = cc
from_there n (e ∷ es) r rest is =
    elim (cases_lt e.0 n) [
      | inl low ↦ from_there n es r rest (sym (ap (λ b. cond b (e ∷ filter (λ (e : ℕ × List ℕ). nat_le n e.0) es) (filter (λ (e : ℕ × List ℕ). nat_le n e.0) es)) (lt-leb n e.0 low)) ∙ is)
      | inr there ↦
          let here : e ∷ filter (λ (e : ℕ × List ℕ). nat_le n e.0) es ≡ r ∷ rest =
          sym (ap (λ b. cond b (e ∷ filter (λ (e : ℕ × List ℕ). nat_le n e.0) es) (filter (λ (e : ℕ × List ℕ). nat_le n e.0) es)) (le-leb n e.0 there)) ∙ is in
          let same : e ≡ r = cc in
          subst (λ (x : ℕ × List ℕ). n ≤ x.0) same there
    ]

-- a record that is due has no lower number
pub above_next : (records : Records) (n : ℕ) (r : ℕ × List ℕ) (rest : List (ℕ × List ℕ)) → records_from records n ≡ r ∷ rest → n ≤ r.0
above_next records n r rest is = from_there n (entries records) r rest is
