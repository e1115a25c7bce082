-- One answer more before the answers.
use Rattle.std.proofs.Common.{◌≡◌, ◌∙◌, ℕ, suc, ◌+◌, true, Bool, cond, ap, arith, List, ◌∷◌, drop}
use Rattle.std.specs.Prelude.{filter_map}
use Rattle.std.specs.List.{prefix_len}
use Rattle.std.proofs.lemmas.List.Sums.{take_while-cons}
use Rattle.dap_msg.specs.declared.message.StatusFields.{StatusFields}
use Rattle.dap_msg.specs.declared.message.Message.TheVariants.{Filedata, Status}
use Rattle.dap_msg.specs.declared.items.Item.{Item}
use Rattle.dap_msg.specs.declared.items.Item.TheVariants.{Whole}
use Rattle.dap_msg.specs.BothEnds.{number_of}
use Rattle.dap_accessing.specs.Told.{after_those, record_in, status_in}
use Rattle.dap_accessing.specs.Parts.{is_record, records_in_front, is_status, statuses_in_front}

pub behind-more : (test : Item → Bool) (item : Item) (rest : List Item) → test item ≡ true → after_those test (item ∷ rest) ≡ after_those test rest
behind-more test item rest e =
    let one : prefix_len test (item ∷ rest) ≡ 1 + prefix_len test rest = ap (λ b. cond b (1 + prefix_len test rest) 0) e in
    let next : prefix_len test (item ∷ rest) ≡ suc (prefix_len test rest) = one ∙ omega arith in
    ap (λ n. drop n (item ∷ rest)) next

pub records-more : (recnum body : List ℕ) (rest : List Item) → records_in_front (Whole (Filedata recnum body) ∷ rest) ≡ (number_of recnum, body) ∷ records_in_front rest
records-more recnum body rest = ap (filter_map record_in) (take_while-cons is_record (Whole (Filedata recnum body)) rest)

pub statuses-more : (status : StatusFields) (rest : List Item) → statuses_in_front (Whole (Status status) ∷ rest) ≡ status ∷ statuses_in_front rest
statuses-more status rest = ap (filter_map status_in) (take_while-cons is_status (Whole (Status status)) rest)
