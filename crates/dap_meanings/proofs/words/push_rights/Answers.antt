use Rattle.std.proofs.Common.{◌++◌, ◌∙◌, List, ℕ}
use Rattle.std.specs.Prelude.{codes}
use Rattle.std.proofs.lemmas.Result.{on_ok_weaker}
use Rattle.dap_msg.specs.Codes.{fac_bits}
use Rattle.dap_meanings.specs.Meanings.{right_text}
use Rattle.dap_meanings.proofs.ToldLemmas.{appended_twice}
use Rattle.dap_meanings.proofs.words.push_rights.Goals as goal

pub returns-clause-added : goal.returns-clause-added
returns-clause-added c =
    let fac = c.args.fac in
    let t0 = c.args.text.now.items in
    let t1 = c.push_right.new.text.items in
    let p1 : List ℕ = right_text fac fac_bits.get (codes " get") in
    let t2 = c.push_right-2.new.text.items in
    let p2 : List ℕ = right_text fac fac_bits.put (codes " put") in
    let t3 = c.push_right-3.new.text.items in
    let p3 : List ℕ = right_text fac fac_bits.update (codes " update") in
    let end = c.push_right-4.new.text.items in
    let p4 : List ℕ = right_text fac fac_bits.delete (codes " delete") in
    let got = c.in_ok-push_right.ensures.added fac fac_bits.get (c.allows_get.ensures ∙ c.of_fac-access.ensures.get) in
    let put = c.in_ok-push_right-2.ensures.added fac fac_bits.put (c.allows_put.ensures ∙ c.of_fac-access.ensures.put) in
    let updated = c.in_ok-push_right-3.ensures.added fac fac_bits.update (c.allows_update.ensures ∙ c.of_fac-access.ensures.update) in
    on_ok_weaker c.push_right-4.result (λ deleted. appended_twice t0 t1 end p1 (p2 ++ (p3 ++ p4)) got (appended_twice t1 t2 end p2 (p3 ++ p4) put (appended_twice t2 t3 end p3 p4 updated deleted)))
    (c.push_right-4.ensures.added fac fac_bits.delete (c.allows_delete.ensures ∙ c.of_fac-access.ensures.delete))
