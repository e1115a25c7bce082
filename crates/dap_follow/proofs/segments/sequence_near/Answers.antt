use Rattle.std.proofs.Common.{◌≡◌, ◌<◌, ◌+◌, ◌-◌, ◌%◌, ℕ, arith, ap, ◌∙◌}
use Rattle.nsp_seg.specs.Numbers.{residue}
use Rattle.dap_follow.proofs.segments.sequence_near.Goals as goal

near : (lowest number ahead : ℕ) → number < 4096 → ahead ≡ (number + 4096 - lowest % 4096) % 4096 → (lowest + ahead) % 4096 ≡ number
near lowest number ahead small is = omega arith

small_ahead : (lowest number ahead : ℕ) → ahead ≡ (number + 4096 - lowest % 4096) % 4096 → ahead < 4096
small_ahead lowest number ahead is = omega arith

pub returns : goal.returns
unfolding residue
returns c = λ low high.
    let lowest = c.saturating_sub-lowest.result in
    let from : lowest ≡ c.args.highest - 2047 = c.saturating_sub-lowest.ensures in
    let ahead : c.from.result ≡ (c.args.number + 4096 - lowest % 4096) % 4096 = c.from.ensures ∙ c.ahead_of.ensures.ahead ∙ ap (λ (n : ℕ). (c.args.number + 4096 - n) % 4096) c.of.ensures in
    let small : c.from.result < 4096 = small_ahead lowest c.args.number c.from.result ahead in
    let sum : c.saturating_add.result ≡ lowest + c.from.result = omega (arith, c.saturating_add.ensures, from, small, high) in (
      omega (arith, sum, from, low),
      omega (arith, sum, from, small, low),
      ap (λ (n : ℕ). n % 4096) sum ∙ near lowest c.args.number c.from.result (omega arith) ahead,
    )
