use Rattle.std.proofs.Common.{[], ◌∷◌, ap, sym, subst, List, ℕ}
use Rattle.std.specs.Global.{Vec}
use Rattle.dap_msg.specs.Blocked.{bodies}
use Rattle.dap_msg.specs.BothEnds.{four_bytes}
use Rattle.dap_accessed.specs.Served.{AllAtMost}
use Rattle.dap_accessed.specs.Inner.Written.{reply_message}
use Rattle.dap_accessed.specs.declared.answers.Answer.TheVariants as answer
use Rattle.dap_accessed.proofs.answers.opening.Goals as goal

pub returns : goal.returns
returns c =
    c.in_ok-append-2.ensures (reply_message (answer.Attributes c.args.shape c.args.look (four_bytes c.args.shape.mrn)) ∷ [])
    (c.in_ok-append.ensures [] (record {
      bytes = ap bodies c.new-answers.ensures.items;
      within = subst (λ (l : List (Vec ℕ)). AllAtMost c.args.limit (bodies l)) (sym c.new-answers.ensures.items) tt;
      fits = tt;
    }))
