use Rattle.dap_end.specs.Inner.AskingView.{asking_of}
use Rattle.dap_end.proofs.Asked.{left_asked}
use Rattle.dap_end.proofs.asking.End+Accessing.ask_prepared.Goals as goal

pub invariant_of-self : goal.invariant_of-self
invariant_of-self c =
    record {
      port = c.ask_next.ensures.kept;
      left = left_asked (asking_of c.self.inside.port c.self.inside.role) (asking_of c.ask_next.new.port c.ask_next.new.accessing) c.args.request.now c.ask_next.result c.ask_next.ensures.ok c.ask_next.ensures.err c.self.invariant.left;
    }
