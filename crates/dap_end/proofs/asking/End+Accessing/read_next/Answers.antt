use Rattle.dap_end.specs.Inner.AskingView.{asking_of}
use Rattle.dap_end.proofs.Asked.{left_read}
use Rattle.dap_end.proofs.asking.End+Accessing.read_next.Goals as goal

pub invariant_of-self : goal.invariant_of-self
invariant_of-self c =
    record {
      port = c.read_next.ensures.kept;
      left = left_read (asking_of c.self.inside.port c.self.inside.role) (asking_of c.read_next.new.port c.read_next.new.accessing) c.read_next.result c.read_next.ensures.ok c.read_next.ensures.err;
    }
