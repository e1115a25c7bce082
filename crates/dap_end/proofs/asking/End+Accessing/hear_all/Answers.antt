use Rattle.dap_end.proofs.Asked.{works_after}
use Rattle.dap_end.proofs.asking.End+Accessing.hear_all.Goals as goal

pub returns-in-Ok-post-clause-all : goal.returns-in-Ok-post-clause-all
returns-in-Ok-post-clause-all c =
    (c.read_all.new.self, _, c.in-Ok.ensures.ok, c.in-Ok.ensures.all, c.in-Ok-post.ensures.ok)

pub returns-in-Ok-post-clause-works : goal.returns-in-Ok-post-clause-works
returns-in-Ok-post-clause-works c = works_after c.read_all.new.self c.post.new.self _ c.in-Ok-post.ensures.ok

pub returns-in-Err-post-clause-all : goal.returns-in-Err-post-clause-all
returns-in-Err-post-clause-all c =
    (c.read_all.new.self, c.in-Ok.ensures.ok, (c.in-Err-post.ensures.err.0, c.in-Ok.ensures.all, c.in-Err-post.ensures.err.1))
