use Rattle.callers.proofs.captures.take_next.Goals as goal

-- what was read before, and what was taken of it
pub returns-clause-ready : goal.returns-clause-ready
returns-clause-ready c = (_, _, c.in-Ok.ensures.read c.requires.0 c.requires.1 c.requires.2)
