use Rattle.nsp_link.proofs.Waiting.{whole_wait, bytes_queued, fewer_wait}
use Rattle.nsp_link.proofs.laws.whole_messages_wait.Goals as goal

pub returns-clause-whole : goal.returns-clause-whole
returns-clause-whole c = whole_wait

pub returns-clause-sent : goal.returns-clause-sent
returns-clause-sent c = bytes_queued

pub returns-clause-came : goal.returns-clause-came
returns-clause-came c = fewer_wait
