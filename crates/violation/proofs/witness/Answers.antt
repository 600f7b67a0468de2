use Rattle.violation.proofs.Telling.{spelled_out}
use Rattle.violation.proofs.witness.Goals as goal

pub returns-in-Acyclic-clause-spelled : goal.returns-in-Acyclic-clause-spelled
returns-in-Acyclic-clause-spelled c = spelled_out

pub returns-in-Irreflexive-clause-spelled : goal.returns-in-Irreflexive-clause-spelled
returns-in-Irreflexive-clause-spelled c = spelled_out

pub returns-in-Empty-clause-spelled : goal.returns-in-Empty-clause-spelled
returns-in-Empty-clause-spelled c = spelled_out
