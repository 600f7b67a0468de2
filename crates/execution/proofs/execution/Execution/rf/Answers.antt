use Rattle.execution.proofs.Edging.{edges_at}
use Rattle.sheet.specs.declared.calls.Edge.TheVariants.{ReadFrom}
use Rattle.execution.proofs.execution.Execution.rf.Goals as goal

pub returns : goal.returns
returns c = edges_at ReadFrom c.of.ensures c.edges.ensures
