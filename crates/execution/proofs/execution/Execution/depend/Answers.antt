use Rattle.execution.proofs.Edging.{edges_at}
use Rattle.sheet.specs.declared.calls.Edge.TheVariants.{Depend}
use Rattle.execution.proofs.execution.Execution.depend.Goals as goal

pub returns : goal.returns
returns c = edges_at Depend c.of.ensures c.edges.ensures
