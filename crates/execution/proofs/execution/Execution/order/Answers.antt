use Rattle.execution.proofs.Edging.{edges_at}
use Rattle.sheet.specs.declared.calls.Edge.TheVariants.{Order}
use Rattle.execution.proofs.execution.Execution.order.Goals as goal

pub returns : goal.returns
returns c = edges_at Order c.of.ensures c.edges.ensures
