use Rattle.execution.proofs.Edging.{edges_at}
use Rattle.sheet.specs.declared.calls.Edge.TheVariants.{Atomic}
use Rattle.execution.proofs.execution.Execution.atomic.Goals as goal

pub returns : goal.returns
returns c = edges_at Atomic c.of.ensures c.edges.ensures
