use Rattle.std.proofs.Common.{rules}
use Rattle.relation.specs.Algebra.{◌∖◌, ◌◁◌, ◌▷◌}
use Rattle.execution.specs.Words.{rivals}
use Rattle.execution.proofs.reading.are_rivals.Goals as goal

pub returns : goal.returns
unfolding rivals ◌∖◌ ◌◁◌ ◌▷◌
returns c = search rules
