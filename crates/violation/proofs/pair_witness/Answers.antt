use Rattle.std.proofs.Common.{arith}
use Rattle.relation.specs.Meaning.{holds}
use Rattle.violation.proofs.Telling.{pair_shown}
use Rattle.violation.proofs.pair_witness.Goals as goal

pub returns : goal.returns
returns c = pair_shown (holds c.args.rel.now) c.args.memory.now c.in_ok-first.first c.in_ok-first.second (omega arith) c.in_ok-first.ensures.lowest
