use Rattle.std.proofs.Common.{arith}
use Rattle.relation.specs.Meaning.{holds}
use Rattle.violation.proofs.Telling.{loop_shown}
use Rattle.violation.proofs.loop_witness.Goals as goal

pub returns : goal.returns
returns c = loop_shown (holds c.args.rel.now) c.args.memory.now c.in_ok-event.event (omega arith) c.in_ok-event.ensures.lowest
