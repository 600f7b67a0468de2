use Rattle.std.proofs.Common.{arith}
use Rattle.relation.proofs.Sets.{both_comm, has_test}
use Rattle.relation.proofs.Row.has.Goals as goal

pub returns : goal.returns
returns c = has_test c.args.self c.args.i c.is_empty.result (grind (arith, both_comm))
