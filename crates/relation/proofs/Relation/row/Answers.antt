use Rattle.std.proofs.Common.{arith, rules}
use Rattle.relation.proofs.Relations.{row_got}
use Rattle.relation.proofs.Relation.row.Goals as goal

pub returns : goal.returns
returns c =
    row_got c.args.self.now c.args.i _ c.get.result c.empty.result _ (search rules) (omega arith) c.get.ensures.lookup c.empty.ensures (search rules)
