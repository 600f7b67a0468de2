use Rattle.std.proofs.Common.{arith}
use Rattle.relation.proofs.Relations.{holds_by}
use Rattle.relation.proofs.by_rows.Goals as goal

pub returns : goal.returns
returns g c = λ r gives. holds_by _ r (λ i l. gives i _ l (c.loop-i.invariant.1 i (omega arith)))
