use Rattle.std.proofs.Common.{◌∙◌, arith}
use Rattle.relation.proofs.Below.{range_none, range_more}
use Rattle.relation.proofs.joined.Goals as goal

pub loop-k-init : goal.loop-k-init
loop-k-init g c = λ r gives. c.empty-all.ensures ∙ range_none r

pub loop-k-preserved : goal.loop-k-preserved
loop-k-preserved g c = λ r gives. cc (c.loop-k.invariant r gives, gives c.loop-k.k c.row.result (omega arith) c.row.ensures, range_more c.loop-k.k r)
