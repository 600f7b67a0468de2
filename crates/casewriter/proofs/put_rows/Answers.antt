use Rattle.std.proofs.Common.{arith}
use Rattle.casewriter.proofs.Adding.{added_row}
use Rattle.casewriter.proofs.put_rows.Goals as goal

pub loop-i-preserved : goal.loop-i-preserved
loop-i-preserved g c = added_row g.R.Row.item c.args.rows.now c.loop-i.i c.index-rows-i.result c.index-rows-i.is (omega arith) c.loop-i.invariant c.put.ensures
