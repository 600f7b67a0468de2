use Rattle.std.proofs.Common.{◌∙◌, arith, length-take-le}
use Rattle.closure.proofs.Loops.{phased_none, phased_more, phased_closed}
use Rattle.closure.proofs.close.Goals as goal

pub loop-k-init : goal.loop-k-init
loop-k-init g c = phased_none g.met.S.Step.lawful c.args.n c.args.steps.now

pub loop-k-preserved : goal.loop-k-preserved
loop-k-preserved g c =
    phased_more g.met.S.Step.lawful c.args.n c.args.steps.now c.loop-k.table c.pass.new.table c.loop-k.k
    c.loop-k-test.true c.loop-k.invariant c.pass.ensures

pub returns-clause-closed : goal.returns-clause-closed
returns-clause-closed g c = λ t.
    phased_closed g.met.S.Step.lawful c.args.n c.args.steps.now c.loop-k.table c.loop-k.k c.if-n-gt-ROWS.false
    (c.loop-k.auto.table ∙ length-take-le _ c.args.steps.now (omega arith)) (omega arith) c.loop-k.invariant
