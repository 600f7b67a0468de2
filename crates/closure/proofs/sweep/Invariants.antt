use Rattle.closure.specs.Steps.{Swept}
use Rattle.closure.proofs.sweep.Given as goal

abbrev pub invariant-loop-i : goal.invariant-loop-i
invariant-loop-i g l = let s = g.S.Step in Swept s.none s.join s.chain l.k l.over l.initial.rows l.rows l.i
