use Rattle.closure.specs.Steps.{Relaxed}
use Rattle.closure.proofs.relax.Given as goal

abbrev pub invariant-loop-j : goal.invariant-loop-j
invariant-loop-j g l = let s = g.S.Step in Relaxed s.none s.join s.chain l.via l.over l.initial.row l.row l.j
