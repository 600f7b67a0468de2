use Rattle.closure.proofs.Loops.{Phased}
use Rattle.closure.proofs.close.Given as goal

abbrev pub invariant-loop-k : goal.invariant-loop-k
invariant-loop-k g l = let s = g.S.Step in Phased s.none s.join s.chain l.n l.fn.steps l.table l.k
