use Rattle.relation.specs.Meaning.{holds}
use Rattle.cycles.specs.Counts.{apart, Walked}
use Rattle.cycles.proofs.Distances.walk.Given as goal

abbrev pub invariant-loop-i : goal.invariant-loop-i
invariant-loop-i l = Walked (holds l.r) (apart l.self) l.start l.len l.initial.memory l.memory l.i
