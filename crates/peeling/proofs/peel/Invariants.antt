use Rattle.relation.specs.Meaning.{members, holds}
use Rattle.peeling.specs.Peeling.{Peeled}
use Rattle.peeling.proofs.peel.Given as goal

abbrev pub invariant-loop-k : goal.invariant-loop-k
invariant-loop-k l = Peeled (holds l.rel) (members l.initial.live) (members l.live) l.removed l.k
