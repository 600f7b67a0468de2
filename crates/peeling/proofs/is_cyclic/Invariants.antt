use Rattle.relation.specs.Meaning.{members, holds}
use Rattle.peeling.specs.Peeling.{Off, count}
use Rattle.peeling.proofs.is_cyclic.Given as goal

abbrev pub invariant-loop : goal.invariant-loop
invariant-loop l = Off (holds l.rel) (members l.live)

abbrev pub decreases-loop : goal.decreases-loop
decreases-loop l = count (members l.live) 64
