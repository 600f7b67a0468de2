use Rattle.std.proofs.Common.{◌≡◌}
use Rattle.relation.specs.Algebra.{Rel, range_below}
use Rattle.relation.specs.Meaning.{members, GivesRows}
use Rattle.relation.proofs.joined.Given as goal

abbrev pub invariant-loop-k : goal.invariant-loop-k
invariant-loop-k g l = (r : Rel) → GivesRows (goal.F-post g l.row) r → members l.all ≡ range_below l.k r
