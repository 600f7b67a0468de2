use Rattle.std.proofs.Common.{◌≡◌}
use Rattle.relation.specs.Algebra.{Set, upto}
use Rattle.relation.specs.Meaning.{members, GivesTests}
use Rattle.relation.proofs.those.Given as goal

abbrev pub invariant-loop-j : goal.invariant-loop-j
invariant-loop-j g l = (a : Set) → GivesTests (goal.F-post g l.keep) l.n a → members l.all ≡ upto l.j a
