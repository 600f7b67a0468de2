use Rattle.std.proofs.Common.{◌≡◌}
use Rattle.relation.specs.Algebra.{◌∪◌}
use Rattle.relation.specs.Meaning.{holds}
use Rattle.completion.specs.Openings.{added_first}
use Rattle.completion.specs.Listed.{listed}
use Rattle.completion.proofs.completing.complete.Given as goal

abbrev pub invariant-loop-i : goal.invariant-loop-i
invariant-loop-i l = holds l.all ≡ holds l.order ∪ added_first l.i (listed l.pairs) l.completion
