use Rattle.std.proofs.Common.{◌≡◌}
use Rattle.relation.specs.Algebra.{upto}
use Rattle.relation.specs.Meaning.{members}
use Rattle.sheet.specs.Rules.{at}
use Rattle.sheet.specs.Sheets.{closed_book}
use Rattle.execution.specs.Classes.{in_class}
use Rattle.execution.proofs.facts.class.Given as goal

abbrev pub invariant-loop-i : goal.invariant-loop-i
invariant-loop-i l = members l.all ≡ upto l.i (λ a. in_class l.class (at (closed_book l.sheet).events a))
