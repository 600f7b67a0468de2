use Rattle.relation.specs.Meaning.{holds}
use Rattle.records.specs.Grammar.{file}
use Rattle.casewriter.specs.Items.{edge_items}
use Rattle.casewriter.specs.Written.{Added}
use Rattle.casewriter.proofs.put_sort.Given as goal

abbrev pub invariant-loop-i : goal.invariant-loop-i
invariant-loop-i l = Added l.initial.out (file (edge_items l.edge (holds l.r) l.n l.i)) l.out
