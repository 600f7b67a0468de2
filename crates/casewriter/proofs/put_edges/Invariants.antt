use Rattle.std.proofs.Common.{map}
use Rattle.relation.specs.Meaning.{holds}
use Rattle.records.specs.Grammar.{file}
use Rattle.casewriter.specs.Items.{edge_item, picked}
use Rattle.casewriter.specs.Written.{Added}
use Rattle.casewriter.proofs.put_edges.Given as goal

abbrev pub invariant-loop-j : goal.invariant-loop-j
invariant-loop-j l = Added l.initial.out (file (map (edge_item l.edge l.i) (picked (holds l.r l.i) l.j))) l.out
