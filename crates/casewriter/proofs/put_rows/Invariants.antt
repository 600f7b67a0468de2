use Rattle.std.proofs.Common.{map, take}
use Rattle.records.specs.Grammar.{file}
use Rattle.casewriter.specs.Written.{Added}
use Rattle.casewriter.proofs.put_rows.Given as goal

abbrev pub invariant-loop-i : goal.invariant-loop-i
invariant-loop-i g l = Added l.initial.out (file (map g.R.Row.item (take l.i l.rows))) l.out
