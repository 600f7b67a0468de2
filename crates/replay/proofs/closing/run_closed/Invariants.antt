use Rattle.std.proofs.Common.{length, vec_items}
use Rattle.sheet.specs.Sheets.{closed_book}
use Rattle.replay.specs.Phases.{Goes}
use Rattle.replay.proofs.closing.run_closed.Given as goal

abbrev pub invariant-loop-call : goal.invariant-loop-call
invariant-loop-call l = Goes l.calls (closed_book l.initial.sheet) (vec_items l.initial.answers) l.left (closed_book l.sheet) (vec_items l.answers)

abbrev pub decreases-loop-call : goal.decreases-loop-call
decreases-loop-call l = length l.left
