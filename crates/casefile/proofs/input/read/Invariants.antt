use Rattle.sheet.specs.Sheets.{closed_book}
use Rattle.casefile.proofs.Reading.{Waiting, left}
use Rattle.casefile.proofs.input.read.Given as goal

abbrev pub invariant-loop-next : goal.invariant-loop-next
invariant-loop-next l = Waiting l.file l.reader l.next (closed_book l.sheet)

abbrev pub decreases-loop-next : goal.decreases-loop-next
decreases-loop-next l = left l.next l.reader
