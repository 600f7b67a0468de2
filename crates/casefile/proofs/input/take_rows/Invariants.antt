use Rattle.std.proofs.Common.{◌≡◌, ◌-◌, List, length}
use Rattle.records.specs.declared.mark.Phase.TheVariants.{Rows}
use Rattle.records.specs.Grammar.{Item}
use Rattle.records.proofs.Surveys.{Front}
use Rattle.sheet.specs.Book.{blank}
use Rattle.sheet.specs.Sheets.{open_book}
use Rattle.casefile.specs.Calls.{calls, Taken}
use Rattle.casefile.proofs.input.take_rows.Given as goal

abbrev pub invariant-loop-item : goal.invariant-loop-item
invariant-loop-item l = (is : List Item) × Front l.initial.reader.file.now l.reader is × (l.reader.phase ≡ Rows) × Taken blank (calls Rows is) (open_book l.sheet)

abbrev pub decreases-loop-item : goal.decreases-loop-item
decreases-loop-item l = length l.reader.file.now - l.reader.at
