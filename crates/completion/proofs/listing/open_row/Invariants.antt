use Rattle.std.proofs.Common.{◌≡◌, ◌++◌}
use Rattle.sheet.specs.Sheets.{closed_book}
use Rattle.execution.specs.Facts.{facts_of}
use Rattle.completion.specs.Openings.{is_open, open_in_row}
use Rattle.completion.specs.Listed.{listed}
use Rattle.completion.proofs.listing.open_row.Given as goal

abbrev pub invariant-loop-b : goal.invariant-loop-b
invariant-loop-b g l =
    listed l.pairs ≡ listed l.initial.pairs ++ open_in_row (is_open (g.M.MemoryModel.meaning l.m) (facts_of (closed_book l.sheet))) l.a l.b
