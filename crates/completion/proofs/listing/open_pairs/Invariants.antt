use Rattle.std.proofs.Common.{◌≡◌, length}
use Rattle.sheet.specs.Sheets.{closed_book}
use Rattle.execution.specs.Facts.{facts_of}
use Rattle.completion.specs.Openings.{is_open, open_rows}
use Rattle.completion.specs.Listed.{listed}
use Rattle.completion.proofs.listing.open_pairs.Given as goal

abbrev pub invariant-loop-a : goal.invariant-loop-a
invariant-loop-a g l =
    listed l.pairs ≡ open_rows (is_open (g.M.MemoryModel.meaning l.m) (facts_of (closed_book l.sheet))) (length (closed_book l.sheet).events) l.a
