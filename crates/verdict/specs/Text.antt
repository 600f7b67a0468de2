-- The text of the line. Assumes nothing.
use Rattle.std.specs.Prelude.{ℕ, List, Ok, Err, Result}
use Rattle.records.specs.declared.survey.Tally.{Tally}
use Rattle.records.specs.Counts.{tally_text}
use Rattle.casefile.specs.declared.fault.Fault.{Fault}
use Rattle.casefile.specs.Numbers.{fault_text}

-- a whole file by its numbers, a broken one by its fault
abbrev pub line_text : Result Tally Fault → List ℕ
line_text (Ok t) = tally_text t
line_text (Err f) = fault_text f
