-- The numbers of faults, and how a fault is written. Assumes nothing.
use Rattle.std.specs.Prelude.{ℕ, List, ◌++◌, codes, decimal}
use Rattle.records.specs.declared.fault.Cause.{Cause}
use Rattle.records.specs.declared.fault.Cause.TheVariants.{Cut, Oversize, UnknownMark, LateRow, Trailing, BadQuestion}
use Rattle.records.specs.declared.fault.Fault.{Fault}

-- the layer that finds a fault: the input, or the records
abbrev pub layer : Cause → ℕ
layer Cut = 1
layer Oversize = 1
layer UnknownMark = 2
layer LateRow = 2
layer Trailing = 2
layer BadQuestion = 2

-- the number of a cause in its layer
abbrev pub number : Cause → ℕ
number Cut = 1
number Oversize = 2
number UnknownMark = 1
number LateRow = 2
number Trailing = 3
number BadQuestion = 4

-- layer, cause and place
abbrev pub fault_text : Fault → List ℕ
fault_text f = codes "fault " ++ (decimal (layer f.cause) ++ (codes " " ++ (decimal (number f.cause) ++ (codes " " ++ decimal f.place))))
