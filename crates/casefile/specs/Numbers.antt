-- The numbers of a case file's faults, and how a fault is written. Assumes nothing.
use Rattle.std.specs.Prelude.{ℕ, List, ◌++◌, codes, decimal}
use Rattle.records.specs.Numbers.{layer as record_layer, number as record_number}
use Rattle.sheet.specs.Refusals.{number as refusal_number}
use Rattle.casefile.specs.declared.fault.Cause.{Cause}
use Rattle.casefile.specs.declared.fault.Cause.TheVariants.{Framing, Sheet}
use Rattle.casefile.specs.declared.fault.Fault.{Fault}

-- the sheet is the third layer
abbrev pub layer : Cause → ℕ
layer (Framing k) = record_layer k
layer (Sheet r) = 3

-- the sheet's number is the cause, unaltered
abbrev pub number : Cause → ℕ
number (Framing k) = record_number k
number (Sheet r) = refusal_number r

-- layer, cause and place
abbrev pub fault_text : Fault → List ℕ
fault_text f = codes "fault " ++ (decimal (layer f.cause) ++ (codes " " ++ (decimal (number f.cause) ++ (codes " " ++ decimal f.place))))
