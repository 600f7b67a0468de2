-- What an input is answered. Assumes nothing.
use Rattle.std.specs.Prelude.{◌≡◌, ℕ, ◌<◌, ◌≤◌, List, length, None, Ok, Err, Result}
use Rattle.records.specs.declared.fault.Cause.TheVariants.{Oversize}
use Rattle.records.specs.declared.survey.Tally.{Tally}
use Rattle.records.specs.Counts.{tally}
use Rattle.records.specs.Grammar.{Item, Reading}
use Rattle.sheet.specs.Book.{Book}
use Rattle.casefile.specs.declared.fault.Cause.TheVariants.{Framing}
use Rattle.casefile.specs.declared.fault.Fault.{Fault}
use Rattle.casefile.specs.Files.{Reads}

-- the answer for what was read of bs: the numbers of its records, or its fault
abbrev pub Told : List ℕ → Result Book Fault → Result Tally Fault → Type 0
Told bs (Ok c) a = (is : List Item) × Reading bs is None × (a ≡ Ok (tally is))
Told bs (Err f) a = a ≡ Err f

-- an input of more than 32,768 bytes is refused there; any other is answered by what reading it answers
abbrev pub Answers : List ℕ → Result Tally Fault → Type 0
Answers bs a =
    (32768 < length bs → a ≡ Err (record { cause = Framing Oversize; place = 32768 }))
    × (length bs ≤ 32768 → (x : Result Book Fault) × Reads bs x × Told bs x a)
