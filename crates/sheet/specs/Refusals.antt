-- The numbers of refusals. Assumes nothing.
use Rattle.std.specs.Prelude.{ℕ}
use Rattle.sheet.specs.declared.calls.Refusal.{Refusal}
use Rattle.sheet.specs.declared.calls.Refusal.TheVariants.{Absent, Full, BadField, CannotCarry, ValuesDiffer, Given, TooManyOpen, Unsourced, Memory}

-- the number that a caller is told
abbrev pub number : Refusal → ℕ
number Absent = 1
number Full = 2
number BadField = 3
number CannotCarry = 4
number ValuesDiffer = 5
number Given = 6
number TooManyOpen = 7
number Unsourced = 8
number Memory = 9
