-- Relations among the events of a list. Assumes nothing.
use Rattle.std.specs.Prelude.{◌≡◌, ℕ, true, List}
use Rattle.relation.specs.Algebra.{Rel}
use Rattle.sheet.specs.Book.{both_known}
use Rattle.sheet.specs.declared.row.Event.{Event}

-- the relation joins events of the list only
abbrev pub Joins : List Event → Rel → Type 0
Joins es r = (a b : ℕ) → r a b ≡ true → both_known es a b ≡ true
