-- The pairs that the code lists. Assumes nothing.
use Rattle.std.specs.Prelude.{ℕ, List}
use Rattle.completion.specs.declared.pairs.OpenPairs.{OpenPairs}

abbrev pub listed : OpenPairs → List (ℕ × ℕ)
listed p = p.list.items
