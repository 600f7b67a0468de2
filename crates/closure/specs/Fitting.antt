-- Which tables are closed. Assumes nothing.
use Rattle.std.specs.Prelude.{ℕ, ◌*◌, cond, Ok, Err, Result, nat_le}
use Rattle.closure.specs.declared.Misfit.{Misfit}
use Rattle.closure.specs.declared.Misfit.TheVariants.{Rows, Values}

-- a table of n rows in a slice of this length: at most 64 rows, and all its entries must be there
abbrev pub fitting : ℕ → ℕ → Result (Unit {0}) Misfit
fitting n len = cond (nat_le n 64) (cond (nat_le (n * n) len) (Ok tt) (Err Values)) (Err Rows)
