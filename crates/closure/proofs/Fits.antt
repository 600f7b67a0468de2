-- What an accepted table says of its size. Assumes nothing.
use Rattle.std.proofs.Common.{◌≡◌, ℕ, ◌*◌, ◌≤◌, Bool, true, false, cond, leb, Ok, Err, Result, ap₂}
use Rattle.std.proofs.lemmas.Bool.{leb-true, le-leb}
use Rattle.closure.specs.declared.Misfit.{Misfit}
use Rattle.closure.specs.declared.Misfit.TheVariants.{Rows, Values}
use Rattle.closure.specs.Fitting.{fitting}

was_true : (b : Bool) (x : Result (Unit {0}) Misfit) → cond b x (Err Rows) ≡ Ok tt → b ≡ true
was_true true x e = cc
was_true false x e = cc

-- a table that is accepted has at most 64 rows
pub fits_rows : (n len : ℕ) → fitting n len ≡ Ok tt → n ≤ 64
fits_rows n len e = leb-true n 64 (was_true (leb n 64) _ e)

-- a table of at most 64 rows whose entries are all there is accepted
pub fits : (n len : ℕ) → n ≤ 64 → n * n ≤ len → fitting n len ≡ Ok tt
fits n len l m = ap₂ (λ (a b : Bool). cond a (cond b (Ok tt) (Err Values)) (Err Rows)) (le-leb n 64 l) (le-leb (n * n) len m)
