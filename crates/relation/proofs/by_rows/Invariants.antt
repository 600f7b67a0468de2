use Rattle.std.proofs.Common.{◌≡◌, ℕ, ◌<◌, length, get_or}
use Rattle.relation.specs.Meaning.{blank}
use Rattle.relation.proofs.by_rows.Given as goal

abbrev pub invariant-loop-i : goal.invariant-loop-i
invariant-loop-i g l = (length l.place-items ≡ 64) × ((k : ℕ) → k < l.i → goal.F-post g l.row k (get_or l.place-items k blank))
