-- What completions violate, and the verdicts. Assumes nothing.
use Rattle.std.specs.Prelude.{ℕ, ◌^◌, ◌<◌, List, length}
use Rattle.execution.specs.Facts.{Facts}
use Rattle.model.specs.Meaning.{Meaning, kind_at}
use Rattle.violation.specs.Violations.{Breaks, Witness}
use Rattle.completion.specs.Openings.{open_pairs, completed}

-- c is a completion: 0 to 2 ^ k - 1, where k pairs are open
abbrev pub Completion : Meaning → Facts → ℕ → Type 0
Completion m x c = c < 2 ^ length (open_pairs m x)

-- completion c violates the i-th of the axioms
abbrev pub Violates : Meaning → Facts → ℕ → ℕ → Type 0
Violates m x c i = Breaks (kind_at m.kinds i) (m.relation (completed x (open_pairs m x) c) i)

-- it violates none
abbrev pub Consistent : Meaning → Facts → ℕ → Type 0
Consistent m x c = (i : ℕ) → Violates m x c i → ⊥

-- some completion violates none of the axioms
abbrev pub Possible : Meaning → Facts → Type 0
Possible m x = (c : ℕ) × Completion m x c × Consistent m x c

-- of the axioms that completion c violates, i is the lowest, and ws its witness
pub record BrokenBy (m : Meaning) (x : Facts) (c i : ℕ) (ws : List ℕ) : Type 0 where
  pub lower : (j : ℕ) → j < i → Violates m x c j → ⊥
  pub witness : Witness (kind_at m.kinds i) (m.relation (completed x (open_pairs m x) c) i) ws

-- c is the least completion that violates none of the axioms
pub record AllowedBy (m : Meaning) (x : Facts) (c : ℕ) : Type 0 where
  pub completion : Completion m x c
  pub consistent : Consistent m x c
  pub lower : (d : ℕ) → d < c → Consistent m x d → ⊥

-- every completion violates one of the axioms
abbrev pub Impossible : Meaning → Facts → Type 0
Impossible m x = (d : ℕ) → Completion m x d → Consistent m x d → ⊥
