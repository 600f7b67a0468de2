-- Tables of the lengths of shortest paths. Assumes nothing.
use Rattle.std.specs.Prelude.{◌≡◌, ℕ, suc, ◌-◌, ◌/◌, ◌%◌, ◌<◌, ◌≤◌, true, List, length, get_or, slice_index, slice_index_or, Some, None, Option, MatchOption}
use Rattle.std.specs.Bool.{then_some}
use Rattle.closure.specs.Steps.{table}
use Rattle.relation.specs.Algebra.{Rel}
use Rattle.cycles.specs.declared.Distances.{Distances}
use Rattle.cycles.specs.Cycles.{Path}

-- how many steps apart two of 64 events are, and none where there is no way
abbrev pub apart : Distances → ℕ → ℕ → Option ℕ
apart d i j = table None 64 d.steps i j

-- the table of the single steps of R
abbrev pub Stepped : Rel → List (Option ℕ) → Type 0
Stepped R xs = (p : ℕ) → p < 4096 → slice_index_or xs p None ≡ then_some (R (p / 64) (p % 64)) 1

-- D has the length of the shortest path for each pair, at most 64, and none where there is no path
pub record Counted (R : Rel) (D : ℕ → ℕ → Option ℕ) : Type 0 where
  pub path : (i j d : ℕ) → i < 64 → j < 64 → D i j ≡ Some d → (vs : List ℕ) × Path R i vs j × (suc (length vs) ≡ d)
  pub least : (i j : ℕ) (vs : List ℕ) → Path R i vs j → (d : ℕ) × (D i j ≡ Some d) × (d ≤ suc (length vs))
  pub small : (i j d : ℕ) → i < 64 → j < 64 → D i j ≡ Some d → d ≤ 64

-- the least of the lengths D 0 0, D 1 1, .. below 64, and none if there is none
pub record Shorter (D : ℕ → ℕ → Option ℕ) (best : Option ℕ) : Type 0 where
  pub under : (i d : ℕ) → i < 64 → D i i ≡ Some d → (b : ℕ) × (best ≡ Some b) × (b ≤ d)
  pub some : (b : ℕ) → best ≡ Some b → (i : ℕ) × (i < 64) × (D i i ≡ Some b)

-- the lowest i below 64 that passes the test, and none if none does
abbrev pub Found : (ℕ → Type 0) → Option ℕ → Type 0
Found P s = MatchOption s ((t : ℕ) → t < 64 → P t → ⊥) (λ s. (s < 64) × P s × ((t : ℕ) → t < 64 → P t → s ≤ t))

-- m begins with i events of the walk from h by the rule: each is l less its place steps from h; behind them it is as it was
pub record Walked (R : Rel) (D : ℕ → ℕ → Option ℕ) (h l : ℕ) (before m : List ℕ) (i : ℕ) : Type 0 where
  pub start : get_or m 0 0 ≡ h
  pub at : (k : ℕ) → k < i → (slice_index m k < 64) × (D (slice_index m k) h ≡ Some (l - k))
  pub steps : (k : ℕ) → suc k < i → R (slice_index m k) (slice_index m (suc k)) ≡ true
  pub lowest : (k t : ℕ) → suc k < i → R (slice_index m k) t ≡ true → D t h ≡ Some (l - suc k) → slice_index m (suc k) ≤ t
  pub rest : (k : ℕ) → i ≤ k → slice_index m k ≡ slice_index before k
  pub long : length m ≡ length before
