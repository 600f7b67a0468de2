-- Cycles, and what one round of peeling leaves. Assumes nothing.
use Rattle.std.specs.Prelude.{◌≡◌, ℕ, zero, suc, ◌+◌, ◌≤◌, Bool, true, false, cond, List}
use Rattle.relation.specs.Algebra.{Set, Rel}
use Rattle.cycles.specs.Cycles.{Path, Cycle}

-- there is a cycle
abbrev pub Cyclic : Rel → Type 0
Cyclic R = (ws : List ℕ) × Cycle R ws

-- how many numbers below n are in V
unfoldable pub count : Set → ℕ → ℕ
count V zero = 0
count V (suc n) = cond (V n) (suc (count V n)) (count V n)

-- no event outside L lies on a cycle
abbrev pub Off : Rel → Set → Type 0
Off R L = (a : ℕ) → L a ≡ false → (vs : List ℕ) → Path R a vs a → ⊥

-- a has a successor in L
abbrev pub Leads : Rel → Set → ℕ → Type 0
Leads R L a = (b : ℕ) × (R a b ≡ true) × (L b ≡ true)

-- the events from k on were looked at, and those without a successor left were taken out
pub record Peeled (R : Rel) (before after : Set) (removed : Bool) (k : ℕ) : Type 0 where
  pub off : Off R before → Off R after
  pub fewer : count after 64 + cond removed 1 0 ≤ count before 64
  pub leads : removed ≡ false → (a : ℕ) → k ≤ a → after a ≡ true → Leads R after a
