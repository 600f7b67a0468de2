-- Cycles of a relation, and the one that is its witness. Assumes nothing.
use Rattle.std.specs.Prelude.{◌≡◌, ℕ, ◌<◌, ◌≤◌, true, ◌⊎◌, List, [], ◌∷◌, length, take, drop, Some, None, Option}
use Rattle.closure.specs.Ways.{Chain}
use Rattle.relation.specs.Algebra.{Rel}

-- steps of R from a over the events vs, in their order, to b: one more step than vs has events
abbrev pub Path : Rel → ℕ → List ℕ → ℕ → Type 0
Path R a [] b = R a b ≡ true
Path R a (v ∷ vs) b = (R a v ≡ true) × Path R v vs b

-- each event is related to the next, and the last to the first
abbrev pub Cycle : Rel → List ℕ → Type 0
Cycle R [] = ⊥
Cycle R (w ∷ ws) = Path R w ws w

-- a cycle, and every cycle has at least as many events
pub record Shortest (R : Rel) (ws : List ℕ) : Type 0 where
  pub cycle : Cycle R ws
  pub least : (vs : List ℕ) → Cycle R vs → length ws ≤ length vs

-- the order of lists by their first events that differ: vs does not come before ws
abbrev pub NotAfter : List ℕ → List ℕ → Type 0
NotAfter [] vs = Unit {0}
NotAfter (w ∷ ws) [] = ⊥
NotAfter (w ∷ ws) (v ∷ vs) = (w < v) ⊎ ((w ≡ v) × NotAfter ws vs)

-- the first of the shortest cycles
pub record Witness (R : Rel) (ws : List ℕ) : Type 0 where
  pub shortest : Shortest R ws
  pub first : (vs : List ℕ) → Shortest R vs → NotAfter ws vs

-- e is one of the events
abbrev pub On : ℕ → List ℕ → Type 0
On e [] = ⊥
On e (w ∷ ws) = (e ≡ w) ⊎ On e ws

-- s is the lowest successor of c from which h is reached over n more events
pub record Lowest (R : Rel) (h c s n : ℕ) : Type 0 where
  pub step : R c s ≡ true
  pub closes : (vs : List ℕ) × Path R s vs h × (length vs ≡ n)
  pub lowest : (t : ℕ) (vs : List ℕ) → R c t ≡ true → Path R t vs h → length vs ≡ n → s ≤ t

-- from c, each next event is the lowest successor from which the cycle still closes at h, at that length
abbrev pub Greedy : Rel → ℕ → ℕ → List ℕ → Type 0
Greedy R h c [] = R c h ≡ true
Greedy R h c (s ∷ ws) = Lowest R h c s (length ws) × Greedy R h s ws

-- the lowest event on any shortest cycle, and from there each next event by the rule
abbrev pub Stepwise : Rel → List ℕ → Type 0
Stepwise R [] = ⊥
Stepwise R (w ∷ ws) = ((vs : List ℕ) (e : ℕ) → Shortest R vs → On e vs → w ≤ e) × Greedy R w w ws

-- no two lists are the witness of one relation
abbrev pub Unique : Type 0
Unique = (R : Rel) (v w : List ℕ) → Witness R v → Witness R w → v ≡ w

-- the witness is the shortest cycle that the rule finds, step by step
abbrev pub FoundStepwise : Type 0
FoundStepwise = (R : Rel) (ws : List ℕ) → (Witness R ws → Shortest R ws × Stepwise R ws) × (Shortest R ws × Stepwise R ws → Witness R ws)

-- there is no cycle
abbrev pub Acyclic : Rel → Type 0
Acyclic R = (ws : List ℕ) → Cycle R ws → ⊥

-- the first l events of `after` are the witness, and behind them it is as `before`
pub record Shown (R : Rel) (before after : List ℕ) (l : ℕ) : Type 0 where
  pub few : l ≤ 64
  pub witness : Witness R (take l after)
  pub rest : drop l after ≡ drop l before

-- what is answered of R, and what that leaves in memory: none, and memory as it was, if there is no cycle; else the number
-- of events of the witness
abbrev pub Answered : Rel → List ℕ → List ℕ → Option ℕ → Type 0
Answered R before after None = Acyclic R × (after ≡ before)
Answered R before after (Some l) = Shown R before after l

-- R relates only events below 64
abbrev pub Inside : Rel → Type 0
Inside R = (i j : ℕ) → R i j ≡ true → (i < 64) × (j < 64)

-- there is a cycle exactly if a chain leads from some event to itself
abbrev pub CyclesAreChains : Type 0
CyclesAreChains = (R : Rel) → Inside R
    → ((ws : List ℕ) → Cycle R ws → (i : ℕ) × Chain (λ a b. R a b ≡ true) 64 i i)
    × ((i : ℕ) → Chain (λ a b. R a b ≡ true) 64 i i → (ws : List ℕ) × Cycle R ws)
