-- What breaks an axiom, and its witness. Assumes nothing.
use Rattle.std.specs.Prelude.{◌≡◌, ℕ, ◌<◌, ◌≤◌, true, false, List, [], ◌∷◌, length, take, drop, Some, None, Option}
use Rattle.relation.specs.Algebra.{Rel}
use Rattle.cycles.specs.Cycles.{Cycle, NotAfter, Shortest, Stepwise}
use Rattle.model.specs.declared.axiom_kind.AxiomKind.{AxiomKind}
use Rattle.model.specs.declared.axiom_kind.AxiomKind.TheVariants.{Acyclic, Irreflexive, Empty}

-- one event that is related to itself
abbrev pub Loop : Rel → List ℕ → Type 0
Loop R [] = ⊥
Loop R (a ∷ []) = R a a ≡ true
Loop R (a ∷ (b ∷ vs)) = ⊥

-- two events, the first related to the second
abbrev pub Related : Rel → List ℕ → Type 0
Related R [] = ⊥
Related R (a ∷ []) = ⊥
Related R (a ∷ (b ∷ [])) = R a b ≡ true
Related R (a ∷ (b ∷ (c ∷ vs))) = ⊥

-- a list of events that breaks what a kind asks of R
abbrev pub Violation : AxiomKind → Rel → List ℕ → Type 0
Violation Acyclic R ws = Cycle R ws
Violation Irreflexive R ws = Loop R ws
Violation Empty R ws = Related R ws

-- R breaks what the kind asks of it
abbrev pub Breaks : AxiomKind → Rel → Type 0
Breaks k R = (ws : List ℕ) × Violation k R ws

-- the shortest violation, and among those the first in lexicographic order
pub record Witness (k : AxiomKind) (R : Rel) (ws : List ℕ) : Type 0 where
  pub violation : Violation k R ws
  pub shortest : (vs : List ℕ) → Violation k R vs → length ws ≤ length vs
  pub first : (vs : List ℕ) → Violation k R vs → length vs ≡ length ws → NotAfter ws vs

-- the first l bytes of `after` are the witness, and behind them it is as `before`
pub record Shown (k : AxiomKind) (R : Rel) (before after : List ℕ) (l : ℕ) : Type 0 where
  pub few : l ≤ 64
  pub witness : Witness k R (take l after)
  pub rest : drop l after ≡ drop l before

-- none, and memory as it was, if nothing breaks; else the number of events of the witness
abbrev pub Answered : AxiomKind → Rel → List ℕ → List ℕ → Option ℕ → Type 0
Answered k R before after None = (Breaks k R → ⊥) × (after ≡ before)
Answered k R before after (Some l) = Shown k R before after l

-- no two lists are the witness of one relation
abbrev pub Unique : Type 0
Unique = (k : AxiomKind) (R : Rel) (v w : List ℕ) → Witness k R v → Witness k R w → v ≡ w

-- the lowest event that is related to itself
abbrev pub LowestLoop : Rel → List ℕ → Type 0
LowestLoop R [] = ⊥
LowestLoop R (a ∷ []) = (R a a ≡ true) × ((c : ℕ) → c < a → R c c ≡ false)
LowestLoop R (a ∷ (b ∷ vs)) = ⊥

-- the pair lowest by first, then second event
abbrev pub LowestPair : Rel → List ℕ → Type 0
LowestPair R [] = ⊥
LowestPair R (a ∷ []) = ⊥
LowestPair R (a ∷ (b ∷ [])) = (R a b ≡ true) × ((c d : ℕ) → c < a → R c d ≡ false) × ((d : ℕ) → d < b → R a d ≡ false)
LowestPair R (a ∷ (b ∷ (c ∷ vs))) = ⊥

-- a shortest cycle found step by step; the lowest event related to itself; the lowest pair
abbrev pub Told : AxiomKind → Rel → List ℕ → Type 0
Told Acyclic R ws = Shortest R ws × Stepwise R ws
Told Irreflexive R ws = LowestLoop R ws
Told Empty R ws = LowestPair R ws

-- the witness is what is told of each kind, and nothing else is
abbrev pub SpelledOut : Type 0
SpelledOut = (k : AxiomKind) (R : Rel) (ws : List ℕ) → (Witness k R ws → Told k R ws) × (Told k R ws → Witness k R ws)
