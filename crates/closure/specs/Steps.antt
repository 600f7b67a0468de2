-- Kinds of step, and what a closure of a table of steps is. Assumes nothing.
use Rattle.std.specs.Prelude.{◌≡◌, ℕ, zero, suc, ◌+◌, ◌*◌, ◌<◌, ◌≤◌, List, [], ◌∷◌, ◌++◌, map, length, slice_index_or}
use Rattle.std.specs.List.{AllByRecursion}

-- What joining (one way or another) and chaining (one step after another) obey.
pub record Laws {S : Type 0} (none : S) (join chain : S → S → S) : Type 0 where
  pub join_assoc : (a b c : S) → join (join a b) c ≡ join a (join b c)
  pub join_comm : (a b : S) → join a b ≡ join b a
  pub join_same : (a : S) → join a a ≡ a
  pub join_none : (a : S) → join none a ≡ a
  pub chain_assoc : (a b c : S) → chain (chain a b) c ≡ chain a (chain b c)
  pub chain_join : (a b c : S) → chain a (join b c) ≡ join (chain a b) (chain a c)
  pub join_chain : (a b c : S) → chain (join a b) c ≡ join (chain a c) (chain b c)
  pub none_chain : (a : S) → chain none a ≡ none
  pub chain_none : (a : S) → chain a none ≡ none
  -- a detour after a step, or before it, adds nothing to that step
  pub detour_after : (a b : S) → join a (chain a b) ≡ a
  pub detour_before : (a b : S) → join a (chain b a) ≡ a

-- b already has what a has
abbrev pub Under : {S : Type 0} → (S → S → S) → S → S → Type 0
Under join a b = join a b ≡ b

-- the joining of f 0, f 1, .. below n
unfoldable pub joining : {S : Type 0} → S → (S → S → S) → (ℕ → S) → ℕ → S
joining none join f zero = none
joining none join f (suc n) = join (joining none join f n) (f n)

-- what the chains of at most k steps from i to j come to, through the events below n: the step itself, or a first step to some event, and a chain of
-- fewer steps from there
unfoldable pub walks : {S : Type 0} → S → (S → S → S) → (S → S → S) → ℕ → (ℕ → ℕ → S) → ℕ → ℕ → ℕ → S
walks none join chain n M zero i j = none
walks none join chain n M (suc k) i j = join (M i j) (joining none join (λ m. chain (M i m) (walks none join chain n M k m j)) n)

-- what one chain comes to, from i to j over the events vs in their order
abbrev pub value : {S : Type 0} → (S → S → S) → (ℕ → ℕ → S) → ℕ → List ℕ → ℕ → S
value chain M i [] j = M i j
value chain M i (v ∷ vs) j = chain (M i v) (value chain M v vs j)

-- vs has only events below n, and a chain over it has at most k steps
pub record Within (n k : ℕ) (vs : List ℕ) : Type 0 where
  pub events : AllByRecursion (λ v. v < n) vs
  pub few : length vs < k

-- x is the joining over all chains of at most k steps from i to j: it has what each of them comes to, and no more than that
pub record Joins {S : Type 0} (join chain : S → S → S) (n : ℕ) (M : ℕ → ℕ → S) (k i j : ℕ) (x : S) : Type 0 where
  pub above : (vs : List ℕ) → Within n k vs → Under join (value chain M i vs j) x
  pub least : (y : S) → ((vs : List ℕ) → Within n k vs → Under join (value chain M i vs j) y) → Under join x y

-- each of vss, behind each event below m
unfoldable pub behind : ℕ → List (List ℕ) → List (List ℕ)
behind zero vss = []
behind (suc m) vss = behind m vss ++ map (λ vs. m ∷ vs) vss

-- the lists of fewer than k events below n, each once: what the chains of at most k steps go over
unfoldable pub routes : ℕ → ℕ → List (List ℕ)
routes n zero = []
routes n (suc k) = [] ∷ behind n (routes n k)

-- the joining of all of a list
abbrev pub joined : {S : Type 0} → S → (S → S → S) → List S → S
joined none join [] = none
joined none join (x ∷ xs) = join x (joined none join xs)

-- the table of n rows that a list holds, row after row
abbrev pub table : {S : Type 0} → S → ℕ → List S → ℕ → ℕ → S
table none n xs i j = slice_index_or xs (i * n + j) none

-- the row `before` has had, at its entries below j, the way over one event joined: `via` is its step to that event, `over` the event's own row
pub record Relaxed {S : Type 0} (none : S) (join chain : S → S → S) (via : S) (over before after : List S) (j : ℕ) : Type 0 where
  pub row : (b : ℕ) → b < j → slice_index_or after b none ≡ join (slice_index_or before b none) (chain via (slice_index_or over b none))
  pub rest : (b : ℕ) → j ≤ b → slice_index_or after b none ≡ slice_index_or before b none

-- the first i rows have had the way over k, whose own row is `over`, joined to their entries, and nothing else is changed
pub record Swept {S : Type 0} (none : S) (join chain : S → S → S) (k : ℕ) (over before after : List S) (i : ℕ) : Type 0 where
  pub done : (a b : ℕ) → a < i → b < length over → table none (length over) after a b ≡ join (table none (length over) before a b) (chain (table none (length over) before a k) (slice_index_or over b none))
  pub rest : (p : ℕ) → i * length over ≤ p → slice_index_or after p none ≡ slice_index_or before p none

-- the way over k has been joined to each entry of the table of n rows
abbrev pub Passed : {S : Type 0} → S → (S → S → S) → (S → S → S) → ℕ → ℕ → List S → List S → Type 0
Passed none join chain n k before after = (a b : ℕ) → a < n → b < n → table none n after a b ≡ join (table none n before a b) (chain (table none n before a k) (table none n before k b))

-- `after` is the closure of the table of n rows that `before` begins with
pub record Closed {S : Type 0} (none : S) (join chain : S → S → S) (n : ℕ) (before after : List S) : Type 0 where
  pub entries : (i j : ℕ) → i < n → j < n → table none n after i j ≡ walks none join chain n (table none n before) 64 i j
  -- the same in the words of chains
  pub chains : (i j : ℕ) → i < n → j < n → Joins join chain n (table none n before) 64 i j (table none n after i j)
  -- and as one joining, over the list of all chains
  pub all_chains : (i j : ℕ) → i < n → j < n → table none n after i j ≡ joined none join (map (λ vs. value chain (table none n before) i vs j) (routes n 64))
  -- what lies behind the table stays
  pub rest : (p : ℕ) → n * n ≤ p → slice_index_or after p none ≡ slice_index_or before p none
