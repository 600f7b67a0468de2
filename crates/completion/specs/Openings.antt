-- Open pairs, and the edges that a completion adds. Assumes nothing.
use Rattle.std.specs.Prelude.{ℕ, zero, suc, Bool, cond, not, ◌&&◌, List, [], ◌∷◌, ◌++◌, length, ◌==◌, nat_lt, slice_index_or}
use Rattle.relation.specs.Algebra.{Rel, some_below, ◌∪◌}
use Rattle.relation.specs.Bits.{member}
use Rattle.execution.specs.Facts.{Facts, with_order}
use Rattle.model.specs.Meaning.{Meaning}

-- so many pairs may be open
abbrev pub most_open : ℕ
most_open = 12

-- the pair needs an order, and the sheet gives neither direction
abbrev pub is_open : Meaning → Facts → Rel
is_open m x a b = m.need x.threads x.events a b && (not (x.order a b) && not (x.order b a))

-- the pairs of a with a higher event below n that pass
abbrev pub open_in_row : Rel → ℕ → ℕ → List (ℕ × ℕ)
open_in_row f a zero = []
open_in_row f a (suc b) = open_in_row f a b ++ cond (nat_lt a b && f a b) ((a, b) ∷ []) []

-- the pairs of a lower event below k and a higher below n that pass, by lower event, then higher
abbrev pub open_rows : Rel → ℕ → ℕ → List (ℕ × ℕ)
open_rows f n zero = []
open_rows f n (suc k) = open_rows f n k ++ open_in_row f k n

-- the open pairs, listed by lower event, then higher
abbrev pub open_pairs : Meaning → Facts → List (ℕ × ℕ)
open_pairs m x = open_rows (is_open m x) (length x.events) (length x.events)

-- the one edge from a to b
abbrev pub edge : ℕ → ℕ → Rel
edge a b u v = u == a && v == b

-- the edge of a pair: the first event before the second, or turned
abbrev pub edge_of : ℕ × ℕ → Bool → Rel
edge_of p turned a b = cond turned (edge p.1 p.0 a b) (edge p.0 p.1 a b)

-- the edges that completion c adds for the first n pairs: bit i, lowest first, is 0 if the lower event of pair i comes first
unfoldable pub added_first : ℕ → List (ℕ × ℕ) → ℕ → Rel
added_first n ps c a b = some_below n (λ i. edge_of (slice_index_or ps i (0, 0)) (member c i) a b)

-- the edges that completion c adds, one for each pair
abbrev pub added : List (ℕ × ℕ) → ℕ → Rel
added ps c = added_first (length ps) ps c

-- an execution with the edges of completion c of some pairs
abbrev pub completed : Facts → List (ℕ × ℕ) → ℕ → Facts
completed x ps c = with_order x (x.order ∪ added ps c)
