-- The four edge sets. Assumes nothing.
use Rattle.std.specs.Prelude.{ℕ, Bool, cond, ◌||◌, ◌==◌}
use Rattle.relation.specs.Algebra.{Rel, none, pair, range, ◌∪◌, ◌∖◌}
use Rattle.relation.specs.Meaning.{holds}
use Rattle.sheet.specs.declared.calls.Edge.{Edge}
use Rattle.sheet.specs.declared.calls.Edge.TheVariants.{ReadFrom, Order, Atomic, Depend}
use Rattle.sheet.specs.declared.edges.Edges.{Edges}

-- for each sort of edge, which events it joins
abbrev pub EdgeSets : Type 0
EdgeSets = Edge → Rel

-- the sorts by number
abbrev pub edge_number : Edge → ℕ
edge_number ReadFrom = 0
edge_number Order = 1
edge_number Atomic = 2
edge_number Depend = 3

abbrev pub same_edge : Edge → Edge → Bool
same_edge e k = edge_number e == edge_number k

unfoldable pub no_edges : EdgeSets
no_edges k = none

-- one edge of sort e more, from i to j
unfoldable pub with_edge : EdgeSets → Edge → ℕ → ℕ → EdgeSets
with_edge s e i j k = cond (same_edge e k) (s k ∪ pair i j) (s k)

-- the edge of sort e from i to j taken out
unfoldable pub without_edge : EdgeSets → Edge → ℕ → ℕ → EdgeSets
without_edge s e i j k = cond (same_edge e k) (s k ∖ pair i j) (s k)

-- the edges that tables hold
abbrev pub laid : Edges → EdgeSets
laid t ReadFrom = holds t.read_from
laid t Order = holds t.order
laid t Atomic = holds t.atomic
laid t Depend = holds t.depend

-- the edge is there; for order, also the other way; for read-from, the read has any source
unfoldable pub given_in : EdgeSets → Edge → ℕ → ℕ → Bool
given_in s ReadFrom i j = range (s ReadFrom) j
given_in s Order i j = s Order i j || s Order j i
given_in s Atomic i j = s Atomic i j
given_in s Depend i j = s Depend i j
