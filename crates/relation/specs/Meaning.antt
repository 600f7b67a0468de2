-- What a row and a relation of the code stand for. Neither holds a number past 63.
use Rattle.std.specs.Prelude.{◌≡◌, ℕ, ◌/◌, ◌%◌, ◌<◌, ◌≤◌, Bool, false, ◌&&◌, List, nat_lt, slice_index_or}
use Rattle.relation.specs.Algebra.{Set, Rel, nothing, only_if}
use Rattle.relation.specs.Bits.{member}
use Rattle.relation.specs.declared.Row.{Row}
use Rattle.relation.specs.declared.Relation.{Relation}

-- the members of a row
unfoldable pub members : Row → Set
members r j = nat_lt j 64 && member r.bits j

-- the row of no events
abbrev pub blank : Row
blank = record { bits = 0 }

-- the pairs that a relation holds of
unfoldable pub holds : Relation → Rel
holds r i = only_if (nat_lt i 64) (members (slice_index_or r.rows i blank))

-- the first n entries of a table, of 64 to a row, say yes of the pairs of r
abbrev pub Laid : Rel → List Bool → ℕ → Type 0
Laid r xs n = (p : ℕ) → p < n → slice_index_or xs p false ≡ r (p / 64) (p % 64)

-- no event past 63 starts a pair
abbrev pub StartsBelow : Rel → Type 0
StartsBelow r = (i : ℕ) → 64 ≤ i → r i ≡ nothing

-- each row that f gives for an event is that of r
abbrev pub GivesRows : (ℕ → Row → Type 0) → Rel → Type 0
GivesRows f r = (i : ℕ) (row : Row) → i < 64 → f i row → members row ≡ r i

-- each answer that f gives for an event below n is that of a
abbrev pub GivesTests : (ℕ → Bool → Type 0) → ℕ → Set → Type 0
GivesTests f n a = (j : ℕ) (t : Bool) → j < n → f j t → t ≡ a j
