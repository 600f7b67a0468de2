-- What the answers say, in the words of events and pairs.
use Rattle.std.specs.Prelude.{◌≡◌, ℕ, ◌<◌, Bool, true, false, Some, None, Decides, Option}
use Rattle.closure.specs.Ways.{Chain}
use Rattle.relation.specs.Algebra.{Set, Rel}

-- t is true exactly if nothing is in a
abbrev pub NothingIn : Set → Bool → Type 0
NothingIn a t = Decides t ((j : ℕ) → a j ≡ false)

-- the answer is in a and nothing below it is; no answer says that nothing is in a
abbrev pub Lowest : Set → Option ℕ → Type 0
Lowest a (Some i) = (a i ≡ true) × ((j : ℕ) → j < i → a j ≡ false)
Lowest a None = (j : ℕ) → a j ≡ false

-- the answer is related to itself and nothing below it is; no answer says that nothing is related to itself
abbrev pub LowestLoop : Rel → Option ℕ → Type 0
LowestLoop r o = Lowest (λ i. r i i) o

-- the answer is a pair, nothing below its first event is related to anything, and its first event to nothing below its second; no answer says that
-- there is no pair
abbrev pub LowestPair : Rel → Option (ℕ × ℕ) → Type 0
LowestPair r (Some p) = (r p.0 p.1 ≡ true) × ((k j : ℕ) → k < p.0 → r k j ≡ false) × ((j : ℕ) → j < p.1 → r p.0 j ≡ false)
LowestPair r None = (i j : ℕ) → r i j ≡ false

-- b has exactly what something in a is related to
abbrev pub ImageOf : Set → Rel → Set → Type 0
ImageOf a r b = (j : ℕ) → Decides (b j) ((k : ℕ) × (a k ≡ true) × (r k j ≡ true))

-- b has exactly what something is related to
abbrev pub RangeOf : Rel → Set → Type 0
RangeOf r b = (j : ℕ) → Decides (b j) ((k : ℕ) × (r k j ≡ true))

-- b has exactly what is related to something
abbrev pub DomainOf : Rel → Set → Type 0
DomainOf r b = (i : ℕ) → Decides (b i) ((k : ℕ) × (r i k ≡ true))

-- t relates i to j exactly if r relates i to something that s relates to j
abbrev pub StepsOf : Rel → Rel → Rel → Type 0
StepsOf r s t = (i j : ℕ) → Decides (t i j) ((k : ℕ) × (r i k ≡ true) × (s k j ≡ true))

-- t relates i to j exactly if a chain of one or more steps of r leads from i to j
abbrev pub ChainsOf : Rel → Rel → Type 0
ChainsOf r t = (i j : ℕ) → Decides (t i j) (Chain (λ a b. r a b ≡ true) 64 i j)
