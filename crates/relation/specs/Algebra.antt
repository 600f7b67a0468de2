-- Sets and relations of events, and the operators on them. An event is a number below 64.
use Rattle.std.specs.Prelude.{ℕ, zero, suc, Bool, false, cond, not, ◌&&◌, ◌||◌, Some, None, Option, ◌==◌, nat_lt}
use Rattle.closure.specs.Steps.{walks}

infixl 60 ◌∪◌
infixl 64 ◌∩◌ ◌∖◌
infixl 66 ◌◁◌ ◌▷◌
infixl 70 ◌⨾◌
-- a set of events: which numbers are in it
abbrev pub Set : Type 0
Set = ℕ → Bool

-- a relation: which number is related to which
abbrev pub Rel : Type 0
Rel = ℕ → ℕ → Bool

-- whether some number below n passes p
unfoldable pub some_below : ℕ → Set → Bool
some_below zero p = false
some_below (suc n) p = p n || some_below n p

-- the first answer, and the second where there is none
abbrev pub or_else : {A : Type 0} → Option A → Option A → Option A
or_else (Some k) o = Some k
or_else None o = o

-- the least number below n that passes p
unfoldable pub least_below : ℕ → Set → Option ℕ
least_below zero p = None
least_below (suc n) p = or_else (least_below n p) (cond (p n) (Some n) None)

-- ---- sets

-- no event
unfoldable pub nothing : Set
nothing j = false

-- all events
unfoldable pub everything : Set
everything j = nat_lt j 64

-- the set of one event, and the empty one where i is no event
unfoldable pub single : ℕ → Set
single i j = nat_lt i 64 && i == j

-- the events below n
unfoldable pub below : ℕ → Set
below n j = nat_lt j n && nat_lt j 64

-- what is in a or in b
unfoldable pub either : Set → Set → Set
either a b j = a j || b j

-- what is in a and in b
unfoldable pub both : Set → Set → Set
both a b j = a j && b j

-- what is in a and not in b
unfoldable pub except : Set → Set → Set
except a b j = a j && not (b j)

-- a where t is true, and nothing where it is false
unfoldable pub only_if : Bool → Set → Set
only_if t a j = t && a j

-- the members of a below n
unfoldable pub upto : ℕ → Set → Set
upto n a j = nat_lt j n && a j

-- ---- relations

-- no pair
unfoldable pub none : Rel
none i j = false

-- the one pair of i and j, and none where either is no event
unfoldable pub pair : ℕ → ℕ → Rel
pair i j k l = single i k && single j l

-- the pairs of r or of s
unfoldable pub ◌∪◌ : Rel → Rel → Rel
◌∪◌ r s i j = r i j || s i j

-- the pairs of both r and s
unfoldable pub ◌∩◌ : Rel → Rel → Rel
◌∩◌ r s i j = r i j && s i j

-- the pairs of r that are none of s
unfoldable pub ◌∖◌ : Rel → Rel → Rel
◌∖◌ r s i j = r i j && not (s i j)

-- what the members of a below n are related to
unfoldable pub image_below : ℕ → Set → Rel → Set
image_below n a r j = some_below n (λ k. a k && r k j)

-- what the members of a are related to
abbrev pub image : Set → Rel → Set
image a r = image_below 64 a r

-- what an event below n is related to
unfoldable pub range_below : ℕ → Rel → Set
range_below n r j = some_below n (λ k. r k j)

-- what some event is related to
abbrev pub range : Rel → Set
range r = range_below 64 r

-- the events that are related to some event
unfoldable pub domain : Rel → Set
domain r i = some_below 64 (r i)

-- a step of r, then a step of s
unfoldable pub ◌⨾◌ : Rel → Rel → Rel
◌⨾◌ r s i j = some_below 64 (λ k. r i k && s k j)

-- the pairs of r that start in a
unfoldable pub ◌◁◌ : Set → Rel → Rel
◌◁◌ a r i j = a i && r i j

-- the pairs of r that end in a
unfoldable pub ◌▷◌ : Rel → Set → Rel
◌▷◌ r a i j = r i j && a j

-- a chain of one or more steps of r, each from where the last one ended; 64 steps are enough for any chain
unfoldable pub plus : Rel → Rel
plus r i j = walks false ◌||◌ ◌&&◌ 64 r 64 i j

-- what is related to j
unfoldable pub column : Rel → ℕ → Set
column r j i = r i j

-- the pairs of r, each turned around
unfoldable pub inverse : Rel → Rel
inverse r i j = r j i

-- the pairs of events below n that p relates
unfoldable pub cut : ℕ → Rel → Rel
cut n p i j = nat_lt i n && (nat_lt j n && p i j)

-- the lowest event that is related to itself
unfoldable pub lowest_loop : Rel → Option ℕ
lowest_loop r = least_below 64 (λ i. r i i)

-- the pair of i and what the option holds
abbrev pub beside : ℕ → Option ℕ → Option (ℕ × ℕ)
beside i (Some j) = Some (i, j)
beside i None = None

-- the pair of the lowest first event below n, and its lowest second event
unfoldable pub lowest_pair_below : ℕ → Rel → Option (ℕ × ℕ)
lowest_pair_below zero r = None
lowest_pair_below (suc n) r = or_else (lowest_pair_below n r) (beside n (least_below 64 (r n)))

-- the pair of the lowest first event, and its lowest second event
unfoldable pub lowest_pair : Rel → Option (ℕ × ℕ)
lowest_pair r = lowest_pair_below 64 r
