-- What the operators say of a row or a relation, in the words of events and pairs.
use Rattle.std.proofs.Common.{◌≡◌, ℕ, zero, suc, ◌<◌, ◌≤◌, Bool, true, false, not, ◌&&◌, Some, None, Option, MatchOption, IsSomeAnd, sym, refl, ap, ◌∙◌, subst, ⊎_elim, arith}
use Rattle.std.proofs.lemmas.Bool.{cases_lt, cases_eq, and_from, and_parts}
use Rattle.closure.proofs.Reached.{never}
use Rattle.relation.specs.Algebra.{Set, Rel, some_below, least_below, or_else, beside, image, image_below, range, range_below, domain, lowest_loop, lowest_pair, lowest_pair_below, plus, ◌⨾◌}
use Rattle.relation.specs.Meaning.{members, holds}
use Rattle.relation.specs.Reading.{NothingIn, Lowest, LowestLoop, LowestPair, ImageOf, RangeOf, DomainOf, StepsOf, ChainsOf}
use Rattle.relation.specs.declared.Row.{Row}
use Rattle.relation.specs.declared.Relation.{Relation}
use Rattle.relation.proofs.Below.{FirstIn, some_from, from_some, some_none, least_none, pair_is, pair_none}
use Rattle.relation.proofs.Sets.{members_past}
use Rattle.relation.proofs.Relations.{holds_starts, holds_ends, holds_first, holds_second}
use Rattle.relation.proofs.Laws.{LeastOr, least_says, in_then, of_then}
use Rattle.relation.proofs.Plus.{plus_chain, chain_plus}

-- ---- nothing, and the lowest

-- a has no number past 63
abbrev pub Inside : Set → Type 0
Inside a = (j : ℕ) → 64 ≤ j → a j ≡ false

nothing_step : (a : Set) → Inside a → (t : Bool) → some_below 64 a ≡ t → NothingIn a (not t)
nothing_step a f true e =
    (λ h. never h, λ h. never (sym (some_none 64 a (λ j l. h j)) ∙ e))
nothing_step a f false e =
    (λ h j. ⊎_elim (λ l. no j (a j) refl l) (f j) (cases_lt j 64), λ h. refl)
  where
    no : (j : ℕ) (t : Bool) → a j ≡ t → j < 64 → a j ≡ false
    no j true q l = never (sym e ∙ some_from 64 a j l q)
    no j false q l = q

pub nothing_says : (r : Row) (t : Bool) → t ≡ not (some_below 64 (members r)) → NothingIn (members r) t
nothing_says r t e = subst (NothingIn (members r)) (sym e) (nothing_step (members r) (members_past r) (some_below 64 (members r)) refl)

lowest_from : (a : Set) → Inside a → (o : Option ℕ) → LeastOr 64 a o → Lowest a o
lowest_from a f (Some k) h = (h.1, h.2)
lowest_from a f None h = λ j. ⊎_elim (h j) (f j) (cases_lt j 64)

least_reads : (a : Set) → Inside a → Lowest a (least_below 64 a)
least_reads a f = lowest_from a f (least_below 64 a) (least_says 64 a)

pub lowest_says : (r : Row) (o : Option ℕ) → o ≡ least_below 64 (members r) → Lowest (members r) o
lowest_says r o e = subst (Lowest (members r)) (sym e) (least_reads (members r) (members_past r))

pub loop_says : (r : Relation) (o : Option ℕ) → o ≡ lowest_loop (holds r) → LowestLoop (holds r) o
unfolding lowest_loop
loop_says r o e = subst (LowestLoop (holds r)) (sym e) (least_reads (λ i. holds r i i) (λ i l. holds_starts r i i l))

-- what lowest_pair_below answers
abbrev PairOr : ℕ → Rel → Option (ℕ × ℕ) → Type 0
PairOr n r (Some p) = LowestPair r (Some p)
PairOr n r None = (k j : ℕ) → k < n → r k j ≡ false

pair_step : (n : ℕ) (r : Rel) (o : Option (ℕ × ℕ)) (q : Option ℕ) → PairOr n r o → Lowest (r n) q → PairOr (suc n) r (or_else o (beside n q))
pair_step n r (Some p) q h g = h
pair_step n r None (Some j) h g = (g.0, h, g.1)
pair_step n r None None h g =
    λ k j l. ⊎_elim (λ (e : k ≡ n). ap (λ m. r m j) e ∙ g j) (λ ne. h k j (omega arith)) (cases_eq k n)

pair_says_below : (n : ℕ) (r : Relation) → PairOr n (holds r) (lowest_pair_below n (holds r))
unfolding lowest_pair_below
pair_says_below zero r = λ k j l. absurd (omega arith)
pair_says_below (suc n) r =
    pair_step n (holds r) (lowest_pair_below n (holds r)) (least_below 64 (holds r n)) (pair_says_below n r)
    (least_reads (holds r n) (holds_ends r n))

pair_whole : (r : Relation) (o : Option (ℕ × ℕ)) → PairOr 64 (holds r) o → LowestPair (holds r) o
pair_whole r (Some p) h = h
pair_whole r None h = λ i j. ⊎_elim (h i j) (λ l. holds_starts r i j l) (cases_lt i 64)

pub pair_says : (r : Relation) (o : Option (ℕ × ℕ)) → o ≡ lowest_pair (holds r) → LowestPair (holds r) o
unfolding lowest_pair
pair_says r o e = subst (LowestPair (holds r)) (sym e) (pair_whole r (lowest_pair_below 64 (holds r)) (pair_says_below 64 r))

-- the lowest pair by its first event, the lowest of the domain, and what the row of that event has
empty_least : (a : Set) → some_below 64 a ≡ false → least_below 64 a ≡ None
empty_least a e = least_none 64 a (λ j l. no j (a j) refl l)
  where
    no : (j : ℕ) (t : Bool) → a j ≡ t → j < 64 → a j ≡ false
    no j true q l = never (sym e ∙ some_from 64 a j l q)
    no j false q l = q

pub pair_first_none : (r : Rel) → FirstIn 64 (domain r) None → None ≡ lowest_pair r
unfolding lowest_pair domain
pair_first_none r first = sym (pair_none 64 r (λ k l. empty_least (r k) (first k (omega arith) l)))

pub pair_first : {P : ℕ → ℕ × ℕ → Type 0} (r : Rel) (i : ℕ) (o : Option ℕ) (q : Option (ℕ × ℕ)) → FirstIn 64 (domain r) (Some i)
    → o ≡ least_below 64 (r i) → MatchOption o (q ≡ None) (λ j. IsSomeAnd q (P j)) → ((j : ℕ) (p : ℕ × ℕ) → P j p → p ≡ (i, j)) → q ≡ lowest_pair r
unfolding lowest_pair domain
pair_first r i None q first e made same =
    let w = from_some 64 (r i) first.2 in
    never (sym (subst (LeastOr 64 (r i)) (sym e) (least_says 64 (r i)) w.0 w.1) ∙ w.2)
pair_first r i (Some j) None first e made same = absurd made
pair_first r i (Some j) (Some p) first e made same =
    ap (λ (s : ℕ × ℕ). Some s) (same j p made)
    ∙ sym (pair_is 64 r i j first.1 (sym e) (λ k l. empty_least (r k) (first.3 k (omega arith) l)))

-- ---- what is related to what, of a set or relation b that is found equal

image_reads : (s : Row) (r : Relation) → ImageOf (members s) (holds r) (image (members s) (holds r))
unfolding image_below
image_reads s r j = (
  λ h.
      let w = from_some 64 (λ k. members s k && holds r k j) h in
      let p = and_parts (members s w.0) (holds r w.0 j) w.2 in (w.0, p.0, p.1),
  λ w. some_from 64 (λ k. members s k && holds r k j) w.0 (holds_first r w.0 j w.2) (and_from (members s w.0) (holds r w.0 j) w.1 w.2),
)

pub image_says : (s : Row) (r : Relation) (b : Set) → b ≡ image (members s) (holds r) → ImageOf (members s) (holds r) b
image_says s r b e = subst (ImageOf (members s) (holds r)) (sym e) (image_reads s r)

range_reads : (r : Relation) → RangeOf (holds r) (range (holds r))
unfolding range_below
range_reads r j = (
  λ h. let w = from_some 64 (λ k. holds r k j) h in (w.0, w.2),
  λ w. some_from 64 (λ k. holds r k j) w.0 (holds_first r w.0 j w.1) w.1,
)

pub range_says : (r : Relation) (b : Set) → b ≡ range (holds r) → RangeOf (holds r) b
range_says r b e = subst (RangeOf (holds r)) (sym e) (range_reads r)

domain_reads : (r : Relation) → DomainOf (holds r) (domain (holds r))
unfolding domain
domain_reads r i = (
  λ h. let w = from_some 64 (holds r i) h in (w.0, w.2),
  λ w. some_from 64 (holds r i) w.0 (holds_second r i w.0 w.1) w.1,
)

pub domain_says : (r : Relation) (b : Set) → b ≡ domain (holds r) → DomainOf (holds r) b
domain_says r b e = subst (DomainOf (holds r)) (sym e) (domain_reads r)

then_reads : (r s : Relation) → StepsOf (holds r) (holds s) (holds r ⨾ holds s)
then_reads r s i j = (
  λ h. let w = of_then (holds r) (holds s) i j h in (w.0, w.2, w.3),
  λ w. in_then (holds r) (holds s) i w.0 j (holds_second r i w.0 w.1) w.1 w.2,
)

pub then_says : (r s : Relation) (b : Rel) → b ≡ holds r ⨾ holds s → StepsOf (holds r) (holds s) b
then_says r s b e = subst (StepsOf (holds r) (holds s)) (sym e) (then_reads r s)

pub plus_says : (r : Relation) (b : Rel) → b ≡ plus (holds r) → ChainsOf (holds r) b
plus_says r b e = subst (ChainsOf (holds r)) (sym e) (λ i j. (plus_chain (holds r) i j, chain_plus r i j))
