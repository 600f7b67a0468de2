-- What the operators say of a pair, and their laws.
use Rattle.std.proofs.Common.{◌≡◌, ℕ, zero, suc, ◌<◌, Bool, true, false, cond, not, ◌&&◌, ◌||◌, eqb, ltb, ◌⊎◌, Some, None, Option, sym, refl, ap, ◌∙◌, subst, ap₂, inl, inr, ⊎_elim, arith}
use mathlib.Core.Path.{fun_ext}
use Rattle.std.proofs.lemmas.Bool.{cases_eq, and_from, and_parts, or_cases, or_left, or_right, eqb-true}
-- two tests that pass together are equal
pub use Rattle.std.specs.Cmp.{both_ways as same_test}
use Rattle.relation.specs.Algebra.{Set, Rel, image_below, least_below, or_else, either, single, pair, ◌∪◌, ◌∖◌, ◌⨾◌}
use Rattle.relation.proofs.Below.{some_from, from_some}

-- two relations with the same pairs are equal
pub same_pairs : (r s : Rel) → ((i j : ℕ) → r i j ≡ true → s i j ≡ true) → ((i j : ℕ) → s i j ≡ true → r i j ≡ true) → r ≡ s
same_pairs r s f g = fun_ext (λ i. fun_ext (λ j. same_test (r i j) (s i j) (f i j) (g i j)))

-- ---- a pair of a union, an intersection, a composition

pub in_union : (r s : Rel) (i j : ℕ) → (r i j ≡ true) ⊎ (s i j ≡ true) → (r ∪ s) i j ≡ true
unfolding ◌∪◌ either
in_union r s i j = ⊎_elim (or_left (r i j) (s i j)) (or_right (r i j) (s i j))

pub of_union : (r s : Rel) (i j : ℕ) → (r ∪ s) i j ≡ true → (r i j ≡ true) ⊎ (s i j ≡ true)
unfolding ◌∪◌ either
of_union r s i j h = or_cases (r i j) (s i j) h

pub in_then : (r s : Rel) (i k j : ℕ) → k < 64 → r i k ≡ true → s k j ≡ true → (r ⨾ s) i j ≡ true
unfolding ◌⨾◌ image_below
in_then r s i k j l h g = some_from 64 (λ m. r i m && s m j) k l (and_from (r i k) (s k j) h g)

pub of_then : (r s : Rel) (i j : ℕ) → (r ⨾ s) i j ≡ true → (k : ℕ) × (k < 64) × (r i k ≡ true) × (s k j ≡ true)
unfolding ◌⨾◌ image_below
of_then r s i j h =
    let w = from_some 64 (λ m. r i m && s m j) h in
    let p = and_parts (r i w.0) (s w.0 j) w.2 in (w.0, w.1, p.0, p.1)

-- ---- laws

pub then_assoc : (r s t : Rel) → (r ⨾ s) ⨾ t ≡ r ⨾ (s ⨾ t)
then_assoc r s t =
    same_pairs ((r ⨾ s) ⨾ t) (r ⨾ (s ⨾ t))
    (λ i j h.
    let a = of_then (r ⨾ s) t i j h in
    let b = of_then r s i a.0 a.2 in
    in_then r (s ⨾ t) i b.0 j b.1 b.2 (in_then s t b.0 a.0 j a.1 b.3 a.3))
    (λ i j h.
    let a = of_then r (s ⨾ t) i j h in
    let b = of_then s t a.0 j a.3 in
    in_then (r ⨾ s) t i b.0 j b.1 (in_then r s i a.0 b.0 a.1 a.2 b.2) b.3)

pub union_then : (r s t : Rel) → (r ∪ s) ⨾ t ≡ r ⨾ t ∪ s ⨾ t
union_then r s t =
    same_pairs ((r ∪ s) ⨾ t) (r ⨾ t ∪ s ⨾ t)
    (λ i j h.
    let a = of_then (r ∪ s) t i j h in
    in_union (r ⨾ t) (s ⨾ t) i j
    (⊎_elim (λ x. inl (in_then r t i a.0 j a.1 x a.3)) (λ x. inr (in_then s t i a.0 j a.1 x a.3))
    (of_union r s i a.0 a.2)))
    (λ i j h.
    ⊎_elim (λ x. let a = of_then r t i j x in in_then (r ∪ s) t i a.0 j a.1 (in_union r s i a.0 (inl a.2)) a.3)
    (λ x. let a = of_then s t i j x in in_then (r ∪ s) t i a.0 j a.1 (in_union r s i a.0 (inr a.2)) a.3)
    (of_union (r ⨾ t) (s ⨾ t) i j h))

-- ---- the least number that passes

abbrev pub Least : ℕ → Set → ℕ → Type 0
Least n p k = (k < n) × (p k ≡ true) × ((j : ℕ) → j < k → p j ≡ false)

-- what `least_below` answers
abbrev pub LeastOr : ℕ → Set → Option ℕ → Type 0
LeastOr n p (Some k) = Least n p k
LeastOr n p None = (k : ℕ) → k < n → p k ≡ false

least_step : (n : ℕ) (p : Set) (o : Option ℕ) (t : Bool) → p n ≡ t → LeastOr n p o → LeastOr (suc n) p (or_else o (cond t (Some n) None))
least_step n p (Some k) t e h = (omega (arith, h.0), h.1, h.2)
least_step n p None true e h = (omega arith, e, h)
least_step n p None false e h =
    λ k l. ⊎_elim (λ (q : k ≡ n). ap p q ∙ e) (λ (m : k < n). h k m) (cases k l)
  where
    cases : (k : ℕ) → k < suc n → (k ≡ n) ⊎ (k < n)
    cases k l = ⊎_elim inl (λ ne. inr (omega arith)) (cases_eq k n)

pub least_says : (n : ℕ) (p : Set) → LeastOr n p (least_below n p)
unfolding least_below
least_says zero p = λ k l. absurd (omega arith)
least_says (suc n) p = least_step n p (least_below n p) (p n) refl (least_says n p)

-- the answer k is the least
pub least_some : (n : ℕ) (p : Set) (k : ℕ) → least_below n p ≡ Some k → Least n p k
least_some n p k e = subst (LeastOr n p) e (least_says n p)

-- ---- a pair that is added and taken out again

single_test : (i k : ℕ) → single i k ≡ true → i ≡ k
unfolding single
single_test i k h = eqb-true i k (and_parts (ltb i 64) (eqb i k) h).1

pub pair_test : (i j k l : ℕ) → pair i j k l ≡ true → (i ≡ k) × (j ≡ l)
unfolding pair
pair_test i j k l h =
    let p = and_parts (single i k) (single j l) h in (single_test i k p.0, single_test j l p.1)

pub add_remove : (r : Rel) (i j : ℕ) → r i j ≡ false → (r ∪ pair i j) ∖ pair i j ≡ r
unfolding ◌∪◌ ◌∖◌
add_remove r i j e = fun_ext (λ k. fun_ext (λ l. go k l (pair i j k l) refl))
  where
    keep : (a : Bool) → ((a || false) && not false) ≡ a
    keep true = refl
    keep false = refl

    drop : (a : Bool) → a ≡ false → ((a || true) && not true) ≡ a
    drop true h = sym h
    drop false h = refl

    go : (k l : ℕ) (t : Bool) → pair i j k l ≡ t → ((r k l || pair i j k l) && not (pair i j k l)) ≡ r k l
    go k l false h = ap (λ t. (r k l || t) && not t) h ∙ keep (r k l)
    go k l true h =
        let p = pair_test i j k l h in
        ap (λ t. (r k l || t) && not t) h ∙ drop (r k l) (ap₂ r (sym p.0) (sym p.1) ∙ e)
