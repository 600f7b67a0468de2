-- What `some_below` and `least_below` say.
use Rattle.std.proofs.Common.{◌≡◌, ℕ, zero, suc, ◌+◌, ◌<◌, ◌≤◌, Bool, true, false, cond, ◌&&◌, ◌||◌, ltb, Some, None, Option, MatchOption, sym, refl, ap, ◌∙◌, ap₂, ⊎_elim, add-one, arith}
use mathlib.Core.Path.{fun_ext}
use Rattle.std.proofs.lemmas.Bool.Decides.{nat_tests}
use Rattle.std.proofs.Math.Bool.{and-true, and-false, or-false, or_comm}
use Rattle.std.proofs.lemmas.Bool.{or_cases, or_left, or_right, or_from, cases_eq, lt-ltb, le-ltb, eq-eqb, ne_eqb}
use Rattle.relation.specs.Algebra.{Set, Rel, some_below, least_below, or_else, nothing, single, either, only_if, upto, range_below, beside, lowest_pair_below}

-- some number below n passes
pub some_from : (n : ℕ) (p : Set) (k : ℕ) → k < n → p k ≡ true → some_below n p ≡ true
unfolding some_below
some_from zero p k l h = absurd (omega arith)
some_from (suc n) p k l h =
    ⊎_elim (λ e. or_left (p n) (some_below n p) (ap p (sym e) ∙ h))
    (λ ne. or_right (p n) (some_below n p) (some_from n p k (omega arith) h)) (cases_eq k n)

pub from_some : (n : ℕ) (p : Set) → some_below n p ≡ true → (k : ℕ) × (k < n) × (p k ≡ true)
unfolding some_below
from_some zero p h = absurd (let z : ◌≡◌ {A = ℕ} 0 1 = cc in omega arith)
from_some (suc n) p h =
    ⊎_elim (λ e. (n, omega arith, e))
    (λ e. let r = from_some n p e in (r.0, omega (arith, r.1), r.2)) (or_cases (p n) (some_below n p) h)

-- no number below n passes
pub some_none : (n : ℕ) (p : Set) → ((k : ℕ) → k < n → p k ≡ false) → some_below n p ≡ false
unfolding some_below
some_none zero p h = refl
some_none (suc n) p h = or_from (p n) (some_below n p) (h n (omega arith)) (some_none n p (λ k l. h k (omega arith)))

pub some_more : (n : ℕ) (p : Set) → some_below (n + 1) p ≡ (p n || some_below n p)
unfolding some_below
some_more n p = ap (λ m. some_below m p) (add-one n)

-- the same tests below n
pub some_same : (n : ℕ) (p q : Set) → ((k : ℕ) → k < n → p k ≡ q k) → some_below n p ≡ some_below n q
unfolding some_below
some_same zero p q h = refl
some_same (suc n) p q h = ap₂ (λ a b. a || b) (h n (omega arith)) (some_same n p q (λ k l. h k (omega arith)))

-- ---- the least

pub least_none : (n : ℕ) (p : Set) → ((k : ℕ) → k < n → p k ≡ false) → least_below n p ≡ None
unfolding least_below
least_none zero p h = refl
least_none (suc n) p h =
    ap₂ (λ (o : Option ℕ) (t : Bool). or_else o (cond t (Some n) None)) (least_none n p (λ k l. h k (omega arith))) (h n (omega arith))

pub least_is : (n : ℕ) (p : Set) (k : ℕ) → k < n → p k ≡ true → ((j : ℕ) → j < k → p j ≡ false) → least_below n p ≡ Some k
unfolding least_below
least_is zero p k l h below = absurd (omega arith)
least_is (suc n) p k l h below =
    ⊎_elim
    (λ e. ap₂ (λ (o : Option ℕ) (t : Bool). or_else o (cond t (Some n) None))
    (least_none n p (λ j m. below j (omega arith))) (ap p (sym e) ∙ h)
    ∙ ap (λ (m : ℕ). Some m) (sym e))
    (λ ne. ap (λ (o : Option ℕ). or_else o (cond (p n) (Some n) None)) (least_is n p k (omega arith) h below))
    (cases_eq k n)

-- what a search from 0 up to n found, if it found something
abbrev pub FirstIn : ℕ → Set → Option ℕ → Type 0
FirstIn n p o = MatchOption o ((k : ℕ) → 0 ≤ k → k < n → p k ≡ false) (λ i. (0 ≤ i) × (i < n) × (p i ≡ true) × ((k : ℕ) → 0 ≤ k → k < i → p k ≡ false))

pub least_first : (n : ℕ) (p : Set) (o : Option ℕ) → FirstIn n p o → o ≡ least_below n p
least_first n p None h = sym (least_none n p (λ k l. h k (omega arith) l))
least_first n p (Some i) h = sym (least_is n p i h.1 h.2 (λ k l. h.3 k (omega arith) l))

-- ---- one more member

pub upto_none : (a : Set) → nothing ≡ upto 0 a
unfolding upto nothing
upto_none a = fun_ext (λ j. grind (arith, nat_tests))

pub upto_more : (n : ℕ) (a : Set) → n < 64 → upto (n + 1) a ≡ either (upto n a) (only_if (a n) (single n))
unfolding upto either only_if single
upto_more n a h =
    fun_ext (λ j. ⊎_elim
    (λ (e : j ≡ n). simp (e, lt-ltb n (n + 1) (omega arith), lt-ltb n 64 h, le-ltb n n (omega arith), eq-eqb n n refl) (sym (and-true (a n))))
    (λ ne. simp (ne_eqb n j (λ e. ne (sym e)), lt-ltb n 64 h, and-false (a n), or-false (ltb j n && a j)) (ap (λ t. t && a j) (grind (arith, nat_tests))))
    (cases_eq j n))

-- ---- the lowest pair

pub pair_none : (n : ℕ) (r : Rel) → ((k : ℕ) → k < n → least_below 64 (r k) ≡ None) → lowest_pair_below n r ≡ None
unfolding lowest_pair_below
pair_none zero r h = refl
pair_none (suc n) r h =
    ap₂ (λ (o : Option (ℕ × ℕ)) (t : Option ℕ). or_else o (beside n t)) (pair_none n r (λ k l. h k (omega arith))) (h n (omega arith))

pub pair_is : (n : ℕ) (r : Rel) (i j : ℕ) → i < n → least_below 64 (r i) ≡ Some j
    → ((k : ℕ) → k < i → least_below 64 (r k) ≡ None) → lowest_pair_below n r ≡ Some (i, j)
unfolding lowest_pair_below
pair_is zero r i j l h below = absurd (omega arith)
pair_is (suc n) r i j l h below =
    ⊎_elim
    (λ e. ap₂ (λ (o : Option (ℕ × ℕ)) (t : Option ℕ). or_else o (beside n t))
    (pair_none n r (λ k m. below k (omega arith))) (ap (λ k. least_below 64 (r k)) (sym e) ∙ h)
    ∙ ap (λ (m : ℕ). Some (m, j)) (sym e))
    (λ ne. ap (λ (o : Option (ℕ × ℕ)). or_else o (beside n (least_below 64 (r n)))) (pair_is n r i j (omega arith) h below))
    (cases_eq i n)

pub range_none : (r : Rel) → nothing ≡ range_below 0 r
unfolding range_below nothing some_below
range_none r = refl

pub range_more : (n : ℕ) (r : Rel) → range_below (n + 1) r ≡ either (range_below n r) (r n)
unfolding range_below either
range_more n r = fun_ext (λ j. some_more n (λ k. r k j) ∙ or_comm (r n j) (some_below n (λ k. r k j)))
