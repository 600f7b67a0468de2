-- The list of open pairs, one pair and one row more.
use Rattle.std.proofs.Common.{◌≡◌, ℕ, zero, suc, ◌+◌, ◌<◌, ◌≤◌, Bool, true, cond, ◌&&◌, ltb, List, [], ◌∷◌, ◌++◌, length, sym, ap, ◌∙◌, subst, ⊎_elim, le_refl, add-one, arith, length-append}
use Rattle.std.proofs.lemmas.Bool.{cases_lt}
use Rattle.relation.specs.Algebra.{Rel}
use Rattle.completion.specs.Openings.{open_in_row, open_rows}

pub row_listed : (f : Rel) (a b : ℕ) → (ltb a b && f a b) ≡ true → open_in_row f a (b + 1) ≡ open_in_row f a b ++ ((a, b) ∷ [])
row_listed f a b e =
    ap (open_in_row f a) (add-one b) ∙ ap (λ (t : Bool). open_in_row f a b ++ cond t ((a, b) ∷ []) []) e

pub row_grows : (f : Rel) (a b n : ℕ) → b ≤ n → length (open_in_row f a b) ≤ length (open_in_row f a n)
row_grows f a b zero h = let e : b ≡ 0 = omega arith in subst (λ (k : ℕ). length (open_in_row f a k) ≤ length (open_in_row f a 0)) (sym e) (le_refl _)
row_grows f a b (suc n) h = ⊎_elim
    (λ (p : n < b). let e : b ≡ suc n = omega arith in subst (λ (k : ℕ). length (open_in_row f a k) ≤ length (open_in_row f a (suc n))) (sym e) (le_refl _))
    (λ (p : b ≤ n). let i = row_grows f a b n p in omega (arith, i, length-append (open_in_row f a n) (cond (ltb a n && f a n) ((a, n) ∷ []) [])))
    (cases_lt n b)

pub rows_more : (f : Rel) (n a : ℕ) → open_rows f n (a + 1) ≡ open_rows f n a ++ open_in_row f a n
rows_more f n a = ap (open_rows f n) (add-one a)

pub rows_grow : (f : Rel) (n a k : ℕ) → a ≤ k → length (open_rows f n a) ≤ length (open_rows f n k)
rows_grow f n a zero h = let e : a ≡ 0 = omega arith in subst (λ (j : ℕ). length (open_rows f n j) ≤ length (open_rows f n 0)) (sym e) (le_refl _)
rows_grow f n a (suc k) h = ⊎_elim
    (λ (p : k < a). let e : a ≡ suc k = omega arith in subst (λ (j : ℕ). length (open_rows f n j) ≤ length (open_rows f n (suc k))) (sym e) (le_refl _))
    (λ (p : a ≤ k). let i = rows_grow f n a k p in omega (arith, i, length-append (open_rows f n k) (open_in_row f k n)))
    (cases_lt k a)

-- a full list, and one pair more
pub overfull : (f : Rel) (l : List (ℕ × ℕ)) (a b n : ℕ) → 12 ≤ length (l ++ open_in_row f a b) → b < n → (ltb a b && f a b) ≡ true → 12 < length (l ++ open_in_row f a n)
overfull f l a b n full h e =
    let one = ap length (row_listed f a b e) in
    omega (arith, one, length-append (open_in_row f a b) ((a, b) ∷ []), length-append l (open_in_row f a b), length-append l (open_in_row f a n), row_grows f a (b + 1) n (omega arith))

-- too many in the rows up to a, and so too many
pub overfull_rows : (f : Rel) (l : List (ℕ × ℕ)) (n a : ℕ) → l ≡ open_rows f n a → a < n → 12 < length (l ++ open_in_row f a n) → 12 < length (open_rows f n n)
overfull_rows f l n a e h over =
    let here : 12 < length (open_rows f n a ++ open_in_row f a n) = subst (λ (k : List (ℕ × ℕ)). 12 < length (k ++ open_in_row f a n)) e over in
    omega (arith, ap length (rows_more f n a), rows_grow f n (a + 1) n (omega arith), here)
