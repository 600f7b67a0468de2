-- A list of pairs with one taken out.
use Rattle.std.proofs.Common.{◌≡◌, ℕ, zero, suc, ◌<◌, ◌≤◌, Bool, true, false, cond, not, ◌&&◌, ◌||◌, ltb, List, [], ◌∷◌, ◌++◌, length, sym, refl, ap, ◌∙◌, subst, ⊎_elim, arith}
use Rattle.std.proofs.lemmas.Bool.{cases_Bool, cases_lt, or_cases, or_parts, or_from, or_left, or_right, cond-true, cond-false, both_ways, false≢true}
use Rattle.relation.specs.Algebra.{Rel}
use Rattle.completion.specs.Openings.{edge, open_in_row, open_rows}
use Rattle.completion.specs.Trials.{in_list, without}
use Rattle.completion.proofs.Choosing.{any, Distinct, or_swap, edge_self, edge_is}

or_assoc : (a b c : Bool) → ((a || b) || c) ≡ (a || (b || c))
or_assoc true b c = refl
or_assoc false b c = refl

or_again : (a b : Bool) → (a || (a || b)) ≡ (a || b)
or_again true b = refl
or_again false b = refl

pair_is : (p : ℕ × ℕ) (a b : ℕ) → edge a b p.0 p.1 ≡ true → p ≡ (a, b)
pair_is p a b e = let same = edge_is a b p.0 p.1 e in λ i. (same.0 i, same.1 i)

in_append : (xs ys : List (ℕ × ℕ)) (a b : ℕ) → in_list (xs ++ ys) a b ≡ (in_list xs a b || in_list ys a b)
in_append [] ys a b = refl
in_append (p ∷ xs) ys a b =
    ap (λ (s : Bool). edge a b p.0 p.1 || s) (in_append xs ys a b) ∙ sym (or_assoc (edge a b p.0 p.1) (in_list xs a b) (in_list ys a b))

without_append : (xs ys : List (ℕ × ℕ)) (a b : ℕ) → without (xs ++ ys) a b ≡ without xs a b ++ without ys a b
without_append [] ys a b = refl
without_append (p ∷ xs) ys a b = step (edge a b p.0 p.1) (without_append xs ys a b)
  where
    step : (t : Bool) → without (xs ++ ys) a b ≡ without xs a b ++ without ys a b
        → cond t (without (xs ++ ys) a b) (p ∷ without (xs ++ ys) a b) ≡ cond t (without xs a b) (p ∷ without xs a b) ++ without ys a b
    step true e = e
    step false e = ap {B = List (ℕ × ℕ)} (λ r. p ∷ r) e

pub without_none : (ps : List (ℕ × ℕ)) (a b : ℕ) → in_list ps a b ≡ false → without ps a b ≡ ps
without_none [] a b e = refl
without_none (p ∷ ps) a b e =
    let parts = or_parts (edge a b p.0 p.1) (in_list ps a b) e in
    cond-false (edge a b p.0 p.1) _ _ parts.0 ∙ ap {B = List (ℕ × ℕ)} (λ r. p ∷ r) (without_none ps a b parts.1)

-- taking out one that is there
pub one_fewer : (ps : List (ℕ × ℕ)) → Distinct ps → (a b : ℕ) → in_list ps a b ≡ true → length ps ≡ suc (length (without ps a b))
one_fewer [] d a b e = absurd (false≢true e)
one_fewer (p ∷ ps) d a b e = ⊎_elim
    (λ h. let same = edge_is a b p.0 p.1 h in
    let out : in_list ps a b ≡ false = ap (λ (k : ℕ). in_list ps k b) (sym same.0) ∙ ap (λ (k : ℕ). in_list ps p.0 k) (sym same.1) ∙ d.0 in
    ap (λ (r : List (ℕ × ℕ)). suc (length r)) (sym (without_none ps a b out) ∙ sym (cond-true (edge a b p.0 p.1) (without ps a b) (p ∷ without ps a b) h)))
    (λ h. ap suc (one_fewer ps d.1 a b (⊎_elim (λ t. absurd (both_ways (edge a b p.0 p.1) h t)) (λ t. t) (or_cases _ _ e)))
    ∙ ap (λ (r : List (ℕ × ℕ)). suc (length r)) (sym (cond-false (edge a b p.0 p.1) (without ps a b) (p ∷ without ps a b) h)))
    (cases_Bool (edge a b p.0 p.1))

-- some pair passes: the one taken out, or another
any_drop : (ps : List (ℕ × ℕ)) (a b : ℕ) (f : ℕ × ℕ → Bool) → (f (a, b) || any ps f) ≡ (f (a, b) || any (without ps a b) f)
any_drop [] a b f = refl
any_drop (p ∷ ps) a b f = ⊎_elim
    (λ h. ap (λ (q : ℕ × ℕ). f (a, b) || (f q || any ps f)) (pair_is p a b h) ∙ or_again (f (a, b)) (any ps f) ∙ any_drop ps a b f
    ∙ ap (λ (r : List (ℕ × ℕ)). f (a, b) || any r f) (sym (cond-true (edge a b p.0 p.1) (without ps a b) (p ∷ without ps a b) h)))
    (λ h. or_swap (f (a, b)) (f p) (any ps f) ∙ ap (λ (s : Bool). f p || s) (any_drop ps a b f) ∙ or_swap (f p) (f (a, b)) (any (without ps a b) f)
    ∙ ap (λ (r : List (ℕ × ℕ)). f (a, b) || any r f) (sym (cond-false (edge a b p.0 p.1) (without ps a b) (p ∷ without ps a b) h)))
    (cases_Bool (edge a b p.0 p.1))

any_in : (ps : List (ℕ × ℕ)) (a b : ℕ) (f : ℕ × ℕ → Bool) → in_list ps a b ≡ true → f (a, b) ≡ true → any ps f ≡ true
any_in [] a b f e t = absurd (false≢true e)
any_in (p ∷ ps) a b f e t = ⊎_elim
    (λ h. or_left _ _ (ap f (pair_is p a b h) ∙ t))
    (λ h. or_right _ _ (any_in ps a b f h t))
    (or_cases _ _ e)

pub any_split : (ps : List (ℕ × ℕ)) (a b : ℕ) (f : ℕ × ℕ → Bool) → in_list ps a b ≡ true → any ps f ≡ (f (a, b) || any (without ps a b) f)
any_split ps a b f e = ⊎_elim
    (λ t. any_in ps a b f e t ∙ sym (or_left _ _ t))
    (λ t. ap (λ (s : Bool). s || any ps f) (sym t) ∙ any_drop ps a b f)
    (cases_Bool (f (a, b)))

-- the rest does not look at the pair taken out
pub any_rest : (ps : List (ℕ × ℕ)) (a b : ℕ) (f g : ℕ × ℕ → Bool) → ((p : ℕ × ℕ) → edge a b p.0 p.1 ≡ false → f p ≡ g p)
    → any (without ps a b) f ≡ any (without ps a b) g
any_rest [] a b f g h = refl
any_rest (p ∷ ps) a b f g h = ⊎_elim
    (λ e. let gone = cond-true (edge a b p.0 p.1) (without ps a b) (p ∷ without ps a b) e in
    ap (λ (r : List (ℕ × ℕ)). any r f) gone ∙ any_rest ps a b f g h ∙ ap (λ (r : List (ℕ × ℕ)). any r g) (sym gone))
    (λ e. let stays = cond-false (edge a b p.0 p.1) (without ps a b) (p ∷ without ps a b) e in
    ap (λ (r : List (ℕ × ℕ)). any r f) stays
    ∙ ap (λ (s : Bool). s || any (without ps a b) f) (h p e)
    ∙ ap (λ (s : Bool). g p || s) (any_rest ps a b f g h)
    ∙ ap (λ (r : List (ℕ × ℕ)). any r g) (sym stays))
    (cases_Bool (edge a b p.0 p.1))

-- the pairs of a row, and of the rows
in_one : (t : Bool) (r n a b : ℕ) → in_list (cond t ((r, n) ∷ []) []) a b ≡ true → (t ≡ true) × (a ≡ r) × (b ≡ n)
in_one false r n a b e = absurd (false≢true e)
in_one true r n a b e = ⊎_elim (λ h. let same = edge_is a b r n h in (refl, sym same.0, sym same.1)) (λ h. absurd (false≢true h)) (or_cases _ _ e)

pub in_row : (f : Rel) (r n a b : ℕ) → in_list (open_in_row f r n) a b ≡ true → (a ≡ r) × (b < n) × ((ltb a b && f a b) ≡ true)
in_row f r zero a b e = absurd (false≢true e)
in_row f r (suc n) a b e = ⊎_elim
    (λ h. let i = in_row f r n a b h in (i.0, omega arith, i.2))
    (λ h. let i = in_one (ltb r n && f r n) r n a b h in
    (i.1, omega arith, ap (λ (k : ℕ). ltb k b && f k b) i.1 ∙ ap (λ (k : ℕ). ltb r k && f r k) i.2 ∙ i.0))
    (or_cases _ _ (sym (in_append (open_in_row f r n) (cond (ltb r n && f r n) ((r, n) ∷ []) []) a b) ∙ e))

pub in_rows : (f : Rel) (n k a b : ℕ) → in_list (open_rows f n k) a b ≡ true → (a < k) × (b < n) × ((ltb a b && f a b) ≡ true)
in_rows f n zero a b e = absurd (false≢true e)
in_rows f n (suc k) a b e = ⊎_elim
    (λ h. let i = in_rows f n k a b h in (omega arith, i.1, i.2))
    (λ h. let i = in_row f k n a b h in (omega arith, i.1, i.2))
    (or_cases _ _ (sym (in_append (open_rows f n k) (open_in_row f k n) a b) ∙ e))

-- and they are all there
one_in : (t : Bool) (r n : ℕ) → t ≡ true → in_list (cond t ((r, n) ∷ []) []) r n ≡ true
one_in true r n e = or_left _ _ (edge_self r n)
one_in false r n e = absurd (false≢true e)

row_in : (f : Rel) (a b n : ℕ) → b < n → (ltb a b && f a b) ≡ true → in_list (open_in_row f a n) a b ≡ true
row_in f a b zero h e = absurd (omega arith)
row_in f a b (suc n) h e =
    in_append (open_in_row f a n) (cond (ltb a n && f a n) ((a, n) ∷ []) []) a b
    ∙ ⊎_elim
    (λ (p : b < n). or_left _ _ (row_in f a b n p e))
    (λ (p : n ≤ b). let same : n ≡ b = omega arith in
    or_right _ _ (subst (λ (k : ℕ). in_list (cond (ltb a k && f a k) ((a, k) ∷ []) []) a b ≡ true) (sym same) (one_in (ltb a b && f a b) a b e)))
    (cases_lt b n)

pub rows_in : (f : Rel) (n k a b : ℕ) → a < k → b < n → (ltb a b && f a b) ≡ true → in_list (open_rows f n k) a b ≡ true
rows_in f n zero a b l h e = absurd (omega arith)
rows_in f n (suc k) a b l h e =
    in_append (open_rows f n k) (open_in_row f k n) a b
    ∙ ⊎_elim
    (λ (p : a < k). or_left _ _ (rows_in f n k a b p h e))
    (λ (p : k ≤ a). let same : k ≡ a = omega arith in
    or_right _ _ (subst (λ (j : ℕ). in_list (open_in_row f j n) a b ≡ true) (sym same) (row_in f a b n h e)))
    (cases_lt a k)

distinct_append : (xs ys : List (ℕ × ℕ)) → Distinct xs → Distinct ys → ((a b : ℕ) → in_list xs a b ≡ true → in_list ys a b ≡ true → ⊥) → Distinct (xs ++ ys)
distinct_append [] ys d e h = e
distinct_append (p ∷ xs) ys d e h = (
  in_append xs ys p.0 p.1 ∙ or_from _ _ d.0
      (⊎_elim (λ t. absurd (h p.0 p.1 (or_left _ _ (edge_self p.0 p.1)) t)) (λ t. t) (cases_Bool (in_list ys p.0 p.1))),
  distinct_append xs ys d.1 e (λ a b i j. h a b (or_right _ _ i) j),
)

distinct_one : (t : Bool) (q : ℕ × ℕ) → Distinct (cond t (q ∷ []) [])
distinct_one true q = (refl, tt)
distinct_one false q = tt

distinct_row : (f : Rel) (r n : ℕ) → Distinct (open_in_row f r n)
distinct_row f r zero = tt
distinct_row f r (suc n) =
    distinct_append (open_in_row f r n) (cond (ltb r n && f r n) ((r, n) ∷ []) []) (distinct_row f r n) (distinct_one (ltb r n && f r n) (r, n))
    (λ a b i j. let p = in_row f r n a b i in let q = in_one (ltb r n && f r n) r n a b j in omega arith)

pub distinct_rows : (f : Rel) (n k : ℕ) → Distinct (open_rows f n k)
distinct_rows f n zero = tt
distinct_rows f n (suc k) =
    distinct_append (open_rows f n k) (open_in_row f k n) (distinct_rows f n k) (distinct_row f k n)
    (λ a b i j. let p = in_rows f n k a b i in let q = in_row f k n a b j in omega arith)

-- the rows of a test that fails at one pair more
module _ (f g : Rel) (a b : ℕ) (same : (u v : ℕ) → (ltb u v && g u v) ≡ ((ltb u v && f u v) && not (edge a b u v))) where
  without_one : (t s : Bool) (q : ℕ × ℕ) → edge a b q.0 q.1 ≡ s → cond (t && not s) (q ∷ []) [] ≡ without (cond t (q ∷ []) []) a b
  without_one false s q e = refl
  without_one true true q e = sym (cond-true (edge a b q.0 q.1) [] (q ∷ []) e)
  without_one true false q e = sym (cond-false (edge a b q.0 q.1) [] (q ∷ []) e)

  row_without : (r n : ℕ) → open_in_row g r n ≡ without (open_in_row f r n) a b
  row_without r zero = refl
  row_without r (suc n) =
      ap (λ (l : List (ℕ × ℕ)). l ++ cond (ltb r n && g r n) ((r, n) ∷ []) []) (row_without r n)
      ∙ ap (λ (t : Bool). without (open_in_row f r n) a b ++ cond t ((r, n) ∷ []) []) (same r n)
      ∙ ap (λ (l : List (ℕ × ℕ)). without (open_in_row f r n) a b ++ l) (without_one (ltb r n && f r n) (edge a b r n) (r, n) refl)
      ∙ sym (without_append (open_in_row f r n) (cond (ltb r n && f r n) ((r, n) ∷ []) []) a b)

  pub rows_without : (n k : ℕ) → open_rows g n k ≡ without (open_rows f n k) a b
  rows_without n zero = refl
  rows_without n (suc k) =
      ap (λ (l : List (ℕ × ℕ)). l ++ open_in_row g k n) (rows_without n k)
      ∙ ap (λ (l : List (ℕ × ℕ)). without (open_rows f n k) a b ++ l) (row_without k n)
      ∙ sym (without_append (open_rows f n k) (open_in_row f k n) a b)
