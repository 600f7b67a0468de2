-- Chains that pass no event twice: no other chain adds anything, and so n steps are enough among n events. Assumes nothing.
use Rattle.std.proofs.Common.{◌≡◌, ℕ, zero, suc, ◌+◌, ◌<◌, ◌≤◌, Bool, true, false, cond, eqb, refl, ap, ◌∙◌, subst, ⊎_elim, arith, eq-eqb, ne_eqb, eqb-true}
use borrow.Author.Tests.{eqb-false}
use Rattle.closure.specs.Steps.{Laws, Under, joining, walks}
use Rattle.closure.proofs.Order.{split, under_refl, under_trans, under_antisym, under_left, under_right, join_under, none_under, chain_under_right, chain_under, drop_first, joining_under, under_joining}
use Rattle.closure.proofs.Walks.{phases, step_walks, walks_step, walks_under, walks_none, walks_more, walks_then, walks_phases}

-- ---- sets of events, as tests
abbrev Sub : (ℕ → Bool) → (ℕ → Bool) → Type 0
Sub V W = (v : ℕ) → V v ≡ true → W v ≡ true

without : (ℕ → Bool) → ℕ → ℕ → Bool
without V m v = cond (eqb v m) false (V v)

never : {P : Type 0} → false ≡ true → P
never e = absurd (subst (λ b. cond b ⊥ (Unit {0})) e tt)

cond_sub : (b x y : Bool) → (x ≡ true → y ≡ true) → cond b false x ≡ true → cond b false y ≡ true
cond_sub true x y h e = e
cond_sub false x y h e = h e

cond_out : (b x : Bool) → cond b false x ≡ true → x ≡ true
cond_out true x e = never e
cond_out false x e = e

cond_swap : (a b x : Bool) → cond a false (cond b false x) ≡ true → cond b false (cond a false x) ≡ true
cond_swap true true x e = e
cond_swap true false x e = e
cond_swap false true x e = e
cond_swap false false x e = e

without_out : (V : ℕ → Bool) (m : ℕ) → Sub (without V m) V
unfolding without
without_out V m v = cond_out (eqb v m) (V v)

without_sub : (V W : ℕ → Bool) (m : ℕ) → Sub V W → Sub (without V m) (without W m)
unfolding without
without_sub V W m h v = cond_sub (eqb v m) (V v) (W v) (h v)

without_swap : (V : ℕ → Bool) (m q : ℕ) → Sub (without (without V q) m) (without (without V m) q)
unfolding without
without_swap V m q v = cond_swap (eqb v m) (eqb v q) (V v)

without_other : (V : ℕ → Bool) (m q : ℕ) → (q ≡ m → ⊥) → without V m q ≡ V q
unfolding without
without_other V m q h = ap (λ b. cond b false (V q)) (ne_eqb q m h)

without_itself : (V : ℕ → Bool) (m : ℕ) → without V m m ≡ false
unfolding without
without_itself V m = ap (λ b. cond b false (V m)) (eq-eqb m m refl)

-- how many events below n are in V
count : (ℕ → Bool) → ℕ → ℕ
count V zero = 0
count V (suc n) = cond (V n) (suc (count V n)) (count V n)

cond_le : (a b : Bool) (x y : ℕ) → (a ≡ true → b ≡ true) → x ≤ y → cond a (suc x) x ≤ cond b (suc y) y
cond_le true true x y h l = omega arith
cond_le true false x y h l = never (h refl)
cond_le false true x y h l = omega arith
cond_le false false x y h l = l

count_sub : (V W : ℕ → Bool) (n : ℕ) → Sub V W → count V n ≤ count W n
unfolding count
count_sub V W zero h = omega arith
count_sub V W (suc n) h = cond_le (V n) (W n) _ _ (h n) (count_sub V W n h)

cond_lt : (b : Bool) (x y : ℕ) → x < y → cond b (suc x) x < cond b (suc y) y
cond_lt true x y l = omega arith
cond_lt false x y l = l

count_without : (V : ℕ → Bool) (m n : ℕ) → m < n → V m ≡ true → count (without V m) n < count V n
unfolding count
count_without V m zero l h = absurd (omega arith)
count_without V m (suc n) l h =
    ⊎_elim
    (λ (e : m ≡ n).
    let out : without V m n ≡ false = subst (λ k. without V m k ≡ false) e (without_itself V m) in
    let at : V n ≡ true = subst (λ k. V k ≡ true) e h in
    let less : count (without V m) n ≤ count V n = count_sub (without V m) V n (without_out V m) in
    rw (out, at) (omega arith))
    (λ (k : m < n).
    let same : without V m n ≡ V n = without_other V m n (λ (e : n ≡ m). omega arith) in
    rw same (cond_lt (V n) _ _ (count_without V m n k h)))
    (split m n l)

all : ℕ → Bool
all v = true

count_all : (n : ℕ) → count all n ≡ n
unfolding count all
count_all zero = refl
count_all (suc n) = ap suc (count_all n)

-- ---- the chains from i to j over the events of V, each at most once, and at most f of them
simple : {S : Type 0} → S → (S → S → S) → (S → S → S) → ℕ → (ℕ → ℕ → S) → ℕ → (ℕ → Bool) → ℕ → ℕ → S
simple none join chain n M zero V i j = M i j
simple none join chain n M (suc f) V i j =
    join (M i j) (joining none join (λ m. cond (V m) (chain (M i m) (simple none join chain n M f (without V m) m j)) none) n)

module _ {S : Type 0} {none : S} {join chain : S → S → S} (laws : Laws none join chain) where
  guard_under : (b : Bool) (a x : S) → (b ≡ true → Under join a x) → Under join (cond b a none) x
  guard_under true a x h = h refl
  guard_under false a x h = none_under laws x

  under_guard : (b : Bool) (a : S) → b ≡ true → Under join a (cond b a none)
  under_guard true a e = under_refl laws a
  under_guard false a e = never e

module _ {S : Type 0} {none : S} {join chain : S → S → S} (laws : Laws none join chain) (n : ℕ) (M : ℕ → ℕ → S) where
  -- the three ways in which proofs see `simple`
  step_simple : (f : ℕ) (V : ℕ → Bool) (i j : ℕ) → Under join (M i j) (simple none join chain n M f V i j)
  unfolding simple
  step_simple zero V i j = under_refl laws _
  step_simple (suc f) V i j = under_left laws _ _

  simple_step : (f : ℕ) (V : ℕ → Bool) (m : ℕ) → m < n → V m ≡ true → (i j : ℕ) → Under join (chain (M i m) (simple none join chain n M f (without V m) m j)) (simple none join chain n M (suc f) V i j)
  unfolding simple
  simple_step f V m l h i j =
      under_trans laws (under_guard laws (V m) _ h)
      (under_trans laws (under_joining laws (λ m. cond (V m) (chain (M i m) (simple none join chain n M f (without V m) m j)) none) n m l) (under_right laws _ _))

  simple_under : (f : ℕ) (V : ℕ → Bool) (i j : ℕ) (x : S) → Under join (M i j) x → ((m : ℕ) → m < n → V m ≡ true → Under join (chain (M i m) (simple none join chain n M f (without V m) m j)) x) → Under join (simple none join chain n M (suc f) V i j) x
  unfolding simple
  simple_under f V i j x p q = join_under laws p (joining_under laws _ n x (λ m l. guard_under laws (V m) _ x (q m l)))

  simple_none : (V : ℕ → Bool) (i j : ℕ) → simple none join chain n M zero V i j ≡ M i j
  unfolding simple
  simple_none V i j = refl

  -- more events, and more of them
  simple_more : (f g : ℕ) (V W : ℕ → Bool) → f ≤ g → Sub V W → (i j : ℕ) → Under join (simple none join chain n M f V i j) (simple none join chain n M g W i j)
  simple_more zero g V W l s i j = rw (simple_none V i j) (step_simple g W i j)
  simple_more (suc f) zero V W l s i j = absurd (omega arith)
  simple_more (suc f) (suc g) V W l s i j =
      simple_under f V i j _ (step_simple (suc g) W i j)
      (λ m h v.
      under_trans laws (chain_under_right laws (M i m) (simple_more f g (without V m) (without W m) (omega arith) (without_sub V W m s) m j))
      (simple_step g W m h (s m v) i j))

  -- a chain that passes m is no better than the part of it from m on
  simple_split : (f : ℕ) (V : ℕ → Bool) (m p j : ℕ) → Under join (simple none join chain n M f V p j) (join (simple none join chain n M f (without V m) p j) (simple none join chain n M f (without V m) m j))
  simple_split zero V m p j = rw (simple_none V p j, simple_none (without V m) p j) (under_left laws _ _)
  simple_split (suc f) V m p j =
      simple_under f V p j _ (under_trans laws (step_simple (suc f) (without V m) p j) (under_left laws _ _))
      (λ q l v.
      let x : S = join (simple none join chain n M (suc f) (without V m) p j) (simple none join chain n M (suc f) (without V m) m j) in
      let at : q ≡ m → Under join (chain (M p q) (simple none join chain n M f (without V q) q j)) x =
      λ e.
      under_trans laws (drop_first laws _ (M p q))
      (under_trans laws (rw e (simple_more f (suc f) (without V m) (without V m) (omega arith) (λ w h. h) m j)) (under_right laws _ _)) in
      let past : (q ≡ m → ⊥) → Under join (chain (M p q) (simple none join chain n M f (without V q) q j)) x =
      λ ne.
      under_trans laws (chain_under_right laws (M p q) (simple_split f (without V q) m q j))
      (rw laws.chain_join
      (join_under laws
      (under_trans laws
      (under_trans laws
      (chain_under_right laws (M p q) (simple_more f f (without (without V q) m) (without (without V m) q) (omega arith) (without_swap V m q) q j))
      (simple_step f (without V m) q l (without_other V m q ne ∙ v) p j))
      (under_left laws _ _))
      (under_trans laws (drop_first laws _ (M p q))
      (under_trans laws (simple_more f (suc f) (without (without V q) m) (without V m) (omega arith) (without_sub (without V q) V m (without_out V q)) m j) (under_right laws _ _))))) in
      by (eqb q m) (λ e. at (eqb-true q m e)) (λ e. past (eqb-false q m e)))
    where
      by : {P : Type 0} (b : Bool) → (b ≡ true → P) → (b ≡ false → P) → P
      by true y z = y refl
      by false y z = z refl

  -- coming back to where it began adds nothing
  simple_back : (f : ℕ) (V : ℕ → Bool) (m j : ℕ) → Under join (simple none join chain n M f V m j) (simple none join chain n M f (without V m) m j)
  simple_back f V m j = under_trans laws (simple_split f V m m j) (laws.join_same _ ▹ under_refl laws _)
    where
      infixl 10 ◌▹◌
      ◌▹◌ : {a b : S} → a ≡ b → Under join b b → Under join a b
      ◌▹◌ e h = rw e h

  -- as many as there are events is enough
  simple_enough : (f : ℕ) (V : ℕ → Bool) → count V n ≤ f → (i j : ℕ) → Under join (simple none join chain n M (suc f) V i j) (simple none join chain n M f V i j)
  simple_enough zero V l i j =
      simple_under zero V i j _ (step_simple zero V i j) (λ m h v. let c : count (without V m) n < count V n = count_without V m n h v in absurd (omega arith))
  simple_enough (suc f) V l i j =
      simple_under (suc f) V i j _ (step_simple (suc f) V i j)
      (λ m h v.
      let c : count (without V m) n < count V n = count_without V m n h v in
      under_trans laws (chain_under_right laws (M i m) (simple_enough f (without V m) (omega arith) m j)) (simple_step f V m h v i j))

  simple_closed : (i m j : ℕ) → m < n → Under join (chain (M i m) (simple none join chain n M n all m j)) (simple none join chain n M n all i j)
  unfolding all
  simple_closed i m j l =
      under_trans laws (chain_under_right laws (M i m) (simple_back n all m j))
      (under_trans laws (simple_step n all m l refl i j) (simple_enough n all (let e : count all n ≡ n = count_all n in omega arith) i j))

  walks_simple : (k i j : ℕ) → Under join (walks none join chain n M k i j) (simple none join chain n M n all i j)
  walks_simple zero i j = rw (walks_none laws n M i j) (none_under laws _)
  walks_simple (suc k) i j =
      walks_under laws n M k i j _ (step_simple n all i j) (λ m h. under_trans laws (chain_under_right laws (M i m) (walks_simple k m j)) (simple_closed i m j h))

  simple_walks : (f : ℕ) (V : ℕ → Bool) (i j : ℕ) → Under join (simple none join chain n M f V i j) (walks none join chain n M (suc f) i j)
  simple_walks zero V i j = rw (simple_none V i j) (step_walks laws n M zero i j)
  simple_walks (suc f) V i j =
      simple_under f V i j _ (step_walks laws n M (suc f) i j)
      (λ m h v. under_trans laws (chain_under_right laws (M i m) (simple_walks f (without V m) m j)) (walks_step laws n M (suc f) m h i j))

  simple_few : (f i j : ℕ) → i < n → n ≡ suc f → Under join (simple none join chain n M n all i j) (walks none join chain n M n i j)
  unfolding all
  simple_few f i j l e =
      let c : count (without all i) n < count all n = count_without all i n l refl in
      let d : count all n ≡ n = count_all n in
      let start : Under join (simple none join chain n M n all i j) (simple none join chain n M (suc f) (without all i) i j) =
      under_trans laws (simple_back n all i j) (simple_more n (suc f) (without all i) (without all i) (omega arith) (λ w h. h) i j) in
      under_trans laws start
      (under_trans laws (simple_enough f (without all i) (omega arith) i j)
      (under_trans laws (simple_walks f (without all i) i j) (walks_more laws n M (suc f) n (omega arith) i j)))

  -- ---- among n events, n steps are enough
  pub walks_enough : (k K i j : ℕ) → i < n → n ≤ K → Under join (walks none join chain n M k i j) (walks none join chain n M K i j)
  walks_enough k K i j l h =
      under_trans laws (walks_simple k i j) (under_trans laws (few n refl) (walks_more laws n M n K h i j))
    where
      few : (k : ℕ) → n ≡ k → Under join (simple none join chain n M n all i j) (walks none join chain n M n i j)
      few zero e = absurd (omega arith)
      few (suc f) e = simple_few f i j l e

  phases_walks : (K : ℕ) → n ≤ K → (k : ℕ) → k ≤ n → (i j : ℕ) → i < n → Under join (phases join chain M k i j) (walks none join chain n M K i j)
  unfolding phases
  phases_walks K h zero p i j l = under_trans laws (step_walks laws n M zero i j) (walks_more laws n M 1 K (omega arith) i j)
  phases_walks K h (suc k) p i j l =
      join_under laws (phases_walks K h k (omega arith) i j l)
      (under_trans laws (chain_under laws (phases_walks K h k (omega arith) i k l) (phases_walks K h k (omega arith) k j (omega arith)))
      (under_trans laws (walks_then laws n M K K (K + K) (omega arith) i k j (omega arith)) (walks_enough (K + K) K i j l h)))

  -- ---- Floyd and Warshall: the phases below n leave the joining over all chains of at most K steps
  pub phases_are_walks : (K : ℕ) → n ≤ K → (i j : ℕ) → i < n → phases join chain M n i j ≡ walks none join chain n M K i j
  phases_are_walks K h i j l = under_antisym laws (phases_walks K h n (omega arith) i j l) (walks_phases laws n M K i j)
