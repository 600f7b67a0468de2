-- What the chains over the events find. Assumes nothing.
use Rattle.std.proofs.Common.{◌≡◌, ℕ, zero, suc, ◌+◌, ◌<◌, ◌≤◌, ◌⊎◌, min, List, [], ◌∷◌, get_or, Some, None, Option, MatchOption, sym, refl, ap, ◌∙◌, subst, inl, inr, ⊎_elim, arith}
use Rattle.std.specs.List.{fold, reduce, filter_map, cons_option, range_with_len}
use Rattle.std.specs.Array.{IsFromFnResultFrom}
use Rattle.std.specs.Fn.{Called}
use denote.Param.Members.{Mut}
use native.Mathlib.Decide.{dec_lt, dec_le}
use Rattle.std.proofs.lemmas.Bool.{cases_eq}
use Rattle.cycles.specs.Cycles.{On}
use Rattle.cycles.specs.Counts.{Found, Shorter}

-- the first event that passes is the lowest
pub found_first : (P : ℕ → Type 0) (r : Option ℕ) → MatchOption r ((k : ℕ) → 0 ≤ k → k < 64 → P k → ⊥) (λ i. (0 ≤ i) × (i < 64) × P i × ((k : ℕ) → 0 ≤ k → k < i → P k → ⊥)) → Found P r
found_first P None f = λ t l p. f t (omega arith) l p
found_first P (Some s) f = (f.1, f.2, λ t l p. elim (dec_lt t s) [ yes m ↦ absurd (f.3 t (omega arith) m p) | no m ↦ omega arith ])

-- ---- the least of the lengths that there are
fold_under : (b : ℕ) (xs : List ℕ) → (fold min b xs ≤ b) × ((x : ℕ) → On x xs → fold min b xs ≤ x)
fold_under b [] = (omega arith, λ x o. absurd o)
fold_under b (y ∷ xs) =
    let t = fold_under (min b y) xs in
    (omega (arith, t.0), λ x o. ⊎_elim (λ (e : x ≡ y). omega (arith, t.0)) (λ (o : On x xs). t.1 x o) o)

fold_on : (b : ℕ) (xs : List ℕ) → (fold min b xs ≡ b) ⊎ On (fold min b xs) xs
fold_on b [] = inl refl
fold_on b (y ∷ xs) =
    ⊎_elim
    (λ (e : fold min (min b y) xs ≡ min b y). elim (dec_le b y) [ yes l ↦ inl (e ∙ omega arith) | no l ↦ inr (inl (e ∙ omega arith)) ])
    (λ (o : On (fold min (min b y) xs) xs). inr (inr o))
    (fold_on (min b y) xs)

on_option : (o : Option ℕ) (xs : List ℕ) (d : ℕ) → (o ≡ Some d) ⊎ On d xs → On d (cons_option o xs)
on_option None xs d = ⊎_elim (λ (e : None ≡ Some d). cc) (λ o. o)
on_option (Some a) xs d = ⊎_elim (λ (e : Some a ≡ Some d). inl (cc)) inr

option_on : (o : Option ℕ) (xs : List ℕ) (d : ℕ) → On d (cons_option o xs) → (o ≡ Some d) ⊎ On d xs
option_on None xs d h = inr h
option_on (Some a) xs d h = ⊎_elim (λ (e : d ≡ a). inl (ap Some (sym e))) inr h

module _ (L : ℕ → Option ℕ) where
  among : (a n i d : ℕ) → a ≤ i → i < a + n → L i ≡ Some d → On d (filter_map L (range_with_len a n))
  among a zero i d l m e = absurd (omega arith)
  among a (suc n) i d l m e =
      on_option (L a) (filter_map L (range_with_len (a + 1) n)) d
      (⊎_elim (λ (h : i ≡ a). inl (subst (λ x. L x ≡ Some d) h e))
      (λ (h : i ≡ a → ⊥). inr (among (a + 1) n i d (omega arith) (omega arith) e))
      (cases_eq i a))

  stands : (a n d : ℕ) → On d (filter_map L (range_with_len a n)) → (i : ℕ) × (i < a + n) × (L i ≡ Some d)
  stands a zero d o = absurd o
  stands a (suc n) d o =
      ⊎_elim (λ (e : L a ≡ Some d). (a, omega arith, e))
      (λ (o : On d (filter_map L (range_with_len (a + 1) n))). let t = stands (a + 1) n d o in (t.0, omega (arith, t.1), t.2))
      (option_on (L a) (filter_map L (range_with_len (a + 1) n)) d o)

least_on : (xs : List ℕ) (d : ℕ) → On d xs → (b : ℕ) × (reduce min xs ≡ Some b) × (b ≤ d)
least_on [] d o = absurd o
least_on (x ∷ xs) d o =
    let t = fold_under x xs in
    (fold min x xs, refl, ⊎_elim (λ (e : d ≡ x). omega (arith, t.0)) (λ (o : On d xs). t.1 d o) o)

on_least : (xs : List ℕ) (b : ℕ) → reduce min xs ≡ Some b → On b xs
on_least [] b e = cc
on_least (x ∷ xs) b e =
    let same : fold min x xs ≡ b = cc in
    ⊎_elim (λ (h : fold min x xs ≡ x). inl (sym same ∙ h)) (λ (h : On (fold min x xs) xs). inr (subst (λ y. On y xs) same h)) (fold_on x xs)

pub shorter_least : (D : ℕ → ℕ → Option ℕ) (r : Option ℕ) → r ≡ reduce min (filter_map (λ i. D i i) (range_with_len 0 64)) → Shorter D r
shorter_least D r e =
    let L : ℕ → Option ℕ = λ i. D i i in
    record {
      under = λ i d l h. let t = least_on _ d (among L 0 64 i d (omega arith) (omega arith) h) in (t.0, e ∙ t.1, t.2);
      some = λ b h. let t = stands L 0 64 b (on_least _ b (sym e ∙ h)) in (t.0, omega (arith, t.1), t.2);
    }

-- ---- an array from a function of the index
pub made_at : {F B : Type 0} (g : Mut F (ℕ × Unit {0}) B) (h : ℕ → B) (f : F) (ys : List B)
    → ((x : ℕ) (y : B) (q : F) → Called g f (x, tt) y q → (q ≡ f) × (y ≡ h x))
    → (n i : ℕ) → IsFromFnResultFrom g f ys i n → (k : ℕ) (d : B) → i ≤ k → k < i + n → get_or ys k d ≡ h k
made_at g h f ys call zero i m k d l u = absurd (omega arith)
made_at {F} {B} g h f ys call (suc n) i m k d l u =
    let same = call i m.1 m.0 m.3 in
    ⊎_elim (λ (e : k ≡ i). subst (λ x. get_or ys x d ≡ h x) (sym e) (m.2.1 d ∙ same.1))
    (λ (e : k ≡ i → ⊥). made_at g h f ys call n (i + 1) (subst (λ (x : F). IsFromFnResultFrom g x ys (i + 1) n) same.0 m.4) k d (omega arith) (omega arith))
    (cases_eq k i)
