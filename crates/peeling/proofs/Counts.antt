-- A set without one of its members.
use Rattle.std.proofs.Common.{◌≡◌, ℕ, zero, suc, ◌<◌, Bool, true, false, cond, not, ◌&&◌, ltb, sym, refl, ap, ◌∙◌, ap₂, ⊎_elim, arith}
use Rattle.std.proofs.Math.Bool.{and-true, and-false}
use Rattle.std.proofs.lemmas.Bool.{cases_eq, eq-eqb, ne_eqb}
use Rattle.relation.specs.Algebra.{Set, except, single}
use Rattle.relation.proofs.Sets.{single_event}
use Rattle.peeling.specs.Peeling.{count}

abbrev pub without : Set → ℕ → Set
without V m = except V (single m)

pub without_here : (V : Set) (m : ℕ) → m < 64 → without V m m ≡ false
unfolding except
without_here V m l = ap (λ (t : Bool). V m && not t) (single_event m m l ∙ eq-eqb m m refl) ∙ and-false (V m)

pub without_other : (V : Set) (m v : ℕ) → (m ≡ v → ⊥) → without V m v ≡ V v
unfolding except single
without_other V m v ne = ap (λ (t : Bool). V v && not (ltb m 64 && t)) (ne_eqb m v ne) ∙ ap (λ (t : Bool). V v && not t) (and-false (ltb m 64)) ∙ and-true (V v)

count_same : (V W : Set) (n : ℕ) → ((v : ℕ) → v < n → V v ≡ W v) → count V n ≡ count W n
unfolding count
count_same V W zero h = refl
count_same V W (suc n) h =
    ap₂ (λ (t : Bool) (k : ℕ). cond t (suc k) k) (h n (omega arith)) (count_same V W n (λ v l. h v (omega arith)))

count_step : (t : Bool) (x y : ℕ) → suc x ≡ y → suc (cond t (suc x) x) ≡ cond t (suc y) y
count_step true x y e = ap suc e
count_step false x y e = e

-- one member less
pub count_without : (V : Set) (m n : ℕ) → m < n → m < 64 → V m ≡ true → suc (count (without V m) n) ≡ count V n
unfolding count
count_without V m zero l k h = absurd (omega arith)
count_without V m (suc n) l k h = ⊎_elim
    (λ (e : m ≡ n).
    ap (λ (t : Bool). suc (cond t (suc (count (without V m) n)) (count (without V m) n))) (ap (without V m) (sym e) ∙ without_here V m k)
    ∙ ap suc (count_same (without V m) V n (λ v p. without_other V m v (λ q. omega arith)))
    ∙ ap (λ (t : Bool). cond t (suc (count V n)) (count V n)) (sym (ap V (sym e) ∙ h)))
    (λ ne.
    ap (λ (t : Bool). suc (cond t (suc (count (without V m) n)) (count (without V m) n))) (without_other V m n ne)
    ∙ count_step (V n) _ _ (count_without V m n (omega arith) k h))
    (cases_eq m n)
