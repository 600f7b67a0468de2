-- The witness is unique, and what the rule finds. Assumes nothing.
use Rattle.std.proofs.Common.{◌≡◌, ℕ, suc, ◌+◌, ◌<◌, ◌≤◌, true, ◌⊎◌, List, [], ◌∷◌, ◌++◌, length, sym, refl, ap, subst, ap₂, inl, inr, ⊎_elim, arith, length-append}
use native.Mathlib.Decide.{dec_lt}
use Rattle.relation.specs.Algebra.{Rel}
use Rattle.cycles.specs.Cycles.{Path, Cycle, Shortest, NotAfter, Witness, On, Greedy, Stepwise, Unique, FoundStepwise}

pub both_ways : (v w : List ℕ) → NotAfter v w → NotAfter w v → v ≡ w
both_ways [] [] p q = refl
both_ways [] (y ∷ w) p q = absurd q
both_ways (x ∷ v) [] p q = absurd p
both_ways (x ∷ v) (y ∷ w) p q =
    ⊎_elim
    (λ (l : x < y). ⊎_elim (λ (m : y < x). absurd (omega arith)) (λ (m : (y ≡ x) × NotAfter w v). absurd (omega arith)) q)
    (λ (l : (x ≡ y) × NotAfter v w).
    ⊎_elim (λ (m : y < x). absurd (omega arith)) (λ (m : (y ≡ x) × NotAfter w v). ap₂ ◌∷◌ l.0 (both_ways v w l.1 m.1)) q)
    p

pub unique : Unique
unique R v w p q = both_ways v w (p.first w q.shortest) (q.first v p.shortest)

-- two paths in turn
pub path_join : (R : Rel) (a m b : ℕ) (us vs : List ℕ) → Path R a us m → Path R m vs b → Path R a (us ++ m ∷ vs) b
path_join R a m b [] vs p q = (p, q)
path_join R a m b (u ∷ us) vs p q = (p.0, path_join R u m b us vs p.1 q)

-- a path at one of its events
path_split : (R : Rel) (a b e : ℕ) (ws : List ℕ) → Path R a ws b → On e ws
    → (us vs : List ℕ) × Path R a us e × Path R e vs b × (length ws ≡ suc (length us + length vs))
path_split R a b e [] p o = absurd o
path_split R a b e (w ∷ ws) p o =
    ⊎_elim
    (λ (h : e ≡ w). ([], ws, subst (λ x. R a x ≡ true) (sym h) p.0, subst (λ x. Path R x ws b) (sym h) p.1, omega arith))
    (λ (h : On e ws).
    let t = path_split R w b e ws p.1 h in
    (w ∷ t.0, t.1, (p.0, t.2), t.3, omega (arith, t.4)))
    o

-- a cycle can start at any of its events
pub rotated : (R : Rel) (ws : List ℕ) (e : ℕ) → Cycle R ws → On e ws → (us : List ℕ) × Path R e us e × (length ws ≡ suc (length us))
rotated R [] e p o = absurd o
rotated R (w ∷ ws) e p o =
    ⊎_elim
    (λ (h : e ≡ w). (ws, subst (λ x. Path R x ws x) (sym h) p, refl))
    (λ (h : On e ws).
    let t = path_split R w w e ws p h in
    (t.1 ++ w ∷ t.0, path_join R e w e t.1 t.0 t.3 t.2, omega (arith, t.4, length-append t.1 (w ∷ t.0))))
    o

head_under : (w v : ℕ) (ws vs : List ℕ) → NotAfter (w ∷ ws) (v ∷ vs) → w ≤ v
head_under w v ws vs = ⊎_elim (λ (l : w < v). omega arith) (λ (l : (w ≡ v) × NotAfter ws vs). omega arith)

tail_under : (w : ℕ) (ws vs : List ℕ) → NotAfter (w ∷ ws) (w ∷ vs) → NotAfter ws vs
tail_under w ws vs = ⊎_elim (λ (l : w < w). absurd (omega arith)) (λ (l : (w ≡ w) × NotAfter ws vs). l.1)

-- the first of the paths of one length goes by the rule
first_greedy : (R : Rel) (h c : ℕ) (ws : List ℕ) → Path R c ws h
    → ((vs : List ℕ) → Path R c vs h → length vs ≡ length ws → NotAfter ws vs) → Greedy R h c ws
first_greedy R h c [] p f = p
first_greedy R h c (s ∷ ws) p f = (
  record {
    step = p.0;
    closes = (ws, p.1, refl);
    lowest = λ t vs r q e. head_under s t ws vs (f (t ∷ vs) (r, q) (ap suc e));
  },
  first_greedy R h s ws p.1 (λ vs q e. tail_under s ws vs (f (s ∷ vs) (p.0, q) (ap suc e))),
)

pub split : (a b : ℕ) → a ≤ b → (a < b) ⊎ (a ≡ b)
split a b l = elim (dec_lt a b) [ yes m ↦ inl m | no m ↦ inr (omega arith) ]

-- what goes by the rule is the first of the paths of its length
pub greedy_first : (R : Rel) (h c : ℕ) (ws vs : List ℕ) → Greedy R h c ws → Path R c vs h → length vs ≡ length ws → NotAfter ws vs
greedy_first R h c [] vs g p e = tt
greedy_first R h c (s ∷ ws) [] g p e = absurd (omega arith)
greedy_first R h c (s ∷ ws) (v ∷ vs) g p e =
    ⊎_elim inl (λ (q : s ≡ v). inr (q, greedy_first R h s ws vs g.1 (subst (λ x. Path R x vs h) (sym q) p.1) (omega arith)))
    (split s v (g.0.lowest v vs p.0 p.1 (omega arith)))

pub greedy_path : (R : Rel) (h c : ℕ) (ws : List ℕ) → Greedy R h c ws → Path R c ws h
greedy_path R h c [] g = g
greedy_path R h c (s ∷ ws) g = (g.0.step, greedy_path R h s ws g.1)

-- cycles of the same length are shortest together
alike : (R : Rel) (ws vs : List ℕ) → Shortest R ws → Cycle R vs → length vs ≡ length ws → Shortest R vs
alike R ws vs s c e = record { cycle = c; least = λ us d. subst (λ n. n ≤ length us) (sym e) (s.least us d) }

to_stepwise : (R : Rel) (ws : List ℕ) → Witness R ws → Stepwise R ws
to_stepwise R [] p = p.shortest.cycle
to_stepwise R (w ∷ ws) p = (
  λ vs e s o.
      let t = rotated R vs e s.cycle o in
      head_under w e ws t.0 (p.first (e ∷ t.0) (alike R vs (e ∷ t.0) s t.1 (sym t.2))),
  first_greedy R w w ws p.shortest.cycle
      (λ vs q e. tail_under w ws vs (p.first (w ∷ vs) (alike R (w ∷ ws) (w ∷ vs) p.shortest q (ap suc e)))),
)

from_stepwise : (R : Rel) (ws vs : List ℕ) → Shortest R ws → Stepwise R ws → Shortest R vs → NotAfter ws vs
from_stepwise R [] vs s p t = absurd p
from_stepwise R (w ∷ ws) [] s p t = absurd t.cycle
from_stepwise R (w ∷ ws) (v ∷ vs) s p t =
    let a : suc (length ws) ≤ suc (length vs) = s.least (v ∷ vs) t.cycle in
    let b : suc (length vs) ≤ suc (length ws) = t.least (w ∷ ws) s.cycle in
    ⊎_elim inl
    (λ (q : w ≡ v). inr (q, greedy_first R w w ws vs p.1 (subst (λ x. Path R x vs x) (sym q) t.cycle) (omega arith)))
    (split w v (p.0 (v ∷ vs) v t (inl refl)))

pub stepwise : FoundStepwise
stepwise R ws = (
  λ p. (p.shortest, to_stepwise R ws p),
  λ p. record { shortest = p.0; first = λ vs t. from_stepwise R ws vs p.0 p.1 t },
)
