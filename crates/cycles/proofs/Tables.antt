-- The table of counts in the words of paths. Assumes nothing.
use Rattle.std.proofs.Common.{◌≡◌, ℕ, suc, ◌+◌, ◌*◌, ◌/◌, ◌%◌, ◌<◌, ◌≤◌, Bool, true, false, ◌⊎◌, List, [], ◌∷◌, length, sym, refl, ap, ◌∙◌, ap₂, inl, inr, ⊎_elim, Some, None, Option, arith}
use Rattle.std.proofs.lemmas.Bool.{cases_lt}
use Rattle.std.specs.Bool.{then_some}
use Rattle.closure.specs.Steps.{table}
use Rattle.closure.specs.Ways.{Chain, one, more, long, Single, Next, Measures, Shortest as Length}
use Rattle.closure.proofs.Reached.{walks_chain, chain_walks}
use Rattle.relation.specs.Algebra.{Rel}
use Rattle.relation.specs.Meaning.{holds}
use Rattle.relation.specs.declared.Relation.{Relation}
use Rattle.relation.proofs.Relations.{holds_starts, holds_ends}
use Rattle.cycles.specs.Cycles.{Path, Cycle, Inside, CyclesAreChains}
use Rattle.cycles.specs.Counts.{apart, Stepped, Counted}
use Rattle.cycles.specs.declared.Distances.{Distances}

pub holds_inside : (r : Relation) → Inside (holds r)
holds_inside r i j e = (
  ⊎_elim (λ l. l) (λ l. let z = holds_starts r i j l in cc) (cases_lt i 64),
  ⊎_elim (λ l. l) (λ l. let z = holds_ends r i j l in cc) (cases_lt j 64),
)

pub path_inside : (R : Rel) → Inside R → (i j : ℕ) (vs : List ℕ) → Path R i vs j → (i < 64) × (j < 64)
path_inside R f i j [] p = f i j p
path_inside R f i j (v ∷ vs) p = ((f i v p.0).0, (path_inside R f v j vs p.1).1)

-- chains are paths, and paths are chains
path_of : (R : Rel) (Q : ℕ → ℕ → Type 0) → ((a b : ℕ) → a < 64 → b < 64 → Q a b → R a b ≡ true)
    → (i j : ℕ) → i < 64 → j < 64 → (c : Chain Q 64 i j) → (vs : List ℕ) × Path R i vs j × (suc (length vs) ≡ long c)
path_of R Q f i j p q (one r) = ([], f i j p q r, refl)
path_of R Q f i j p q (more {m = m} l r c) =
    let t : (vs : List ℕ) × Path R m vs j × (suc (length vs) ≡ long c) = path_of R Q f m j l q c in
    (m ∷ t.0, (f i m p l r, t.1), ap suc t.2)

chain_of : (R : Rel) (Q : ℕ → ℕ → Type 0) → Inside R → ((a b : ℕ) → a < 64 → b < 64 → R a b ≡ true → Q a b)
    → (i j : ℕ) (vs : List ℕ) → Path R i vs j → (c : Chain Q 64 i j) × (long c ≡ suc (length vs))
chain_of R Q n f i j [] p = (one (f i j (n i j p).0 (n i j p).1 p), refl)
chain_of R Q n f i j (v ∷ vs) p =
    let a = n i v p.0 in
    let t : (c : Chain Q 64 v j) × (long c ≡ suc (length vs)) = chain_of R Q n f v j vs p.1 in
    (more a.1 (f i v a.0 a.1 p.0) t.0, ap suc t.1)

chain_inside : (R : Rel) → Inside R → {i j : ℕ} → Chain (λ a b. R a b ≡ true) 64 i j → i < 64
chain_inside R n (one {i = i} {j = j} r) = (n i j r).0
chain_inside R n (more {i = i} {m = m} l r c) = (n i m r).0

pub cycles_are_chains : CyclesAreChains
cycles_are_chains R n = (
  from,
  λ i c.
      let b = chain_inside R n c in
      let t = path_of R (λ a b. R a b ≡ true) (λ a b k l r. r) i i b b c in (i ∷ t.0, t.1),
)
  where
    from : (ws : List ℕ) → Cycle R ws → (i : ℕ) × Chain (λ a b. R a b ≡ true) 64 i i
    from [] c = absurd c
    from (w ∷ ws) c = (w, (chain_of R (λ a b. R a b ≡ true) n (λ a b k l r. r) w w ws c).0)

-- any path can be had over fewer than 64 events
short : (R : Rel) → Inside R → (i j : ℕ) (vs : List ℕ) → Path R i vs j → (us : List ℕ) × Path R i us j × (suc (length us) ≤ 64)
short R n i j vs p =
    let e = path_inside R n i j vs p in
    let c = (chain_of R (λ a b. R a b ≡ true) n (λ a b k l r. r) i j vs p).0 in
    let w = walks_chain 64 R 64 i j (chain_walks 64 R i j e.0 (omega arith) c) in
    let t = path_of R (λ a b. R a b ≡ true) (λ a b k l r. r) i j e.0 e.1 w.0 in
    (t.0, t.1, omega (arith, t.2, w.1))

module _ (R : Rel) (n : Inside R) (before : List (Option ℕ)) (s : Stepped R before) where
  stepped_at : (a b : ℕ) → a < 64 → b < 64 → table None 64 before a b ≡ then_some (R a b) 1
  stepped_at a b k l =
      let p : (a * 64 + b) / 64 ≡ a = omega arith in
      let q : (a * 64 + b) % 64 ≡ b = omega arith in
      s (a * 64 + b) (omega arith) ∙ ap₂ (λ x y. then_some (R x y) 1) p q

  was_one : (b : Bool) → then_some {T = ℕ} b 1 ≡ Some 1 → b ≡ true
  was_one true e = refl
  was_one false e = cc

  one_or_none : (b : Bool) → (then_some {T = ℕ} b 1 ≡ None) ⊎ (then_some {T = ℕ} b 1 ≡ Some 1)
  one_or_none true = inr refl
  one_or_none false = inl refl

  pub stepped_single : Single 64 before
  stepped_single i j k l = ⊎_elim (λ e. inl (stepped_at i j k l ∙ e)) (λ e. inr (stepped_at i j k l ∙ e)) (one_or_none (R i j))

  to_next : (a b : ℕ) → a < 64 → b < 64 → R a b ≡ true → Next 64 before a b
  to_next a b k l r = stepped_at a b k l ∙ ap (λ x. then_some x 1) r

  from_next : (a b : ℕ) → a < 64 → b < 64 → Next 64 before a b → R a b ≡ true
  from_next a b k l h = was_one (R a b) (sym (stepped_at a b k l) ∙ h)

  path_at : (i j d : ℕ) → i < 64 → j < 64 → (x : Option ℕ) → Length (Next 64 before) 64 i j x → x ≡ Some d → (vs : List ℕ) × Path R i vs j × (suc (length vs) ≡ d)
  path_at i j d k l None m e = cc
  path_at i j d k l (Some a) m e =
      let t = path_of R (Next 64 before) from_next i j k l m.0.0 in
      let same : a ≡ d = cc in (t.0, t.1, t.2 ∙ m.0.1 ∙ same)

  least_at : (i j : ℕ) (vs : List ℕ) → Path R i vs j → (x : Option ℕ) → Length (Next 64 before) 64 i j x → (d : ℕ) × (x ≡ Some d) × (d ≤ suc (length vs))
  least_at i j vs p None m = absurd (m (chain_of R (Next 64 before) n to_next i j vs p).0)
  least_at i j vs p (Some a) m =
      let c = chain_of R (Next 64 before) n to_next i j vs p in (a, refl, omega (arith, c.1, m.1 c.0))

  pub counted : (after : Distances) → Measures 64 before after.steps → Counted R (apart after)
  counted after m =
      let x : ℕ → ℕ → Option ℕ = table None 64 after.steps in
      record {
        path = λ i j d k l e. path_at i j d k l (x i j) (m i j k l) e;
        least = λ i j vs p. let e = path_inside R n i j vs p in least_at i j vs p (x i j) (m i j e.0 e.1);
        small = λ i j d k l e.
            let p = path_at i j d k l (x i j) (m i j k l) e in
            let t = short R n i j p.0 p.1 in
            let q = least_at i j t.0 t.1 (x i j) (m i j k l) in
            let same : d ≡ q.0 = cc (e, q.1) in
            omega (arith, t.2, q.2);
      }
