-- The closure at counts of steps. Assumes nothing.
use Rattle.std.proofs.Common.{◌≡◌, ℕ, zero, suc, ◌+◌, ◌<◌, ◌≤◌, min, Bool, true, false, eqb, ◌⊎◌, List, sym, refl, ap, ◌∙◌, subst, inl, inr, ⊎_elim, arith, eqb-true, Some, None, Option}
use native.Mathlib.Decide.{dec_le}
use Rattle.closure.specs.Steps.{Under, joining, walks, table, Closed}
use Rattle.closure.specs.Kinds.{capped, fewer, further}
use Rattle.closure.specs.KindLaws.{count_laws, by_cap, capped_small}
use Rattle.closure.specs.Ways.{Chain, one, more, long, Single, Shortest, Measures}
use Rattle.closure.proofs.Order.{under_trans, chain_under_right}
use Rattle.closure.proofs.Walks.{step_walks, walks_step}
use Rattle.closure.proofs.Reached.{never, walks_chain, chain_walks}

fewer_is : (x y : Option ℕ) (d : ℕ) → fewer x y ≡ Some d → (x ≡ Some d) ⊎ (y ≡ Some d)
fewer_is None y d e = inr e
fewer_is (Some a) None d e = inl e
fewer_is (Some a) (Some b) d e =
    let m : min a b ≡ d = cc in
    elim (dec_le a b) [ yes l ↦ inl (ap Some (omega arith)) | no l ↦ inr (ap Some (omega arith)) ]

some_is : (f : ℕ → Option ℕ) (n d : ℕ) → joining None fewer f n ≡ Some d → (m : ℕ) × (m < n) × (f m ≡ Some d)
unfolding joining
some_is f zero d e = cc
some_is f (suc n) d e =
    ⊎_elim (λ h. let r : (m : ℕ) × (m < n) × (f m ≡ Some d) = some_is f n d h in (r.0, omega (arith, r.1), r.2)) (λ h. (n, omega arith, h)) (fewer_is (joining None fewer f n) (f n) d e)

capped_is : (a d : ℕ) → capped a ≡ Some d → a ≡ d
capped_is a d = by_cap (λ x. x ≡ Some d → a ≡ d) a (λ h e. cc) (λ h e. cc)

-- a count after one step
after_one : (y : Option ℕ) (d : ℕ) → further (Some 1) y ≡ Some d → (b : ℕ) × (y ≡ Some b) × (d ≡ suc b)
after_one None d e = cc
after_one (Some b) d e = let h : 1 + b ≡ d = capped_is (1 + b) d e in (b, refl, omega arith)

is_one : Option ℕ → Bool
is_one None = false
is_one (Some a) = eqb a 1

from_one : (x : Option ℕ) → is_one x ≡ true → x ≡ Some 1
unfolding is_one
from_one None e = never e
from_one (Some a) e = ap Some (eqb-true a 1 e)

to_one : (x : Option ℕ) → x ≡ Some 1 → is_one x ≡ true
unfolding is_one
to_one x e = ap is_one e

-- the same chain of other steps
pub same_chain : {R Q : ℕ → ℕ → Type 0} {n i j : ℕ} → ((a b : ℕ) → R a b → Q a b) → (c : Chain R n i j) → (e : Chain Q n i j) × (long e ≡ long c)
same_chain f (one {i = i} {j = j} r) = (one (f i j r), refl)
same_chain {Q = Q} {n = n} f (more {i = i} {m = m} {j = j} l r c) =
    let t : (e : Chain Q n m j) × (long e ≡ long c) = same_chain f c in (more l (f i m r) t.0, ap suc t.1)

module _ (n : ℕ) (M : ℕ → ℕ → Option ℕ) where
  abbrev Step1 : ℕ → ℕ → Type 0
  Step1 a b = M a b ≡ Some 1

  -- any chain can be had in at most 64 steps
  short : (i j : ℕ) → i < n → n ≤ 64 → Chain Step1 n i j → (c : Chain Step1 n i j) × (long c ≤ 64)
  short i j l h c =
      let B : ℕ → ℕ → Bool = λ a b. is_one (M a b) in
      let t = walks_chain n B 64 i j (chain_walks n B i j l h (same_chain (λ a b. to_one (M a b)) c).0) in
      let u : (e : Chain Step1 n i j) × (long e ≡ long t.0) = same_chain (λ a b. from_one (M a b)) t.0 in
      (u.0, omega (arith, u.1, t.1))

  -- a chain is in the walks
  chain_under_walks : (k i j : ℕ) (c : Chain Step1 n i j) → long c ≤ k → k ≤ 64 → Under fewer (Some (long c)) (walks None fewer further n M k i j)
  chain_under_walks zero i j (one r) p q = absurd (omega arith)
  chain_under_walks zero i j (more l r c) p q = absurd (omega arith)
  chain_under_walks (suc k) i j (one r) p q = subst (λ x. Under fewer x (walks None fewer further n M (suc k) i j)) r (step_walks count_laws n M k i j)
  chain_under_walks (suc k) i j (more {m = m} l r c) p q =
      let e : further (M i m) (Some (long c)) ≡ Some (suc (long c)) =
      ap (λ x. further x (Some (long c))) r ∙ capped_small (1 + long c) (omega arith) ∙ ap Some (omega arith) in
      subst (λ x. Under fewer x (walks None fewer further n M (suc k) i j)) e
      (under_trans count_laws (chain_under_right count_laws (M i m) (chain_under_walks k m j c (omega arith) (omega arith))) (walks_step count_laws n M k m l i j))

  module _ (single : (i j : ℕ) → i < n → j < n → (M i j ≡ None) ⊎ (M i j ≡ Some 1)) where
    -- what the walks count is the length of a chain
    walks_count : (k i j d : ℕ) → i < n → j < n → walks None fewer further n M k i j ≡ Some d → (c : Chain Step1 n i j) × (long c ≡ d)
    unfolding walks
    walks_count zero i j d p q e = cc
    walks_count (suc k) i j d p q e =
        ⊎_elim
        (λ (h : M i j ≡ Some d).
        ⊎_elim (λ (z : M i j ≡ None). cc) (λ (s : M i j ≡ Some 1). let o : ◌≡◌ {A = ℕ} 1 d = cc in (one s, o)) (single i j p q))
        (λ h.
        let r : (m : ℕ) × (m < n) × (further (M i m) (walks None fewer further n M k m j) ≡ Some d) = some_is (λ m. further (M i m) (walks None fewer further n M k m j)) n d h in
        ⊎_elim
        (λ (z : M i r.0 ≡ None). let e : None ≡ Some d = sym (ap (λ x. further x (walks None fewer further n M k r.0 j)) z) ∙ r.2 in cc)
        (λ (s : M i r.0 ≡ Some 1).
        let t : (b : ℕ) × (walks None fewer further n M k r.0 j ≡ Some b) × (d ≡ suc b) =
        after_one (walks None fewer further n M k r.0 j) d (sym (ap (λ x. further x (walks None fewer further n M k r.0 j)) s) ∙ r.2) in
        let c : (c : Chain Step1 n r.0 j) × (long c ≡ t.0) = walks_count k r.0 j t.0 r.1 q t.1 in
        (more r.1 s c.0, ap suc c.1 ∙ sym t.2))
        (single i r.0 p r.1))
        (fewer_is (M i j) _ d e)

    shortest : (i j : ℕ) → i < n → j < n → n ≤ 64 → (x : Option ℕ) → walks None fewer further n M 64 i j ≡ x → Shortest Step1 n i j x
    shortest i j p q h None e =
        λ c.
        let s = short i j p h c in
        let u : fewer (Some (long s.0)) None ≡ None = subst (Under fewer (Some (long s.0))) e (chain_under_walks 64 i j s.0 s.1 (omega arith)) in
        cc
    shortest i j p q h (Some d) e =
        let least : (c : Chain Step1 n i j) → long c ≤ 64 → d ≤ long c =
        λ c l.
        let u : Some (min (long c) d) ≡ Some d = subst (Under fewer (Some (long c))) e (chain_under_walks 64 i j c l (omega arith)) in
        let v : min (long c) d ≡ d = cc in
        omega arith in (
          walks_count 64 i j d p q e,
          λ c.
              elim (dec_le (long c) 64) [
                | yes l ↦ least c l
                | no l ↦ let s = short i j p h c in let t : d ≤ long s.0 = least s.0 s.1 in omega (arith, s.1)
              ],
        )

pub measures : (n : ℕ) (before after : List (Option ℕ)) → n ≤ 64 → Single n before → Closed None fewer further n before after → Measures n before after
measures n before after h s f i j l m = shortest n (table None n before) s i j l m h (table None n after i j) (sym (f.entries i j l m))
