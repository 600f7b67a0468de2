-- The closure at yes and no. Assumes nothing.
use Rattle.std.proofs.Common.{◌≡◌, ℕ, zero, suc, ◌<◌, ◌≤◌, Bool, true, false, cond, ◌&&◌, ◌||◌, ◌⊎◌, List, sym, refl, ◌∙◌, subst, inl, inr, ⊎_elim, arith}
use Rattle.closure.specs.Steps.{Under, joining, walks, table, Closed}
use Rattle.closure.specs.KindLaws.{reach_laws}
use Rattle.closure.specs.Ways.{Chain, one, more, long, Reaches}
use Rattle.closure.proofs.Walks.{phases, step_phases, phases_through}
use Rattle.closure.proofs.Simple.{phases_are_walks}

pub never : {P : Type 0} → false ≡ true → P
never e = absurd (subst (λ b. cond b ⊥ (Unit {0})) e tt)

or_true : (a b : Bool) → (a || b) ≡ true → (a ≡ true) ⊎ (b ≡ true)
or_true true b e = inl refl
or_true false b e = inr e

and_true : (a b : Bool) → (a && b) ≡ true → (a ≡ true) × (b ≡ true)
and_true true b e = (refl, e)
and_true false b e = never e

both_true : (a b : Bool) → a ≡ true → b ≡ true → (a && b) ≡ true
both_true true b p q = q
both_true false b p q = p

over_true : (a b : Bool) → Under ◌||◌ a b → a ≡ true → b ≡ true
over_true true b u e = sym u
over_true false b u e = never e

some_true : (f : ℕ → Bool) (n : ℕ) → joining false ◌||◌ f n ≡ true → (m : ℕ) × (m < n) × (f m ≡ true)
unfolding joining
some_true f zero e = never e
some_true f (suc n) e =
    ⊎_elim (λ h. let r : (m : ℕ) × (m < n) × (f m ≡ true) = some_true f n h in (r.0, omega (arith, r.1), r.2)) (λ h. (n, omega arith, h)) (or_true (joining false ◌||◌ f n) (f n) e)

module _ (n : ℕ) (M : ℕ → ℕ → Bool) where
  -- what the walks say yes of has a chain that is no longer
  pub walks_chain : (k i j : ℕ) → walks false ◌||◌ ◌&&◌ n M k i j ≡ true → (c : Chain (λ a b. M a b ≡ true) n i j) × (long c ≤ k)
  unfolding walks
  walks_chain zero i j e = never e
  walks_chain (suc k) i j e =
      ⊎_elim (λ h. (one h, omega arith))
      (λ h.
      let r : (m : ℕ) × (m < n) × ((M i m && walks false ◌||◌ ◌&&◌ n M k m j) ≡ true) = some_true (λ m. M i m && walks false ◌||◌ ◌&&◌ n M k m j) n h in
      let b : (M i r.0 ≡ true) × (walks false ◌||◌ ◌&&◌ n M k r.0 j ≡ true) = and_true (M i r.0) _ r.2 in
      let c : (c : Chain (λ a b. M a b ≡ true) n r.0 j) × (long c ≤ k) = walks_chain k r.0 j b.1 in
      (more r.1 b.0 c.0, omega (arith, c.1)))
      (or_true (M i j) _ e)

  chain_phases : (i j : ℕ) → Chain (λ a b. M a b ≡ true) n i j → phases ◌||◌ ◌&&◌ M n i j ≡ true
  chain_phases i j (one r) = over_true (M i j) _ (step_phases reach_laws M n i j) r
  chain_phases i j (more {m = m} l r c) =
      over_true (phases ◌||◌ ◌&&◌ M n i m && phases ◌||◌ ◌&&◌ M n m j) _ (phases_through reach_laws M n m l i j)
      (both_true _ _ (over_true (M i m) _ (step_phases reach_laws M n i m) r) (chain_phases m j c))

  -- a chain of any length is among those of at most 64 steps
  pub chain_walks : (i j : ℕ) → i < n → n ≤ 64 → Chain (λ a b. M a b ≡ true) n i j → walks false ◌||◌ ◌&&◌ n M 64 i j ≡ true
  chain_walks i j l h c = sym (phases_are_walks reach_laws n M 64 h i j l) ∙ chain_phases i j c

pub reaches : (n : ℕ) (before after : List Bool) → n ≤ 64 → Closed false ◌||◌ ◌&&◌ n before after → Reaches n before after
reaches n before after h f i j l m =
    let e : table false n after i j ≡ walks false ◌||◌ ◌&&◌ n (table false n before) 64 i j = f.entries i j l m in
    (λ t. (walks_chain n (table false n before) 64 i j (sym e ∙ t)).0, λ c. e ∙ chain_walks n (table false n before) i j l h c)
