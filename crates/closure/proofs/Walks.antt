-- Floyd and Warshall's phases, and the chains. Assumes nothing.
use Rattle.std.proofs.Common.{◌≡◌, ℕ, zero, suc, ◌+◌, ◌<◌, ◌≤◌, sym, refl, ⊎_elim, arith}
use Rattle.closure.specs.Steps.{Laws, Under, walks}
use Rattle.closure.proofs.Order.{split, under_refl, under_trans, under_left, under_right, join_under, none_under, chain_under_left, chain_under_right, chain_under, drop_last, drop_first, joining_under, under_joining, joining_chain_under}

-- the table after the phases below k
unfoldable pub phases : {S : Type 0} → (S → S → S) → (S → S → S) → (ℕ → ℕ → S) → ℕ → ℕ → ℕ → S
phases join chain M zero i j = M i j
phases join chain M (suc k) i j = join (phases join chain M k i j) (chain (phases join chain M k i k) (phases join chain M k k j))

module _ {S : Type 0} {none : S} {join chain : S → S → S} (laws : Laws none join chain) (M : ℕ → ℕ → S) where
  -- no phase loses anything
  pub step_phases : (k i j : ℕ) → Under join (M i j) (phases join chain M k i j)
  unfolding phases
  step_phases zero i j = under_refl laws _
  step_phases (suc k) i j = under_trans laws (step_phases k i j) (under_left laws _ _)

  -- after the phases below k, a way over an event m below k is there already
  pub phases_through : (k m : ℕ) → m < k → (i j : ℕ) → Under join (chain (phases join chain M k i m) (phases join chain M k m j)) (phases join chain M k i j)
  unfolding phases
  phases_through zero m l i j = absurd (omega arith)
  phases_through (suc k) m l i j =
      let A : ℕ → ℕ → S = phases join chain M k in
      ⊎_elim
      (λ (e : m ≡ k).
      rw (e, laws.detour_after (A i k) (A k k), laws.detour_before (A k j) (A k k)) (under_right laws _ _))
      (λ (h : m < k).
      let t : (a b : ℕ) → Under join (chain (A a m) (A m b)) (A a b) = phases_through k m h in
      rw (laws.join_chain, laws.chain_join, laws.chain_join)
      (join_under laws
      (join_under laws (under_trans laws (t i j) (under_left laws _ _)) (rw (sym (laws.chain_assoc (A i m) (A m k) (A k j))) (under_trans laws (chain_under_left laws (A k j) (t i k)) (under_right laws _ _))))
      (join_under laws
      (rw (laws.chain_assoc (A i k) (A k m) (A m j)) (under_trans laws (chain_under_right laws (A i k) (t k j)) (under_right laws _ _)))
      (under_trans laws (chain_under laws (drop_last laws (A i k) (A k m)) (drop_first laws (A k j) (A m k))) (under_right laws _ _)))))
      (split m k l)

module _ {S : Type 0} {none : S} {join chain : S → S → S} (laws : Laws none join chain) (n : ℕ) (M : ℕ → ℕ → S) where
  -- the three ways in which proofs see `walks`
  pub step_walks : (k i j : ℕ) → Under join (M i j) (walks none join chain n M (suc k) i j)
  unfolding walks
  step_walks k i j = under_left laws _ _

  pub walks_step : (k m : ℕ) → m < n → (i j : ℕ) → Under join (chain (M i m) (walks none join chain n M k m j)) (walks none join chain n M (suc k) i j)
  unfolding walks
  walks_step k m l i j = under_trans laws (under_joining laws (λ m. chain (M i m) (walks none join chain n M k m j)) n m l) (under_right laws _ _)

  pub walks_under : (k i j : ℕ) (x : S) → Under join (M i j) x → ((m : ℕ) → m < n → Under join (chain (M i m) (walks none join chain n M k m j)) x) → Under join (walks none join chain n M (suc k) i j) x
  unfolding walks
  walks_under k i j x p q = join_under laws p (joining_under laws _ n x q)

  pub walks_none : (i j : ℕ) → walks none join chain n M zero i j ≡ none
  unfolding walks
  walks_none i j = refl

  -- more steps, more chains
  pub walks_more : (k K : ℕ) → k ≤ K → (i j : ℕ) → Under join (walks none join chain n M k i j) (walks none join chain n M K i j)
  walks_more zero K l i j = rw (walks_none i j) (none_under laws _)
  walks_more (suc k) zero l i j = absurd (omega arith)
  walks_more (suc k) (suc K) l i j =
      walks_under k i j _ (step_walks K i j) (λ m h. under_trans laws (chain_under_right laws (M i m) (walks_more k K (omega arith) m j)) (walks_step K m h i j))

  -- one chain after another
  pub walks_then : (a b K : ℕ) → a + b ≤ K → (i m j : ℕ) → m < n → Under join (chain (walks none join chain n M a i m) (walks none join chain n M b m j)) (walks none join chain n M K i j)
  unfolding walks
  walks_then zero b K l i m j h = rw (laws.none_chain (walks none join chain n M b m j)) (none_under laws _)
  walks_then (suc a) b zero l i m j h = absurd (omega arith)
  walks_then (suc a) b (suc K) l i m j h =
      rw laws.join_chain
      (join_under laws
      (under_trans laws (walks_step b m h i j) (walks_more (suc b) (suc K) (omega arith) i j))
      (joining_chain_under laws _ _ n _
      (λ v w. rw laws.chain_assoc (under_trans laws (chain_under_right laws (M i v) (walks_then a b K (omega arith) v m j h)) (walks_step K v w i j)))))

  -- every chain is in the table after the phases
  pub walks_phases : (k i j : ℕ) → Under join (walks none join chain n M k i j) (phases join chain M n i j)
  walks_phases zero i j = rw (walks_none i j) (none_under laws _)
  walks_phases (suc k) i j =
      walks_under k i j _ (step_phases laws M n i j)
      (λ m h. under_trans laws (chain_under laws (step_phases laws M n i m) (walks_phases k m j)) (phases_through laws M n m h i j))
