-- `walks` is the joining over all chains. Assumes nothing.
use Rattle.std.proofs.Common.{◌≡◌, ℕ, zero, suc, ◌<◌, List, [], ◌∷◌, ◌++◌, map, length, sym, refl, ap, ◌∙◌, ap₂, arith}
use Rattle.std.proofs.lemmas.List.{map-append}
use Rattle.std.specs.List.{AllByRecursion}
use Rattle.closure.specs.Steps.{Laws, Under, joining, walks, value, Within, Joins, behind, routes, joined}
use Rattle.closure.proofs.Order.{under_trans, none_under, join_under, chain_under_right, chain_joining_under}
use Rattle.closure.proofs.Walks.{step_walks, walks_step, walks_under, walks_none}

module _ {S : Type 0} {none : S} {join chain : S → S → S} (laws : Laws none join chain) (n : ℕ) (M : ℕ → ℕ → S) where
  value_walks : (vs : List ℕ) (k i j : ℕ) → AllByRecursion (λ v. v < n) vs → length vs < k → Under join (value chain M i vs j) (walks none join chain n M k i j)
  value_walks vs zero i j a l = absurd (omega arith)
  value_walks [] (suc k) i j a l = step_walks laws n M k i j
  value_walks (v ∷ vs) (suc k) i j a l =
      under_trans laws (chain_under_right laws (M i v) (value_walks vs k v j a.1 (omega arith))) (walks_step laws n M k v a.0 i j)

  -- the same after a first part c
  after_least : (k : ℕ) (c : S) (i j : ℕ) (y : S) → ((vs : List ℕ) → Within n k vs → Under join (chain c (value chain M i vs j)) y) → Under join (chain c (walks none join chain n M k i j)) y
  unfolding walks
  after_least zero c i j y h = rw (laws.chain_none c) (none_under laws y)
  after_least (suc k) c i j y h =
      rw (laws.chain_join c)
      (join_under laws (h [] (record { events = tt; few = omega arith }))
      (chain_joining_under laws c _ n y
      (λ m l.
      rw (sym (laws.chain_assoc c (M i m) (walks none join chain n M k m j)))
      (after_least k (chain c (M i m)) m j y
      (λ vs w. rw (laws.chain_assoc c (M i m) (value chain M m vs j)) (h (m ∷ vs) (record { events = (l, w.events); few = let f : length vs < k = w.few in omega arith })))))))

  walks_least : (k i j : ℕ) (y : S) → ((vs : List ℕ) → Within n k vs → Under join (value chain M i vs j) y) → Under join (walks none join chain n M k i j) y
  walks_least zero i j y h = rw (walks_none laws n M i j) (none_under laws y)
  walks_least (suc k) i j y h =
      walks_under laws n M k i j y (h [] (record { events = tt; few = omega arith }))
      (λ m l. after_least k (M i m) m j y (λ vs w. h (m ∷ vs) (record { events = (l, w.events); few = let f : length vs < k = w.few in omega arith })))

  pub walks_join : (k i j : ℕ) → Joins join chain n M k i j (walks none join chain n M k i j)
  walks_join k i j = record { above = λ vs w. value_walks vs k i j w.events w.few; least = walks_least k i j }

  -- ---- the same as one joining
  joined_append : (xs ys : List S) → joined none join (xs ++ ys) ≡ join (joined none join xs) (joined none join ys)
  joined_append [] ys = sym (laws.join_none _)
  joined_append (x ∷ xs) ys = ap (join x) (joined_append xs ys) ∙ sym (laws.join_assoc x (joined none join xs) (joined none join ys))

  -- the chains whose first step goes to m
  joined_first : (m i j : ℕ) (vss : List (List ℕ)) → joined none join (map (λ vs. value chain M i vs j) (map (λ vs. m ∷ vs) vss)) ≡ chain (M i m) (joined none join (map (λ vs. value chain M m vs j) vss))
  joined_first m i j [] = sym (laws.chain_none (M i m))
  joined_first m i j (vs ∷ vss) = ap (join (chain (M i m) (value chain M m vs j))) (joined_first m i j vss) ∙ sym (laws.chain_join (M i m) _ _)

  joined_behind : (k i j m : ℕ) → ((v : ℕ) → joined none join (map (λ vs. value chain M v vs j) (routes n k)) ≡ walks none join chain n M k v j) → joined none join (map (λ vs. value chain M i vs j) (behind m (routes n k))) ≡ joining none join (λ v. chain (M i v) (walks none join chain n M k v j)) m
  unfolding joining behind
  joined_behind k i j zero h = refl
  joined_behind k i j (suc m) h =
      ap (joined none join) (map-append (λ vs. value chain M i vs j) (behind m (routes n k)) (map (λ vs. m ∷ vs) (routes n k)))
      ∙ joined_append (map (λ vs. value chain M i vs j) (behind m (routes n k))) (map (λ vs. value chain M i vs j) (map (λ vs. m ∷ vs) (routes n k)))
      ∙ ap₂ join (joined_behind k i j m h) (joined_first m i j (routes n k) ∙ ap (chain (M i m)) (h m))

  pub joined_walks : (k i j : ℕ) → joined none join (map (λ vs. value chain M i vs j) (routes n k)) ≡ walks none join chain n M k i j
  unfolding walks routes
  joined_walks zero i j = refl
  joined_walks (suc k) i j = ap (join (M i j)) (joined_behind k i j n (λ v. joined_walks k v j))
