-- What the loops of `close` keep, turn by turn. Assumes nothing.
use Rattle.std.proofs.Common.{◌≡◌, ℕ, suc, ◌+◌, ◌-◌, ◌*◌, ◌<◌, ◌≤◌, List, ◌++◌, length, get_or, take, drop, sym, refl, ap, ◌∙◌, subst, ap₂, ⊎_elim, add-one, arith, length-drop}
use Rattle.std.proofs.lemmas.List.{get_or-take, get_or-drop, get_or_read, get_or_append_left, get_or-append_right, get_or-append-add, length-take-le}
use native.Mathlib.Decide.{dec_lt}
use borrow.Rule.Slice.PartMut.{put_mid}
use Rattle.closure.specs.Steps.{Laws, table, Relaxed, Swept, Passed, Closed, walks, Joins}
use Rattle.closure.proofs.Order.{split}
use Rattle.closure.proofs.Walks.{phases}
use Rattle.closure.proofs.Simple.{phases_are_walks}
use Rattle.closure.proofs.Chains.{walks_join, joined_walks}
use Rattle.closure.proofs.Places.{row_end, put_above, put_in, put_below}

module _ {S : Type 0} (none : S) (join chain : S → S → S) (k : ℕ) (over before : List S) where
  pub swept_none : Swept none join chain k over before before 0
  swept_none = record { done = λ a b l m. absurd (omega arith); rest = λ p l. refl }

  -- one more row
  pub swept_more : (xs row : List S) (i m : ℕ) (via : S) → k < length over → i * length over + length over ≤ length xs → m ≡ length over
      → Swept none join chain k over before xs i
      → length row ≡ length (take m (drop (i * length over) xs))
      → via ≡ get_or (take m (drop (i * length over) xs)) k via
      → Relaxed none join chain via over (take m (drop (i * length over) xs)) row (length (take m (drop (i * length over) xs)))
      → Swept none join chain k over before (put_mid (i * length over) m xs row) (i + 1)
  swept_more xs row i m via p fits long f kept is r =
      let n = length over in
      let old = take m (drop (i * n) xs) in
      let all : length old ≡ m = length-take-le m (drop (i * n) xs) (omega (arith, length-drop (i * n) xs)) in
      let fit : i * n + m ≤ length xs = omega arith in
      let same : length row ≡ m = kept ∙ all in
      let was : (b : ℕ) → b < n → get_or old b none ≡ get_or before (i * n + b) none =
      λ b h. get_or-take m (drop (i * n) xs) b none (omega arith) ∙ get_or-drop (i * n) xs b none ∙ f.rest (i * n + b) (omega arith) in
      record {
        done = λ a b l h.
            ⊎_elim
            (λ (at : a ≡ i).
            rw at (put_in none (i * n) m xs row fit same b (omega arith) ∙ r.row b (omega arith)
            ∙ ap₂ join (was b h) (ap (λ x. chain x (get_or over b none)) (get_or_read old k via (omega arith) is none ∙ was k p))))
            (λ (u : a < i). put_above none (i * n) m xs row fit same (a * n + b) (omega (arith, row_end n a i u)) ∙ f.done a b u h)
            (split a i (omega arith));
        rest = λ a l.
            let next : (i + 1) * n ≡ i * n + n = omega arith in
            put_below none (i * n) m xs row fit same a (omega arith) ∙ f.rest a (omega arith);
      }

-- ---- a pass: two sweeps, of the rows above row k and of those below it
module _ {S : Type 0} {none : S} {join chain : S → S → S} (laws : Laws none join chain) (k : ℕ) (above over below : List S) (p : k < length over)
    (up : length above ≡ k * length over) (down : length below ≡ (length over - suc k) * length over) where
  pub passed_parts : (xs zs : List S) (m : ℕ) → length over ≡ suc k + m → length xs ≡ length above
      → Swept none join chain k over above xs k → Swept none join chain k over below zs m
      → Passed none join chain (length over) k (above ++ (over ++ below)) (xs ++ (over ++ zs))
  passed_parts xs zs m left same f g =
      let n = length over in
      let first : (us ws : List S) (a b : ℕ) → length us ≡ length above → a < k → b < n → table none n (us ++ (over ++ ws)) a b ≡ table none n us a b =
      λ us ws a b e l m. get_or_append_left us _ none (a * n + b) (omega (arith, row_end n a k l)) in
      let mid : (us ws : List S) (b : ℕ) → length us ≡ length above → b < n → table none n (us ++ (over ++ ws)) k b ≡ get_or over b none =
      λ us ws b e m.
      let at : k * n + b ≡ length us + b = omega arith in
      rw at (get_or-append-add us (over ++ ws) b none ∙ get_or_append_left over ws none b m) in
      let last : (us ws : List S) (a b : ℕ) → length us ≡ length above → k < a → b < n → table none n (us ++ (over ++ ws)) a b ≡ table none n ws (a - suc k) b =
      λ us ws a b e l m.
      let row : a ≡ suc k + (a - suc k) = omega arith in
      let at : a * n + b ≡ length us + (n + ((a - suc k) * n + b)) = omega (arith, ap (λ x. x * n) row) in
      rw at (get_or-append-add us (over ++ ws) _ none ∙ get_or-append-add over ws _ none) in
      λ a b l m.
      elim (dec_lt a k) [
        | yes u ↦
            first xs zs a b same u m ∙ f.done a b (omega arith) m
            ∙ sym (ap₂ join (first above below a b refl u m) (ap₂ chain (first above below a k refl u p) (mid above below b refl m)))
        | no u ↦ elim (dec_lt k a) [
          | yes v ↦
              last xs zs a b same v m ∙ g.done (a - suc k) b (omega arith) m
              ∙ sym (ap₂ join (last above below a b refl v m) (ap₂ chain (last above below a k refl v p) (mid above below b refl m)))
          | no v ↦
              let at : a ≡ k = omega arith in
              rw at (mid xs zs b same m ∙ sym (mid above below b refl m)
              ∙ sym (laws.detour_before (table none n (above ++ (over ++ below)) k b) (table none n (above ++ (over ++ below)) k k)))
        ]
      ]

-- ---- all phases
-- the table has had the phases below k
abbrev pub Phased : {S : Type 0} → S → (S → S → S) → (S → S → S) → ℕ → List S → List S → ℕ → Type 0
Phased none join chain n before xs k = (a b : ℕ) → a < n → b < n → table none n xs a b ≡ phases join chain (table none n before) k a b

module _ {S : Type 0} {none : S} {join chain : S → S → S} (laws : Laws none join chain) (n : ℕ) (before : List S) where
  pub phased_none : Phased none join chain n before (take (n * n) before) 0
  unfolding phases
  phased_none a b l m = get_or-take (n * n) before (a * n + b) none (omega (arith, row_end n a n l))

  pub phased_more : (xs ys : List S) (k : ℕ) → k < n → Phased none join chain n before xs k → Passed none join chain n k xs ys → Phased none join chain n before ys (k + 1)
  unfolding phases
  phased_more xs ys k p e f = λ a b l m. rw add-one (f a b l m ∙ ap₂ join (e a b l m) (ap₂ chain (e a k l p) (e k b p m)))

  -- where every phase is done, by Floyd and Warshall
  pub phased_closed : (xs : List S) (k : ℕ) → n ≤ 64 → length xs ≡ n * n → k ≡ n → Phased none join chain n before xs k
      → Closed none join chain n before (xs ++ drop (n * n) before)
  phased_closed xs k h all end f =
      let M : ℕ → ℕ → S = table none n before in
      let after = xs ++ drop (n * n) before in
      let e : (i j : ℕ) → i < n → j < n → table none n after i j ≡ walks none join chain n M 64 i j =
      λ i j l m. get_or_append_left xs _ none (i * n + j) (omega (arith, row_end n i n l))
      ∙ f i j l m ∙ ap (λ k. phases join chain M k i j) end ∙ phases_are_walks laws n M 64 h i j l in
      record {
        entries = e;
        chains = λ i j l m. subst (Joins join chain n M 64 i j) (sym (e i j l m)) (walks_join laws n M 64 i j);
        all_chains = λ i j l m. e i j l m ∙ sym (joined_walks laws n M 64 i j);
        rest = λ p l. get_or-append_right xs _ (n * n) p none all l ∙ get_or-drop (n * n) before (p - n * n) none
            ∙ ap (λ x. get_or before x none) (omega arith);
      }
