-- What tests tell of a relation of a few events: that nothing breaks a kind, and which violation is the witness.
use Rattle.std.proofs.Common.{◌≡◌, ℕ, zero, suc, ◌<◌, ◌≤◌, Bool, true, false, not, ◌&&◌, ◌||◌, eqb, ltb, List, [], ◌∷◌, length, sym, ◌∙◌, subst, inl, inr, ⊎_elim, arith}
use Rattle.std.proofs.lemmas.Bool.{cases_Bool, cases_lt, and_from, and_parts, or_cases, ltb-true, eqb-true, not-true, not_from_false, true≢false}
use Rattle.relation.specs.Algebra.{Set, Rel, some_below, plus}
use Rattle.relation.proofs.Below.{some_from}
use Rattle.closure.specs.Ways.{Chain, one, more}
use Rattle.closure.proofs.Reached.{chain_walks}
use Rattle.cycles.specs.Cycles.{Path, NotAfter}
use Rattle.cycles.proofs.Tables.{cycles_are_chains}
use Rattle.model.specs.declared.axiom_kind.AxiomKind.{AxiomKind}
use Rattle.model.specs.declared.axiom_kind.AxiomKind.TheVariants.{Acyclic, Irreflexive, Empty}
use Rattle.violation.specs.Violations.{Loop, Related, Violation, Breaks, Witness}

-- R relates numbers below n alone
abbrev pub Inside : ℕ → Rel → Type 0
Inside n R = (i j : ℕ) → R i j ≡ true → (i < n) × (j < n)

pub none_passes : (n : ℕ) (p : Set) → some_below n p ≡ false → (k : ℕ) → k < n → p k ≡ true → ⊥
none_passes n p e k l h = true≢false (sym (some_from n p k l h) ∙ e)

-- ---- whether anything breaks a kind

-- R, of the numbers below n, breaks the kind
unfoldable pub is_broken : AxiomKind → ℕ → Rel → Bool
is_broken Acyclic n R = some_below n (λ v. plus R v v)
is_broken Irreflexive n R = some_below n (λ v. R v v)
is_broken Empty n R = some_below n (λ a. some_below n (λ b. R a b))

module _ (n : ℕ) (few : n ≤ 64) (R : Rel) (inside : Inside n R) where
  starts_inside : {i j : ℕ} → Chain (λ a b. R a b ≡ true) 64 i j → i < n
  starts_inside (one {i = i} {j = j} r) = (inside i j r).0
  starts_inside (more {i = i} {m = m} l r c) = (inside i m r).0

  no_loop : some_below n (λ v. R v v) ≡ false → (ws : List ℕ) → Loop R ws → ⊥
  no_loop e [] h = h
  no_loop e (a ∷ []) h = none_passes n (λ v. R v v) e a (inside a a h).0 h
  no_loop e (a ∷ (b ∷ vs)) h = h

  no_pair : some_below n (λ a. some_below n (λ b. R a b)) ≡ false → (ws : List ℕ) → Related R ws → ⊥
  no_pair e [] h = h
  no_pair e (a ∷ []) h = h
  no_pair e (a ∷ (b ∷ [])) h =
      let l = inside a b h in none_passes n (λ a. some_below n (λ b. R a b)) e a l.0 (some_from n (λ b. R a b) b l.1 h)
  no_pair e (a ∷ (b ∷ (c ∷ vs))) h = h

  pub unbroken : (k : AxiomKind) → is_broken k n R ≡ false → Breaks k R → ⊥
  unfolding is_broken plus
  unbroken Acyclic e h =
      let c = (cycles_are_chains R (λ i j r. let l = inside i j r in (omega (arith, l.0), omega (arith, l.1)))).0 h.0 h.1 in
      let l = starts_inside c.1 in
      none_passes n (λ v. plus R v v) e c.0 l (chain_walks 64 R c.0 c.0 (omega arith) (omega arith) c.1)
  unbroken Irreflexive e h = no_loop e h.0 h.1
  unbroken Empty e h = no_pair e h.0 h.1

-- ---- the witness

-- the same as Path, Violation and NotAfter, as tests
unfoldable pub has_path : Rel → ℕ → List ℕ → ℕ → Bool
has_path R a [] b = R a b
has_path R a (v ∷ vs) b = R a v && has_path R v vs b

unfoldable pub violates : AxiomKind → Rel → List ℕ → Bool
violates Acyclic R [] = false
violates Acyclic R (w ∷ ws) = has_path R w ws w
violates Irreflexive R [] = false
violates Irreflexive R (a ∷ []) = R a a
violates Irreflexive R (a ∷ (b ∷ vs)) = false
violates Empty R [] = false
violates Empty R (a ∷ []) = false
violates Empty R (a ∷ (b ∷ [])) = R a b
violates Empty R (a ∷ (b ∷ (c ∷ vs))) = false

unfoldable pub not_after : List ℕ → List ℕ → Bool
not_after [] vs = true
not_after (w ∷ ws) [] = false
not_after (w ∷ ws) (v ∷ vs) = ltb w v || (eqb w v && not_after ws vs)

-- some list of l numbers below n passes
unfoldable pub some_list : ℕ → ℕ → (List ℕ → Bool) → Bool
some_list n zero p = p []
some_list n (suc l) p = some_below n (λ v. some_list n l (λ vs. p (v ∷ vs)))

-- ws is a violation, none is shorter, and none as long comes before it
unfoldable pub is_witness : AxiomKind → ℕ → Rel → List ℕ → Bool
is_witness k n R ws =
    violates k R ws
    && (not (some_below (length ws) (λ l. some_list n l (violates k R)))
    && not (some_list n (length ws) (λ vs. violates k R vs && not (not_after ws vs))))

path_told : (R : Rel) (a : ℕ) (vs : List ℕ) (b : ℕ) → has_path R a vs b ≡ true → Path R a vs b
unfolding has_path
path_told R a [] b h = h
path_told R a (v ∷ vs) b h = let p = and_parts (R a v) (has_path R v vs b) h in (p.0, path_told R v vs b p.1)

path_tests : (R : Rel) (a : ℕ) (vs : List ℕ) (b : ℕ) → Path R a vs b → has_path R a vs b ≡ true
unfolding has_path
path_tests R a [] b h = h
path_tests R a (v ∷ vs) b h = and_from (R a v) (has_path R v vs b) h.0 (path_tests R v vs b h.1)

told : (k : AxiomKind) (R : Rel) (ws : List ℕ) → violates k R ws ≡ true → Violation k R ws
unfolding violates
told Acyclic R [] h = true≢false (sym h)
told Acyclic R (w ∷ ws) h = path_told R w ws w h
told Irreflexive R [] h = true≢false (sym h)
told Irreflexive R (a ∷ []) h = h
told Irreflexive R (a ∷ (b ∷ vs)) h = true≢false (sym h)
told Empty R [] h = true≢false (sym h)
told Empty R (a ∷ []) h = true≢false (sym h)
told Empty R (a ∷ (b ∷ [])) h = h
told Empty R (a ∷ (b ∷ (c ∷ vs))) h = true≢false (sym h)

tests : (k : AxiomKind) (R : Rel) (ws : List ℕ) → Violation k R ws → violates k R ws ≡ true
unfolding violates
tests Acyclic R [] h = absurd h
tests Acyclic R (w ∷ ws) h = path_tests R w ws w h
tests Irreflexive R [] h = absurd h
tests Irreflexive R (a ∷ []) h = h
tests Irreflexive R (a ∷ (b ∷ vs)) h = absurd h
tests Empty R [] h = absurd h
tests Empty R (a ∷ []) h = absurd h
tests Empty R (a ∷ (b ∷ [])) h = h
tests Empty R (a ∷ (b ∷ (c ∷ vs))) h = absurd h

order_told : (ws vs : List ℕ) → not_after ws vs ≡ true → NotAfter ws vs
unfolding not_after
order_told [] vs h = tt
order_told (w ∷ ws) [] h = true≢false (sym h)
order_told (w ∷ ws) (v ∷ vs) h =
    ⊎_elim (λ l. inl (ltb-true w v l))
    (λ e. let p = and_parts (eqb w v) (not_after ws vs) e in inr (eqb-true w v p.0, order_told ws vs p.1))
    (or_cases (ltb w v) (eqb w v && not_after ws vs) h)

abbrev Below : ℕ → List ℕ → Type 0
Below n [] = Unit {0}
Below n (v ∷ vs) = (v < n) × Below n vs

list_from : (n : ℕ) (p : List ℕ → Bool) (vs : List ℕ) → Below n vs → p vs ≡ true → some_list n (length vs) p ≡ true
unfolding some_list
list_from n p [] b h = h
list_from n p (v ∷ vs) b h =
    some_from n (λ v. some_list n (length vs) (λ vs. p (v ∷ vs))) v b.0 (list_from n (λ vs. p (v ∷ vs)) vs b.1 h)

module _ (n : ℕ) (R : Rel) (inside : Inside n R) where
  path_below : (a : ℕ) (vs : List ℕ) (b : ℕ) → Path R a vs b → Below n vs
  path_below a [] b h = tt
  path_below a (v ∷ vs) b h = ((inside a v h.0).1, path_below v vs b h.1)

  path_starts : (a : ℕ) (vs : List ℕ) (b : ℕ) → Path R a vs b → a < n
  path_starts a [] b h = (inside a b h).0
  path_starts a (v ∷ vs) b h = (inside a v h.0).0

  below : (k : AxiomKind) (ws : List ℕ) → Violation k R ws → Below n ws
  below Acyclic [] h = absurd h
  below Acyclic (w ∷ ws) h = (path_starts w ws w h, path_below w ws w h)
  below Irreflexive [] h = absurd h
  below Irreflexive (a ∷ []) h = ((inside a a h).0, tt)
  below Irreflexive (a ∷ (b ∷ vs)) h = absurd h
  below Empty [] h = absurd h
  below Empty (a ∷ []) h = absurd h
  below Empty (a ∷ (b ∷ [])) h = ((inside a b h).0, ((inside a b h).1, tt))
  below Empty (a ∷ (b ∷ (c ∷ vs))) h = absurd h

  pub witnessed : (k : AxiomKind) (ws : List ℕ) → is_witness k n R ws ≡ true → Witness k R ws
  unfolding is_witness
  witnessed k ws h =
      let late : List ℕ → Bool = λ vs. violates k R vs && not (not_after ws vs) in
      let lengths : Set = λ l. some_list n l (violates k R) in
      let p = and_parts (violates k R ws) (not (some_below (length ws) lengths) && not (some_list n (length ws) late)) h in
      let q = and_parts (not (some_below (length ws) lengths)) (not (some_list n (length ws) late)) p.1 in
      record {
        violation = told k R ws p.0;
        shortest = λ vs v.
            ⊎_elim (λ (l : length vs < length ws). absurd (none_passes (length ws) lengths (not-true _ q.0) (length vs) l (list_from n (violates k R) vs (below k vs v) (tests k R vs v))))
            (λ (l : length ws ≤ length vs). l) (cases_lt (length vs) (length ws));
        first = λ vs v e.
            ⊎_elim (λ o. order_told ws vs o)
            (λ o. absurd (true≢false
            (sym (subst (λ l. some_list n l late ≡ true) e
            (list_from n late vs (below k vs v) (and_from (violates k R vs) (not (not_after ws vs)) (tests k R vs v) (not_from_false (not_after ws vs) o))))
            ∙ not-true _ q.1)))
            (cases_Bool (not_after ws vs));
      }
