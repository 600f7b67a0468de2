-- Peeling: what is taken out lies on no cycle, and where nothing can be taken out there is one.
use Rattle.std.proofs.Common.{◌≡◌, ℕ, zero, suc, ◌+◌, ◌<◌, ◌≤◌, Bool, true, false, List, [], ◌∷◌, sym, refl, ap, ◌∙◌, subst, ⊎_elim, le_refl, arith}
use Rattle.std.proofs.lemmas.Bool.{cases_lt, lt-ltb, cases_eq, cases_Bool, false≢true, and_from, and_parts}
use Rattle.relation.specs.Algebra.{Set, Rel, everything, both, some_below}
use Rattle.relation.specs.Meaning.{members, holds}
use Rattle.relation.specs.declared.Row.{Row}
use Rattle.relation.specs.declared.Relation.{Relation}
use Rattle.relation.proofs.Sets.{members_past}
use Rattle.relation.proofs.Relations.{holds_starts}
use Rattle.relation.proofs.Below.{some_from, from_some}
use Rattle.cycles.specs.Cycles.{Path, Cycle}
use Rattle.peeling.specs.Peeling.{Cyclic, count, Off, Leads, Peeled}
use Rattle.peeling.proofs.Counts.{without, without_other, count_without}

abbrev Linked : Rel → ℕ → ℕ → Type 0
Linked R a b = (vs : List ℕ) × Path R a vs b

-- one step more at the end
further : (R : Rel) (vs : List ℕ) (a b c : ℕ) → Path R a vs b → R b c ≡ true → Linked R a c
further R [] a b c s t = (b ∷ [], (s, t))
further R (v ∷ vs) a b c p t = let u = further R vs v b c p.1 t in (v ∷ u.0, (p.0, u.1))

-- an event without a successor in L lies on no cycle either
off_more : (R : Rel) (L : Set) (i : ℕ) → ((b : ℕ) → R i b ≡ true → L b ≡ false) → Off R L → Off R (without L i)
off_more R L i ends off a out vs c =
    ⊎_elim (λ (e : i ≡ a). here vs (subst (λ (v : ℕ). Path R v vs v) (sym e) c)) (λ ne. off a (sym (without_other L i a ne) ∙ out) vs c) (cases_eq i a)
  where
    here : (vs : List ℕ) → Path R i vs i → ⊥
    here [] s = off i (ends i s) [] s
    here (b ∷ us) p = let u = further R us b i b p.1 p.0 in off b (ends b p.0) u.0 u.1

module _ (R : Rel) (L : Set) (within : (v : ℕ) → L v ≡ true → v < 64) (leads : (a : ℕ) → L a ≡ true → Leads R L a) where
  -- from one event of L to the next: U are the events not passed yet, and each other leads here
  walk : (f : ℕ) (U : Set) → count U 64 ≤ f → (a : ℕ) → L a ≡ true → U a ≡ true → ((v : ℕ) → U v ≡ false → Linked R v a) → Cyclic R
  walk zero U few a live new passed = absurd (omega (arith, count_without U a 64 (within a live) (within a live) new))
  walk (suc f) U few a live new passed =
      let s = leads a live in
      let passed' : (v : ℕ) → without U a v ≡ false → Linked R v s.0 =
      λ v h. ⊎_elim
      (λ (e : a ≡ v). ([], subst (λ (i : ℕ). R i s.0 ≡ true) e s.1))
      (λ ne. let u = passed v (sym (without_other U a v ne) ∙ h) in further R u.0 v a s.0 u.1 s.1)
      (cases_eq a v) in
      ⊎_elim
      (λ (fresh : without U a s.0 ≡ true). walk f (without U a) (omega (arith, count_without U a 64 (within a live) (within a live) new)) s.0 s.2 fresh passed')
      (λ (again : without U a s.0 ≡ false). let u = passed' s.0 again in (s.0 ∷ u.0, u.1))
      (cases_Bool (without U a s.0))

  -- a set in which every event has a successor, and that has an event, has a cycle
  pub cycle_in : (a : ℕ) → L a ≡ true → Cyclic R
  cycle_in a live = walk (count (λ v. true) 64) (λ v. true) (le_refl _) a live refl (λ v e. absurd (false≢true (sym e)))

module _ (R : Rel) (before : Set) where
  pub peeled_none : ((a : ℕ) → 64 ≤ a → before a ≡ false) → Peeled R before before false 64
  peeled_none past = record {
    off = λ off. off;
    fewer = omega arith;
    leads = λ e a l h. absurd (false≢true (sym (past a l) ∙ h));
  }

  -- k has no successor left, and is taken out
  pub peeled_out : (after : Set) (removed : Bool) (k : ℕ) → ((a b : ℕ) → R a b ≡ true → b < 64) → k < 64 → after k ≡ true → some_below 64 (both (R k) after) ≡ false
      → Peeled R before after removed (k + 1) → Peeled R before (without after k) true k
  unfolding both
  peeled_out after removed k ends l live none p = record {
    off = λ off. off_more R after k lone (p.off off);
    fewer = omega (arith, count_without after k 64 l l live, p.fewer);
    leads = λ e. absurd (false≢true (sym e));
  }
    where
      lone : (b : ℕ) → R k b ≡ true → after b ≡ false
      lone b s = ⊎_elim
          (λ (h : after b ≡ true). absurd (false≢true (sym none ∙ some_from 64 (both (R k) after) b (ends k b s) (and_from (R k b) (after b) s h))))
          (λ h. h) (cases_Bool (after b))

  -- k is out already, or has a successor
  pub peeled_keep : (after : Set) (removed : Bool) (k : ℕ) → (after k ≡ true → some_below 64 (both (R k) after) ≡ true)
      → Peeled R before after removed (k + 1) → Peeled R before after removed k
  unfolding both
  peeled_keep after removed k some p = record {
    off = p.off;
    fewer = p.fewer;
    leads = λ e a l h. ⊎_elim (λ (q : k ≡ a). subst (Leads R after) q (here (subst (λ (i : ℕ). after i ≡ true) (sym q) h))) (λ ne. p.leads e a (omega arith) h) (cases_eq k a);
  }
    where
      here : after k ≡ true → Leads R after k
      here h =
          let w = from_some 64 (both (R k) after) (some h) in
          let s = and_parts (R k w.0) (after w.0) w.2 in (w.0, s.0, s.1)

-- ---- rows and relations of the code

pub members_below : (r : Row) (v : ℕ) → members r v ≡ true → v < 64
members_below r v h = ⊎_elim (λ l. l) (λ l. absurd (false≢true (sym (members_past r v l) ∙ h))) (cases_lt v 64)

starts : (R : Rel) (vs : List ℕ) (a b : ℕ) → Path R a vs b → (c : ℕ) × (R a c ≡ true)
starts R [] a b h = (b, h)
starts R (v ∷ vs) a b h = (v, h.0)

-- every cycle is among the 64 events
pub off_all : (r : Relation) (l : Row) → members l ≡ everything → Off (holds r) (members l)
unfolding everything
off_all r l e a h vs c =
    let s = starts (holds r) vs a a c in
    ⊎_elim (λ p. false≢true (sym h ∙ ap (λ (S : Set). S a) e ∙ lt-ltb a 64 p)) (λ p. false≢true (sym (holds_starts r a s.0 p) ∙ s.1)) (cases_lt a 64)

-- where every event outside L lies on no cycle and there is a cycle, L has an event
pub some_live : (R : Rel) (L : Set) → ((v : ℕ) → L v ≡ true → v < 64) → Off R L → (ws : List ℕ) → Cycle R ws → some_below 64 L ≡ true
some_live R L within off [] c = absurd c
some_live R L within off (w ∷ ws) c =
    ⊎_elim (λ (h : L w ≡ true). some_from 64 L w (within w h) h) (λ (h : L w ≡ false). absurd (off w h ws c)) (cases_Bool (L w))
