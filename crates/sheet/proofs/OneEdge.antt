-- One edge more, or one fewer.
use Rattle.std.proofs.Common.{◌≡◌, ℕ, ◌<◌, Bool, true, false, cond, not, eqb, ◌⊎◌, List, [], ◌∷◌, Some, sym, refl, ap, ◌∙◌, ap₂, inl, inr, ⊎_elim}
use mathlib.Core.Path.{fun_ext}
use Rattle.std.proofs.lemmas.Bool.{cases_Bool, true≢false, eqb-true, eq-eqb, lt-ltb, or_parts, and_from, and_parts, not-true}
use Rattle.relation.specs.Algebra.{single, pair, range, range_below, ◌∪◌, ◌∖◌}
use Rattle.relation.proofs.Laws.{in_union, of_union, pair_test, add_remove}
use Rattle.relation.proofs.Below.{some_from}
use Rattle.sheet.specs.declared.row.Event.{Event}
use Rattle.sheet.specs.declared.calls.Edge.{Edge}
use Rattle.sheet.specs.declared.calls.Edge.TheVariants.{ReadFrom, Order, Atomic, Depend}
use Rattle.sheet.specs.Words.{nth}
use Rattle.sheet.specs.Rules.{carries}
use Rattle.sheet.specs.Sets.{EdgeSets, edge_number, same_edge, with_edge, without_edge, given_in}
use Rattle.sheet.specs.Fitting.{EdgesFit, OneSource, OneWay, edge_fits}

numbered : (e : Edge) → nth (ReadFrom ∷ Order ∷ Atomic ∷ Depend ∷ []) (edge_number e) ≡ Some e
numbered ReadFrom = refl
numbered Order = refl
numbered Atomic = refl
numbered Depend = refl

pub same_sort : (e k : Edge) → same_edge e k ≡ true → e ≡ k
same_sort e k h =
    let s : Some e ≡ Some k = sym (numbered e) ∙ ap (nth (ReadFrom ∷ Order ∷ Atomic ∷ Depend ∷ [])) (eqb-true (edge_number e) (edge_number k) h) ∙ numbered k in cc

pub own_sort : (e : Edge) → same_edge e e ≡ true
own_sort e = eq-eqb (edge_number e) (edge_number e) refl

module _ (s : EdgeSets) (e : Edge) (i j : ℕ) where
  -- an edge of the sets with one more is an old one, or that one
  pub with_cases : (k : Edge) (x y : ℕ) → with_edge s e i j k x y ≡ true → (s k x y ≡ true) ⊎ ((e ≡ k) × (i ≡ x) × (j ≡ y))
  unfolding with_edge
  with_cases k x y h = go (same_edge e k) refl h
    where
      go : (t : Bool) → same_edge e k ≡ t → cond t (s k ∪ pair i j) (s k) x y ≡ true → (s k x y ≡ true) ⊎ ((e ≡ k) × (i ≡ x) × (j ≡ y))
      go false q g = inl g
      go true q g =
          ⊎_elim inl (λ p. let t = pair_test i j x y p in inr (same_sort e k q, t.0, t.1)) (of_union (s k) (pair i j) x y g)

  -- an edge of the sets with one fewer is an old one
  pub without_old : (k : Edge) (x y : ℕ) → without_edge s e i j k x y ≡ true → s k x y ≡ true
  unfolding without_edge ◌∖◌
  without_old k x y h = go (same_edge e k) h
    where
      go : (t : Bool) → cond t (s k ∖ pair i j) (s k) x y ≡ true → s k x y ≡ true
      go false g = g
      go true g = (and_parts (s k x y) (not (pair i j x y)) g).0

  -- an edge that was not there, laid and taken out again
  pub undone : s e i j ≡ false → without_edge (with_edge s e i j) e i j ≡ s
  unfolding without_edge with_edge
  undone h = fun_ext (λ k. go k (same_edge e k) refl)
    where
      go : (k : Edge) (t : Bool) → same_edge e k ≡ t → cond t (cond t (s k ∪ pair i j) (s k) ∖ pair i j) (cond t (s k ∪ pair i j) (s k)) ≡ s k
      go k false q = refl
      go k true q = add_remove (s k) i j (ap (λ (z : Edge). s z i j) (sym (same_sort e k q)) ∙ h)

-- ---- facts that stay

pub fit_laid : (es : List Event) (s : EdgeSets) (e : Edge) (i j : ℕ) → EdgesFit es s → edge_fits es e i j ≡ true → EdgesFit es (with_edge s e i j)
fit_laid es s e i j f g p h =
    ⊎_elim (λ o. f p o)
    (λ (t : (e ≡ p.0) × (i ≡ p.1) × (j ≡ p.2)). let a = t.0 in let b = t.1 in let c = t.2 in
    ap (λ (z : Edge). edge_fits es z p.1 p.2) (sym a) ∙ ap₂ (edge_fits es e) (sym b) (sym c) ∙ g)
    (with_cases s e i j p.0 p.1 p.2 h)

pub fit_undone : (es : List Event) (s : EdgeSets) (e : Edge) (i j : ℕ) → EdgesFit es s → EdgesFit es (without_edge s e i j)
fit_undone es s e i j f p h = f p (without_old s e i j p.0 p.1 p.2 h)

pub source_undone : (s : EdgeSets) (e : Edge) (i j : ℕ) → OneSource s → OneSource (without_edge s e i j)
source_undone s e i j f p h k = f p (without_old s e i j ReadFrom p.0 p.2 h) (without_old s e i j ReadFrom p.1 p.2 k)

not_both : {P : Type 0} (b : Bool) → b ≡ true → b ≡ false → P
not_both b p q = absurd (true≢false (sym p ∙ q))

module _ (s : EdgeSets) (e : Edge) (i j : ℕ) (fresh : given_in s e i j ≡ false) where
  -- the read had no source
  unsourced : e ≡ ReadFrom → (x : ℕ) → x < 64 → s ReadFrom x j ≡ true → ⊥
  unfolding given_in range_below
  unsourced q x l h =
      let g : range (s ReadFrom) j ≡ false = ap (λ (z : Edge). given_in s z i j) (sym q) ∙ fresh in
      not_both (range (s ReadFrom) j) (some_from 64 (λ k. s ReadFrom k j) x l h) g

  -- the order was given in neither way
  unordered : e ≡ Order → (s Order i j ≡ false) × (s Order j i ≡ false)
  unfolding given_in
  unordered q = or_parts (s Order i j) (s Order j i) (ap (λ (z : Edge). given_in s z i j) (sym q) ∙ fresh)

  pub source_laid : ((x y : ℕ) → s ReadFrom x y ≡ true → x < 64) → OneSource s → OneSource (with_edge s e i j)
  source_laid inside f p h k =
      ⊎_elim
      (λ (a : s ReadFrom p.0 p.2 ≡ true). ⊎_elim
      (λ (b : s ReadFrom p.1 p.2 ≡ true). f p a b)
      (λ (b : (e ≡ ReadFrom) × (i ≡ p.1) × (j ≡ p.2)).
      absurd (unsourced b.0 p.0 (inside p.0 p.2 a) (ap (s ReadFrom p.0) b.2 ∙ a)))
      (with_cases s e i j ReadFrom p.1 p.2 k))
      (λ (a : (e ≡ ReadFrom) × (i ≡ p.0) × (j ≡ p.2)). ⊎_elim
      (λ (b : s ReadFrom p.1 p.2 ≡ true).
      absurd (unsourced a.0 p.1 (inside p.1 p.2 b) (ap (s ReadFrom p.1) a.2 ∙ b)))
      (λ (b : (e ≡ ReadFrom) × (i ≡ p.1) × (j ≡ p.2)). eq-eqb p.0 p.1 (sym a.1 ∙ b.1))
      (with_cases s e i j ReadFrom p.1 p.2 k))
      (with_cases s e i j ReadFrom p.0 p.2 h)

  -- not both ways
  both_ways : OneWay s → (e ≡ Order → i ≡ j → ⊥) → (x y : ℕ) → with_edge s e i j Order x y ≡ true → with_edge s e i j Order y x ≡ true → ⊥
  both_ways f ne x y h k =
      ⊎_elim
      (λ (a : s Order x y ≡ true). ⊎_elim
      (λ (b : s Order y x ≡ true). not_both (s Order y x) b (f x y a))
      (λ (b : (e ≡ Order) × (i ≡ y) × (j ≡ x)). not_both (s Order x y) a (ap₂ (s Order) (sym b.2) (sym b.1) ∙ (unordered b.0).1))
      (with_cases s e i j Order y x k))
      (λ (a : (e ≡ Order) × (i ≡ x) × (j ≡ y)). ⊎_elim
      (λ (b : s Order y x ≡ true). not_both (s Order y x) b (ap₂ (s Order) (sym a.2) (sym a.1) ∙ (unordered a.0).1))
      (λ (b : (e ≡ Order) × (i ≡ y) × (j ≡ x)). ne a.0 (a.1 ∙ sym b.2))
      (with_cases s e i j Order y x k))
      (with_cases s e i j Order x y h)

  pub way_laid : OneWay s → (e ≡ Order → i ≡ j → ⊥) → OneWay (with_edge s e i j)
  way_laid f ne x y h =
      ⊎_elim (λ (t : with_edge s e i j Order y x ≡ true). absurd (both_ways f ne x y h t)) (λ q. q) (cases_Bool (with_edge s e i j Order y x))

pub way_undone : (s : EdgeSets) (e : Edge) (i j : ℕ) → OneWay s → OneWay (without_edge s e i j)
way_undone s e i j f x y h =
    ⊎_elim
    (λ (t : without_edge s e i j Order y x ≡ true). not_both (s Order y x) (without_old s e i j Order y x t) (f x y (without_old s e i j Order x y h)))
    (λ q. q) (cases_Bool (without_edge s e i j Order y x))

-- an order joins two events
pub order_apart : (es : List Event) (e : Edge) (i j : ℕ) → carries es e i j ≡ true → e ≡ Order → i ≡ j → ⊥
unfolding carries
order_apart es e i j h q p =
    let g : carries es Order i j ≡ true = ap (λ (z : Edge). carries es z i j) (sym q) ∙ h in
    let a = (and_parts (not (eqb i j)) _ g).0 in
    not_both (eqb i j) (eq-eqb i j p) (not-true (eqb i j) a)

-- ---- members of the sets with one edge more

pair_self : (i j : ℕ) → i < 64 → j < 64 → pair i j i j ≡ true
unfolding pair single
pair_self i j a b = and_from _ _ (and_from _ _ (lt-ltb i 64 a) (eq-eqb i i refl)) (and_from _ _ (lt-ltb j 64 b) (eq-eqb j j refl))

pub with_old : (s : EdgeSets) (e : Edge) (i j : ℕ) (k : Edge) (x y : ℕ) → s k x y ≡ true → with_edge s e i j k x y ≡ true
unfolding with_edge
with_old s e i j k x y h = go (same_edge e k)
  where
    go : (t : Bool) → cond t (s k ∪ pair i j) (s k) x y ≡ true
    go false = h
    go true = in_union (s k) (pair i j) x y (inl h)

pub with_new : (s : EdgeSets) (e : Edge) (i j : ℕ) → i < 64 → j < 64 → (k : Edge) (x y : ℕ) → e ≡ k → x ≡ i → y ≡ j → with_edge s e i j k x y ≡ true
unfolding with_edge
with_new s e i j li lj k x y q a b =
    ap (λ t. cond t (s k ∪ pair i j) (s k) x y) (ap (λ (z : Edge). same_edge e z) (sym q) ∙ own_sort e)
    ∙ in_union (s k) (pair i j) x y (inr (ap₂ (pair i j) a b ∙ pair_self i j li lj))
