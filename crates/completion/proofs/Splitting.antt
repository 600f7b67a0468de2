-- Trying an open pair both ways.
use Rattle.std.proofs.Common.{◌≡◌, ℕ, ◌^◌, ◌<◌, Bool, true, false, cond, not, ◌&&◌, ◌||◌, eqb, ltb, ◌⊎◌, List, length, get_or, sym, refl, ap, ◌∙◌, subst, inl, inr, ⊎_elim, arith}
use mathlib.Core.Path.{fun_ext}
use Rattle.std.proofs.lemmas.Bool.{cases_Bool, and_right, and_parts, not-true, ltb-true, cond-true, cond-false, both_ways, false≢true}
use Rattle.relation.specs.Algebra.{Rel, ◌∪◌}
use Rattle.relation.specs.Bits.{member}
use Rattle.sheet.specs.Book.{known, both_known}
use Rattle.execution.specs.Facts.{Facts, with_order}
use Rattle.model.specs.Meaning.{Meaning, Lawful, kind_at}
use Rattle.violation.specs.Violations.{Breaks}
use Rattle.completion.specs.Openings.{edge, edge_of, is_open, open_pairs, completed}
use Rattle.completion.specs.Verdicts.{Possible}
use Rattle.completion.specs.Trials.{tried, in_list, without, Splits, ListsOpen}
use Rattle.completion.proofs.Choosing.{chosen, Distinct, edge_self, edge_is, added_chosen, look, look_at, number, number_below, number_bit}
use Rattle.completion.proofs.Taking.{one_fewer, any_split, any_rest, in_rows, rows_in, distinct_rows, rows_without}

or_assoc : (a b c : Bool) → (a || (b || c)) ≡ ((a || b) || c)
or_assoc true b c = refl
or_assoc false b c = refl

and_swap : (a b : Bool) → (a && b) ≡ (b && a)
and_swap true true = refl
and_swap true false = refl
and_swap false true = refl
and_swap false false = refl

-- none of the axioms is broken
abbrev Holds : Meaning → Facts → Type 0
Holds m y = (i : ℕ) → Breaks (kind_at m.kinds i) (m.relation y i) → ⊥

-- over any list of pairs: some number, and some choice, of directions
abbrev Numbered : Meaning → Facts → List (ℕ × ℕ) → Type 0
Numbered m x ps = (c : ℕ) × (c < 2 ^ length ps) × Holds m (completed x ps c)

abbrev Chosen : Meaning → Facts → List (ℕ × ℕ) → Type 0
Chosen m x ps = (g : Rel) × Holds m (with_order x ((x.order ∪ chosen ps g)))

module _ (m : Meaning) (x : Facts) (ps : List (ℕ × ℕ)) where
  to_chosen : Distinct ps → Numbered m x ps → Chosen m x ps
  to_chosen d n = (
    look ps (member n.0),
    subst (λ (r : Rel). Holds m (with_order x ((x.order ∪ r)))) (added_chosen ps n.0 (look ps (member n.0)) (look_at ps d (member n.0))) n.2,
  )

  to_numbered : Chosen m x ps → Numbered m x ps
  to_numbered h =
      let g : Rel = h.0 in
      let f : ℕ → Bool = λ i. g (get_or ps i (0, 0)).0 (get_or ps i (0, 0)).1 in (
        number (length ps) f,
        number_below (length ps) f,
        subst (λ (r : Rel). Holds m (with_order x ((x.order ∪ r)))) (sym (added_chosen ps (number (length ps) f) g (number_bit (length ps) f))) h.1,
      )

-- one pair decided, and the rest
module _ (m : Meaning) (x : Facts) (ps : List (ℕ × ℕ)) (a b : ℕ) (here : in_list ps a b ≡ true) where
  decided : Bool → Facts
  decided s = with_order x (x.order ∪ edge_of (a, b) s)

  apart : (g : Rel) (s : Bool) → g a b ≡ s → (x.order ∪ chosen ps g) ≡ x.order ∪ edge_of (a, b) s ∪ chosen (without ps a b) g
  unfolding ◌∪◌
  apart g s e = fun_ext (λ u. fun_ext (λ v.
      ap (λ (t : Bool). x.order u v || t) (any_split ps a b (λ p. edge_of p (g p.0 p.1) u v) here)
      ∙ or_assoc (x.order u v) (edge_of (a, b) (g a b) u v) (chosen (without ps a b) g u v)
      ∙ ap (λ (t : Bool). (x.order u v || edge_of (a, b) t u v) || chosen (without ps a b) g u v) e))

  down : (h : Chosen m x ps) (s : Bool) → h.0 a b ≡ s → Chosen m (decided s) (without ps a b)
  unfolding decided
  down h s e = (h.0, subst (λ (r : Rel). Holds m (with_order x r)) (apart h.0 s e) h.1)

  up : (s : Bool) → Chosen m (decided s) (without ps a b) → Chosen m x ps
  unfolding decided
  up s h =
      let g : Rel = λ u v. cond (edge a b u v) s (h.0 u v) in
      let rest : chosen (without ps a b) h.0 ≡ chosen (without ps a b) g =
      fun_ext (λ u. fun_ext (λ v. any_rest ps a b (λ p. edge_of p (h.0 p.0 p.1) u v) (λ p. edge_of p (g p.0 p.1) u v)
      (λ p e. ap (λ (t : Bool). edge_of p t u v) (sym (cond-false (edge a b p.0 p.1) s (h.0 p.0 p.1) e))))) in (
        g,
        subst (λ (r : Rel). Holds m (with_order x r))
            (ap (λ (r : Rel). x.order ∪ edge_of (a, b) s ∪ r) rest ∙ sym (apart g s (cond-true (edge a b a b) s (h.0 a b) (edge_self a b))))
            h.1,
      )

-- which pairs a trial leaves open
not_either : (n o p s t : Bool) → t ≡ false → (n && (not (o || s) && not (p || t))) ≡ ((n && (not o && not p)) && not s)
not_either false o p s t e = refl
not_either true true p s t e = refl
not_either true false p true t e = sym (and_right (not p) false refl)
not_either true false true false t e = refl
not_either true false false false true e = absurd (false≢true (sym e))
not_either true false false false false e = refl

not_either_back : (n o p s t : Bool) → t ≡ false → (n && (not (o || t) && not (p || s))) ≡ ((n && (not o && not p)) && not s)
not_either_back false o p s t e = refl
not_either_back true true p s t e = refl
not_either_back true false p s true e = absurd (false≢true (sym e))
not_either_back true false true s false e = refl
not_either_back true false false s false e = refl

and_under : (l p q s : Bool) → (l ≡ true → p ≡ (q && not s)) → (l && p) ≡ ((l && q) && not s)
and_under true p q s h = h refl
and_under false p q s h = refl

module _ (m : Meaning) (x : Facts) (a b : ℕ) (l : a < b) where
  crossed : (u v : ℕ) → u < v → edge a b v u ≡ false
  crossed u v h = ⊎_elim (λ e. let i = edge_is a b v u e in absurd (omega arith)) (λ e. e) (cases_Bool (edge a b v u))

  left_forth : open_pairs m (tried x a b) ≡ without (open_pairs m x) a b
  unfolding ◌∪◌
  left_forth = rows_without (is_open m x) (is_open m (tried x a b)) a b
      (λ u v. and_under (ltb u v) (is_open m (tried x a b) u v) (is_open m x u v) (edge a b u v)
      (λ h. not_either (m.need x.threads x.events u v) (x.order u v) (x.order v u) (edge a b u v) (edge a b v u) (crossed u v (ltb-true u v h))))
      (length x.events) (length x.events)

  left_back : open_pairs m (tried x b a) ≡ without (open_pairs m x) a b
  unfolding ◌∪◌
  left_back = rows_without (is_open m x) (is_open m (tried x b a)) a b
      (λ u v. and_under (ltb u v) (is_open m (tried x b a) u v) (is_open m x u v) (edge a b u v)
      (λ h. ap (λ (t : Bool). m.need x.threads x.events u v && (not (x.order u v || edge b a u v) && not (x.order v u || t))) (and_swap (eqb v b) (eqb u a))
      ∙ not_either_back (m.need x.threads x.events u v) (x.order u v) (x.order v u) (edge a b u v) (edge b a u v)
      (and_swap (eqb u b) (eqb v a) ∙ crossed u v (ltb-true u v h))))
      (length x.events) (length x.events)

-- the pairs listed are the open ones
pub lists_open : (m : Meaning) → Lawful m → (x : Facts) → ListsOpen m x
lists_open m laws x a b = ⊎_elim
    (λ e. e ∙ sym (in_rows (is_open m x) (length x.events) (length x.events) a b e).2)
    (λ e. e ∙ sym (⊎_elim (λ t. absurd (both_ways (in_list (open_pairs m x) a b) e (there t))) (λ t. t) (cases_Bool (ltb a b && is_open m x a b))))
    (cases_Bool (in_list (open_pairs m x) a b))
  where
    there : (ltb a b && is_open m x a b) ≡ true → in_list (open_pairs m x) a b ≡ true
    there t =
        let open_both = and_parts (ltb a b) (is_open m x a b) t in
        let joins = laws.joinable x.threads x.events a b (and_parts (m.need x.threads x.events a b) _ open_both.1).0 in
        let both = and_parts (known x.events a) (known x.events b) (and_parts (both_known x.events a b) _ joins).0 in
        rows_in (is_open m x) (length x.events) (length x.events) a b (ltb-true a (length x.events) both.0) (ltb-true b (length x.events) both.1) t

module _ (m : Meaning) (x : Facts) (a b : ℕ) (here : in_list (open_pairs m x) a b ≡ true) (l : a < b) where
  apart_possible : Possible m x → Possible m (tried x a b) ⊎ Possible m (tried x b a)
  unfolding decided
  apart_possible p =
      let ps : List (ℕ × ℕ) = open_pairs m x in
      let h : Chosen m x ps = to_chosen m x ps (distinct_rows (is_open m x) (length x.events) (length x.events)) p in
      ⊎_elim
      (λ e. inr (subst (Numbered m (tried x b a)) (sym (left_back m x a b l)) (to_numbered m (tried x b a) (without ps a b) (down m x ps a b here h true e))))
      (λ e. inl (subst (Numbered m (tried x a b)) (sym (left_forth m x a b l)) (to_numbered m (tried x a b) (without ps a b) (down m x ps a b here h false e))))
      (cases_Bool (h.0 a b))

  whole_possible : (s : Bool) → open_pairs m (decided m x (open_pairs m x) a b here s) ≡ without (open_pairs m x) a b
      → Possible m (decided m x (open_pairs m x) a b here s) → Possible m x
  unfolding decided
  whole_possible s left p =
      let ps : List (ℕ × ℕ) = open_pairs m x in
      let y : Facts = decided m x ps a b here s in
      to_numbered m x ps (up m x ps a b here s (to_chosen m y (without ps a b)
      (subst Distinct left (distinct_rows (is_open m y) (length x.events) (length x.events))) (subst (Numbered m y) left p)))

pub splits : (m : Meaning) → Lawful m → (x : Facts) → Splits m x
unfolding decided
splits m laws x a b here =
    let ps : List (ℕ × ℕ) = open_pairs m x in
    let listed = in_rows (is_open m x) (length x.events) (length x.events) a b here in
    let both = and_parts (ltb a b) (is_open m x a b) listed.2 in
    let l : a < b = ltb-true a b both.0 in
    let needed = and_parts (m.need x.threads x.events a b) _ both.1 in
    let fresh = and_parts (not (x.order a b)) (not (x.order b a)) needed.1 in
    let forth = left_forth m x a b l in
    let back = left_back m x a b l in
    let one = one_fewer ps (distinct_rows (is_open m x) (length x.events) (length x.events)) a b here in
    let parts = apart_possible m x a b here l in
    let whole : Possible m (tried x a b) ⊎ Possible m (tried x b a) → Possible m x =
    ⊎_elim (whole_possible m x a b here l false forth) (whole_possible m x a b here l true back) in
    record {
      forth = laws.joinable x.threads x.events a b needed.0;
      back = laws.joinable x.threads x.events b a (sym (laws.symmetric x.threads x.events a b) ∙ needed.0);
      fresh = not-true _ fresh.0;
      fresh_back = not-true _ fresh.1;
      left_forth = forth;
      left_back = back;
      fewer = one;
      parts = parts;
      whole = whole;
    }
