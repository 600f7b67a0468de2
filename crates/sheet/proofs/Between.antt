-- Whether an event between two others is of the first's thread.
use Rattle.std.proofs.Common.{◌≡◌, ℕ, ◌+◌, ◌-◌, ◌<◌, ◌≤◌, ◌≢◌, Bool, true, false, not, ◌&&◌, ltb, List, length, get_or, drop, sym, refl, ap, ◌∙◌, arith, length-take, length-drop, ⊎_elim}
use Rattle.std.specs.Bool.{MatchBool}
use Rattle.std.specs.List.{slice_range, AllWithin, HoldsAt}
use Rattle.std.proofs.lemmas.List.{get_or-take, get_or-drop}
use Rattle.std.proofs.lemmas.Bool.{and_from, lt-ltb, le-ltb, eq-eqb, ne_eqb, cases_lt}
use Rattle.relation.specs.Algebra.{some_below}
use Rattle.relation.proofs.Below.{some_from, some_none}
use Rattle.sheet.specs.declared.row.Event.{Event}
use Rattle.sheet.specs.Rules.{at, no_event, same_thread}

module _ (es : List Event) (i j : ℕ) (l : j ≤ length es) where
  between-length : length (slice_range es (i + 1) j) ≡ j - (i + 1)
  between-length = omega (arith, length-take (j - (i + 1)) (drop (i + 1) es), length-drop (i + 1) es)

  between-at : (k : ℕ) → k < j - (i + 1) → get_or (slice_range es (i + 1) j) k no_event ≡ at es (i + 1 + k)
  between-at k h = get_or-take (j - (i + 1)) (drop (i + 1) es) k no_event h ∙ get_or-drop (i + 1) es k no_event

  pub none_between : (r : Bool) → MatchBool r (AllWithin (λ e. e.thread ≢ (at es i).thread) (slice_range es (i + 1) j) 0 (length (slice_range es (i + 1) j)))
      ((k : ℕ) × (k < length (slice_range es (i + 1) j)) × HoldsAt (λ e. e.thread ≡ (at es i).thread) (slice_range es (i + 1) j) k)
      → r ≡ not (some_below j (λ k. ltb i k && same_thread (at es i) (at es k)))
  none_between true f = ap not (sym (some_none j _ none))
    where
      none : (m : ℕ) → m < j → (ltb i m && same_thread (at es i) (at es m)) ≡ false
      none m h =
          ⊎_elim
          (λ (g : i < m).
          let k : m - (i + 1) < j - (i + 1) = omega arith in
          let e : get_or (slice_range es (i + 1) j) (m - (i + 1)) no_event ≡ at es m = between-at (m - (i + 1)) k ∙ ap (at es) (omega arith) in
          rw (lt-ltb i m g) (ne_eqb _ _ (λ q. f (m - (i + 1)) no_event (omega arith) (omega (arith, between-length)) (ap (λ x. x.thread) e ∙ sym q))))
          (λ (g : m ≤ i). rw (le-ltb i m g) refl)
          (cases_lt i m)
  none_between false f =
      let k = f.0 in
      let h : k < j - (i + 1) = omega (arith, between-length, f.1) in
      let e : (at es (i + 1 + k)).thread ≡ (at es i).thread = ap (λ x. x.thread) (sym (between-at k h)) ∙ f.2 no_event in
      ap not (sym (some_from j _ (i + 1 + k) (omega arith) (and_from _ _ (lt-ltb i (i + 1 + k) (omega arith)) (eq-eqb _ _ (sym e)))))
