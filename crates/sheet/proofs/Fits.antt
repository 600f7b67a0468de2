-- Rows that fit stay so where another comes behind them.
use Rattle.std.proofs.Common.{◌≡◌, ℕ, ◌+◌, ◌<◌, ◌≤◌, Bool, true, ◌&&◌, ltb, ◌≢◌, List, length, get_or, take, set, sym, ap, ◌∙◌, ap₂, ⊎_elim, arith}
use Rattle.std.proofs.lemmas.List.{take-set-le, get_or-set_same, get_or-set_other, get_or-take, get_or_read}
use Rattle.std.proofs.lemmas.Bool.{and_parts, and_from, ltb-true, lt-ltb, cases_eq}
use Rattle.sheet.specs.declared.row.Event.{Event}
use Rattle.sheet.specs.Rules.{at, no_event, lawful}
use Rattle.sheet.specs.Fitting.{EventsFit, event_comes, sized}

module _ {X : Type 0} (P : List X → X → Bool) (d : X) where
  -- what is written behind the first m does not matter to them
  pub fit_set : (xs : List X) (n m : ℕ) (x : X) → m ≤ n → ((k : ℕ) → k < m → P (take k xs) (get_or xs k d) ≡ true)
      → (k : ℕ) → k < m → P (take k (set xs n x)) (get_or (set xs n x) k d) ≡ true
  fit_set xs n m x l f k h =
      let ne : k ≢ n = omega arith in
      ap₂ P (take-set-le k xs n x (omega arith)) (get_or-set_other xs n k x d ne) ∙ f k h

  -- one more
  pub fit_more : (xs : List X) (n : ℕ) (x : X) → n < length xs → P (take n xs) x ≡ true → ((k : ℕ) → k < n → P (take k xs) (get_or xs k d) ≡ true)
      → (k : ℕ) → k < n + 1 → P (take k (set xs n x)) (get_or (set xs n x) k d) ≡ true
  fit_more xs n x l p f k h =
      ⊎_elim
      (λ (e : k ≡ n). ap (λ m. P (take m (set xs n x)) (get_or (set xs n x) m d)) e ∙ ap₂ P (take-set-le n xs n x (omega arith)) (get_or-set_same xs n x d l) ∙ p)
      (λ (ne : k ≢ n). fit_set xs n n x (omega arith) f k (omega arith))
      (cases_eq k n)

-- more threads do not hurt an event
pub more_threads : (m : ℕ) (es : List Event) (n : ℕ) → EventsFit m es n → EventsFit (m + 1) es n
unfolding event_comes
more_threads m es n f k h =
    let p = and_parts (ltb (get_or es k no_event).thread m) (lawful (get_or es k no_event) && sized (get_or es k no_event)) (f k h) in
    and_from _ _ (lt-ltb (get_or es k no_event).thread (m + 1) (omega (arith, ltb-true _ _ p.0))) p.1

-- an event that was read from the table is that of the sheet
pub event_read : (es : List Event) (n i : ℕ) (e : Event) → i < n → n ≤ length es → e ≡ get_or es i e → e ≡ at (take n es) i
event_read es n i e l m r = get_or_read es i e (omega arith) r no_event ∙ sym (get_or-take n es i no_event l)
