-- Which events a tie joins.
use Rattle.std.proofs.Common.{◌≡◌, ℕ, ◌<◌, ◌≤◌, min, Bool, true, false, ◌&&◌, ltb, List, length, sym, refl, ap, ◌∙◌, arith}
use mathlib.Core.Path.{fun_ext}
use Rattle.std.proofs.Math.Bool.{and-false}
use Rattle.std.proofs.lemmas.Bool.{lt-ltb, le-ltb}
use Rattle.relation.specs.Algebra.{Rel, cut, upto}
use Rattle.sheet.specs.Rules.{at}
use Rattle.sheet.specs.declared.row.Event.{Event}
use Rattle.sheet.specs.declared.row.Thread.{Thread}
use Rattle.execution.specs.declared.class.Class.{Class}
use Rattle.execution.specs.declared.tie.Tie.{Tie}
use Rattle.execution.specs.Classes.{in_class, those}
use Rattle.execution.specs.Ties.{ties, tied}

pub cut_at : (n : ℕ) (p : Rel) (a b : ℕ) → a < n → b < n → p a b ≡ cut n p a b
unfolding cut
cut_at n p a b l m = let x = lt-ltb a n l in let y = lt-ltb b n m in rw (x, y) refl

pub cut_first : (n : ℕ) (p : Rel) (a b : ℕ) → n ≤ a → false ≡ cut n p a b
unfolding cut
cut_first n p a b l = let x = le-ltb a n l in rw x refl

pub cut_second : (n : ℕ) (p : Rel) (a b : ℕ) → n ≤ b → false ≡ cut n p a b
unfolding cut
cut_second n p a b l = let x = le-ltb b n l in rw x (sym (and-false (ltb a n)))

module _ (ts : List Thread) (es : List Event) (t : Tie) (a b : ℕ) where
  pub tied_at : a < length es → b < length es → ties t ts a (at es a) b (at es b) ≡ tied ts es t a b
  unfolding tied
  tied_at = cut_at (length es) (λ i j. ties t ts i (at es i) j (at es j)) a b

  pub tied_first : length es ≤ a → false ≡ tied ts es t a b
  unfolding tied
  tied_first = cut_first (length es) (λ i j. ties t ts i (at es i) j (at es j)) a b

  pub tied_second : length es ≤ b → false ≡ tied ts es t a b
  unfolding tied
  tied_second = cut_second (length es) (λ i j. ties t ts i (at es i) j (at es j)) a b

module _ (es : List Event) (c : Class) (a : ℕ) where
  pub those_at : a < length es → in_class c (at es a) ≡ those es c a
  unfolding those upto
  those_at l = let x = lt-ltb a (length es) l in rw x refl

  pub those_past : length es ≤ a → false ≡ those es c a
  unfolding those upto
  those_past l = let x = le-ltb a (length es) l in rw x refl

-- a table of the events of a sheet is one of all
and_again : (s t u : Bool) → (s && (t && (s && (t && u)))) ≡ (s && (t && u))
and_again true true u = refl
and_again true false u = refl
and_again false t u = refl

pub cut_cut : (n : ℕ) (p : Rel) → cut n (cut n p) ≡ cut n p
unfolding cut
cut_cut n p = fun_ext (λ a. fun_ext (λ b. and_again (ltb a n) (ltb b n) (p a b)))

pub tied_whole : (ts : List Thread) (es : List Event) (t : Tie) → length es ≤ 64 → cut (min (length es) 64) (tied ts es t) ≡ tied ts es t
unfolding tied
tied_whole ts es t h =
    let m : min (length es) 64 ≡ length es = omega arith in
    ap (λ n. cut n (cut (length es) (λ a b. ties t ts a (at es a) b (at es b)))) m ∙ cut_cut (length es) _
