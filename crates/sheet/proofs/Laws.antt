-- What the rows of the table make of a call.
use Rattle.std.proofs.Common.{◌≡◌, ℕ, ◌<◌, Bool, true, false, cond, List, length, Some, None, Ok, Err, Option, sym, refl, ap, ◌∙◌, arith}
use Rattle.std.proofs.lemmas.Bool.{and_parts, ltb-true, true≢false}
use Rattle.relation.specs.Algebra.{none}
use Rattle.sheet.specs.declared.row.Event.{Event}
use Rattle.sheet.specs.declared.calls.Edge.{Edge}
use Rattle.sheet.specs.declared.calls.Refusal.{Refusal}
use Rattle.sheet.specs.declared.calls.Refusal.TheVariants.{Absent, Full, BadField, CannotCarry, ValuesDiffer, Given}
use Rattle.sheet.specs.declared.calls.Call.{Call}
use Rattle.sheet.specs.Book.{Book, absent, full, bad_field, cannot_carry, differ, there, refusal, after, accepted, given, known, both_known}
use Rattle.sheet.specs.Fitting.{EdgesFit, OneSource, OneWay}
use Rattle.sheet.specs.Sets.{EdgeSets, no_edges}

module _ (b : Book) (c : Call) where
  pub row_1 : absent b c ≡ true → refusal b c ≡ Some Absent
  unfolding refusal
  row_1 h = rw h refl

  pub row_2 : absent b c ≡ false → full b c ≡ true → refusal b c ≡ Some Full
  unfolding refusal
  row_2 h i = rw (h, i) refl

  pub row_3 : absent b c ≡ false → full b c ≡ false → bad_field b c ≡ true → refusal b c ≡ Some BadField
  unfolding refusal
  row_3 h i j = rw (h, i, j) refl

  pub row_4 : absent b c ≡ false → full b c ≡ false → bad_field b c ≡ false → cannot_carry b c ≡ true → refusal b c ≡ Some CannotCarry
  unfolding refusal
  row_4 h i j k = rw (h, i, j, k) refl

  pub row_5 : absent b c ≡ false → full b c ≡ false → bad_field b c ≡ false → cannot_carry b c ≡ false → differ b c ≡ true → refusal b c ≡ Some ValuesDiffer
  unfolding refusal
  row_5 h i j k l = rw (h, i, j, k, l) refl

  pub row_6 : absent b c ≡ false → full b c ≡ false → bad_field b c ≡ false → cannot_carry b c ≡ false → differ b c ≡ false → there b c ≡ true
      → refusal b c ≡ Some Given
  unfolding refusal
  row_6 h i j k l m = rw (h, i, j, k, l, m) refl

  pub no_row : absent b c ≡ false → full b c ≡ false → bad_field b c ≡ false → cannot_carry b c ≡ false → differ b c ≡ false → there b c ≡ false
      → refusal b c ≡ None
  unfolding refusal
  no_row h i j k l m = rw (h, i, j, k, l, m) refl

-- a refused call
pub refuses : {X : Type 0} (b : Book) (c : Call) (r : Refusal) (x : X) → refusal b c ≡ Some r → (Err r ≡ given (refusal b c) x) × (b ≡ after b c)
unfolding after
refuses b c r x e = (rw e refl, rw e refl)

-- an accepted call
pub accepts : {X : Type 0} (b : Book) (c : Call) (x : X) → refusal b c ≡ None → (Ok x ≡ given (refusal b c) x) × (accepted b c ≡ after b c)
unfolding after
accepts b c x e = (rw e refl, rw e refl)

pass : (t : Bool) (r : Refusal) (o : Option Refusal) → cond t (Some r) o ≡ None → (t ≡ false) × (o ≡ None)
pass true r o e = let z : ◌≡◌ {A = ℕ} 0 1 = cc in absurd (omega arith)
pass false r o e = (refl, e)

-- an accepted call passed every row
pub passed : (b : Book) (c : Call) → refusal b c ≡ None
    → (absent b c ≡ false) × (full b c ≡ false) × (bad_field b c ≡ false) × (cannot_carry b c ≡ false) × (differ b c ≡ false) × (there b c ≡ false)
unfolding refusal
passed b c h =
    let p1 = pass (absent b c) Absent _ h in
    let p2 = pass (full b c) Full _ p1.1 in
    let p3 = pass (bad_field b c) BadField _ p2.1 in
    let p4 = pass (cannot_carry b c) CannotCarry _ p3.1 in
    let p5 = pass (differ b c) ValuesDiffer _ p4.1 in
    let p6 = pass (there b c) Given _ p5.1 in
    (p1.0, p2.0, p3.0, p4.0, p5.0, p6.0)

pub given_none : {X : Type 0} (o : Option Refusal) (x : X) → Ok x ≡ given o x → o ≡ None
given_none None x e = refl
given_none (Some r) x e = let z : ◌≡◌ {A = ℕ} 0 1 = cc in absurd (omega arith)

pub given_some : {X : Type 0} (o : Option Refusal) (x : X) (r : Refusal) → Err r ≡ given o x → o ≡ Some r
given_some None x r e = let z : ◌≡◌ {A = ℕ} 0 1 = cc in absurd (omega arith)
given_some (Some s) x r e = cc

-- ---- no edges

no_edge : (s : EdgeSets) → s ≡ no_edges → (e : Edge) (i j : ℕ) → s e i j ≡ true → ⊥
unfolding no_edges none
no_edge s q e i j h = true≢false (sym h ∙ ap (λ (t : EdgeSets). t e i j) q)

pub blank_fits : (es : List Event) (s : EdgeSets) → s ≡ no_edges → EdgesFit es s
blank_fits es s q p h = absurd (no_edge s q p.0 p.1 p.2 h)

pub blank_one_source : (s : EdgeSets) → s ≡ no_edges → OneSource s
blank_one_source s q p h k = absurd (no_edge s q _ p.0 p.2 h)

pub blank_one_way : (s : EdgeSets) → s ≡ no_edges → OneWay s
blank_one_way s q i j h = absurd (no_edge s q _ i j h)

-- ---- events that there are

-- two events that the sheet knows
pub known_both : (es : List Event) (i j : ℕ) → both_known es i j ≡ true → (i < length es) × (j < length es)
known_both es i j h =
    let p = and_parts (known es i) (known es j) h in
    (ltb-true _ _ p.0, ltb-true _ _ p.1)
