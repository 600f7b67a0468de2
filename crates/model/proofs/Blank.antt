-- Rows that are blank.
use Rattle.std.proofs.Common.{◌≡◌, ℕ, ◌≤◌, Bool, true, false, List, length, refl, ap, arith}
use mathlib.Core.Path.{fun_ext}
use Rattle.std.proofs.lemmas.Bool.{and_parts, ltb-true}
use Rattle.relation.specs.Algebra.{Rel, none, nothing}
use Rattle.sheet.specs.Book.{known}
use Rattle.sheet.specs.declared.row.Event.{Event}
use Rattle.execution.specs.Facts.{Facts, Sound}
use Rattle.execution.specs.Joins.{Joins}
use Rattle.model.specs.Meaning.{Meaning, Lawful}

pub past_blank : (m : Meaning) → Lawful m → (x : Facts) (i a : ℕ) → length m.kinds ≤ i → m.relation x i a ≡ nothing
unfolding none nothing
past_blank m laws x i a h = ap (λ (r : Rel). r a) (laws.past x i h)

joined_blank : (es : List Event) (r : Rel) → Joins es r → (a : ℕ) → length es ≤ a → r a ≡ nothing
unfolding nothing
joined_blank es r j a h = fun_ext (λ b. go b (r a b) refl)
  where
    go : (b : ℕ) (t : Bool) → r a b ≡ t → t ≡ false
    go b false e = refl
    go b true e = let l = ltb-true a (length es) (and_parts (known es a) (known es b) (j a b e)).0 in absurd (omega arith)

pub absent_blank : (m : Meaning) → Lawful m → (x : Facts) → Sound x → (i a : ℕ) → length x.events ≤ a → m.relation x i a ≡ nothing
absent_blank m laws x s i a h = joined_blank x.events (m.relation x i) (laws.among x s i) a h
