-- What a memory model means: numbered axioms, each a relation and what is asked of it, and which pairs need an order. Assumes nothing.
use Rattle.std.specs.Prelude.{◌≡◌, ℕ, zero, suc, ◌≤◌, Bool, true, ◌&&◌, List, [], ◌∷◌, length}
use Rattle.relation.specs.Algebra.{Rel, none}
use Rattle.sheet.specs.Book.{both_known}
use Rattle.sheet.specs.Rules.{carries}
use Rattle.sheet.specs.declared.row.Event.{Event}
use Rattle.sheet.specs.declared.row.Thread.{Thread}
use Rattle.sheet.specs.declared.calls.Edge.TheVariants.{Order}
use Rattle.execution.specs.Facts.{Facts, Sound}
use Rattle.execution.specs.Joins.{Joins}
use Rattle.model.specs.declared.axiom_kind.AxiomKind.{AxiomKind}
use Rattle.model.specs.declared.axiom_kind.AxiomKind.TheVariants.{Empty}

-- the kinds of the axioms are fixed; need rests on threads and events alone
pub record Meaning : Type 0 where
  pub kinds : List AxiomKind
  pub relation : Facts → ℕ → Rel
  pub need : List Thread → List Event → Rel

-- the kind of each axiom, by number; past the last one, empty
abbrev pub kind_at : List AxiomKind → ℕ → AxiomKind
kind_at [] i = Empty
kind_at (k ∷ ks) zero = k
kind_at (k ∷ ks) (suc i) = kind_at ks i

-- an order edge could stand between events a and b
abbrev pub orderable : List Event → ℕ → ℕ → Bool
orderable es a b = both_known es a b && carries es Order a b

-- what every model shows of its meaning
pub record Lawful (m : Meaning) : Type 0 where
  -- at most eight axioms
  pub few : length m.kinds ≤ 8
  -- past the axioms nothing is related
  pub past : (x : Facts) (i : ℕ) → length m.kinds ≤ i → m.relation x i ≡ none
  -- where program order and edges join the sheet's events, so does each relation
  pub among : (x : Facts) → Sound x → (i : ℕ) → Joins x.events (m.relation x i)
  -- need goes both ways
  pub symmetric : (ts : List Thread) (es : List Event) (a b : ℕ) → m.need ts es a b ≡ m.need ts es b a
  -- need joins only events that an order edge could join
  pub joinable : (ts : List Thread) (es : List Event) (a b : ℕ) → m.need ts es a b ≡ true → orderable es a b ≡ true
