-- The view layer over a model. Assumes nothing.
use Rattle.std.specs.Prelude.{◌≡◌, Bool, true, List}
use Rattle.relation.specs.Algebra.{Rel, ◌∪◌, ◌∩◌, ◌◁◌, ◌▷◌}
use Rattle.sheet.specs.Rules.{every, generic}
use Rattle.sheet.specs.declared.row.Event.{Event}
use Rattle.execution.specs.declared.class.Class.TheVariants.{Generic, ProxyFence}
use Rattle.execution.specs.declared.tie.Tie.TheVariants.{SameProxy}
use Rattle.execution.specs.Classes.{those}
use Rattle.execution.specs.Facts.{Facts, with_po, with_order}
use Rattle.execution.specs.Joins.{Joins}
use Rattle.execution.specs.Ties.{tied}
use Rattle.model.specs.Meaning.{Meaning}

-- pairs of equal proxy, and pairs of program order of a generic event and then a proxy fence
abbrev pub passed : Facts → Rel
passed x = tied x.threads x.events SameProxy ∪ (those x.events Generic ◁ x.po ▷ those x.events ProxyFence)

-- what the layer hands down: program order cut to these pairs, and all else as it is
abbrev pub seen : Facts → Facts
seen x = with_po x (x.po ∩ passed x)

-- the layer over a model
abbrev pub viewed : Meaning → Meaning
viewed m = record { kinds = m.kinds; relation = λ x. m.relation (seen x); need = m.need }

-- every event is generic
abbrev pub all_generic : List Event → Bool
all_generic es = every (λ e. generic e.proxy) es

-- two meanings are the same of an execution, under whichever order: kinds, need and relations
pub record SameMeaning (m n : Meaning) (x : Facts) : Type 0 where
  pub kinds : m.kinds ≡ n.kinds
  pub need : m.need x.threads x.events ≡ n.need x.threads x.events
  pub relation : (o : Rel) → m.relation (with_order x o) ≡ n.relation (with_order x o)

-- the layer over m means the same as m wherever every event is generic
abbrev pub Transparent : Meaning → Type 0
Transparent m = (x : Facts) → Joins x.events x.po → all_generic x.events ≡ true → SameMeaning (viewed m) m x
