-- What from-read rests on besides the order, and what it gives under one, as the code keeps them. Assumes nothing.
use Rattle.std.specs.Prelude.{◌≡◌}
use Rattle.relation.specs.Algebra.{Rel, inverse, plus, ◌∪◌, ◌∩◌, ◌⨾◌, ◌◁◌, ◌▷◌}
use Rattle.relation.specs.Meaning.{members, holds}
use Rattle.execution.specs.declared.reading.Reading.{Reading}
use Rattle.execution.specs.declared.reading.Coherence.{Coherence}
use Rattle.execution.specs.Facts.{Facts}
use Rattle.execution.specs.Words.{writes, near, near_unsourced}

-- each part is what it is called
pub record Reads (p : Reading) (x : Facts) : Type 0 where
  pub writes : members p.writes ≡ writes x
  pub near : holds p.near ≡ near x
  pub unsourced : holds p.unsourced ≡ near_unsourced x
  pub source : holds p.source ≡ inverse x.rf

-- coherence order under an order
abbrev pub co_by : Reading → Rel → Rel
co_by p o = members p.writes ◁ o ▷ members p.writes

-- from-read, where c is the closure of coherence order
abbrev pub fr_by : Reading → Rel → Rel
fr_by p c = holds p.unsourced ∪ (holds p.near ∩ (holds p.source ⨾ c))

-- each part under the order is what it is called
pub record Coheres (c : Coherence) (p : Reading) (o : Rel) : Type 0 where
  pub co : holds c.co ≡ co_by p o
  pub co_plus : holds c.co_plus ≡ plus (co_by p o)
  pub fr : holds c.fr ≡ fr_by p (plus (co_by p o))
