-- The relations that models share, as functions of what a model looks at. Assumes nothing.
use Rattle.std.specs.Prelude.{List}
use Rattle.relation.specs.Algebra.{Set, Rel, except, range, inverse, plus, ◌∪◌, ◌∩◌, ◌∖◌, ◌⨾◌, ◌◁◌, ◌▷◌}
use Rattle.sheet.specs.declared.row.Event.{Event}
use Rattle.sheet.specs.declared.row.Thread.{Thread}
use Rattle.execution.specs.declared.class.Class.TheVariants.{Read, Write, ScFence}
use Rattle.execution.specs.declared.tie.Tie.TheVariants.{Location, Itself}
use Rattle.execution.specs.Classes.{those}
use Rattle.execution.specs.Facts.{Facts}
use Rattle.execution.specs.Ties.{tied}

abbrev pub reads : Facts → Set
reads x = those x.events Read

abbrev pub writes : Facts → Set
writes x = those x.events Write

-- reads and writes of equal address
abbrev pub loc : Facts → Rel
loc x = tied x.threads x.events Location

-- different writes to one address
unfoldable pub rivals : List Thread → List Event → Rel
rivals ts es = (those es Write ◁ tied ts es Location ▷ those es Write) ∖ tied ts es Itself

-- coherence order: order between writes
abbrev pub co : Facts → Rel
co x = writes x ◁ x.order ▷ writes x

-- order between SC fences
abbrev pub sc : Facts → Rel
sc x = those x.events ScFence ◁ x.order ▷ those x.events ScFence

-- a read and a write of its address
abbrev pub near : Facts → Rel
near x = reads x ◁ loc x ▷ writes x

-- the same for the reads without a source
abbrev pub near_unsourced : Facts → Rel
near_unsourced x = except (reads x) (range x.rf) ◁ loc x ▷ writes x

-- from-read: a read before every write of its address that its source precedes, and before every one if it has no source
abbrev pub fr : Facts → Rel
fr x = near_unsourced x ∪ (near x ∩ (inverse x.rf ⨾ plus (co x)))

-- communication
abbrev pub comm : Facts → Rel
comm x = x.rf ∪ fr x ∪ plus (co x)
