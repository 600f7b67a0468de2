-- Which pairs of base causality order count where proxies matter. Assumes nothing.
use Rattle.std.specs.Prelude.{List}
use Rattle.relation.specs.Algebra.{Set, Rel, ◌∪◌, ◌∩◌, ◌⨾◌, ◌◁◌, ◌▷◌}
use Rattle.sheet.specs.declared.row.Event.{Event}
use Rattle.sheet.specs.declared.row.Thread.{Thread}
use Rattle.execution.specs.declared.class.Class.TheVariants.{Generic, NonGeneric, NonAccess, ProxyFence}
use Rattle.execution.specs.declared.tie.Tie.TheVariants.{SameProxy, SameBlock, Itself}
use Rattle.execution.specs.Classes.{those}
use Rattle.execution.specs.Ties.{tied}

-- generic events, other events, proxy fences, events of one proxy and one block, an event with itself, and the base pairs
module _ (generic other fences : Set) (together itself base : Rel) where
  -- where X starts: at itself if it is generic, else at a proxy fence of its proxy and block that comes after it
  unfoldable pub departs : Rel
  departs = (generic ◁ itself) ∪ (other ◁ (base ∩ together) ▷ fences)

  -- where Y is landed on from: itself if it is generic, else a proxy fence of its proxy and block that comes before it
  unfoldable pub lands : Rel
  lands = (generic ◁ itself) ∪ (fences ◁ (base ∩ together) ▷ other)

  -- a start and a landing that are one, or in this order
  unfoldable pub crosses : Rel
  crosses = (departs ⨾ lands) ∪ (departs ⨾ base ⨾ lands)

  -- a base pair is kept if one of its events is no read or write, if both have one proxy and one block, or if it crosses
  unfoldable pub kept_of : Set → Rel
  kept_of neither = (neither ◁ base) ∪ (base ▷ neither) ∪ (base ∩ together) ∪ (base ∩ crosses)

-- the kept pairs of base among the events of a sheet
abbrev pub kept : List Thread → List Event → Rel → Rel
kept ts es base =
    kept_of (those es Generic) (those es NonGeneric) (those es ProxyFence) (tied ts es SameProxy ∩ tied ts es SameBlock) (tied ts es Itself) base
    (those es NonAccess)
