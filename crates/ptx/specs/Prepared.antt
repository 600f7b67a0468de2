-- The same relations by what was prepared for a sheet and laid out under an order. Assumes nothing.
use Rattle.std.specs.Prelude.{ℕ, List, Some, None, Option, slice_index_or}
use Rattle.relation.specs.Algebra.{Set, Rel, none, plus, ◌∪◌, ◌∩◌, ◌◁◌, ◌▷◌}
use Rattle.relation.specs.Meaning.{members, holds}
use Rattle.execution.specs.Readings.{co_by, fr_by}
use Rattle.ptx.specs.declared.crossing.Crossing.{Crossing}
use Rattle.ptx.specs.declared.basis.Basis.{Basis}
use Rattle.ptx.specs.declared.basis.Causality.{Causality}
use Rattle.ptx.specs.Kept.{departs, lands, crosses, kept_of}
use Rattle.ptx.specs.Ptx.{cause_of}
use Rattle.ptx.specs.Axioms.{axioms}

module _ (c : Crossing) (base : Rel) where
  -- generic events with themselves, and base pairs of one proxy and block between two sets
  abbrev pub fenced_by : Set → Set → Rel
  fenced_by first second = (members c.generic ◁ holds c.itself) ∪ (first ◁ (base ∩ holds c.together) ▷ second)

  abbrev pub departs_by : Rel
  departs_by = departs (members c.generic) (members c.other) (members c.fences) (holds c.together) (holds c.itself) base

  abbrev pub lands_by : Rel
  lands_by = lands (members c.generic) (members c.other) (members c.fences) (holds c.together) (holds c.itself) base

  abbrev pub crosses_by : Rel
  crosses_by = crosses (members c.generic) (members c.other) (members c.fences) (holds c.together) (holds c.itself) base

  abbrev pub kept_by : Rel
  kept_by =
      kept_of (members c.generic) (members c.other) (members c.fences) (holds c.together) (holds c.itself) base (members c.neither)

abbrev pub counted_by : Option Crossing → Rel → Rel
counted_by None base = base
counted_by (Some c) base = kept_by c base

-- the relations of the axioms, where c is the closure of coherence order
abbrev pub listed : Basis → (co c fr comm cause : Rel) → List Rel
listed b co c fr comm cause = axioms (holds b.thin_air) (holds b.strong) (holds b.poloc) (holds b.atomic) (holds b.rivals) co c fr comm cause

abbrev pub comm_by : Basis → Rel → Rel
comm_by b c = holds b.rf ∪ fr_by b.reading c ∪ c

abbrev pub base_by : Basis → Rel → Rel
base_by b o = plus (holds b.fixed ∪ (members b.fences ◁ o ▷ members b.fences))

abbrev pub cause_by : Basis → Rel → Rel
cause_by b o = cause_of (holds b.seen) (counted_by b.crossing (base_by b o))

abbrev pub listed_under : Basis → Rel → List Rel
listed_under b o =
    listed b (co_by b.reading o) (plus (co_by b.reading o)) (fr_by b.reading (plus (co_by b.reading o)))
    (comm_by b (plus (co_by b.reading o))) (cause_by b o)

abbrev pub yielded : Basis → Rel → ℕ → Rel
yielded b o i = slice_index_or (listed_under b o) i none

abbrev pub shown : Basis → Causality → ℕ → Rel
shown b l i =
    let c = l.coherence in
    slice_index_or (listed b (holds c.co) (holds c.co_plus) (holds c.fr) (holds l.comm) (holds l.cause)) i none
