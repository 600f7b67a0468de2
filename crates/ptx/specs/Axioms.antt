-- The six axioms of PTX. Assumes nothing.
use Rattle.std.specs.Prelude.{List, [], ◌∷◌, slice_index_or}
use Rattle.relation.specs.Algebra.{Rel, none, plus, ◌∪◌, ◌∩◌, ◌∖◌, ◌⨾◌}
use Rattle.execution.specs.Facts.{Facts}
use Rattle.execution.specs.Words.{rivals, co, fr, comm}
use Rattle.model.specs.Meaning.{Meaning}
use Rattle.model.specs.declared.axiom_kind.AxiomKind.{AxiomKind}
use Rattle.model.specs.declared.axiom_kind.AxiomKind.TheVariants.{Acyclic, Irreflexive, Empty}
use Rattle.ptx.specs.declared.flavour.Ptx.{Ptx}
use Rattle.ptx.specs.Ptx.{strong, poloc, cause, ptx_need}

-- co⁺ is the closure of coherence order
abbrev pub axioms : (rf_depend strong poloc atomic rivals co co⁺ fr comm cause : Rel) → List Rel
axioms rf_depend strong poloc atomic rivals co co⁺ fr comm cause =
    -- 0, acyclic: no value out of thin air
    rf_depend
    -- 1, acyclic: strong communication agrees with program order at each location
    ∷ ((strong ∩ comm) ∪ poloc)
    -- 2, empty: a strong write between the two events of an atomic step
    ∷ (((strong ∩ fr) ⨾ (strong ∩ co⁺)) ∩ atomic)
    -- 3, empty: causality between different writes to one address that coherence order does not have
    ∷ ((cause ∩ rivals) ∖ co⁺)
    -- 4, irreflexive: an event that causes itself, or that communicates to its cause
    ∷ (cause ∪ (comm ⨾ cause))
    -- 5, acyclic: coherence order
    ∷ co
    ∷ []

abbrev pub ptx_kinds : List AxiomKind
ptx_kinds = Acyclic ∷ Acyclic ∷ Empty ∷ Empty ∷ Irreflexive ∷ Acyclic ∷ []

abbrev pub ptx_axioms : Ptx → Facts → List Rel
ptx_axioms f x =
    axioms (x.rf ∪ x.depend) (strong f x.threads x.events) (poloc f x) x.atomic (rivals x.threads x.events) (co x) (plus (co x)) (fr x)
    (comm x) (cause f x)

abbrev pub ptx_meaning : Ptx → Meaning
ptx_meaning f = record { kinds = ptx_kinds; relation = λ x i. slice_index_or (ptx_axioms f x) i none; need = ptx_need f }
