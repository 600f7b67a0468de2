-- Sequential consistency. Assumes nothing.
use Rattle.std.specs.Prelude.{ℕ, List, [], ◌∷◌, slice_index_or}
use Rattle.relation.specs.Algebra.{Rel, none, plus, ◌∪◌, ◌∩◌, ◌⨾◌}
use Rattle.execution.specs.Facts.{Facts}
use Rattle.execution.specs.Words.{rivals, co, fr}
use Rattle.model.specs.Meaning.{Meaning}
use Rattle.model.specs.declared.axiom_kind.AxiomKind.{AxiomKind}
use Rattle.model.specs.declared.axiom_kind.AxiomKind.TheVariants.{Acyclic, Empty}

-- 0, acyclic: program order and communication
abbrev pub sequence : Facts → Rel
sequence x = x.po ∪ x.rf ∪ co x ∪ fr x

-- 1, empty: a write between the two events of an atomic step
abbrev pub torn : Facts → Rel
torn x = (fr x ⨾ plus (co x)) ∩ x.atomic

abbrev pub sc_kinds : List AxiomKind
sc_kinds = Acyclic ∷ Empty ∷ []

abbrev pub sc_relation : Facts → ℕ → Rel
sc_relation x i = slice_index_or (sequence x ∷ torn x ∷ []) i none

-- different writes to one address need an order
abbrev pub sc_meaning : Meaning
sc_meaning = record { kinds = sc_kinds; relation = sc_relation; need = rivals }
