-- The same two relations, by what was prepared for a sheet and laid out under an order. Assumes nothing.
use Rattle.std.specs.Prelude.{ℕ, [], ◌∷◌, slice_index_or}
use Rattle.relation.specs.Algebra.{Rel, none, plus, ◌∪◌, ◌∩◌, ◌⨾◌}
use Rattle.relation.specs.Meaning.{holds}
use Rattle.execution.specs.declared.reading.Coherence.{Coherence}
use Rattle.execution.specs.Readings.{co_by, fr_by}
use Rattle.sc.specs.declared.basis.Basis.{Basis}

-- under an order, where c is the closure of coherence order
abbrev pub under : Basis → Rel → Rel → ℕ → Rel
under b o c i =
    slice_index_or ((holds b.fixed ∪ co_by b.reading o ∪ fr_by b.reading c) ∷ ((fr_by b.reading c ⨾ c) ∩ holds b.atomic) ∷ []) i none

abbrev pub yielded : Basis → Rel → ℕ → Rel
yielded b o i = under b o (plus (co_by b.reading o)) i

abbrev pub shown : Basis → Coherence → ℕ → Rel
shown b l i =
    slice_index_or ((holds b.fixed ∪ holds l.co ∪ holds l.fr) ∷ ((holds l.fr ⨾ holds l.co_plus) ∩ holds b.atomic) ∷ []) i none
