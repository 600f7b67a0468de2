-- The edges of one sort.
use Rattle.std.proofs.Common.{◌≡◌, ap, ◌∙◌}
use Rattle.relation.specs.Algebra.{Rel}
use Rattle.sheet.specs.Sets.{EdgeSets}
use Rattle.sheet.specs.declared.calls.Edge.{Edge}

pub edges_at : {r : Rel} {s t : EdgeSets} (e : Edge) → r ≡ s e → s ≡ t → r ≡ t e
edges_at e p q = p ∙ ap (λ (u : EdgeSets). u e) q
