-- Edge sets by their sorts.
use Rattle.std.proofs.Common.{◌≡◌, cond, ◌∙◌}
use mathlib.Core.Path.{fun_ext}
use Rattle.relation.specs.declared.Relation.{Relation}
use Rattle.relation.specs.Algebra.{Rel}
use Rattle.relation.specs.Meaning.{holds}
use Rattle.sheet.specs.declared.calls.Edge.{Edge}
use Rattle.sheet.specs.declared.calls.Edge.TheVariants.{ReadFrom, Order, Atomic, Depend}
use Rattle.sheet.specs.declared.edges.Edges.{Edges}
use Rattle.sheet.specs.Lending.{with_sort}
use Rattle.sheet.specs.Sets.{EdgeSets, laid, same_edge}

-- two edge sets that agree at each sort are equal
pub same_sets : (s t : EdgeSets) → s ReadFrom ≡ t ReadFrom → s Order ≡ t Order → s Atomic ≡ t Atomic → s Depend ≡ t Depend → s ≡ t
same_sets s t a b c d = fun_ext each
  where
    each : (k : Edge) → s k ≡ t k
    each ReadFrom = a
    each Order = b
    each Atomic = c
    each Depend = d

-- edges of which one sort was changed, as sets
pub laid_changed : (g : Rel → Rel) (t : Edges) (e : Edge) (r : Relation) (s : EdgeSets) → holds r ≡ g (laid t e) → ((k : Edge) → cond (same_edge e k) (g (laid t k)) (laid t k) ≡ s k)
    → laid (with_sort t e r) ≡ s
laid_changed g t ReadFrom r s h f = same_sets _ _ (h ∙ f ReadFrom) (f Order) (f Atomic) (f Depend)
laid_changed g t Order r s h f = same_sets _ _ (f ReadFrom) (h ∙ f Order) (f Atomic) (f Depend)
laid_changed g t Atomic r s h f = same_sets _ _ (f ReadFrom) (f Order) (h ∙ f Atomic) (f Depend)
laid_changed g t Depend r s h f = same_sets _ _ (f ReadFrom) (f Order) (f Atomic) (h ∙ f Depend)
