-- Edges of which one sort is lent. Assumes nothing.
use Rattle.std.specs.Borrow.{Lends, MutBor, Fml}
use Rattle.relation.specs.declared.Relation.{Relation}
use Rattle.relation.specs.contracts.Relation.{the_row as relation_row}
use Rattle.sheet.specs.declared.calls.Edge.{Edge}
use Rattle.sheet.specs.declared.calls.Edge.TheVariants.{ReadFrom, Order, Atomic, Depend}
use Rattle.sheet.specs.declared.edges.Edges.{Edges}
use Rattle.sheet.specs.contracts.edges.Edges.{the_row}

-- edges with those of one sort set to r
abbrev pub with_sort : Edges → Edge → Relation → Edges
with_sort t ReadFrom r = record t { read_from = r }
with_sort t Order r = record t { order = r }
with_sort t Atomic r = record t { atomic = r }
with_sort t Depend r = record t { depend = r }

-- the edges end with those of the sort e as they were last left behind r
abbrev pub LendsSort : MutBor Edges → Edge → MutBor Relation → Fml
LendsSort s e r = Lends the_row relation_row s r (with_sort s.now e)
