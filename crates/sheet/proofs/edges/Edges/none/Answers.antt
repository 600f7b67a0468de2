use Rattle.sheet.specs.Sets.{no_edges}
use Rattle.sheet.proofs.Sets.{same_sets}
use Rattle.sheet.proofs.edges.Edges.none.Goals as goal

pub returns : goal.returns
unfolding no_edges
returns c = same_sets _ _ c.empty.ensures c.empty-2.ensures c.empty-3.ensures c.empty-4.ensures
