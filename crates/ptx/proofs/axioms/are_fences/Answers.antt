use Rattle.std.proofs.Common.{rules}
use Rattle.relation.specs.Algebra.{◌∖◌}
use Rattle.ptx.specs.Ptx.{product, fence_pairs}
use Rattle.ptx.proofs.axioms.are_fences.Goals as goal

pub returns : goal.returns
unfolding fence_pairs product ◌∖◌
returns c = search rules
