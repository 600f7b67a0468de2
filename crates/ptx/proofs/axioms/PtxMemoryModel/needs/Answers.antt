use Rattle.std.proofs.Common.{rules}
use Rattle.relation.specs.Algebra.{◌∪◌, ◌∩◌}
use Rattle.ptx.specs.Ptx.{ptx_need}
use Rattle.ptx.proofs.axioms.PtxMemoryModel.needs.Goals as goal

pub returns : goal.returns
unfolding ptx_need ◌∪◌ ◌∩◌
returns c = search rules
