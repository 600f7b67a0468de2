use Rattle.std.proofs.Common.{refl}
use Rattle.relation.proofs.Sets.{row_empty}
use Rattle.relation.proofs.Row.empty.Goals as goal

pub returns : goal.returns
returns c = row_empty _ refl
