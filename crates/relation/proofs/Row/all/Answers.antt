use Rattle.std.proofs.Common.{refl}
use Rattle.relation.proofs.Sets.{row_all}
use Rattle.relation.proofs.Row.all.Goals as goal

pub returns : goal.returns
returns c = row_all _ refl
