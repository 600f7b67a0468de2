use Rattle.std.proofs.Common.{refl}
use Rattle.relation.proofs.Sets.{row_and}
use Rattle.relation.proofs.Row.intersection.Goals as goal

pub returns : goal.returns
returns c = row_and c.args.self c.args.other _ refl
