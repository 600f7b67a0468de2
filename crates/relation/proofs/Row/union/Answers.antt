use Rattle.std.proofs.Common.{refl}
use Rattle.relation.proofs.Sets.{row_or}
use Rattle.relation.proofs.Row.union.Goals as goal

pub returns : goal.returns
returns c = row_or c.args.self c.args.other _ refl
