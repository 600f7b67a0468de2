use Rattle.std.proofs.Common.{arith}
use Rattle.relation.proofs.Sets.{row_vacant}
use Rattle.relation.proofs.Readings.{nothing_says}
use Rattle.relation.proofs.Row.is_empty.Goals as goal

pub returns : goal.returns
returns c =
    let e = row_vacant c.args.self (omega arith) in
    record { is = e; none = nothing_says c.args.self _ e }
