use Rattle.std.proofs.Common.{arith, rules}
use Rattle.relation.proofs.Sets.{row_least}
use Rattle.relation.proofs.Readings.{lowest_says}
use Rattle.relation.proofs.Row.lowest.Goals as goal

pub returns : goal.returns
returns c =
    let e = row_least c.args.self c.is_empty.result c.then.result (omega arith) c.is_empty.ensures.none c.then.ensures.variant (search rules) in
    record { is = e; lowest = lowest_says c.args.self _ e }
