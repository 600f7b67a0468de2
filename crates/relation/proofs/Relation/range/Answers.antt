use Rattle.std.proofs.Common.{rules}
use Rattle.relation.specs.Meaning.{holds}
use Rattle.relation.proofs.Readings.{range_says}
use Rattle.relation.proofs.Relation.range.Goals as goal

pub returns : goal.returns
returns c =
    let e = c.joined.ensures (holds c.args.self.now) (λ i row l h. search rules) in
    record { is = e; member = range_says c.args.self.now _ e }
