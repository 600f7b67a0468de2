use Rattle.std.proofs.Common.{rules}
use Rattle.relation.specs.Meaning.{holds}
use Rattle.relation.specs.Algebra.{◌⨾◌}
use Rattle.relation.proofs.Relations.{then_row, then_starts}
use Rattle.relation.proofs.Readings.{then_says}
use Rattle.relation.proofs.Relation.then.Goals as goal

pub returns : goal.returns
returns c =
    let e = c.by_rows.ensures (holds c.args.self.now ⨾ holds c.args.next.now) (λ i row l h. search (rules, then_row)) (then_starts c.args.self.now c.args.next.now) in
    record { is = e; member = then_says c.args.self.now c.args.next.now _ e }
