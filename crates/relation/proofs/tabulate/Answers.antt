use Rattle.std.proofs.Common.{rules, min, arith}
use Rattle.relation.specs.Algebra.{cut}
use Rattle.relation.proofs.Relations.{cut_starts}
use Rattle.relation.proofs.tabulate.Goals as goal

pub returns : goal.returns
returns g c =
    let p = g.P.Pairs.relates c.args.p.now in
    c.by_rows.ensures (cut (min c.args.n 64) p) (λ i row l h. search rules) (cut_starts p (min c.args.n 64) (omega arith))
