use Rattle.std.proofs.Common.{false, rules, arith}
use Rattle.closure.specs.Steps.{table}
use Rattle.relation.specs.Algebra.{cut}
use Rattle.relation.proofs.Relations.{cut_starts}
use Rattle.relation.proofs.read_back.Goals as goal

pub returns : goal.returns
returns c =
    let steps = table false 64 c.args.steps.now in
    c.by_rows.ensures (cut 64 steps) (λ i row l h. search rules) (cut_starts steps 64 (omega arith))
