use Rattle.std.proofs.Common.{false, rules, ◌∙◌}
use Rattle.closure.specs.Steps.{table}
use Rattle.relation.proofs.Relations.{cut_in}
use Rattle.relation.proofs.read_row.Goals as goal

pub returns : goal.returns
returns c =
    let steps = table false 64 c.args.steps.now in
    c.those.ensures (steps c.args.i) (λ j t l h. search rules) ∙ cut_in 64 steps c.args.i c.requires
