use Rattle.std.proofs.Common.{ℕ, min, length, ap, ◌∙◌}
use Rattle.relation.specs.Algebra.{cut}
use Rattle.sheet.specs.Sheets.{closed_book}
use Rattle.execution.specs.Ties.{tied}
use Rattle.execution.proofs.Counting.{few_events}
use Rattle.execution.proofs.Tying.{tied_whole}
use Rattle.execution.proofs.facts.tied.Goals as goal

pub returns : goal.returns
returns c =
    let k = closed_book c.args.sheet.now in
    let n = ap length c.events.ensures in
    c.tabulate.ensures ∙ ap (λ (m : ℕ). cut (min m 64) (tied k.threads k.events c.args.tie)) n ∙ tied_whole k.threads k.events c.args.tie (few_events c.args.sheet.now)
