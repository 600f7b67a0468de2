use Rattle.std.proofs.Common.{refl, ap, ◌∙◌}
use Rattle.relation.specs.Algebra.{pair, ◌∪◌}
use Rattle.sheet.specs.Sets.{with_edge}
use Rattle.sheet.proofs.Sets.{laid_changed}
use Rattle.sheet.proofs.edges.Edges.add.Goals as goal

pub returns : goal.returns
unfolding with_edge
returns c =
    let p = pair c.args.first c.args.second in
    laid_changed (λ s. s ∪ p) c.args.self.now c.args.edge c.add.new.self _ (c.add.ensures ∙ ap (λ s. s ∪ p) c.of_mut.ensures.value) (λ k. refl)
