use Rattle.std.proofs.Common.{rules, ◌∙◌}
use Rattle.relation.specs.Algebra.{◌◁◌}
use Rattle.relation.specs.Meaning.{members, holds}
use Rattle.relation.proofs.Relations.{from_row, image_range}
use Rattle.relation.proofs.Readings.{image_says}
use Rattle.relation.proofs.Relation.image.Goals as goal

pub returns : goal.returns
returns c =
    let s = members c.args.set in
    let e = c.joined.ensures (s ◁ holds c.args.self.now) (λ i row l h. search (rules, from_row)) ∙ image_range s (holds c.args.self.now) in
    record { is = e; member = image_says c.args.set c.args.self.now _ e }
