use Rattle.std.proofs.Common.{rules, ◌∙◌}
use Rattle.relation.specs.Algebra.{column}
use Rattle.relation.specs.Meaning.{holds}
use Rattle.relation.proofs.Relations.{column_at, column_whole}
use Rattle.relation.proofs.Relation.column.Goals as goal

pub returns : goal.returns
returns c = c.those.ensures (column (holds c.args.self.now) c.args.j) (λ i t l h. search (rules, column_at)) ∙ column_whole c.args.self.now c.args.j
