use Rattle.std.proofs.Common.{rules}
use Rattle.relation.proofs.Relations.{inverse_row, inverse_starts}
use Rattle.relation.proofs.Relation.inverse.Goals as goal

pub returns : goal.returns
returns c = c.by_rows.ensures _ (λ i row l h. search (rules, inverse_row)) (inverse_starts c.args.self.now)
