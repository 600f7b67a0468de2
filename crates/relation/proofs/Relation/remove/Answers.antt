use Rattle.std.proofs.Common.{refl, rules}
use Rattle.relation.specs.Meaning.{holds}
use Rattle.relation.proofs.Relations.{row_removed, none_removed}
use Rattle.relation.proofs.Relation.remove.Goals as goal

pub returns-then-i-lt-EVENTS : goal.returns-then-i-lt-EVENTS
returns-then-i-lt-EVENTS c =
    row_removed _ c.args.self.now c.args.i c.args.j c.without.result c.if-i-lt-EVENTS.true (search rules) refl (search rules)

pub returns-else-i-lt-EVENTS : goal.returns-else-i-lt-EVENTS
returns-else-i-lt-EVENTS c = none_removed (holds c.args.self.now) c.args.i c.args.j c.if-i-lt-EVENTS.false
