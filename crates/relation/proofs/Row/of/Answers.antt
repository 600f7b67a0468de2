use Rattle.std.proofs.Common.{sym, ◌∙◌}
use Rattle.std.proofs.lemmas.Nat.{one_shl}
use Rattle.relation.proofs.Sets.{row_single, single_past}
use Rattle.relation.proofs.Row.of.Goals as goal

pub returns-then-i-lt-EVENTS : goal.returns-then-i-lt-EVENTS
returns-then-i-lt-EVENTS c = row_single _ c.args.i c.if-i-lt-EVENTS.true (one_shl c.args.i 64 c.if-i-lt-EVENTS.true)

pub returns-else-i-lt-EVENTS : goal.returns-else-i-lt-EVENTS
returns-else-i-lt-EVENTS c = c.empty.ensures ∙ sym (single_past c.args.i c.if-i-lt-EVENTS.false)
