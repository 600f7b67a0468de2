use Rattle.std.proofs.Common.{◌-◌, ap, ◌∙◌}
use Rattle.std.proofs.lemmas.Nat.{one_shl}
use Rattle.relation.proofs.Sets.{row_below, below_all}
use Rattle.relation.proofs.Row.below.Goals as goal

pub returns-then-n-lt-EVENTS : goal.returns-then-n-lt-EVENTS
returns-then-n-lt-EVENTS c =
    row_below _ c.args.n c.if-n-lt-EVENTS.true (ap (λ m. m - 1) (one_shl c.args.n 64 c.if-n-lt-EVENTS.true))

pub returns-else-n-lt-EVENTS : goal.returns-else-n-lt-EVENTS
returns-else-n-lt-EVENTS c = c.all.ensures ∙ below_all c.args.n c.if-n-lt-EVENTS.false
