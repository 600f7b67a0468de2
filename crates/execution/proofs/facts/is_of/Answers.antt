use Rattle.std.proofs.Common.{◌<◌, ◌≤◌, length, ⊎_elim, rules}
use Rattle.std.proofs.lemmas.Bool.{cases_lt}
use Rattle.execution.proofs.Tying.{those_at, those_past}
use Rattle.execution.proofs.facts.is_of.Goals as goal

pub returns : goal.returns
returns c =
    let es = c.events.result.now in
    ⊎_elim
    (λ (l : c.args.a < length es). let t = those_at es c.args.class c.args.a l in search (rules, t))
    (λ (l : length es ≤ c.args.a). let t = those_past es c.args.class c.args.a l in search (rules, t))
    (cases_lt c.args.a (length es))
