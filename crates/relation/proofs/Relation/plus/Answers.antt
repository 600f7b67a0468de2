use Rattle.std.proofs.Common.{◌≡◌, ap, ◌∙◌, arith}
use Rattle.closure.specs.Fitting.{fitting}
use Rattle.relation.proofs.Plus.{closed_plus}
use Rattle.relation.proofs.Readings.{plus_says}
use Rattle.relation.proofs.Relation.plus.Goals as goal

pub returns : goal.returns
returns c =
    let e = c.read_back.ensures
    ∙ closed_plus c.args.self.now _ _ c.lay_out.ensures
    (c.reach.ensures.closed (c.reach.ensures.answer ∙ ap (fitting 64) (let l : _ ≡ 4096 = omega arith in l))) in
    record { is = e; chains = plus_says c.args.self.now _ e }
