use Rattle.std.proofs.Common.{Bool, refl, ap, ◌∙◌}
use Rattle.std.specs.Bool.{then_some}
use Rattle.sheet.specs.Book.{ended}
use Rattle.sheet.proofs.Trials.{stands, ended_trial}
use Rattle.sheet.proofs.trial.Trial.new.Goals as goal

pub returns : goal.returns
returns c =
    let s = c.args.sheet.now in
    let i = c.args.first in
    let j = c.args.second in
    let f = c.order.ensures in
    let e = c.then_some-edge.ensures ∙ ap (λ (t : Bool). then_some t (i, j)) c.is_ok.ensures.value in
    let b = stands s c.order.new.self i j c.then_some-edge.result c.order.result f.answers f.book e in
    record { lends = refl; book = b; undone = ap ended b ∙ ended_trial s i j }
