use Rattle.std.proofs.Common.{vec_items, ap, ◌∙◌}
use Rattle.sheet.specs.Sheets.{open_book}
use Rattle.replay.specs.Runs.{told, run}
use Rattle.replay.proofs.Steps.{goes_one}
use Rattle.replay.proofs.opening.run_open.Goals as goal

pub loop-call-preserved : goal.loop-call-preserved
loop-call-preserved c =
    let b = open_book c.loop-call.sheet in
    let xs = vec_items c.loop-call.answers in
    let e = c.in-Some-add.ensures in
    let g = goes_one c.in-Some.rest.now b xs c.in-Some.call.now c.in-Some-add.answer (open_book c.add.new.sheet) e.0 e.1 e.2 in
    rw c.in_ok-push.ensures.items (c.loop-call.invariant ∙ ap (λ z. told xs (run b z)) c.in-Some.ensures.cases.0 ∙ g)
