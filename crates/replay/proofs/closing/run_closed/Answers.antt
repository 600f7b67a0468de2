use Rattle.std.proofs.Common.{◌∷◌, length, vec_items, refl, ap, ◌∙◌, subst}
use Rattle.sheet.specs.Book.{ended}
use Rattle.sheet.specs.Sheets.{closed_book}
use Rattle.replay.specs.Runs.{told, run}
use Rattle.replay.specs.Phases.{Turned}
use Rattle.replay.proofs.Steps.{halts_end}
use Rattle.replay.proofs.closing.run_closed.Goals as goal

pub returns-in-Break : goal.returns-in-Break
returns-in-Break c =
    let b = closed_book c.loop-call.sheet in
    let xs = vec_items c.loop-call.answers in
    let b' = closed_book c.closed_turn.new.sheet in
    let ys = vec_items c.closed_turn.new.answers in
    let rest = c.in-Some.rest.now in
    let e = subst (λ t. Turned (length rest) (c.in-Some.call.now ∷ rest) b xs b' ys t) c.in-Break.is c.in_ok-calls.ensures in
    (c.loop-call.invariant ∙ ap (λ z. told xs (run b z)) c.in-Some.ensures.cases.0 ∙ e.0, e.1)

pub returns : goal.returns
unfolding ended
returns c = (c.loop-call.invariant ∙ halts_end c.loop-call.left.now (closed_book c.loop-call.sheet) (vec_items c.loop-call.answers) c.in_default.ensures.cases, refl)
