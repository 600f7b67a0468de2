use Rattle.std.proofs.Common.{◌≡◌, ◌∷◌, length, vec_items, refl, ◌∙◌, rules, arith}
use Rattle.sheet.specs.declared.calls.Call.TheVariants.{Lay, Try}
use Rattle.sheet.specs.Book.{after, ended}
use Rattle.sheet.specs.Sheets.{closed_book}
use Rattle.replay.specs.Runs.{answer, place, reply}
use Rattle.replay.specs.Phases.{Goes, SameBook}
use Rattle.replay.proofs.Places.{mapped, try_answer, out_of_closed}
use Rattle.replay.proofs.Steps.{goes_one, halts_out, try_turn}
use Rattle.replay.proofs.closing.closed_turn.Goals as goal

pub returns-in_ok-push-in-Lay : goal.returns-in_ok-push-in-Lay
unfolding place answer reply
returns-in_ok-push-in-Lay c =
    let xs = vec_items c.args.answers.now in
    let b = closed_book c.args.sheet.now in
    let k = Lay c.in-Lay.edge c.in-Lay.first c.in-Lay.second in
    let a : c.map.result ≡ answer b k = mapped _ _ _ _ _ _ (λ y q. search rules) c.lay.ensures.answers c.map.ensures.cases in
    let g = goes_one c.args.rest.now b xs k c.map.result (closed_book c.lay.new.self) refl a c.lay.ensures.book in
    (omega arith, rw (c.in-Lay.is, c.in_ok-push-in-Lay.ensures.items) g)

pub returns-in_ok-push-in-Try : goal.returns-in_ok-push-in-Try
unfolding place SameBook
returns-in_ok-push-in-Try c =
    let cs = c.args.rest.now in
    let xs = vec_items c.args.answers.now in
    let b = closed_book c.args.sheet.now in
    let k = Try c.in-Try.first c.in-Try.second in
    let a = mapped _ _ _ _ _ c.map-in-Try.result (λ y q. search rules) c.check_order.ensures c.map-in-Try.ensures.cases ∙ try_answer b c.in-Try.first c.in-Try.second in
    let g = goes_one cs b xs k c.map-in-Try.result (after b k) refl a refl in
    let ys = vec_items c.push-in-Try.new.self in
    let g' : Goes (c.args.call ∷ cs) b xs cs (after b k) ys = rw (c.in-Try.is, c.in_ok-push-in-Try.ensures.items) g in
    let u = c.under_trial.ensures in
    try_turn (length cs) (c.args.call ∷ cs) cs b (after b k) b (closed_book c.under_trial.new.sheet) xs ys (vec_items c.under_trial.new.answers) c.under_trial.result g' u.kept u.turns

pub returns-in_default : goal.returns-in_default
unfolding ended
returns-in_default c =
    let p = out_of_closed c.args.sheet.now _ c.in_default.not-Lay c.in_default.not-Try in
    (halts_out c.args.rest.now (closed_book c.args.sheet.now) (vec_items c.args.answers.now) c.args.call p, refl)
