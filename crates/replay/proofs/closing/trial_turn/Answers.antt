use Rattle.std.proofs.Common.{◌≡◌, false, ◌∷◌, length, Ok, None, vec_items, refl, ap, ◌∙◌, arith}
use Rattle.std.proofs.lemmas.Bool.{eq-eqb, ne_eqb}
use Rattle.sheet.specs.declared.calls.Call.TheVariants.{End}
use Rattle.sheet.specs.Book.{ended}
use Rattle.sheet.specs.Trials.{trial_book}
use Rattle.replay.specs.Phases.{Halts}
use Rattle.replay.proofs.Places.{end_answer, end_ends, end_in_place, out_of_trial}
use Rattle.replay.proofs.Steps.{goes_one, halts_out, halts_end, stops_shown}
use Rattle.replay.proofs.closing.trial_turn.Goals as goal

pub returns-in_default-split_first : goal.returns-in_default-split_first
returns-in_default-split_first c =
    let cs = c.args.calls.now in
    let xs = vec_items c.args.answers.now in
    let b = trial_book c.args.trial.now in
    let n = c.in_default-split_first.ensures.cases in
    let h : Halts cs b xs b xs c.is_empty.result = rw (c.is_empty.ensures, eq-eqb (length cs) 0 n) (halts_end cs b xs n) in
    stops_shown cs b xs _ _ c.edges.ensures c.in-Some.ensures h

pub returns-in_ok-push-in-End : goal.returns-in_ok-push-in-End
returns-in_ok-push-in-End c =
    let rest = c.in-Some-split_first.rest.now in
    let b = trial_book c.args.trial.now in
    let f = c.in-Some-split_first.ensures.cases in
    let e : c.args.calls.now ≡ End ∷ rest = f.0 ∙ ap (λ k. k ∷ rest) c.in-End.is in
    let p = end_in_place b (c.in-Some.first, c.in-Some.second) refl c.in-Some.ensures in
    let g = goes_one rest b (vec_items c.args.answers.now) End (Ok None) (ended b) p (end_answer b) (end_ends b) in
    (omega (arith, f.1), rw (e, c.in_ok-push-in-End.ensures.items) g)

pub returns-in_default-call : goal.returns-in_default-call
returns-in_default-call c =
    let cs = c.args.calls.now in
    let rest = c.in-Some-split_first.rest.now in
    let k = c.in-Some-split_first.call.now in
    let xs = vec_items c.args.answers.now in
    let b = trial_book c.args.trial.now in
    let p = out_of_trial b (c.in-Some.first, c.in-Some.second) refl c.in-Some.ensures k c.in_default-call.not-End in
    let f = c.in-Some-split_first.ensures.cases in
    let n : c.is_empty.result ≡ false = c.is_empty.ensures ∙ ne_eqb (length cs) 0 (λ z. absurd (omega (arith, f.1, z))) in
    let h : Halts cs b xs b xs c.is_empty.result = rw (n, f.0) (halts_out rest b xs k p) in
    stops_shown cs b xs _ _ c.edges.ensures c.in-Some.ensures h
