use Rattle.std.proofs.Common.{◌≡◌, false, ◌∷◌, Ok, None, vec_items, sym, refl, ap, ◌∙◌}
use Rattle.sheet.specs.declared.calls.Call.TheVariants.{Close}
use Rattle.sheet.specs.Book.{ended}
use Rattle.sheet.specs.Sheets.{open_book, closed_book}
use Rattle.replay.specs.Runs.{place}
use Rattle.replay.specs.Phases.{Goes, Halts, adds_first}
use Rattle.replay.proofs.Places.{close_answer, out_of_open}
use Rattle.replay.proofs.Steps.{begin, goes_one, halts_end, halts_out}
use Rattle.replay.proofs.replay.Goals as goal

pub returns-in_default : goal.returns-in_default
unfolding ended
returns-in_default c =
    let rest = c.in_ok-rest.rest.now in
    let b = open_book c.run_open.new.sheet in
    let xs = vec_items c.run_open.new.answers in
    record {
      law = begin c.args.calls.now rest _ b _ xs _ c.new-sheet.ensures c.new-answers.ensures.items c.in_ok-rest.ensures.0 (halts_end rest b xs c.in_default.ensures.cases);
      sheet = refl;
    }

pub returns-in_ok-stop-in-Close-clause-law : goal.returns-in_ok-stop-in-Close-clause-law
unfolding place
returns-in_ok-stop-in-Close-clause-law c =
    let cs = c.in_ok-rest.rest.now in
    let rest = c.in-Some.rest.now in
    let b = open_book c.run_open.new.sheet in
    let xs = vec_items c.run_open.new.answers in
    let d = closed_book c.close-closed.result in
    let e : cs ≡ Close ∷ rest = c.in-Some.ensures.cases.0 ∙ ap (λ k. k ∷ rest) c.in-Close.is in
    let g = goes_one rest b xs Close (Ok None) d refl (close_answer b) c.close-closed.ensures in
    let g' : Goes cs b xs rest d (vec_items c.push.new.self) = rw (e, c.in_ok-push-in-Close.ensures.items) g in
    begin c.args.calls.now cs _ b _ xs _ c.new-sheet.ensures c.new-answers.ensures.items c.in_ok-rest.ensures.0 (g' ∙ c.in_ok-stop-in-Close.ensures.0)

pub returns-in_default-call : goal.returns-in_default-call
unfolding ended
returns-in_default-call c =
    let cs = c.in_ok-rest.rest.now in
    let k = c.in-Some.call.now in
    let b = open_book c.run_open.new.sheet in
    let xs = vec_items c.run_open.new.answers in
    let f = c.in-Some.ensures.cases.0 in
    let p = out_of_open c.run_open.new.sheet k (sym (ap adds_first f) ∙ c.in_ok-rest.ensures.1) c.in_default-call.not-Close in
    let h : Halts cs b xs b xs false = rw f (halts_out c.in-Some.rest.now b xs k p) in
    record { law = begin c.args.calls.now cs _ b _ xs _ c.new-sheet.ensures c.new-answers.ensures.items c.in_ok-rest.ensures.0 h; sheet = refl }
