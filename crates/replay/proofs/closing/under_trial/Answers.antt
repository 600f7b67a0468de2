use Rattle.std.proofs.Common.{◌≡◌, vec_items, ap, ◌∙◌, rules}
use Rattle.std.proofs.lemmas.Result.{IfOk-weaker}
use Rattle.sheet.specs.declared.closed.ClosedSheet.{ClosedSheet}
use Rattle.sheet.specs.declared.trial.Trial.{Trial}
use Rattle.sheet.specs.Book.{ended}
use Rattle.sheet.specs.Sheets.{closed_book}
use Rattle.sheet.specs.Trials.{trial_book}
use Rattle.replay.specs.Phases.{SameBook}
use Rattle.replay.proofs.Steps.{turned_as}
use Rattle.replay.proofs.closing.under_trial.Goals as goal

-- the sheet x that comes back from a trial t over the sheet s
back : (x d s : ClosedSheet) (t : Trial) → x ≡ d → closed_book d ≡ ended (trial_book t) → ended (trial_book t) ≡ closed_book s → SameBook x s
unfolding SameBook
back x d s t e f g = ap closed_book e ∙ f ∙ g

pub returns : goal.returns
returns c =
    let n = c.new-trial.ensures in
    let xs = vec_items c.args.answers.now in
    let ys = vec_items c.trial_turn.new.answers in
    record {
      kept = back _ c.drop-trial.new.self.0 c.args.sheet.now c.new-trial.result (search rules) c.drop-trial.ensures n.undone;
      turns = IfOk-weaker c.trial_turn.result _ _ (λ t h. turned_as _ c.args.calls.now xs ys t _ _ _ _ n.book n.undone h) c.trial_turn.ensures;
    }
