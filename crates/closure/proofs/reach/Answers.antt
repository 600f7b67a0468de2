use Rattle.std.proofs.Common.{sym, ◌∙◌}
use Rattle.closure.proofs.Fits.{fits_rows}
use Rattle.closure.proofs.Reached.{reaches}
use Rattle.closure.proofs.reach.Goals as goal

pub returns : goal.returns
returns c =
    let f = c.close.ensures in
    record {
      answer = f.answer;
      closed = f.closed;
      reaches = λ t. reaches c.args.n c.args.steps.now c.close.new.steps (fits_rows _ _ (sym f.answer ∙ t)) (f.closed t);
      refused = f.refused;
    }
