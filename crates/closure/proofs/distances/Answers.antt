use Rattle.std.proofs.Common.{sym, ◌∙◌}
use Rattle.closure.proofs.Fits.{fits_rows}
use Rattle.closure.proofs.Measured.{measures}
use Rattle.closure.proofs.distances.Goals as goal

pub returns : goal.returns
returns c =
    let f = c.close.ensures in
    record {
      answer = f.answer;
      closed = f.closed;
      measures = λ t one. measures c.args.n c.args.steps.now c.close.new.steps (fits_rows _ _ (sym f.answer ∙ t)) one (f.closed t);
      refused = f.refused;
    }
