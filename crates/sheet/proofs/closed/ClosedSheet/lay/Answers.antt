use Rattle.std.proofs.lemmas.Result.{err_from_is_err_and}
use Rattle.sheet.specs.declared.calls.Call.TheVariants.{Lay}
use Rattle.sheet.specs.Sheets.{closed_book}
use Rattle.sheet.specs.Book.{accepted, refusal}
use Rattle.sheet.proofs.Laws.{refuses, accepts, given_none, given_some}
use Rattle.sheet.proofs.Kept.{facts_laid}
use Rattle.sheet.proofs.closed.ClosedSheet.lay.Goals as goal

pub returns-in_err-check : goal.returns-in_err-check
returns-in_err-check c =
    let b = closed_book c.args.self.now in
    let k = Lay c.args.edge c.args.first c.args.second in
    let p = err_from_is_err_and c.from_residual.result c.from_residual.ensures.1 in
    let e = c.in_err-check.ensures in
    record { answers = rw (p.1, p.2) e; book = (refuses b k _ (tt {0}) (given_some (refusal b k) (tt {0}) _ e)).1 }

pub invariant_of-self : goal.invariant_of-self
invariant_of-self c =
    let b = closed_book c.args.self.now in
    let k = Lay c.args.edge c.args.first c.args.second in
    facts_laid c.args.self.now c.args.edge c.args.first c.args.second (given_none (refusal b k) tt c.in_ok-check.ensures) _ c.add.ensures

pub returns : goal.returns
unfolding accepted
returns c =
    let b = closed_book c.args.self.now in
    let k = Lay c.args.edge c.args.first c.args.second in
    let r = accepts b k tt (given_none (refusal b k) tt c.in_ok-check.ensures) in
    record { answers = r.0; book = rw c.add.ensures r.1 }
