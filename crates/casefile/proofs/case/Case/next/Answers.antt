use Rattle.std.proofs.Common.{List, ℕ, Some, Ok, Option, Result, ap, ◌∙◌, subst}
use Rattle.std.proofs.lemmas.Result.{err_from_is_err_and}
use Rattle.records.specs.declared.mark.Record.{Record}
use Rattle.records.specs.Grammar.{Item}
use Rattle.sheet.specs.Sheets.{closed_book}
use Rattle.casefile.specs.declared.fault.Fault.{Fault}
use Rattle.casefile.specs.Cases.{Before, Behind, Stands}
use Rattle.casefile.proofs.Reading.{advanced_fault}
use Rattle.casefile.proofs.case.Case.next.Goals as goal
use Rattle.casefile.proofs.case.Case.next.Goals.{In-Some}

-- the record that waits
due : (c : In-Some) (bs : List ℕ) (front : List Item) → Stands bs front c.args.self.now
    → Before bs front c.args.self.now.reader (Some c.in-Some.item) (closed_book c.args.self.now.sheet)
due c bs front s =
    subst (λ (o : Result (Option Record) Fault). Behind bs front c.args.self.now.reader o (closed_book c.args.self.now.sheet))
    (c.in_ok-item.was ∙ ap Ok c.in-Some.is) s

pub returns-in_err-next-clause-steps : goal.returns-in_err-next-clause-steps
returns-in_err-next-clause-steps c =
    let p = err_from_is_err_and c.from_residual-in_err-next.result c.from_residual-in_err-next.ensures.1 in
    rw (p.1, p.2)
    (λ bs front s. advanced_fault bs _ _ c.advance-next.result _ _ c.in_err-next.was
    (c.advance-next.ensures.more bs front (due (goal.at.returns-in_err-next-clause-steps c).In-Some bs front s)))
