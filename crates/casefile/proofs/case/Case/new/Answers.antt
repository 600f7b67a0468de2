use Rattle.std.proofs.Common.{◌≡◌, ℕ, true, false, ap, ◌∙◌, arith}
use Rattle.std.specs.Result.{is_err}
use Rattle.sheet.specs.Book.{blank}
use Rattle.sheet.specs.Sheets.{open_book}
use Rattle.casefile.proofs.Reading.{begun}
use Rattle.casefile.proofs.case.Case.new.Goals as goal
use Rattle.casefile.proofs.case.Case.new.Goals.{then-is_err, else-is_err}

pub returns : goal.returns
returns c =
    let kept : is_err c.take_rows-next.result ≡ false → open_book c.if-is_err.rows ≡ open_book c.take_rows-next.new.sheet =
    elim c.if-is_err.branch [
      | then-is_err w ↦ λ e. absurd (let z : ◌≡◌ {A = ℕ} 0 1 = cc in omega arith)
      | else-is_err w ↦ λ e. ap open_book w.rows-is
    ] in
    let none : is_err c.take_rows-next.result ≡ true → open_book c.if-is_err.rows ≡ blank =
    elim c.if-is_err.branch [
      | then-is_err w ↦ λ e. ap open_book w.rows-is ∙ w.new-rows-then-is_err.ensures
      | else-is_err w ↦ λ e. absurd (let z : ◌≡◌ {A = ℕ} 0 1 = cc in omega arith)
    ] in
    begun c.args.file.now _ _ c.take_rows-next.result _ _ (open_book c.if-is_err.rows) _ c.take_rows-next.ensures c.new-reader.ensures.0 kept none
    c.close.ensures (grind arith)
