use Rattle.std.proofs.Common.{Err, refl, ap, ◌∙◌}
use Rattle.std.proofs.lemmas.Result.{err_from_is_err_and}
use Rattle.sheet.specs.Rules.{decoded}
use Rattle.sheet.proofs.Reading.{stops, goes_on}
use Rattle.sheet.proofs.row.EventTryFromFields.try_from.Goals as goal

pub returns-in_err-try_from : goal.returns-in_err-try_from
unfolding decoded
returns-in_err-try_from c =
    let p = err_from_is_err_and c.from_residual.result c.from_residual.ensures.1 in
    p.1 ∙ ap Err p.2 ∙ stops _ _ _ c.in_err-try_from.ensures

pub returns-in_err-try_from-2 : goal.returns-in_err-try_from-2
unfolding decoded
returns-in_err-try_from-2 c =
    let p = err_from_is_err_and c.from_residual-in_err-try_from-2.result c.from_residual-in_err-try_from-2.ensures.1 in
    p.1 ∙ ap Err p.2 ∙ goes_on _ _ _ _ c.in_ok-try_from.ensures (stops _ _ _ c.in_err-try_from-2.ensures)

pub returns-in_err-try_from-3 : goal.returns-in_err-try_from-3
unfolding decoded
returns-in_err-try_from-3 c =
    let p = err_from_is_err_and c.from_residual-in_err-try_from-3.result c.from_residual-in_err-try_from-3.ensures.1 in
    p.1 ∙ ap Err p.2 ∙ goes_on _ _ _ _ c.in_ok-try_from.ensures (goes_on _ _ _ _ c.in_ok-try_from-2.ensures (stops _ _ _ c.in_err-try_from-3.ensures))

pub returns-in_err-try_from-4 : goal.returns-in_err-try_from-4
unfolding decoded
returns-in_err-try_from-4 c =
    let p = err_from_is_err_and c.from_residual-in_err-try_from-4.result c.from_residual-in_err-try_from-4.ensures.1 in
    p.1 ∙ ap Err p.2
    ∙ goes_on _ _ _ _ c.in_ok-try_from.ensures (goes_on _ _ _ _ c.in_ok-try_from-2.ensures (goes_on _ _ _ _ c.in_ok-try_from-3.ensures (stops _ _ _ c.in_err-try_from-4.ensures)))

pub returns : goal.returns
unfolding decoded
returns c =
    goes_on _ _ _ _ c.in_ok-try_from.ensures (goes_on _ _ _ _ c.in_ok-try_from-2.ensures (goes_on _ _ _ _ c.in_ok-try_from-3.ensures (goes_on _ _ _ _ c.in_ok-try_from-4.ensures refl)))
