use Rattle.std.proofs.Common.{◌≡◌, ℕ, Some, None, arith}
use Rattle.records.proofs.Unique.{reading_one}
use Rattle.verdict.proofs.answer.Goals as goal

-- a file whose sheet was read is whole
pub returns-in_err-survey : goal.returns-in_err-survey
returns-in_err-survey c =
    let r = c.in_ok-read.ensures.reads in
    let s = c.in_err-survey.ensures.reads in
    let e = (reading_one c.args.input.now r.0 s.0 None (Some c.in_err-survey.field-0.0.cause) r.1 s.1).1 in
    absurd (let z : ◌≡◌ {A = ℕ} 0 1 = cc in omega arith)
