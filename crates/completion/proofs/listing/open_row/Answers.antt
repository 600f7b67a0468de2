use Rattle.std.proofs.Common.{◌<◌, ◌≤◌, ◌++◌, length, sym, ap, ⊎_elim, arith}
use Rattle.std.proofs.lemmas.Bool.{cases_lt, false≢true}
use Rattle.sheet.specs.Sheets.{closed_book}
use Rattle.execution.specs.Facts.{facts_of}
use Rattle.completion.specs.Openings.{is_open, open_in_row}
use Rattle.completion.specs.Listed.{listed}
use Rattle.completion.proofs.Rows.{overfull}
use Rattle.completion.proofs.listing.open_row.Goals as goal

pub returns-in_err-push : goal.returns-in_err-push
returns-in_err-push g c =
    let b = closed_book c.args.sheet.now in
    let f = is_open (g.M.MemoryModel.meaning c.args.m.now) (facts_of b) in
    let l = listed c.args.pairs.now in
    let n = ap length c.events-b-end.ensures in
    let k = listed c.loop-b.pairs in
    let full : 12 ≤ length k = ⊎_elim (λ (r : length k < 12). absurd (false≢true (c.in_err-push.ensures.done.1 r))) (λ r. r) (cases_lt (length k) 12) in
    let much : 12 ≤ length (l ++ open_in_row f c.args.a c.loop-b.b) = omega (arith, full, ap length c.loop-b.invariant) in
    rw c.from_residual.ensures (overfull f l c.args.a c.loop-b.b (length b.events) much (omega arith) (sym c.if-is_listed.ensures))
