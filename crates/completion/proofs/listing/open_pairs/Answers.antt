use Rattle.std.proofs.Common.{length, ap, arith}
use Rattle.sheet.specs.Sheets.{closed_book}
use Rattle.execution.specs.Facts.{facts_of}
use Rattle.completion.specs.Openings.{is_open}
use Rattle.completion.specs.Listed.{listed}
use Rattle.completion.proofs.Rows.{overfull_rows}
use Rattle.completion.proofs.Splitting.{lists_open, splits}
use Rattle.completion.proofs.listing.open_pairs.Goals as goal

pub returns-in_err-open_row : goal.returns-in_err-open_row
returns-in_err-open_row g c =
    let x = facts_of (closed_book c.args.sheet.now) in
    let m = g.M.MemoryModel.meaning c.args.m.now in
    let n = ap length c.events-a-end.ensures in
    let laws = g.met.M.MemoryModel.lawful c.args.m.now in
    record {
      listed = rw c.from_residual.ensures (overfull_rows (is_open m x) (listed c.loop-a.pairs) (length x.events) c.loop-a.a c.loop-a.invariant (omega arith) c.in_err-open_row.ensures);
      exact = lists_open m laws x;
      splits = splits m laws x;
    }

pub returns-clause-exact : goal.returns-clause-exact
returns-clause-exact g c =
    lists_open (g.M.MemoryModel.meaning c.args.m.now) (g.met.M.MemoryModel.lawful c.args.m.now) (facts_of (closed_book c.args.sheet.now))

pub returns-clause-splits : goal.returns-clause-splits
returns-clause-splits g c =
    splits (g.M.MemoryModel.meaning c.args.m.now) (g.met.M.MemoryModel.lawful c.args.m.now) (facts_of (closed_book c.args.sheet.now))
