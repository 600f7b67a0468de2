use Rattle.std.proofs.Common.{length, ap, arith}
use Rattle.sheet.specs.Sheets.{closed_book}
use Rattle.casewriter.proofs.Writing.{file_length}
use Rattle.casewriter.proofs.file_length.Goals as goal

pub returns : goal.returns
returns c = omega (arith, file_length (closed_book c.args.sheet.now), ap length c.threads.ensures, ap length c.events.ensures)
