use Rattle.std.proofs.Common.{refl}
use Rattle.records.proofs.Steps.{at_record}
use Rattle.records.proofs.reader.Reader.ahead.Goals as goal

pub returns : goal.returns
returns c =
    let g = rw c.in_ok-body.ensures.ok_part at c.get.ensures.lookup in
    let d = rw c.in-Some.is at c.in_ok-mark.ensures in (
      at_record c.args.self.now c.sign_of.result c.in-Some.mark c.in-Some.phase c.size.result c.in_ok-body.body.now c.sign_of.ensures d c.size.ensures
          g.0.1 g.0.2 c.in_ok-check_fields.ensures,
      refl,
      d.1,
    )
