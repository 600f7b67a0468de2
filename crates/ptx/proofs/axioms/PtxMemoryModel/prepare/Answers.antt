use Rattle.std.proofs.Common.{rules}
use Rattle.execution.specs.Facts.{facts}
use Rattle.ptx.proofs.Basing.{based_yields}
use Rattle.ptx.proofs.axioms.PtxMemoryModel.prepare.Goals as goal

pub returns : goal.returns
returns c =
    based_yields _ c.args.self.now (facts c.args.x.now)
    (record {
      reading = search rules;
      rf = search rules;
      atomic = search rules;
      thin_air = search rules;
      strong = search rules;
      poloc = search rules;
      rivals = search rules;
      seen = search rules;
      fixed = search rules;
      fences = search rules;
      crossing = search rules;
    })
