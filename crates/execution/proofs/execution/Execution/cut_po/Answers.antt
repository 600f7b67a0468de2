use Rattle.std.proofs.Common.{sym, ap, ◌∙◌}
use Rattle.relation.specs.Algebra.{Rel}
use Rattle.relation.specs.Meaning.{holds}
use Rattle.sheet.specs.Sheets.{closed_book}
use Rattle.execution.proofs.Joining.{joins_both}
use Rattle.execution.proofs.execution.Execution.cut_po.Goals as goal

pub invariant_of-result : goal.invariant_of-result
invariant_of-result c =
    let x = c.args.self.now in
    record {
      within = λ a b h.
          joins_both (closed_book x.sheet.now).events (holds x.po) (holds c.args.kept.now) x.within a b
          (sym (ap (λ (r : Rel). r a b) c.intersection.ensures) ∙ h);
    }
