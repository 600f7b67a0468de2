use Rattle.std.proofs.Common.{sym, ap, ◌∙◌}
use Rattle.relation.specs.Algebra.{Rel}
use Rattle.sheet.specs.Sheets.{closed_book}
use Rattle.execution.specs.declared.tie.Tie.TheVariants.{ProgramOrder}
use Rattle.execution.proofs.Joining.{joins_tied}
use Rattle.execution.proofs.execution.Execution.of.Goals as goal

pub invariant_of-result : goal.invariant_of-result
invariant_of-result c =
    record {
      within = λ a b h.
          let k = closed_book c.args.sheet.now in
          joins_tied k.events k.threads ProgramOrder a b (sym (ap (λ (r : Rel). r a b) c.tied.ensures) ∙ h);
    }
