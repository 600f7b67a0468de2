use Rattle.std.proofs.Common.{refl, ap, ◌∙◌}
use Rattle.sheet.specs.declared.calls.Edge.TheVariants.{Order}
use Rattle.sheet.specs.Book.{ended}
use Rattle.sheet.specs.Sheets.{closed_book}
use Rattle.sheet.proofs.Kept.{facts_undone}
use Rattle.sheet.proofs.trial.Trial.drop.Goals as goal
use Rattle.sheet.proofs.trial.Trial.drop.Goals.{in-Some, in_default}

pub invariant_of-sheet : goal.invariant_of-sheet
invariant_of-sheet c = facts_undone c.args.self.sheet.now Order c.in-Some.first c.in-Some.second _ c.remove.ensures

pub returns : goal.returns
unfolding ended
returns c =
    let s = c.args.self.sheet.now in
    elim c.match-edge.branch [
      | in-Some w ↦ ap closed_book w.sheet-is ∙ rw (w.remove.ensures, w.in-Some.is) refl
      | in_default w ↦ ap closed_book w.sheet-is ∙ rw w.in_default.is refl
    ]
