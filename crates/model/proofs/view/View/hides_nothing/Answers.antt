use Rattle.std.proofs.Common.{sym, ap, ◌∙◌}
use Rattle.sheet.specs.Book.{Book}
use Rattle.execution.specs.Facts.{facts}
use Rattle.model.specs.View.{all_generic}
use Rattle.model.specs.Layers.{transparent}
use Rattle.model.proofs.view.View.hides_nothing.Goals as goal

pub returns : goal.returns
returns g c =
    let m = g.M.MemoryModel.meaning c.args.self.now.below in
    let x = c.args.x.now in
    let e = c.is_generic.ensures ∙ ap (λ (b : Book). all_generic b.events) c.sheet.ensures in
    record { generic = e; same = λ t. transparent m (facts x) x.within (sym e ∙ t); always = transparent m }
