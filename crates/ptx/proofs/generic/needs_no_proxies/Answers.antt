use Rattle.std.proofs.Common.{sym, ap, ◌∙◌}
use Rattle.sheet.specs.Book.{Book}
use Rattle.execution.specs.Facts.{facts}
use Rattle.execution.proofs.Counting.{few_events}
use Rattle.model.specs.View.{all_generic}
use Rattle.ptx.proofs.Agreeing.{proxies_agree}
use Rattle.ptx.proofs.generic.needs_no_proxies.Goals as goal

pub returns : goal.returns
returns c =
    let x = c.args.x.now in
    let e = c.is_generic.ensures ∙ ap (λ (b : Book). all_generic b.events) c.sheet.ensures in
    record { generic = e; same = λ t. proxies_agree (facts x) (few_events x.sheet.now) x.within (sym e ∙ t); always = proxies_agree }
