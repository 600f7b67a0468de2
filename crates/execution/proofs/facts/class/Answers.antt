use Rattle.std.proofs.Common.{◌≡◌, ◌<◌, length, sym, ap, ◌∙◌, ap₂, arith, rules}
use Rattle.relation.specs.Algebra.{either, only_if}
use Rattle.relation.proofs.Below.{upto_none, upto_more}
use Rattle.sheet.specs.Rules.{at}
use Rattle.sheet.specs.Sheets.{closed_book}
use Rattle.execution.specs.Classes.{in_class, those}
use Rattle.execution.proofs.Counting.{few_events}
use Rattle.execution.proofs.facts.class.Goals as goal

pub loop-i-init : goal.loop-i-init
loop-i-init c = c.empty-all.ensures ∙ upto_none _

pub loop-i-preserved : goal.loop-i-preserved
loop-i-preserved c =
    let s = c.args.sheet.now in
    let n = ap length c.events-e-items.ensures in
    let l : c.loop-i.i < 64 = omega (arith, few_events s) in
    c.union-all.ensures ∙ ap₂ either c.loop-i.invariant (c.only_if.ensures ∙ ap₂ only_if (search rules) c.of.ensures)
    ∙ sym (upto_more c.loop-i.i (λ a. in_class c.args.class (at (closed_book s).events a)) l)

pub returns : goal.returns
unfolding those
returns c =
    let es = (closed_book c.args.sheet.now).events in
    let k : c.loop-i.i ≡ length es = omega (arith, ap length c.events-e-items.ensures) in
    rw k at c.loop-i.invariant
