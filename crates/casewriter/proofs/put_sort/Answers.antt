use Rattle.std.proofs.Common.{length, ap, ◌∙◌, arith}
use Rattle.relation.specs.Meaning.{holds}
use Rattle.records.specs.Grammar.{file}
use Rattle.sheet.specs.Sets.{EdgeSets}
use Rattle.sheet.specs.Sheets.{closed_book}
use Rattle.casewriter.proofs.Adding.{added_as, added_edges}
use Rattle.casewriter.proofs.Writing.{sort_is}
use Rattle.casewriter.proofs.put_sort.Goals as goal

pub loop-i-preserved : goal.loop-i-preserved
loop-i-preserved c = added_edges c.args.edge (holds c.of-r.result.now) (length c.events-n.result.now) c.loop-i.i c.loop-i.invariant c.put_edges.ensures

pub returns : goal.returns
returns c =
    let b = closed_book c.args.sheet.now in
    let k = c.args.edge in
    added_as (ap file (sort_is b k (holds c.of-r.result.now) (length c.events-n.result.now) c.loop-i.i (c.of-r.ensures ∙ ap (λ (q : EdgeSets). q k) c.edges.ensures) (ap length c.events-n.ensures) (omega arith))) c.loop-i.invariant
