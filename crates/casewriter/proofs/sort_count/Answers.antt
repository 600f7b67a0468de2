use Rattle.std.proofs.Common.{rules, ◌^◌, tests, ◌≤◌, length, sym, ap, ◌∙◌, arith}
use Rattle.std.specs.List.{range_with_len}
use Rattle.std.proofs.lemmas.Iterator.{YieldsList-from_range, YieldsList-from_map}
use Rattle.std.proofs.lemmas.Iterator.Consumers.{sum_by_from_yields_List, fits_by_from_yields_list}
use Rattle.relation.specs.Meaning.{holds}
use Rattle.sheet.specs.Sets.{EdgeSets}
use Rattle.sheet.specs.Sheets.{closed_book}
use Rattle.casewriter.specs.Items.{picked}
use Rattle.casewriter.proofs.Writing.{edges_count, edges_few, sort_is}
use Rattle.casewriter.proofs.Return.{few_events}
use Rattle.casewriter.proofs.sort_count.Goals as goal

pub sum-requires-clause-fits : goal.sum-requires-clause-fits
sum-requires-clause-fits c =
    let k = c.args.edge in
    let R = holds c.of-r.result.now in
    let n = length c.events.result.now in
    let few : n ≤ 64 = omega (arith, ap length c.events.ensures, few_events c.args.sheet.now) in
    fits_by_from_yields_list (λ i. length (picked (R i) n)) (range_with_len 0 n) c.map.result (2 ^ 64)
    (YieldsList-from_map _ (λ i. length (picked (R i) n)) (YieldsList-from_range 0 n n c.map.ensures.source (omega arith)) c.map.ensures.closure (λ x s q h. search (rules, tests)))
    (omega (arith, edges_count k R n n, edges_few k R n n few))

pub returns-clause-count : goal.returns-clause-count
returns-clause-count c =
    let k = c.args.edge in
    let R = holds c.of-r.result.now in
    let n = length c.events.result.now in
    sum_by_from_yields_List (λ i. length (picked (R i) n)) (range_with_len 0 n) c.map.result _ c.sum.ensures.ran
    (YieldsList-from_map _ (λ i. length (picked (R i) n)) (YieldsList-from_range 0 n n c.map.ensures.source (omega arith)) c.map.ensures.closure (λ x s q h. search (rules, tests)))
    ∙ sym (edges_count k R n n)
    ∙ ap length (sort_is (closed_book c.args.sheet.now) k R n n (c.of-r.ensures ∙ ap (λ (q : EdgeSets). q k) c.edges.ensures) (ap length c.events.ensures) (omega arith))

pub returns-clause-few : goal.returns-clause-few
returns-clause-few c =
    let b = closed_book c.args.sheet.now in
    let few = few_events c.args.sheet.now in
    omega (arith, returns-clause-count c, edges_few c.args.edge (b.edges c.args.edge) (length b.events) (length b.events) few)
