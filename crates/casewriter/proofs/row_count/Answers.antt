use Rattle.std.proofs.Common.{rules, ◌≡◌, ◌^◌, tests, ℕ, cond, length, sym, ap, ◌∙◌, arith}
use Rattle.std.specs.List.{range_with_len}
use Rattle.std.proofs.lemmas.List.FromFn.{length-range_with_len}
use Rattle.std.proofs.lemmas.List.Sums.{length-filter, count_by-le-length}
use Rattle.std.proofs.lemmas.Iterator.{YieldsList-from_range, YieldsList-from_map}
use Rattle.std.proofs.lemmas.Iterator.Consumers.{sum_by_from_yields_List, fits_by_from_yields_list}
use Rattle.relation.specs.Meaning.{holds}
use Rattle.casewriter.specs.Items.{picked}
use Rattle.casewriter.proofs.Writing.{picked_is, picked_few}
use Rattle.casewriter.proofs.row_count.Goals as goal

pub sum-requires-clause-fits : goal.sum-requires-clause-fits
sum-requires-clause-fits c =
    let f = holds c.args.r.now c.args.i in
    let h : ℕ → ℕ = λ j. cond (f j) 1 0 in
    let n = c.min.result in
    let xs = range_with_len 0 n in
    fits_by_from_yields_list h xs c.map.result (2 ^ 64)
    (YieldsList-from_map _ h (YieldsList-from_range 0 n n c.map.ensures.source (omega arith)) c.map.ensures.closure (λ x s q k. search (rules, tests)))
    (omega (arith, count_by-le-length f xs, length-range_with_len 0 n))

pub returns-clause-count : goal.returns-clause-count
returns-clause-count c =
    let f = holds c.args.r.now c.args.i in
    let h : ℕ → ℕ = λ j. cond (f j) 1 0 in
    let n = c.min.result in
    let all : n ≡ c.args.n = omega (arith, c.min.ensures) in
    let xs = range_with_len 0 n in
    sum_by_from_yields_List h xs c.map.result _ c.sum.ensures.ran
    (YieldsList-from_map _ h (YieldsList-from_range 0 n n c.map.ensures.source (omega arith)) c.map.ensures.closure (λ x s q k. search (rules, tests)))
    ∙ sym (length-filter f xs) ∙ ap length (sym (picked_is f n)) ∙ ap (λ m. length (picked f m)) all

pub returns-clause-few : goal.returns-clause-few
returns-clause-few c = omega (arith, returns-clause-count c, picked_few (holds c.args.r.now c.args.i) c.args.n)
