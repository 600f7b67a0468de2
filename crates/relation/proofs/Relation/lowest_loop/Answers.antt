use Rattle.std.proofs.Common.{◌≡◌, true, false, rules, arith}
use borrow.Author.Tests.{tests}
use Rattle.std.proofs.lemmas.Iterator.{first_from_Range}
use Rattle.relation.specs.Algebra.{lowest_loop}
use Rattle.relation.specs.Meaning.{holds}
use Rattle.relation.proofs.Below.{least_first}
use Rattle.relation.proofs.Readings.{loop_says}
use Rattle.relation.proofs.Relation.lowest_loop.Goals as goal

pub returns : goal.returns
unfolding lowest_loop
returns c =
    let r = holds c.args.self.now in
    let first = first_from_Range _ _ _ c.find.result (λ i. r i i ≡ true) (λ i. r i i ≡ false) c.find.ensures.ran (λ x q k. search (rules, tests)) (λ x q k. search (rules, tests)) in
    let e = least_first 64 (λ i. r i i) c.find.result first in
    record { is = grind (arith, e); lowest = loop_says c.args.self.now _ (grind (arith, e)) }
