use Rattle.std.proofs.Common.{◌≡◌, ℕ, Some, arith, rules, tests}
use Rattle.std.proofs.lemmas.Iterator.{first_from_Range}
use Rattle.cycles.specs.Counts.{apart}
use Rattle.cycles.proofs.Searches.{found_first}
use Rattle.cycles.proofs.Distances.lowest_start.Goals as goal

pub returns : goal.returns
returns c =
    let D = apart c.args.self.now in
    let P : ℕ → Type 0 = λ i. D i i ≡ Some c.args.d in
    found_first P c.find.result
    (first_from_Range _ _ _ _ P (λ i. P i → ⊥) c.find.ensures.ran
    (λ x q k. search (rules, tests))
    (λ x q k. (search rules, λ e. grind (arith, tests))))
