use Rattle.std.proofs.Common.{◌≡◌, true, false, subst, ◌∙◌, ap, rules}
use borrow.Author.Tests.{tests}
use Rattle.std.proofs.lemmas.Iterator.{first_from_Range}
use Rattle.relation.specs.Algebra.{domain, least_below}
use Rattle.relation.specs.Meaning.{holds}
use Rattle.relation.proofs.Below.{FirstIn}
use Rattle.relation.proofs.Relations.{domain_at}
use Rattle.relation.proofs.Readings.{pair_first, pair_first_none, pair_says}
use Rattle.relation.proofs.Relation.lowest_pair.Goals as goal
use Rattle.relation.proofs.Relation.lowest_pair.Goals.{After-find}

found : (c : After-find) → FirstIn 64 (domain (holds c.args.self.now)) c.find.result
found c =
    let r = holds c.args.self.now in
    first_from_Range _ _ _ c.find.result (λ i. domain r i ≡ true) (λ i. domain r i ≡ false) c.find.ensures.ran
    (λ x q k. search (rules, tests, domain_at)) (λ x q k. search (rules, tests, domain_at))

pub returns : goal.returns
returns c =
    let r = holds c.args.self.now in
    let first = subst (FirstIn 64 (domain r)) c.in_ok-i.was (found (goal.at.returns c).After-find) in
    let e = pair_first r c.in_ok-i.i c.lowest.result c.map.result first (c.lowest.ensures.is ∙ ap (least_below 64) c.row.ensures) c.map.ensures.cases
    (λ j p h. search rules) in
    record { is = e; lowest = pair_says c.args.self.now _ e }

pub returns-in_err-i : goal.returns-in_err-i
returns-in_err-i c =
    let r = holds c.args.self.now in
    let e = c.from_residual.ensures ∙ pair_first_none r (subst (FirstIn 64 (domain r)) c.in_err-i.was (found (goal.at.returns-in_err-i c).After-find)) in
    record { is = e; lowest = pair_says c.args.self.now _ e }
