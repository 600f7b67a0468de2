use Rattle.std.proofs.Common.{rules, ◌∙◌}
use Rattle.relation.specs.Algebra.{domain}
use Rattle.relation.specs.Meaning.{holds}
use Rattle.relation.proofs.Relations.{domain_at, domain_whole}
use Rattle.relation.proofs.Readings.{domain_says}
use Rattle.relation.proofs.Relation.domain.Goals as goal

pub returns : goal.returns
returns c =
    let e = c.those.ensures (domain (holds c.args.self.now)) (λ i t l h. search (rules, domain_at)) ∙ domain_whole c.args.self.now in
    record { is = e; member = domain_says c.args.self.now _ e }
