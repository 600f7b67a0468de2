use Rattle.std.proofs.Common.{Bool, not, ◌&&◌, ap, ◌∙◌, ap₂}
use Rattle.relation.specs.Algebra.{Rel}
use Rattle.sheet.specs.declared.calls.Edge.TheVariants.{Order}
use Rattle.execution.proofs.Edging.{edges_at}
use Rattle.completion.proofs.listing.is_open.Goals as goal

pub returns : goal.returns
returns g c =
    let o = edges_at Order c.of-order.ensures c.edges.ensures in
    ap₂ ◌&&◌ c.needs.ensures
    (ap₂ (λ (s t : Bool). not s && not t) (c.has.ensures ∙ ap (λ (r : Rel). r c.args.a c.args.b) o) (c.has-2.ensures ∙ ap (λ (r : Rel). r c.args.b c.args.a) o))
