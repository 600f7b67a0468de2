use Rattle.std.proofs.Common.{◌≡◌, ◌/◌, ◌%◌, Ok, None, ◌∙◌, arith, rules}
use Rattle.std.specs.Bool.{then_some}
use Rattle.closure.proofs.Fits.{fits}
use Rattle.relation.specs.Meaning.{holds}
use Rattle.cycles.specs.Counts.{Stepped}
use Rattle.cycles.proofs.Searches.{made_at}
use Rattle.cycles.proofs.Tables.{holds_inside, stepped_single, counted}
use Rattle.cycles.proofs.Distances.of.Goals as goal

pub returns : goal.returns
returns c =
    let R = holds c.args.r.now in
    let s : Stepped R c.from_fn-steps.result =
    λ p l. made_at _ (λ p. then_some (R (p / 64) (p % 64)) 1) _ c.from_fn-steps.result (λ x y q k. search rules) 4096 0 c.from_fn-steps.ensures.items.each p None (omega arith) (omega arith) in
    let done : c.distances.result ≡ Ok tt = c.distances.ensures.answer ∙ fits 64 _ (omega arith) (omega arith) in
    counted R (holds_inside c.args.r.now) c.from_fn-steps.result s (record { steps = c.distances.new.steps })
    (c.distances.ensures.measures done (stepped_single R (holds_inside c.args.r.now) c.from_fn-steps.result s))
