use Rattle.std.proofs.Common.{◌≡◌, not, sym, ap, ◌∙◌, arith}
use Rattle.std.proofs.Math.Bool.{not-not}
use Rattle.relation.specs.Algebra.{some_below}
use Rattle.relation.specs.Meaning.{members, holds}
use Rattle.relation.proofs.Below.{from_some}
use Rattle.peeling.proofs.Rounds.{off_all, cycle_in, some_live, members_below}
use Rattle.peeling.proofs.is_cyclic.Goals as goal

pub loop-init : goal.loop-init
loop-init c = off_all c.args.rel.now c.all-live.result c.all-live.ensures

pub returns : goal.returns
returns c =
    let R = holds c.args.rel.now in
    let live = c.peel.new.live in
    let e : not c.is_empty.result ≡ some_below 64 (members live) = ap not c.is_empty.ensures.is ∙ not-not (some_below 64 (members live)) in (
      λ t.
          let w = from_some 64 (members live) (sym e ∙ t) in
          cycle_in R (members live) (members_below live) (λ a h. c.peel.ensures.leads c.loop-test.false a (omega arith) h) w.0 w.2,
      λ p. e ∙ some_live R (members live) (members_below live) (c.peel.ensures.off c.loop.invariant) p.0 p.1,
    )
