use Rattle.std.proofs.Common.{◌≡◌, ℕ, ◌-◌, true, get_or, Some, subst, arith}
use Rattle.relation.specs.Meaning.{holds}
use Rattle.cycles.specs.Counts.{apart, Found}
use Rattle.cycles.proofs.Tables.{holds_inside}
use Rattle.cycles.proofs.Walking.{next_found, walked_more}
use Rattle.cycles.proofs.Distances.walk.Goals as goal

pub unwrap-next-requires : goal.unwrap-next-requires
unwrap-next-requires c =
    next_found (holds c.args.r.now) (holds_inside c.args.r.now) (apart c.args.self.now) c.requires.counted
    c.args.start c.args.len _ c.loop-i.memory c.loop-i.i (omega arith) (omega arith) (omega arith) (omega arith) c.loop-i.invariant c.next.result c.next.ensures

pub loop-i-preserved : goal.loop-i-preserved
loop-i-preserved c =
    let R = holds c.args.r.now in
    let D = apart c.args.self.now in
    let P : ℕ → Type 0 = λ t. (R (get_or c.loop-i.memory (c.loop-i.i - 1) 0) t ≡ true) × (D t c.args.start ≡ Some (c.args.len - c.loop-i.i)) in
    walked_more R (holds_inside c.args.r.now) D c.requires.counted
    c.args.start c.args.len _ c.loop-i.memory c.loop-i.i (omega arith) (omega arith) (omega arith) (omega arith) c.loop-i.invariant
    c.unwrap-next.result (subst (Found P) c.unwrap-next.ensures c.next.ensures)
