use Rattle.std.proofs.Common.{◌≡◌, ℕ, ◌≤◌, Some, refl, subst, arith}
use Rattle.relation.specs.Meaning.{holds}
use Rattle.cycles.specs.Cycles.{Shown}
use Rattle.cycles.specs.Counts.{apart, Shorter, Found}
use Rattle.cycles.proofs.Reading.{unique, stepwise}
use Rattle.cycles.proofs.Tables.{holds_inside, cycles_are_chains}
use Rattle.cycles.proofs.Walking.{few, witnessed, no_cycle, same_behind}
use Rattle.cycles.proofs.shortest_cycle.Goals as goal

pub returns-in_err-len : goal.returns-in_err-len
returns-in_err-len c =
    let R = holds c.args.r.now in
    let none = no_cycle R (holds_inside c.args.r.now) (apart c.of-distances.result) c.of-distances.ensures c.in_err-len.ensures in
    record {
      witness = rw c.from_residual.ensures (none, refl);
      unique = unique;
      stepwise = stepwise;
      chains = cycles_are_chains;
    }

pub returns : goal.returns
returns c =
    let R = holds c.args.r.now in
    let i = holds_inside c.args.r.now in
    let D = apart c.of-distances.result in
    let l = c.in_ok-len.len in
    let P : ℕ → Type 0 = λ i. D i i ≡ Some l in
    let least : Shorter D (Some l) = c.in_ok-len.ensures in
    let start = subst (Found P) c.unwrap-start.ensures c.lowest_start.ensures in
    let size : l ≤ 64 = few R i D c.of-distances.ensures l least in
    let shown : Shown R c.args.memory.now c.walk.new.memory l =
    record {
      few = size;
      witness = witnessed R i D c.of-distances.ensures l c.args.memory.now c.walk.new.memory c.unwrap-start.result
          start.0 start.1 (omega arith) least start.2 c.walk.ensures;
      rest = same_behind l c.walk.new.memory c.args.memory.now c.walk.ensures.long c.walk.ensures.rest;
    } in
    record {
      witness = rw c.from.ensures shown;
      unique = unique;
      stepwise = stepwise;
      chains = cycles_are_chains;
    }
