use Rattle.std.proofs.Common.{Some, Ok, rules}
use Rattle.records.specs.Grammar.{Next, item, seen}
use Rattle.records.specs.Readers.{rest}
use Rattle.records.proofs.Steps.{at_most_file}
use Rattle.records.proofs.Unique.{next_one}
use Rattle.records.proofs.reader.Reader.next.Goals as goal

pub returns-in_err-ahead-clause-only : goal.returns-in_err-ahead-clause-only
returns-in_err-ahead-clause-only c =
    let r = c.args.self.now in
    let a : Next r.phase (rest r) (seen c.from_residual.result) = search rules in
    λ o n. next_one r.phase (rest r) o _ n a

pub invariant_of-self : goal.invariant_of-self
invariant_of-self c =
    let r = c.args.self.now in
    let a : Next r.phase (rest r) (Ok (Some (item c.in-Some.record))) = search rules in
    record { within = at_most_file r (item c.in-Some.record) r.within a }

pub returns-clause-only : goal.returns-clause-only
returns-clause-only c =
    let r = c.args.self.now in
    let a : Next r.phase (rest r) (Ok (Some (item c.in-Some.record))) = search rules in
    λ o n. next_one r.phase (rest r) o _ n a
