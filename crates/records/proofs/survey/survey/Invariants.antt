use Rattle.std.proofs.Common.{◌≡◌, ◌-◌, List, length}
use Rattle.records.specs.Counts.{tally}
use Rattle.records.specs.Grammar.{Item}
use Rattle.records.proofs.Surveys.{Front}
use Rattle.records.proofs.survey.survey.Given as goal

abbrev pub invariant-loop-record : goal.invariant-loop-record
invariant-loop-record l = (is : List Item) × Front l.file l.reader is × (l.tally ≡ tally is)

abbrev pub decreases-loop-record : goal.decreases-loop-record
decreases-loop-record l = length l.file - l.reader.at
