use Rattle.relation.specs.Meaning.{holds, Laid}
use Rattle.relation.proofs.lay_out.Given as goal

abbrev pub invariant-loop-p : goal.invariant-loop-p
invariant-loop-p l = Laid (holds l.r) l.steps l.p
