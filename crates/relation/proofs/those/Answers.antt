use Rattle.std.proofs.Common.{◌∙◌, arith}
use Rattle.relation.proofs.Below.{upto_none, upto_more}
use Rattle.relation.proofs.those.Goals as goal

pub loop-j-init : goal.loop-j-init
loop-j-init g c = λ a gives. c.empty-all.ensures ∙ upto_none a

pub loop-j-preserved : goal.loop-j-preserved
loop-j-preserved g c =
    λ a gives. cc (c.loop-j.invariant a gives, gives c.loop-j.j c.keep.result (omega arith) c.keep.ensures, upto_more c.loop-j.j a (omega arith))
