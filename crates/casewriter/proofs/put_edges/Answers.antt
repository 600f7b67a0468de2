use Rattle.std.proofs.Common.{sym, ◌∙◌}
use Rattle.relation.specs.Meaning.{holds}
use Rattle.casewriter.proofs.Adding.{added_edge, skipped_edge}
use Rattle.casewriter.proofs.put_edges.Goals as goal
use Rattle.casewriter.proofs.put_edges.Goals.{then-has, else-has}

pub loop-j-preserved : goal.loop-j-preserved
loop-j-preserved c =
    let f = holds c.args.r.now c.args.i in
    elim c.if-has.branch [
      | then-has w ↦ rw w.out-is (added_edge c.args.edge c.args.i f c.loop-j.j (sym c.has.ensures ∙ w.if-has.true) w.encode_edge.ensures c.loop-j.invariant w.put.ensures)
      | else-has w ↦ rw w.out-is (skipped_edge c.args.edge c.args.i f c.loop-j.j (sym c.has.ensures ∙ w.if-has.false) c.loop-j.invariant)
    ]
