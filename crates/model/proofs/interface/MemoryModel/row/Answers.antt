use Rattle.std.proofs.Common.{◌≡◌, ap, ◌∙◌}
use Rattle.relation.specs.Algebra.{Rel}
use Rattle.relation.specs.Meaning.{holds, members}
use Rattle.execution.specs.Facts.{facts, with_order}
use Rattle.execution.proofs.Joining.{execution_sound}
use Rattle.model.proofs.Blank.{past_blank, absent_blank}
use Rattle.model.proofs.interface.MemoryModel.row.Goals as goal

pub returns : goal.returns
returns g c =
    let m = g.Self.MemoryModel.meaning c.args.self.now in
    let x = facts c.args.x.now in
    let i = c.args.number in
    let e : members c.row.result ≡ m.relation x i c.args.event =
    c.row.ensures
    ∙ ap (λ (r : Rel). r c.args.event)
    (c.relation.ensures ∙ c.lay-laid.ensures i ∙ c.prepare-prepared.ensures (holds c.order.result.now) i
    ∙ ap (λ (o : Rel). m.relation (with_order x o) i) c.order.ensures) in
    record {
      is = e;
      past = λ h. e ∙ past_blank m (g.met.Self.MemoryModel.lawful c.args.self.now) x i c.args.event h;
      absent = λ h. e ∙ absent_blank m (g.met.Self.MemoryModel.lawful c.args.self.now) x (execution_sound c.args.x.now) i c.args.event h;
    }
