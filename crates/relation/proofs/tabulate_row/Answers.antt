use Rattle.std.proofs.Common.{rules, sym, ◌∙◌, arith}
use Rattle.relation.proofs.Relations.{cut_in, cut_past}
use Rattle.relation.proofs.tabulate_row.Goals as goal

pub returns-then-i-n : goal.returns-then-i-n
returns-then-i-n g c = c.empty.ensures ∙ sym (cut_past c.args.n (g.P.Pairs.relates c.args.p.now) c.args.i (omega arith))

pub returns : goal.returns
returns g c =
    let p = g.P.Pairs.relates c.args.p.now in
    c.those.ensures (p c.args.i) (λ j t l h. search rules) ∙ cut_in c.args.n p c.args.i (omega arith)
