use Rattle.std.proofs.Common.{◌≡◌, ℕ, true, false, get_or, sym, ap, ◌∙◌, ap₂}
use Rattle.std.proofs.lemmas.Bool.{eq-eqb, ne_eqb}
use Rattle.relation.specs.Algebra.{pair, ◌∪◌}
use Rattle.relation.specs.Meaning.{holds}
use Rattle.relation.proofs.Digits.{member_test}
use Rattle.completion.specs.Listed.{listed}
use Rattle.completion.proofs.Adding.{pair_edge, added_none, added_more}
use Rattle.completion.proofs.completing.complete.Goals as goal
use Rattle.completion.proofs.completing.complete.Goals.{then-completion-i-eq1, else-completion-i-eq1}

pub loop-i-init : goal.loop-i-init
loop-i-init c = added_none (holds c.args.order.now) (listed c.args.pairs.now) c.args.completion

pub loop-i-preserved : goal.loop-i-preserved
loop-i-preserved c =
    let R = holds c.args.order.now in
    let ps = c.args.pairs.now in
    let n = c.args.completion in
    let i = c.loop-i.i in
    let p : ℕ × ℕ = get_or (listed ps) i (0, 0) in
    let e : get_or c.deref-pair-items.result.now i (0, 0) ≡ p = ap (λ l. get_or l i (0, 0)) c.deref-pair-items.ensures.0 in
    elim c.if-completion-i-eq1.branch [
      | then-completion-i-eq1 w ↦
          ap holds w.all-is ∙ w.add.ensures
          ∙ ap₂ ◌∪◌ c.loop-i.invariant (ap (λ (q : ℕ × ℕ). pair q.1 q.0) e ∙ pair_edge p.1 p.0 (ps.highs i) (ps.lows i))
          ∙ added_more R (listed ps) n i true (sym (member_test n i) ∙ eq-eqb _ 1 w.if-completion-i-eq1.true)
      | else-completion-i-eq1 w ↦
          ap holds w.all-is ∙ w.add-else-completion-i-eq1.ensures
          ∙ ap₂ ◌∪◌ c.loop-i.invariant (ap (λ (q : ℕ × ℕ). pair q.0 q.1) e ∙ pair_edge p.0 p.1 (ps.lows i) (ps.highs i))
          ∙ added_more R (listed ps) n i false (sym (member_test n i) ∙ ne_eqb _ 1 w.if-completion-i-eq1.false)
    ]
