use Rattle.std.proofs.Common.{◌≡◌, ℕ, ◌+◌, ◌-◌, Bool, true, false, not, ◌&&◌, sym, ap, ◌∙◌, subst, arith}
use Rattle.std.proofs.Math.Bool.{not-not}
use Rattle.std.proofs.lemmas.Bool.{and_parts}
use Rattle.relation.specs.Algebra.{Set, both, some_below}
use Rattle.relation.specs.Meaning.{members, holds}
use Rattle.relation.proofs.Sets.{members_past}
use Rattle.relation.proofs.Relations.{holds_second}
use Rattle.peeling.specs.Peeling.{Peeled}
use Rattle.peeling.proofs.Rounds.{peeled_none, peeled_out, peeled_keep}
use Rattle.peeling.proofs.peel.Goals as goal

and_else : (a b : Bool) → (a && b) ≡ false → a ≡ true → b ≡ false
and_else true b h e = h
and_else false b h e = absurd (let z : ◌≡◌ {A = ℕ} 0 1 = cc in omega arith)

pub loop-k-init : goal.loop-k-init
loop-k-init c = peeled_none (holds c.args.rel.now) (members c.args.live.now) (members_past c.args.live.now)

pub loop-k-preserved : goal.loop-k-preserved
loop-k-preserved c =
    let R = holds c.args.rel.now in
    let L = members c.loop-k.live in
    let k = c.loop-k.k - 1 in
    let next : c.loop-k.k ≡ k + 1 = omega (arith, c.loop-k-test.true) in
    let e : c.is_empty.result ≡ not (some_below 64 (both (R k) L)) = cc in
    peeled_keep R (members c.args.live.now) L c.loop-k.removed k
    (λ h. sym (not-not (some_below 64 (both (R k) L))) ∙ ap not (sym e ∙ and_else c.has.result c.is_empty.result c.if-has-is_empty.false (c.has.ensures ∙ h)))
    (subst (Peeled R (members c.args.live.now) L c.loop-k.removed) next c.loop-k.invariant)

pub loop-k-preserved-then-has-is_empty : goal.loop-k-preserved-then-has-is_empty
loop-k-preserved-then-has-is_empty c =
    let R = holds c.args.rel.now in
    let L = members c.loop-k.live in
    let k = c.loop-k.k - 1 in
    let next : c.loop-k.k ≡ k + 1 = omega (arith, c.loop-k-test.true) in
    let e : c.is_empty.result ≡ not (some_below 64 (both (R k) L)) = cc in
    let t = and_parts c.has.result c.is_empty.result c.if-has-is_empty.true in
    subst (λ (S : Set). Peeled R (members c.args.live.now) S true k) (sym c.without.ensures)
    (peeled_out R (members c.args.live.now) L c.loop-k.removed k (holds_second c.args.rel.now) (omega (arith, c.loop-k.auto.k))
    (sym c.has.ensures ∙ t.0)
    (sym (not-not (some_below 64 (both (R k) L))) ∙ ap not (sym e ∙ t.1))
    (subst (Peeled R (members c.args.live.now) L c.loop-k.removed) next c.loop-k.invariant))
