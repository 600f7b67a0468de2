use Rattle.std.proofs.Common.{◌≡◌, ◌+◌, ◌<◌, ◌≢◌, true, eqb, refl, sym, ◌∙◌, rules, arith}
use borrow.Author.Tests.{tests}
use Rattle.std.specs.List.{slice_range}
use Rattle.std.proofs.lemmas.Bool.{lt-ltb, le-ltb, true≢false}
use Rattle.std.proofs.lemmas.Iterator.{YieldsList-from_slice, cases_from_all}
use Rattle.sheet.specs.Rules.{at, is_next}
use Rattle.sheet.proofs.Between.{none_between}
use Rattle.sheet.proofs.rules.is_next.Goals as goal
use Rattle.sheet.proofs.rules.is_next.Goals.{then-i-j, else-i-j}

pub returns-then-thread-events : goal.returns-then-thread-events
unfolding is_next
returns-then-thread-events c =
    let es = c.args.events.now in
    let i = c.args.i in
    let j = c.args.j in
    let p : (i < j) × (eqb (at es i).thread (at es j).thread ≡ true) =
    elim c.if-i-j.branch [
      | then-i-j w ↦ (w.if-i-j.true, sym w.value-is ∙ c.if-thread-events.true)
      | else-i-j w ↦ absurd (true≢false (sym c.if-thread-events.true ∙ w.value-is ∙ le-ltb i j w.if-i-j.false))
    ] in
    rw (lt-ltb i j p.0, p.1)
    (none_between es i j (omega arith) c.all.result
    (cases_from_all _ _ _ (λ e. e.thread ≢ (at es i).thread) (λ e. e.thread ≡ (at es i).thread) c.all.ensures.ran (YieldsList-from_slice (slice_range es (i + 1) j) cc)
    (λ x q k. search (rules, tests)) (λ x q k. search (rules, tests))))

pub returns-else-thread-events : goal.returns-else-thread-events
unfolding is_next
returns-else-thread-events c =
    elim c.if-i-j.branch [
      | then-i-j w ↦ c.if-thread-events.false ∙ rw (lt-ltb c.args.i c.args.j w.if-i-j.true, sym w.value-is ∙ c.if-thread-events.false) refl
      | else-i-j w ↦ w.value-is ∙ rw (le-ltb c.args.i c.args.j w.if-i-j.false) refl
    ]
