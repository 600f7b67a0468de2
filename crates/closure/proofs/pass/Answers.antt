use Rattle.std.proofs.Common.{◌≡◌, suc, ◌*◌, ◌-◌, ◌+◌, ◌++◌, ◌<◌, ℕ, length, sym, ◌∙◌, ap, subst, arith}
use Rattle.closure.specs.Steps.{Passed}
use Rattle.closure.proofs.Loops.{passed_parts}
use Rattle.closure.proofs.pass.Goals as goal

-- the rows below row k
rows_below : (n k below : ℕ) → k < n → k * n + n + below ≡ n * n → below ≡ (n - suc k) * n
rows_below n k below p e = let rows : n ≡ suc k + (n - suc k) = omega arith in omega (arith, e, ap (λ x. x * n) rows)

pub sweep-requires-2 : goal.sweep-requires-2
sweep-requires-2 g c =
    let n = c.args.n in
    let last = c.split_at_mut-over in
    let wide : length last.result.0.now ≡ n = last.ensures.front_len in
    let left : n - c.args.k - 1 ≡ n - suc c.args.k = omega arith in
    (rw wide (rw left (rows_below n c.args.k (length last.result.1.now) (omega arith) (omega arith))), omega (arith, wide))

pub returns : goal.returns
returns g c =
    let s = g.S.Step in
    let n = c.args.n in
    let k = c.args.k in
    let cut = c.split_at_mut-above in
    let last = c.split_at_mut-over in
    let above = cut.result.0.now in
    let over = last.result.0.now in
    let below = last.result.1.now in
    let after = c.sweep.new.rows ++ (over ++ c.sweep-2.new.rows) in
    let whole : above ++ (over ++ below) ≡ c.args.table.now = sym (cut.ensures.value ∙ ap (λ l. above ++ l) last.ensures.value) in
    let wide : length over ≡ n = last.ensures.front_len in
    let down : length below ≡ (n - suc k) * n = rows_below n k (length below) (omega arith) (omega arith) in
    subst (λ t. Passed s.none s.join s.chain n k t after) whole
    (subst (λ m. Passed s.none s.join s.chain m k (above ++ (over ++ below)) after) wide
    (passed_parts g.met.S.Step.lawful k above over below (rw wide (omega arith)) (rw wide cut.ensures.front_len) (rw wide down)
    c.sweep.new.rows c.sweep-2.new.rows _ (omega (arith, wide)) c.sweep.auto.rows c.sweep.ensures c.sweep-2.ensures))
