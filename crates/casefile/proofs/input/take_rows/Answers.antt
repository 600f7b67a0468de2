use Rattle.std.proofs.Common.{◌≡◌, ℕ, Bool, true, false, [], ◌∷◌, ◌++◌, Ok, Option, Result, refl, ap, ◌∙◌, subst, rules, arith}
use Rattle.records.specs.declared.mark.Phase.{Phase}
use Rattle.records.specs.declared.mark.Phase.TheVariants.{Rows}
use Rattle.records.specs.Format.{is_row}
use Rattle.records.specs.Grammar.{item}
use Rattle.sheet.specs.declared.calls.Call.{Call}
use Rattle.sheet.specs.Book.{Book}
use Rattle.casefile.specs.declared.fault.Cause.{Cause}
use Rattle.casefile.specs.Steps.{Asked, Handed}
use Rattle.casefile.proofs.Reading.{handed, passed, row_taken}
use Rattle.casefile.proofs.Taking.{asked_ok}
use Rattle.casefile.proofs.input.take_rows.Goals as goal
use Rattle.casefile.proofs.input.take_rows.Goals.{In-Some}

-- the record of this turn
here : (c : In-Some) → Handed c.args.reader.now.file.now c.loop-item.invariant.0 Rows c.in-Some.item c.next.new.self
here c =
    let v = c.loop-item.invariant in
    subst (λ (p : Phase). Handed c.args.reader.now.file.now v.0 p c.in-Some.item c.next.new.self) v.2
    (handed c.args.reader.now.file.now c.loop-item.reader c.next.new.self v.0 c.next.result v.1
    c.next.ensures.answer c.next.ensures.place c.in-Some.item c.next.ensures.after c.next.ensures.same
    (c.in_ok-item.was ∙ ap Ok c.in-Some.is))

-- a record that was told to be none is no row
none_told : (row : Bool) (b c : Book) (k : Option Call) (r : Result Bool Cause) → (row ≡ true → Asked b k true r c) → r ≡ Ok false → row ≡ false
none_told true b c k r f e = absurd (let n = (asked_ok true b k r c false (f refl) e).1 in let z : ◌≡◌ {A = ℕ} 0 1 = cc in omega arith)
none_told false b c k r f e = refl

-- and one that was told to be one is
one_told : {P : Type 0} (row : Bool) (r : Result Bool Cause) → (row ≡ false → (r ≡ Ok false) × P) → r ≡ Ok true → row ≡ true
one_told true r f e = refl
one_told false r f e = absurd (let n = (f refl).0 in let z : ◌≡◌ {A = ℕ} 0 1 = cc in omega arith)

pub returns-then-not-branch : goal.returns-then-not-branch
returns-then-not-branch c =
    let v = c.loop-item.invariant in
    let x = c.in-Some.item in
    let told : c.add_row.result ≡ Ok false = search rules in
    let other = none_told (is_row x.mark) _ _ _ c.add_row.result c.add_row.ensures.row told in
    (v.0, here (goal.at.returns-then-not-branch c).In-Some, other, rw (c.add_row.ensures.other other).1 v.3)

pub loop-item-preserved : goal.loop-item-preserved
loop-item-preserved c =
    let v = c.loop-item.invariant in
    let x = c.in-Some.item in
    let h = here (goal.at.loop-item-preserved c).In-Some in
    let told : c.add_row.result ≡ Ok true = search rules in
    let row = one_told (is_row x.mark) c.add_row.result c.add_row.ensures.other told in
    let t = row_taken _ v.0 x c.next.new.self h _ v.3 row _ (asked_ok true _ _ c.add_row.result _ true (c.add_row.ensures.row row) told).0 in
    (v.0 ++ item x ∷ [], passed _ v.0 Rows x c.next.new.self h, t.0, t.1)
