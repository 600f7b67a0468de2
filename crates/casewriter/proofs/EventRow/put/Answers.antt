use Rattle.std.proofs.Common.{◌≡◌, ℕ, ◌/◌, ◌%◌, [], ◌∷◌, ap₂, arith}
use Rattle.records.specs.Questions.{le}
use Rattle.sheet.specs.Words.{kind_code, grade_code, scope_code, proxy_code}
use Rattle.casewriter.specs.Written.{Added}
use Rattle.casewriter.proofs.Adding.{added_as, added_more}
use Rattle.casewriter.proofs.EventRow.put.Goals as goal

le_four : (v : ℕ) → v % 256 ∷ v / 256 % 256 ∷ v / 65536 % 256 ∷ v / 16777216 % 256 ∷ [] ≡ le 4 v
le_four v = ap₂ (λ (a b : ℕ). v % 256 ∷ v / 256 % 256 ∷ a % 256 ∷ b % 256 ∷ []) (omega arith) (omega arith)

pub returns : goal.returns
returns c =
    let e = c.args.self in
    let head : Added c.args.out.now (69 ∷ 86 ∷ e.thread ∷ kind_code e.kind ∷ grade_code e.grade ∷ scope_code e.scope ∷ proxy_code e.proxy ∷ []) c.put.new.self =
    added_as (cc) c.put.ensures in
    let address : Added c.put.new.self (le 2 e.address) c.put-2.new.self = added_as (cc) c.put-2.ensures in
    let value : Added c.put-2.new.self (le 4 e.value) c.put-3.new.self = added_as (cc (le_four e.value)) c.put-3.ensures in
    added_more head (added_more address value)
