-- Questions and their bytes. Assumes nothing.
use Rattle.std.specs.Prelude.{◌≡◌, ℕ, zero, suc, ◌/◌, ◌%◌, List, [], ◌∷◌, Ok, Err, Result, ◌≢◌}
use Rattle.records.specs.declared.fault.Cause.{Cause}
use Rattle.records.specs.declared.fault.Cause.TheVariants.{BadQuestion}
use Rattle.records.specs.declared.question.Model.{Model}
use Rattle.records.specs.declared.question.Model.TheVariants.{Sc, Ptx, PtxProxies, ViewedSc, ViewedPtx, ViewedPtxProxies}
use Rattle.records.specs.declared.question.Ask.{Ask}
use Rattle.records.specs.declared.question.Ask.TheVariants.{Settle, Judge}
use Rattle.records.specs.declared.question.Question.{Question}

-- the number v in n bytes, low byte first
abbrev pub le : ℕ → ℕ → List ℕ
le zero v = []
le (suc n) v = v % 256 ∷ le n (v / 256)

-- the number of a model; the view layer over it adds 16
abbrev pub code : Model → ℕ
code Sc = 0
code Ptx = 2
code PtxProxies = 3
code ViewedSc = 16
code ViewedPtx = 18
code ViewedPtxProxies = 19

-- the model of this number, or that there is none
abbrev pub Named : ℕ → Result Model Cause → Type 0
Named n (Ok m) = code m ≡ n
Named n (Err c) = (c ≡ BadQuestion) × ((m : Model) → code m ≢ n)

-- the question byte and the two bytes of the completion, which is 0 for a settling
abbrev pub asking : Ask → List ℕ
asking Settle = 0 ∷ le 2 0
asking (Judge c) = 1 ∷ le 2 c

-- what a question byte q and a completion c ask, or that they ask nothing
abbrev pub Asking : ℕ → ℕ → Result Ask Cause → Type 0
Asking q c (Ok a) = asking a ≡ q ∷ le 2 c
Asking q c (Err k) = (k ≡ BadQuestion) × ((a : Ask) → asking a ≢ q ∷ le 2 c)

-- the body of a question
abbrev pub asked : Question → List ℕ
asked q = code q.model ∷ asking q.ask

-- the question that has this body, or that none has
abbrev pub Asks : List ℕ → Result Question Cause → Type 0
Asks body (Ok q) = asked q ≡ body
Asks body (Err c) = (c ≡ BadQuestion) × ((q : Question) → asked q ≢ body)
