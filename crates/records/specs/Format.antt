-- Marks and bodies, and what may stand where. Assumes nothing.
use Rattle.std.specs.Prelude.{◌≡◌, ℕ, ◌+◌, ◌<◌, ◌≤◌, Bool, true, false, cond, ◌⊎◌, List, [], ◌∷◌, length, take, drop, Some, None, Ok, Err, Option, Result, ◌≢◌}
use Rattle.records.specs.declared.fault.Cause.{Cause}
use Rattle.records.specs.declared.fault.Cause.TheVariants.{Cut, Oversize, UnknownMark, LateRow, Trailing, BadQuestion}
use Rattle.records.specs.declared.mark.Mark.{Mark}
use Rattle.records.specs.declared.mark.Mark.TheVariants.{Thread, Event, ReadFrom, Order, Atomic, Depend, Question, End}
use Rattle.records.specs.declared.mark.Sign.{Sign}
use Rattle.records.specs.declared.mark.Sign.TheVariants.{Known, Unknown, Half, Nothing}
use Rattle.records.specs.declared.mark.Phase.{Phase}
use Rattle.records.specs.declared.mark.Phase.TheVariants.{Rows, Edges, Ended}
use Rattle.records.specs.declared.question.Question.{Question as Query}
use Rattle.records.specs.Questions.{asked}

-- the two letters of a mark: TH, EV, RF, OR, AT, DE, QU, EN
abbrev pub letters : Mark → List ℕ
letters Thread = 84 ∷ 72 ∷ []
letters Event = 69 ∷ 86 ∷ []
letters ReadFrom = 82 ∷ 70 ∷ []
letters Order = 79 ∷ 82 ∷ []
letters Atomic = 65 ∷ 84 ∷ []
letters Depend = 68 ∷ 69 ∷ []
letters Question = 81 ∷ 85 ∷ []
letters End = 69 ∷ 78 ∷ []

-- how many bytes the body has
abbrev pub size : Mark → ℕ
size Thread = 2
size Event = 11
size ReadFrom = 2
size Order = 2
size Atomic = 2
size Depend = 2
size Question = 4
size End = 0

-- bs begins with the mark m
abbrev pub Begins : List ℕ → Mark → Type 0
Begins bs m = take 2 bs ≡ letters m

-- what stands at the front of bs
abbrev pub Here : List ℕ → Sign → Type 0
Here bs (Known m) = Begins bs m
Here bs Unknown = (2 ≤ length bs) × ((m : Mark) → Begins bs m → ⊥)
Here bs Half = length bs ≡ 1
Here bs Nothing = length bs ≡ 0

-- whether a mark is of a thread or an event, and whether it ends the file
abbrev pub is_row : Mark → Bool
is_row Thread = true
is_row Event = true
is_row ReadFrom = false
is_row Order = false
is_row Atomic = false
is_row Depend = false
is_row Question = false
is_row End = false

abbrev pub is_end : Mark → Bool
is_end Thread = false
is_end Event = false
is_end ReadFrom = false
is_end Order = false
is_end Atomic = false
is_end Depend = false
is_end Question = false
is_end End = true

-- the phase that a record of mark m leads to: threads and events stand before all else, and nothing behind the end
abbrev pub leads : Phase → Mark → Option Phase
leads Rows m = Some (cond (is_row m) Rows (cond (is_end m) Ended Edges))
leads Edges m = cond (is_row m) None (Some (cond (is_end m) Ended Edges))
leads Ended m = None

-- the fields that a body must have besides its size: that of a question is one
abbrev pub Fields : Mark → List ℕ → Type 0
Fields Thread body = Unit {0}
Fields Event body = Unit {0}
Fields ReadFrom body = Unit {0}
Fields Order body = Unit {0}
Fields Atomic body = Unit {0}
Fields Depend body = Unit {0}
Fields Question body = (q : Query) × (asked q ≡ body)
Fields End body = Unit {0}

-- bs, where a record is due in phase p, is broken in this way
abbrev pub Broken : Phase → List ℕ → Cause → Type 0
Broken p bs Cut = (p ≢ Ended) × ((length bs < 2) ⊎ ((m : Mark) × Begins bs m × (leads p m ≢ None) × (length bs < 2 + size m)))
Broken p bs Oversize = ⊥
Broken p bs UnknownMark = (p ≢ Ended) × (2 ≤ length bs) × ((m : Mark) → Begins bs m → ⊥)
Broken p bs LateRow = (p ≡ Edges) × (m : Mark) × Begins bs m × (is_row m ≡ true)
Broken p bs Trailing = (p ≡ Ended) × (0 < length bs)
Broken p bs BadQuestion = (p ≢ Ended) × Begins bs Question × (6 ≤ length bs) × (Fields Question (take 4 (drop 2 bs)) → ⊥)

-- what a sign asks in a phase
abbrev pub Due : Phase → Sign → Result (Option (Mark × Phase)) Cause → Type 0
Due p s (Ok None) = (p ≡ Ended) × (s ≡ Nothing)
Due p s (Ok (Some x)) = (s ≡ Known x.0) × (leads p x.0 ≡ Some x.1)
Due p s (Err Cut) = (p ≢ Ended) × ((s ≡ Nothing) ⊎ (s ≡ Half))
Due p s (Err Oversize) = ⊥
Due p s (Err UnknownMark) = (p ≢ Ended) × (s ≡ Unknown)
Due p s (Err LateRow) = (p ≡ Edges) × (m : Mark) × (s ≡ Known m) × (is_row m ≡ true)
Due p s (Err Trailing) = (p ≡ Ended) × (s ≢ Nothing)
Due p s (Err BadQuestion) = ⊥
