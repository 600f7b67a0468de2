-- What a file has by numbers of records, and what reading it to its end answers. Assumes nothing.
use Rattle.std.specs.Prelude.{◌≡◌, ℕ, ◌+◌, Bool, true, false, cond, List, [], ◌∷◌, ◌++◌, length, Some, None, Ok, Err, codes, decimal, Result}
use Rattle.records.specs.declared.fault.Fault.{Fault}
use Rattle.records.specs.declared.mark.Mark.{Mark}
use Rattle.records.specs.declared.mark.Mark.TheVariants.{Thread, Event, ReadFrom, Order, Atomic, Depend, Question, End}
use Rattle.records.specs.declared.survey.Tally.{Tally}
use Rattle.records.specs.Grammar.{Item, file, Reading}

-- the sorts of records that are counted
pub data Sort : Type 0 where
  thread : Sort
  event : Sort
  edge : Sort
  question : Sort
  end : Sort

abbrev pub sort : Mark → Sort
sort Thread = thread
sort Event = event
sort ReadFrom = edge
sort Order = edge
sort Atomic = edge
sort Depend = edge
sort Question = question
sort End = end

abbrev pub same : Sort → Sort → Bool
same thread s = elim s [ thread ↦ true | event ↦ false | edge ↦ false | question ↦ false | end ↦ false ]
same event s = elim s [ thread ↦ false | event ↦ true | edge ↦ false | question ↦ false | end ↦ false ]
same edge s = elim s [ thread ↦ false | event ↦ false | edge ↦ true | question ↦ false | end ↦ false ]
same question s = elim s [ thread ↦ false | event ↦ false | edge ↦ false | question ↦ true | end ↦ false ]
same end s = elim s [ thread ↦ false | event ↦ false | edge ↦ false | question ↦ false | end ↦ true ]

-- 1 for a record of the sort, and 0 for another
abbrev pub one : Sort → Sort → ℕ
one s t = cond (same s t) 1 0

-- how many records are of the sort
abbrev pub count : Sort → List Item → ℕ
count s [] = 0
count s (i ∷ is) = one s (sort i.mark) + count s is

-- what records come to
abbrev pub tally : List Item → Tally
tally is = record { records = length is; threads = count thread is; events = count event is; edges = count edge is; questions = count question is }

abbrev pub none : Tally
none = record { records = 0; threads = 0; events = 0; edges = 0; questions = 0 }

-- one record more, of this sort
abbrev pub noted_sort : Tally → Sort → Tally
noted_sort t thread = record { records = t.records + 1; threads = t.threads + 1; events = t.events; edges = t.edges; questions = t.questions }
noted_sort t event = record { records = t.records + 1; threads = t.threads; events = t.events + 1; edges = t.edges; questions = t.questions }
noted_sort t edge = record { records = t.records + 1; threads = t.threads; events = t.events; edges = t.edges + 1; questions = t.questions }
noted_sort t question = record { records = t.records + 1; threads = t.threads; events = t.events; edges = t.edges; questions = t.questions + 1 }
noted_sort t end = record { records = t.records + 1; threads = t.threads; events = t.events; edges = t.edges; questions = t.questions }

abbrev pub noted : Tally → Mark → Tally
noted t m = noted_sort t (sort m)

-- the numbers as they are written
abbrev pub tally_text : Tally → List ℕ
tally_text t =
    codes "records " ++ (decimal t.records ++ (codes " threads " ++ (decimal t.threads ++ (codes " events " ++ (decimal t.events
    ++ (codes " edges " ++ (decimal t.edges ++ (codes " questions " ++ decimal t.questions))))))))

-- what reading bs to its end answers: what its records come to, or the cause and the place of the fault behind those before it
abbrev pub Reads : List ℕ → Result Tally Fault → Type 0
Reads bs (Ok t) = (is : List Item) × Reading bs is None × (t ≡ tally is)
Reads bs (Err f) = (is : List Item) × Reading bs is (Some f.cause) × (f.place ≡ length (file is))
