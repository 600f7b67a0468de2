-- A file as the bytes of its records. Assumes nothing.
use Rattle.std.specs.Prelude.{◌≡◌, ℕ, List, [], ◌∷◌, ◌++◌, length, Some, None, Ok, Err, Option, Result, ◌≢◌}
use Rattle.std.specs.List.{flat_map}
use Rattle.records.specs.declared.fault.Cause.{Cause}
use Rattle.records.specs.declared.fault.Fault.{Fault}
use Rattle.records.specs.declared.mark.Mark.{Mark}
use Rattle.records.specs.declared.mark.Phase.{Phase}
use Rattle.records.specs.declared.mark.Phase.TheVariants.{Rows, Ended}
use Rattle.records.specs.declared.mark.Record.{Record}
use Rattle.records.specs.Format.{letters, size, leads, Fields, Broken}

-- a record, by its mark and the bytes of its body
pub record Item : Type 0 where
  pub mark : Mark
  pub body : List ℕ

-- the bytes of a record
abbrev pub encode : Item → List ℕ
encode i = letters i.mark ++ i.body

-- the bytes of records one after another
abbrev pub file : List Item → List ℕ
file is = flat_map encode is

-- the body has its size and its fields
pub record Whole (i : Item) : Type 0 where
  pub long : length i.body ≡ size i.mark
  pub fields : Fields i.mark i.body

-- whole records that may follow one another lead from phase p to phase q
abbrev pub Led : Phase → List Item → Phase → Type 0
Led p [] q = p ≡ q
Led p (i ∷ is) q = Whole i × (s : Phase) × (leads p i.mark ≡ Some s) × Led s is q

-- what may be found where a record is due: a record, a clean end, or a cause of a fault
abbrev pub Outcome : Type 0
Outcome = Result (Option Item) Cause

-- in phase p, bs ends cleanly, or begins with a record, or is broken
abbrev pub Next : Phase → List ℕ → Outcome → Type 0
Next p bs (Ok None) = (p ≡ Ended) × (bs ≡ [])
Next p bs (Ok (Some i)) = Whole i × (leads p i.mark ≢ None) × (more : List ℕ) × (bs ≡ encode i ++ more)
Next p bs (Err c) = Broken p bs c

-- a record that was handed out
abbrev pub item : Record → Item
item r = record { mark = r.mark; body = r.body.now }

-- what an answer of the reader tells, places apart
abbrev pub seen : Result (Option Record) Fault → Outcome
seen (Ok None) = Ok None
seen (Ok (Some r)) = Ok (Some (item r))
seen (Err f) = Err f.cause

-- where the records are over: a clean end, or the cause of a fault
abbrev pub over : Option Cause → Outcome
over None = Ok None
over (Some c) = Err c

-- bs is a front of whole records and then ends: cleanly, or broken by a cause
pub record Reading (bs : List ℕ) (is : List Item) (end : Option Cause) : Type 0 where
  pub phase : Phase
  pub rest : List ℕ
  pub bytes : bs ≡ file is ++ rest
  pub led : Led Rows is phase
  pub ends : Next phase rest (over end)
