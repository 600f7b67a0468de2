-- What reading a case file answers. Assumes nothing.
use Rattle.std.specs.Prelude.{◌≡◌, ℕ, List, ◌++◌, length, Some, None, Ok, Err, Result}
use Rattle.records.specs.declared.mark.Phase.{Phase}
use Rattle.records.specs.declared.mark.Phase.TheVariants.{Rows}
use Rattle.records.specs.Format.{leads}
use Rattle.records.specs.Grammar.{Item, encode, file, Whole, Led, Reading}
use Rattle.sheet.specs.declared.calls.Call.{Call}
use Rattle.sheet.specs.declared.calls.Refusal.{Refusal}
use Rattle.sheet.specs.Book.{Book, blank, refusal}
use Rattle.casefile.specs.declared.fault.Cause.{Cause}
use Rattle.casefile.specs.declared.fault.Cause.TheVariants.{Framing, Sheet}
use Rattle.casefile.specs.declared.fault.Fault.{Fault}
use Rattle.casefile.specs.Calls.{call_of, calls, closing, Taken}

-- a front of whole records whose calls were all accepted, then a whole record whose call the sheet refuses by r
pub record Refused (bs : List ℕ) (r : Refusal) (place : ℕ) : Type 0 where
  pub front : List Item
  pub phase : Phase
  pub item : Item
  pub rest : List ℕ
  pub book : Book
  pub call : Call
  pub bytes : bs ≡ file front ++ (encode item ++ rest)
  pub led : Led Rows front phase
  pub whole : Whole item
  pub may : leads phase item.mark ≡ None → ⊥
  -- the sheet is closed first where the record closes it
  pub taken : Taken blank (calls Rows front ++ closing phase item.mark) book
  pub makes : call_of item.mark item.body ≡ Some call
  pub refused : refusal book call ≡ Some r
  pub at : place ≡ length (file front)

-- a fault of this cause stands at this place
abbrev pub Faulty : List ℕ → Cause → ℕ → Type 0
Faulty bs (Framing k) place = (is : List Item) × (c : Book) × Reading bs is (Some k) × Taken blank (calls Rows is) c × (place ≡ length (file is))
Faulty bs (Sheet r) place = Refused bs r place

-- what reading bs answers: the book that the calls of its records leave, or the first fault
abbrev pub Reads : List ℕ → Result Book Fault → Type 0
Reads bs (Ok c) = (is : List Item) × Reading bs is None × Taken blank (calls Rows is) c
Reads bs (Err f) = Faulty bs f.cause f.place

-- a result with what it holds mapped
abbrev pub map_ok : {T U E : Type 0} → (T → U) → Result T E → Result U E
map_ok f (Ok x) = Ok (f x)
map_ok f (Err e) = Err e
