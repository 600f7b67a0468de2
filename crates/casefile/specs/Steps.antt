-- What the parts of the reading answer. Assumes nothing.
use Rattle.std.specs.Prelude.{◌≡◌, ℕ, false, List, [], ◌∷◌, ◌++◌, length, Some, None, Ok, Err, Option, Result}
use Rattle.records.specs.declared.mark.Phase.{Phase}
use Rattle.records.specs.declared.mark.Phase.TheVariants.{Rows}
use Rattle.records.specs.declared.mark.Record.{Record}
use Rattle.records.specs.declared.reader.Reader.{Reader}
use Rattle.records.specs.Format.{is_row, leads}
use Rattle.records.specs.Grammar.{Item, encode, file, Whole, Led, item}
use Rattle.records.specs.Readers.{rest}
use Rattle.sheet.specs.declared.calls.Call.{Call}
use Rattle.sheet.specs.declared.calls.Refusal.{Refusal}
use Rattle.sheet.specs.Book.{Book, blank, refusal, after}
use Rattle.casefile.specs.declared.fault.Cause.{Cause}
use Rattle.casefile.specs.declared.fault.Cause.TheVariants.{Sheet}
use Rattle.casefile.specs.declared.fault.Fault.{Fault}
use Rattle.casefile.specs.Calls.{calls, Taken}
use Rattle.casefile.specs.Files.{Faulty}

-- why the call k, if there is one, is refused
abbrev pub refusal_of : Book → Option Call → Option Refusal
refusal_of b None = None
refusal_of b (Some k) = refusal b k

-- the book after the call k, if there is one
abbrev pub after_of : Book → Option Call → Book
after_of b None = b
after_of b (Some k) = after b k

-- what is told if nothing is refused, or else the refusal as the cause of a fault
abbrev pub answer_of : {T : Type 0} → Option Refusal → T → Result T Cause
answer_of None x = Ok x
answer_of (Some r) x = Err (Sheet r)

-- the call k, if there is one, was asked of a sheet of book b, which has book c now, and x is told if it was accepted
pub record Asked {T : Type 0} (b : Book) (k : Option Call) (x : T) (r : Result T Cause) (c : Book) : Type 0 where
  pub answer : r ≡ answer_of (refusal_of b k) x
  pub book : c ≡ after_of b k

-- the reader has just handed out the record x, which stands behind the records is, in phase p
pub record Handed (bs : List ℕ) (is : List Item) (p : Phase) (x : Record) (r : Reader) : Type 0 where
  pub same : r.file.now ≡ bs
  pub bytes : bs ≡ file is ++ (encode (item x) ++ rest r)
  pub place : x.place ≡ length (file is)
  pub before : Led Rows is p
  pub whole : Whole (item x)
  pub onto : leads p x.mark ≡ Some r.phase
  -- with the record itself
  pub at : r.at ≡ length (file (is ++ item x ∷ []))
  pub led : Led Rows (is ++ item x ∷ []) r.phase

-- threads and events were added to a new sheet, which has book c now, up to the first other record, or a fault
abbrev pub Stopped : List ℕ → Reader → Result (Option Record) Fault → Book → Type 0
Stopped bs r (Ok None) c = ⊥
Stopped bs r (Ok (Some x)) c = (is : List Item) × Handed bs is Rows x r × (is_row x.mark ≡ false) × Taken blank (calls Rows is) c
Stopped bs r (Err f) c = Faulty bs f.cause f.place
