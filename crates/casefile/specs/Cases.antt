-- A case file read record by record. Assumes nothing.
use Rattle.std.specs.Prelude.{◌≡◌, ℕ, false, List, [], ◌∷◌, ◌++◌, length, Some, None, Ok, Err, Option, Result}
use Rattle.records.specs.declared.mark.Phase.{Phase}
use Rattle.records.specs.declared.mark.Phase.TheVariants.{Rows}
use Rattle.records.specs.declared.mark.Record.{Record}
use Rattle.records.specs.declared.reader.Reader.{Reader}
use Rattle.records.specs.Format.{is_row}
use Rattle.records.specs.Grammar.{Item, file, Whole, Led, Reading, item}
use Rattle.sheet.specs.declared.calls.Call.TheVariants.{Close}
use Rattle.sheet.specs.Book.{Book, blank, after}
use Rattle.sheet.specs.Sheets.{closed_book}
use Rattle.casefile.specs.declared.case.Case.{Case}
use Rattle.casefile.specs.declared.fault.Fault.{Fault}
use Rattle.casefile.specs.Calls.{call_of, calls, closing, Taken}
use Rattle.casefile.specs.Files.{Reads}
use Rattle.casefile.specs.Steps.{Handed, after_of}

-- behind the records `front` the file is over, or this record waits: the calls of those before it are taken, and the sheet is closed
abbrev pub Before : List ℕ → List Item → Reader → Option Record → Book → Type 0
Before bs front r None c = Reading bs front None × Taken blank (calls Rows front) c
Before bs front r (Some x) c = (p : Phase) × Handed bs front p x r × (is_row x.mark ≡ false) × Taken blank (calls Rows front ++ closing p x.mark) c

-- one more record of the file was read behind `front`, or a fault ends the reading
abbrev pub Advanced : List ℕ → List Item → Reader → Result (Option Record) Fault → Book → Type 0
Advanced bs front r (Ok o) c = Before bs front r o c
Advanced bs front r (Err f) c = Reads bs (Err f)

-- without a fault so far, what comes next stands behind these records
abbrev pub Behind : List ℕ → List Item → Reader → Result (Option Record) Fault → Book → Type 0
Behind bs front r (Ok o) c = Before bs front r o c
Behind bs front r (Err f) c = ⊥

-- the case stands behind these records of the file bs
abbrev pub Stands : List ℕ → List Item → Case → Type 0
Stands bs front c = Behind bs front c.reader c.next (closed_book c.sheet)

-- without a fault so far, the case stands behind the threads and events; else the file's reading ends with that fault, and the sheet is empty
abbrev pub Begun : List ℕ → Reader → Result (Option Record) Fault → Book → Type 0
Begun bs r (Ok o) c = (front : List Item) × Led Rows front Rows × Before bs front r o c
Begun bs r (Err f) c = Reads bs (Err f) × (c ≡ after blank Close)

-- a case of the file bs that was opened
abbrev pub Opened : List ℕ → Case → Type 0
Opened bs c = Begun bs c.reader c.next (closed_book c.sheet)

-- the record that is handed out is the next one of the file, with its place, and the case then stands behind it; none is handed out at the
-- file's end; a fault is the one that the file's reading ends with
abbrev pub Stepped : List ℕ → List Item → Result (Option Record) Fault → Case → Type 0
Stepped bs front (Ok None) c = Stands bs front c × Reading bs front None
Stepped bs front (Ok (Some x)) c = (x.place ≡ length (file front)) × Whole (item x) × Stands bs (front ++ item x ∷ []) c
Stepped bs front (Err f) c = Reads bs (Err f)

-- the book after a step: a record that waits asks its call, and a fault stops the case
abbrev pub stepped : Result (Option Record) Fault → Book → Book
stepped (Err f) b = b
stepped (Ok None) b = b
stepped (Ok (Some x)) b = after_of b (call_of x.mark x.body.now)

-- the fault that is kept, if there is one
abbrev pub fault_of : Result (Option Record) Fault → Option Fault
fault_of (Ok o) = None
fault_of (Err f) = Some f

-- the fault that is kept after a step
abbrev pub kept : Option Fault → Result (Option Record) Fault → Option Fault
kept e (Ok o) = e
kept e (Err f) = Some f
