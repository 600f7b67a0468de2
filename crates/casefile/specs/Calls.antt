-- What the records of a file ask of the sheet. Assumes nothing.
use Rattle.std.specs.Prelude.{◌≡◌, ℕ, ◌+◌, ◌*◌, cond, List, [], ◌∷◌, ◌++◌, Some, None, Option, slice_index}
use Rattle.records.specs.declared.mark.Mark.{Mark}
use Rattle.records.specs.declared.mark.Mark.TheVariants.{Thread, Event, ReadFrom, Order, Atomic, Depend, Question, End}
use Rattle.records.specs.declared.mark.Phase.{Phase}
use Rattle.records.specs.declared.mark.Phase.TheVariants.{Rows, Edges, Ended}
use Rattle.records.specs.Format.{is_row, is_end}
use Rattle.records.specs.Grammar.{Item}
use Rattle.sheet.specs.declared.row.Fields.{Fields}
use Rattle.sheet.specs.declared.calls.Edge.TheVariants.{ReadFrom as SourceEdge, Order as OrderEdge, Atomic as AtomicEdge, Depend as DependEdge}
use Rattle.sheet.specs.declared.calls.Call.{Call}
use Rattle.sheet.specs.declared.calls.Call.TheVariants.{Thread as AddThread, Event as AddEvent, Close, Lay}
use Rattle.sheet.specs.Book.{Book, refusal, after}

-- byte k of a body
abbrev pub byte : List ℕ → ℕ → ℕ
byte body k = slice_index body k

-- the fields of an event, numbers low byte first
abbrev pub fields : List ℕ → Fields
fields body =
    record {
      thread = byte body 0;
      kind = byte body 1;
      grade = byte body 2;
      scope = byte body 3;
      proxy = byte body 4;
      address = byte body 5 + byte body 6 * 256;
      value = byte body 7 + byte body 8 * 256 + byte body 9 * 65536 + byte body 10 * 16777216;
    }

-- the call that a record of this mark and body makes; a question and the end make none
abbrev pub call_of : Mark → List ℕ → Option Call
call_of Thread body = Some (AddThread (byte body 0) (byte body 1))
call_of Event body = Some (AddEvent (fields body))
call_of ReadFrom body = Some (Lay SourceEdge (byte body 0) (byte body 1))
call_of Order body = Some (Lay OrderEdge (byte body 0) (byte body 1))
call_of Atomic body = Some (Lay AtomicEdge (byte body 0) (byte body 1))
call_of Depend body = Some (Lay DependEdge (byte body 0) (byte body 1))
call_of Question body = None
call_of End body = None

-- the call of a record as a list
abbrev pub listed : Option Call → List Call
listed None = []
listed (Some c) = c ∷ []

-- the first record that is neither a thread nor an event closes the sheet
abbrev pub closing : Phase → Mark → List Call
closing Rows m = cond (is_row m) [] (Close ∷ [])
closing Edges m = []
closing Ended m = []

-- the phase behind a record
abbrev pub onward : Mark → Phase
onward m = cond (is_row m) Rows (cond (is_end m) Ended Edges)

-- the calls that records make, from phase p on
abbrev pub calls : Phase → List Item → List Call
calls p [] = []
calls p (i ∷ is) = closing p i.mark ++ (listed (call_of i.mark i.body) ++ calls (onward i.mark) is)

-- calls that are accepted one after another lead from book b to book c
abbrev pub Taken : Book → List Call → Book → Type 0
Taken b [] c = b ≡ c
Taken b (k ∷ ks) c = (refusal b k ≡ None) × Taken (after b k) ks c
