-- The records of a closed sheet's file, in their order. Assumes nothing.
use Rattle.std.specs.Prelude.{ℕ, zero, suc, Bool, cond, List, [], ◌∷◌, ◌++◌, map, length}
use Rattle.relation.specs.Algebra.{Rel}
use Rattle.records.specs.declared.mark.Mark.{Mark}
use Rattle.records.specs.declared.mark.Mark.TheVariants.{Thread as ThreadMark, Event as EventMark, ReadFrom as SourceMark, Order as OrderMark, Atomic as AtomicMark, Depend as DependMark, End}
use Rattle.records.specs.Questions.{le}
use Rattle.records.specs.Grammar.{Item, file}
use Rattle.sheet.specs.declared.row.Thread.{Thread}
use Rattle.sheet.specs.declared.row.Event.{Event}
use Rattle.sheet.specs.declared.calls.Edge.{Edge}
use Rattle.sheet.specs.declared.calls.Edge.TheVariants.{ReadFrom, Order, Atomic, Depend}
use Rattle.sheet.specs.Words.{kind_code, grade_code, scope_code, proxy_code}
use Rattle.sheet.specs.Book.{Book}

abbrev pub thread_item : Thread → Item
thread_item t = record { mark = ThreadMark; body = t.block ∷ t.device ∷ [] }

-- words by their codes, numbers low byte first
abbrev pub event_item : Event → Item
event_item e =
    record {
      mark = EventMark;
      body = e.thread ∷ kind_code e.kind ∷ grade_code e.grade ∷ scope_code e.scope ∷ proxy_code e.proxy ∷ (le 2 e.address ++ le 4 e.value);
    }

abbrev pub mark_of : Edge → Mark
mark_of ReadFrom = SourceMark
mark_of Order = OrderMark
mark_of Atomic = AtomicMark
mark_of Depend = DependMark

abbrev pub edge_item : Edge → ℕ → ℕ → Item
edge_item k i j = record { mark = mark_of k; body = i ∷ j ∷ [] }

abbrev pub end_item : Item
end_item = record { mark = End; body = [] }

-- the numbers below n that pass f, in order
abbrev pub picked : (ℕ → Bool) → ℕ → List ℕ
picked f zero = []
picked f (suc n) = picked f n ++ cond (f n) (n ∷ []) []

-- the edges of sort k from the first m events to the first n, by first then second event
abbrev pub edge_items : Edge → Rel → ℕ → ℕ → List Item
edge_items k R n zero = []
edge_items k R n (suc m) = edge_items k R n m ++ map (edge_item k m) (picked (R m) n)

-- all edges of sort k
abbrev pub sort_items : Book → Edge → List Item
sort_items b k = edge_items k (b.edges k) (length b.events) (length b.events)

-- threads, events, then read-from, atomic, depend and order, then the end
abbrev pub items : Book → List Item
items b =
    map thread_item b.threads ++ (map event_item b.events ++ (sort_items b ReadFrom ++ (sort_items b Atomic ++ (sort_items b Depend ++ (sort_items b Order ++ end_item ∷ [])))))

-- the file of a book
abbrev pub file_of : Book → List ℕ
file_of b = file (items b)
