-- What is written reads back as the same book.
use Rattle.std.proofs.Common.{◌≡◌, ℕ, zero, suc, ◌+◌, ◌*◌, ◌/◌, ◌%◌, ◌<◌, ◌≤◌, Bool, true, false, cond, not, ◌&&◌, ◌||◌, ltb, List, [], ◌∷◌, ◌++◌, map, length, get_or, take, Option, Some, None, Ok, sym, refl, ap, ◌∙◌, subst, ap₂, append_assoc, append-nil, add-one, arith}
use Rattle.std.proofs.lemmas.List.{map_push, take_more, take_all, take-take, get_or-take, length-take-le}
use Rattle.std.proofs.lemmas.Bool.{and_parts, ltb-true, lt-ltb}
use Rattle.relation.specs.Algebra.{Rel}
use Rattle.records.specs.declared.mark.Phase.{Phase}
use Rattle.records.specs.declared.mark.Phase.TheVariants.{Rows, Edges, Ended}
use Rattle.records.specs.Format.{is_row, is_end}
use Rattle.records.specs.Grammar.{Item, Led, Reading}
use Rattle.sheet.specs.declared.words.Kind.{Kind}
use Rattle.sheet.specs.declared.words.Kind.TheVariants.{Read, Write, MemoryFence, ProxyFence}
use Rattle.sheet.specs.declared.words.Grade.{Grade}
use Rattle.sheet.specs.declared.words.Grade.TheVariants.{Weak, Relaxed, Acquire, Release, AcquireRelease, Sc}
use Rattle.sheet.specs.declared.words.Scope.{Scope}
use Rattle.sheet.specs.declared.words.Scope.TheVariants.{Thread as Own, Block, Device, System}
use Rattle.sheet.specs.declared.words.Proxy.{Proxy}
use Rattle.sheet.specs.declared.words.Proxy.TheVariants.{Generic, Constant, Texture, Surface}
use Rattle.sheet.specs.declared.row.Thread.{Thread}
use Rattle.sheet.specs.declared.row.Event.{Event}
use Rattle.sheet.specs.declared.row.Fields.{Fields}
use Rattle.sheet.specs.declared.calls.Edge.{Edge}
use Rattle.sheet.specs.declared.calls.Edge.TheVariants.{ReadFrom, Order, Atomic, Depend}
use Rattle.sheet.specs.declared.calls.Call.{Call}
use Rattle.sheet.specs.declared.calls.Call.TheVariants.{Thread as AddThread, Event as AddEvent, Close, Lay}
use Rattle.sheet.specs.declared.closed.ClosedSheet.{ClosedSheet}
use Rattle.sheet.specs.Words.{nth, kinds, grades, scopes, proxies, kind_code, grade_code, scope_code, proxy_code}
use Rattle.sheet.specs.Book.{Book, blank, absent, full, bad_field, cannot_carry, differ, there, after, accepted}
use Rattle.sheet.specs.Fitting.{ThreadsFit, EventsFit, thread_comes, event_comes, sized}
use Rattle.sheet.specs.Rules.{decoded, fields_fit, keeps, event_of, or_none, lawful, no_thread, no_event}
use Rattle.sheet.specs.Sets.{EdgeSets, no_edges, laid, same_edge}
use Rattle.sheet.specs.Sheets.{closed_book}
use Rattle.sheet.proofs.Laws.{no_row}
use Rattle.sheet.proofs.Reading.{bind_some}
use Rattle.records.proofs.Unique.{reading_one}
use Rattle.casefile.specs.Calls.{calls, Taken, fields, call_of, listed, onward}
use Rattle.casefile.specs.Files.{Reads}
use Rattle.casewriter.specs.Items.{thread_item, event_item, edge_item, end_item, picked, edge_items, sort_items, items, file_of}
use Rattle.casewriter.specs.Written.{FilesTell}
use Rattle.casewriter.proofs.Parts.{part}
use Rattle.casewriter.proofs.Taking.{taken_append, taken_one, lays, sort_taken, part_none, part_all}

-- ---- words by their codes

kind_coded : (k : Kind) → nth kinds (kind_code k) ≡ Some k
kind_coded Read = refl
kind_coded Write = refl
kind_coded MemoryFence = refl
kind_coded ProxyFence = refl

grade_coded : (g : Grade) → nth grades (grade_code g) ≡ Some g
grade_coded Weak = refl
grade_coded Relaxed = refl
grade_coded Acquire = refl
grade_coded Release = refl
grade_coded AcquireRelease = refl
grade_coded Sc = refl

scope_coded : (s : Scope) → nth scopes (scope_code s) ≡ Some s
scope_coded Own = refl
scope_coded Block = refl
scope_coded Device = refl
scope_coded System = refl

proxy_coded : (p : Proxy) → nth proxies (proxy_code p) ≡ Some p
proxy_coded Generic = refl
proxy_coded Constant = refl
proxy_coded Texture = refl
proxy_coded Surface = refl

-- the fields of an event
abbrev given_fields : Event → Fields
given_fields e =
    record {
      thread = e.thread;
      kind = kind_code e.kind;
      grade = grade_code e.grade;
      scope = scope_code e.scope;
      proxy = proxy_code e.proxy;
      address = e.address;
      value = e.value;
    }

decoded_given : (e : Event) → decoded (given_fields e) ≡ Some e
unfolding decoded
decoded_given e =
    bind_some (nth kinds (kind_code e.kind)) _ e.kind (kind_coded e.kind)
    ∙ bind_some (nth grades (grade_code e.grade)) _ e.grade (grade_coded e.grade)
    ∙ bind_some (nth scopes (scope_code e.scope)) _ e.scope (scope_coded e.scope)
    ∙ bind_some (nth proxies (proxy_code e.proxy)) _ e.proxy (proxy_coded e.proxy)

-- two and four bytes give back their number
two_bytes : (a : ℕ) → a < 65536 → a % 256 + a / 256 % 256 * 256 ≡ a
two_bytes a l = let q : a / 256 % 256 ≡ a / 256 = omega arith in omega arith

four_bytes : (v : ℕ) → v < 4294967296
    → v % 256 + v / 256 % 256 * 256 + v / 256 / 256 % 256 * 65536 + v / 256 / 256 / 256 % 256 * 16777216 ≡ v
four_bytes v l = go (v / 256) (v / 256 / 256) (v / 256 / 256 / 256) (omega arith) (omega arith) (omega arith) (omega arith)
  where
    go : (a b c : ℕ) → v ≡ v % 256 + a * 256 → a ≡ a % 256 + b * 256 → b ≡ b % 256 + c * 256 → c < 256
        → v % 256 + a % 256 * 256 + b % 256 * 65536 + c % 256 * 16777216 ≡ v
    go a b c p q r s = let t : c % 256 ≡ c = omega arith in omega arith

fields_given : (e : Event) → sized e ≡ true → fields (event_item e).body ≡ given_fields e
fields_given e h =
    let p = and_parts (ltb e.address 65536) (ltb e.value 4294967296) h in
    ap₂ (λ (a v : ℕ). record { thread = e.thread; kind = kind_code e.kind; grade = grade_code e.grade; scope = scope_code e.scope; proxy = proxy_code e.proxy; address = a; value = v })
    (two_bytes e.address (ltb-true _ _ p.0)) (four_bytes e.value (ltb-true _ _ p.1))

-- ---- the calls of the records

abbrev add_thread : Thread → Call
add_thread t = AddThread t.block t.device

abbrev add_event : Event → Call
add_event e = AddEvent (given_fields e)

-- the calls of rows, by what the record of each one calls
calls_rows : {X : Type 0} (p : Phase) (f : X → Item) (g : X → Call) (d : X) (xs : List X)
    → ((k : ℕ) → k < length xs → (rest : List Item) → calls p (f (get_or xs k d) ∷ rest) ≡ g (get_or xs k d) ∷ calls p rest)
    → (rest : List Item) → calls p (map f xs ++ rest) ≡ map g xs ++ calls p rest
calls_rows p f g d [] h rest = refl
calls_rows p f g d (x ∷ xs) h rest =
    h 0 (omega arith) (map f xs ++ rest) ∙ ap (λ (cs : List Call). g x ∷ cs) (calls_rows p f g d xs (λ k l. h (suc k) (omega arith)) rest)

one_edge : (k : Edge) (i j : ℕ) (rest : List Item) → calls Edges (edge_item k i j ∷ rest) ≡ Lay k i j ∷ calls Edges rest
one_edge ReadFrom i j rest = refl
one_edge Order i j rest = refl
one_edge Atomic i j rest = refl
one_edge Depend i j rest = refl

calls_sort : (k : Edge) (R : Rel) (n m : ℕ) (rest : List Item) → calls Edges (edge_items k R n m ++ rest) ≡ lays k R n m ++ calls Edges rest
calls_sort k R n zero rest = refl
calls_sort k R n (suc m) rest =
    let js = picked (R m) n in
    ap (calls Edges) (append_assoc (edge_items k R n m) (map (edge_item k m) js) rest)
    ∙ calls_sort k R n m (map (edge_item k m) js ++ rest)
    ∙ ap (λ (cs : List Call). lays k R n m ++ cs) (calls_rows Edges (edge_item k m) (Lay k m) 0 js (λ q l more. one_edge k m (get_or js q 0) more) rest)
    ∙ sym (append_assoc (lays k R n m) (map (Lay k m) js) (calls Edges rest))

-- ---- the records may follow one another

-- what holds on with one row more holds on with all rows
over_rows : {X : Type 0} (P : List Item → Type 0) (f : X → Item) → ((x : X) (rest : List Item) → P rest → P (f x ∷ rest))
    → (xs : List X) (rest : List Item) → P rest → P (map f xs ++ rest)
over_rows P f one [] rest h = h
over_rows P f one (x ∷ xs) rest h = one x (map f xs ++ rest) (over_rows P f one xs rest h)

-- records that may stand behind the rows
abbrev Behind : List Item → Type 0
Behind is = Led Edges is Ended

edge_behind : (k : Edge) (i j : ℕ) (rest : List Item) → Behind rest → Behind (edge_item k i j ∷ rest)
edge_behind ReadFrom i j rest h = (record { long = refl; fields = tt }, Edges, refl, h)
edge_behind Order i j rest h = (record { long = refl; fields = tt }, Edges, refl, h)
edge_behind Atomic i j rest h = (record { long = refl; fields = tt }, Edges, refl, h)
edge_behind Depend i j rest h = (record { long = refl; fields = tt }, Edges, refl, h)

sort_behind : (k : Edge) (R : Rel) (n m : ℕ) (rest : List Item) → Behind rest → Behind (edge_items k R n m ++ rest)
sort_behind k R n zero rest h = h
sort_behind k R n (suc m) rest h =
    let js = picked (R m) n in
    subst Behind (sym (append_assoc (edge_items k R n m) (map (edge_item k m) js) rest))
    (sort_behind k R n m (map (edge_item k m) js ++ rest) (over_rows Behind (edge_item k m) (edge_behind k m) js rest h))

not_row : (b : Bool) (o : Option Phase) (s : Phase) → cond b None o ≡ Some s → b ≡ false
not_row true o s e = cc
not_row false o s e = refl

-- the first of them closes the sheet, and they may follow rows
closes : (is : List Item) → Behind is → Led Rows is Ended × (calls Rows is ≡ Close ∷ calls Edges is)
closes [] h = cc
closes (i ∷ is) h =
    let after = Some (cond (is_end i.mark) Ended Edges) in
    let e : is_row i.mark ≡ false = not_row (is_row i.mark) after h.1 h.2 in (
      (h.0, h.1, ap (λ (b : Bool). Some (cond b Rows (cond (is_end i.mark) Ended Edges))) e ∙ sym (ap (λ (b : Bool). cond b None after) e) ∙ h.2, h.3),
      ap (λ (b : Bool). cond b [] (Close ∷ []) ++ (listed (call_of i.mark i.body) ++ calls (onward i.mark) is)) e,
    )

-- ---- rows are taken

abbrev rows_book : List Thread → List Event → Book
rows_book ts es = record { threads = ts; events = es; edges = no_edges; closed = false; trial = None }

thread_one : (us : List Thread) (t : Thread) → length us < 16 → thread_comes us t ≡ true → Taken (rows_book us []) (add_thread t ∷ []) (rows_book (us ++ t ∷ []) [])
unfolding absent full bad_field cannot_carry differ there accepted thread_comes
thread_one us t l h =
    taken_one (rows_book us []) (rows_book (us ++ t ∷ []) []) (add_thread t)
    (no_row (rows_book us []) (add_thread t) refl (ap not (lt-ltb (length us) 16 l)) (ap not h) refl refl refl) refl

event_one : (ts : List Thread) (us : List Event) (e : Event) → length us < 64 → event_comes (length ts) e ≡ true → Taken (rows_book ts us) (add_event e ∷ []) (rows_book ts (us ++ e ∷ []))
unfolding absent full bad_field cannot_carry differ there accepted event_comes fields_fit event_of
event_one ts us e l h =
    let p = and_parts (ltb e.thread (length ts)) _ h in
    let q = and_parts (lawful e) (sized e) p.1 in
    taken_one (rows_book ts us) (rows_book ts (us ++ e ∷ [])) (add_event e)
    (no_row (rows_book ts us) (add_event e) (ap not p.0) (ap not (lt-ltb (length us) 64 l)) (ap not (ap (keeps no_event) (decoded_given e) ∙ q.0)) refl refl refl)
    (ap (λ (f : Event). rows_book ts (us ++ f ∷ [])) (ap or_none (decoded_given e)))

-- rows are taken one after another
rows_taken : {X : Type 0} (add : X → Call) (book : List X → Book) (d : X) (xs : List X)
    → ((k : ℕ) → k < length xs → Taken (book (take k xs)) (add (get_or xs k d) ∷ []) (book (take k xs ++ get_or xs k d ∷ [])))
    → Taken (book []) (map add xs) (book xs)
rows_taken {X} add book d xs one = subst (λ (us : List X). Taken (book []) (map add us) (book us)) (take_all (length xs) xs (omega arith)) (go (length xs) (omega arith))
  where
    go : (k : ℕ) → k ≤ length xs → Taken (book []) (map add (take k xs)) (book (take k xs))
    go zero l = refl
    go (suc k) l =
        let us = take k xs in
        let x = get_or xs k d in
        subst (λ (vs : List X). Taken (book []) (map add vs) (book vs)) (sym (ap (λ n. take n xs) (sym (add-one k)) ∙ take_more xs k d (omega arith)))
        (subst (λ (cs : List Call). Taken (book []) cs (book (us ++ x ∷ []))) (sym (map_push add us x))
        (taken_append (book []) (book us) (book (us ++ x ∷ [])) (map add us) (add x ∷ []) (go k (omega arith)) (one k (omega arith))))

event_sized : (m : ℕ) (e : Event) → event_comes m e ≡ true → sized e ≡ true
unfolding event_comes
event_sized m e h = (and_parts (lawful e) (sized e) (and_parts (ltb e.thread m) (lawful e && sized e) h).1).1

-- ---- the edges behind the rows, sort by sort

abbrev sorts : List Edge
sorts = ReadFrom ∷ Atomic ∷ Depend ∷ Order ∷ []

-- the sorts are those that are not done, each once
abbrev Left : (Edge → Bool) → List Edge → Type 0
Left done [] = (e : Edge) → done e ≡ true
Left done (k ∷ ks) = (done k ≡ false) × Left (λ e. done e || same_edge k e) ks

all_done : (e : Edge) → (((same_edge ReadFrom e || same_edge Atomic e) || same_edge Depend e) || same_edge Order e) ≡ true
all_done ReadFrom = refl
all_done Order = refl
all_done Atomic = refl
all_done Depend = refl

abbrev tail : Book → List Edge → List Item
tail b [] = end_item ∷ []
tail b (k ∷ ks) = sort_items b k ++ tail b ks

abbrev tail_calls : Book → List Edge → List Call
tail_calls b [] = []
tail_calls b (k ∷ ks) = lays k (b.edges k) (length b.events) (length b.events) ++ tail_calls b ks

tail_behind : (b : Book) (ks : List Edge) → Behind (tail b ks)
tail_behind b [] = (record { long = refl; fields = tt }, Ended, refl, refl)
tail_behind b (k ∷ ks) = sort_behind k (b.edges k) (length b.events) (length b.events) (tail b ks) (tail_behind b ks)

calls_tail : (b : Book) (ks : List Edge) → calls Edges (tail b ks) ≡ tail_calls b ks
calls_tail b [] = refl
calls_tail b (k ∷ ks) =
    let n = length b.events in
    calls_sort k (b.edges k) n n (tail b ks) ∙ ap (λ (cs : List Call). lays k (b.edges k) n n ++ cs) (calls_tail b ks)

abbrev closed_with : List Thread → List Event → EdgeSets → Book
closed_with ts es s = record { threads = ts; events = es; edges = s; closed = true; trial = None }

close_taken : (ts : List Thread) (es : List Event) → Taken (rows_book ts es) (Close ∷ []) (closed_with ts es no_edges)
unfolding absent full bad_field cannot_carry differ there accepted
close_taken ts es =
    taken_one (rows_book ts es) (closed_with ts es no_edges) Close (no_row (rows_book ts es) Close refl refl refl refl refl refl) refl

module _ (s : ClosedSheet) where
  abbrev own : Book
  own = closed_book s

  thread_number : length own.threads ≡ s.rows.thread_count
  thread_number = length-take-le s.rows.thread_count s.rows.threads (omega (arith, s.rows.few.0, s.rows.long.0))

  event_number : length own.events ≡ s.rows.event_count
  event_number = length-take-le s.rows.event_count s.rows.events (omega (arith, s.rows.few.1, s.rows.long.1))

  pub few_events : length own.events ≤ 64
  few_events = omega (arith, event_number, s.rows.few.1)

  threads_fit : ThreadsFit own.threads (length own.threads)
  threads_fit k l =
      let m : k < s.rows.thread_count = omega (arith, thread_number) in
      ap₂ thread_comes (take-take k s.rows.thread_count s.rows.threads (omega arith)) (get_or-take s.rows.thread_count s.rows.threads k no_thread m) ∙ s.rows.threads_fit k m

  events_fit : EventsFit (length own.threads) own.events (length own.events)
  events_fit k l =
      let m : k < s.rows.event_count = omega (arith, event_number) in
      ap₂ event_comes thread_number (get_or-take s.rows.event_count s.rows.events k no_event m) ∙ s.rows.events_fit k m

  sorts_taken : (done : Edge → Bool) (ks : List Edge) → Left done ks
      → Taken (closed_with own.threads own.events (part (laid s.edges) done (get_or ks 0 Order) 0 0)) (tail_calls own ks) own
  sorts_taken done [] left = ap (closed_with own.threads own.events) (part_all (laid s.edges) done Order left)
  sorts_taken done (k ∷ ks) left =
      let S = laid s.edges in
      let at : EdgeSets → Book = closed_with own.threads own.events in
      let next = λ (e : Edge). done e || same_edge k e in
      let q = get_or ks 0 Order in
      taken_append (at (part S done k 0 0)) (at (part S next q 0 0)) own (lays k (S k) (length own.events) (length own.events)) (tail_calls own ks)
      (sort_taken own.threads own.events S few_events s.edges_fit s.one_source s.one_way done k left.0 next q (λ e. refl)) (sorts_taken next ks left.1)

  tail_taken : Taken (closed_with own.threads own.events no_edges) (tail_calls own sorts) own
  tail_taken =
      subst (λ (z : EdgeSets). Taken (closed_with own.threads own.events z) (tail_calls own sorts) own) (part_none (laid s.edges) ReadFrom)
      (sorts_taken (λ e. false) sorts (refl, (refl, (refl, (refl, all_done)))))

  -- the calls of the sheet's own records
  own_calls : calls Rows (items own) ≡ map add_thread own.threads ++ (map add_event own.events ++ (Close ∷ tail_calls own sorts))
  own_calls =
      calls_rows Rows thread_item add_thread no_thread own.threads (λ k l rest. refl) _
      ∙ ap (λ (cs : List Call). map add_thread own.threads ++ cs) (calls_rows Rows event_item add_event no_event own.events
      (λ k l rest. ap (λ (f : Fields). AddEvent f ∷ calls Rows rest) (fields_given (get_or own.events k no_event) (event_sized (length own.threads) (get_or own.events k no_event) (events_fit k l)))) (tail own sorts)
      ∙ ap (λ (cs : List Call). map add_event own.events ++ cs) ((closes (tail own sorts) (tail_behind own sorts)).1 ∙ ap (λ (cs : List Call). Close ∷ cs) (calls_tail own sorts)))

  own_taken : Taken blank (calls Rows (items own)) own
  own_taken =
      let ts = own.threads in
      let es = own.events in
      let a : Taken blank (map add_thread ts) (rows_book ts []) =
      rows_taken add_thread (λ us. rows_book us []) no_thread ts
      (λ k l. thread_one (take k ts) (get_or ts k no_thread) (omega (arith, length-take-le k ts (omega arith), thread_number, s.rows.few.0)) (threads_fit k l)) in
      let b : Taken (rows_book ts []) (map add_event es) (rows_book ts es) =
      rows_taken add_event (rows_book ts) no_event es
      (λ k l. event_one ts (take k es) (get_or es k no_event) (omega (arith, length-take-le k es (omega arith), few_events)) (events_fit k l)) in
      subst (λ (cs : List Call). Taken blank cs own) (sym own_calls)
      (taken_append blank (rows_book ts []) own (map add_thread ts) _ a
      (taken_append (rows_book ts []) (rows_book ts es) own (map add_event es) _ b
      (taken_append (rows_book ts es) (closed_with ts es no_edges) own (Close ∷ []) (tail_calls own sorts) (close_taken ts es) tail_taken)))

  -- the sheet's file reads back as its book
  pub reads_back : Reads (file_of own) (Ok own)
  reads_back = (
    items own,
    record {
      phase = Ended;
      rest = [];
      bytes = sym (append-nil (file_of own));
      led =
          over_rows (λ is. Led Rows is Ended) thread_item (λ t rest h. (record { long = refl; fields = tt }, Rows, refl, h)) own.threads _
          (over_rows (λ is. Led Rows is Ended) event_item (λ e rest h. (record { long = refl; fields = tt }, Rows, refl, h)) own.events (tail own sorts)
          (closes (tail own sorts) (tail_behind own sorts)).0);
      ends = (refl, refl);
    },
    own_taken,
  )

-- ---- files tell sheets apart

-- accepted calls leave one book
taken_one_book : (b c d : Book) (ks : List Call) → Taken b ks c → Taken b ks d → c ≡ d
taken_one_book b c d [] t u = sym t ∙ u
taken_one_book b c d (k ∷ ks) t u = taken_one_book (after b k) c d ks t.1 u.1

same_file : (s t : ClosedSheet) → file_of (closed_book s) ≡ file_of (closed_book t) → closed_book s ≡ closed_book t
same_file s t e =
    let r = reads_back s in
    let q = reads_back t in
    let is : r.0 ≡ q.0 =
    (reading_one (file_of (closed_book s)) r.0 q.0 None None r.1 (subst (λ (bs : List ℕ). Reading bs q.0 None) (sym e) q.1)).0 in
    taken_one_book blank (closed_book s) (closed_book t) (calls Rows q.0) (subst (λ (xs : List Item). Taken blank (calls Rows xs) (closed_book s)) is r.2) q.2

pub files_tell : FilesTell
files_tell s t = (same_file s t, λ e. ap file_of e)
