-- The calls of a sheet's own edges are accepted, and leave these edges.
use Rattle.std.proofs.Common.{◌≡◌, ℕ, zero, suc, ◌+◌, ◌<◌, ◌≤◌, Bool, true, false, cond, not, ◌||◌, ltb, ◌⊎◌, List, [], ◌∷◌, ◌++◌, map, length, None, sym, refl, ap, ◌∙◌, subst, ⊎_elim, add-one, arith}
use Rattle.std.proofs.lemmas.List.{map-append}
use Rattle.std.proofs.lemmas.Bool.{and_parts, and_from, or_from, or_cases, or_left, or_right, true≢false, false_from_ne_true, ltb-true, eqb-true, not-true}
use Rattle.relation.specs.Algebra.{Rel, none, range_below}
use Rattle.relation.proofs.Below.{some_none}
use Rattle.sheet.specs.declared.row.Thread.{Thread}
use Rattle.sheet.specs.declared.row.Event.{Event}
use Rattle.sheet.specs.declared.calls.Edge.{Edge}
use Rattle.sheet.specs.declared.calls.Edge.TheVariants.{ReadFrom, Order, Atomic, Depend}
use Rattle.sheet.specs.declared.calls.Call.{Call}
use Rattle.sheet.specs.declared.calls.Call.TheVariants.{Lay}
use Rattle.sheet.specs.Book.{Book, refusal, absent, full, bad_field, cannot_carry, differ, there, after, accepted}
use Rattle.sheet.specs.Fitting.{EdgesFit, OneSource, OneWay, edge_fits}
use Rattle.sheet.specs.Rules.{carries, values_differ}
use Rattle.sheet.specs.Sets.{EdgeSets, no_edges, given_in, same_edge}
use Rattle.sheet.proofs.Laws.{no_row, accepts}
use Rattle.sheet.proofs.OneEdge.{same_sort, own_sort}
use Rattle.casefile.specs.Calls.{Taken}
use Rattle.casewriter.specs.Items.{picked}
use Rattle.casewriter.proofs.Parts.{before, before_says, before_first, part_done, part_before, part, part_says, part_start, part_no, part_row, part_yes, same_edge_sets}

pub taken_append : (b c d : Book) (xs ys : List Call) → Taken b xs c → Taken c ys d → Taken b (xs ++ ys) d
taken_append b c d [] ys t u = subst (λ (z : Book). Taken z ys d) (sym t) u
taken_append b c d (x ∷ xs) ys t u = (t.0, taken_append (after b x) c d xs ys t.1 u)

-- one accepted call
pub taken_one : (b c : Book) (k : Call) → refusal b k ≡ None → accepted b k ≡ c → Taken b (k ∷ []) c
taken_one b c k h e = (h, sym (accepts b k (tt {0}) h).1 ∙ e)

-- the calls that lay the edges of sort k, by first then second event
abbrev pub lays : Edge → Rel → ℕ → ℕ → List Call
lays k R n zero = []
lays k R n (suc m) = lays k R n m ++ map (Lay k m) (picked (R m) n)

module _ (ts : List Thread) (es : List Event) (S : EdgeSets) (few : length es ≤ 64) (fit : EdgesFit es S) (source : OneSource S) (way : OneWay S) where
  abbrev pub book_with : EdgeSets → Book
  book_with s = record { threads = ts; events = es; edges = s; closed = true; trial = None }

  pub inside : (k : Edge) (x y : ℕ) → S k x y ≡ true → (x < length es) × (y < length es)
  unfolding edge_fits
  inside k x y h =
      let p = and_parts (ltb x (length es)) _ (fit (k, x, y) h) in
      let q = and_parts (ltb y (length es)) _ p.1 in
      (ltb-true x (length es) p.0, ltb-true y (length es) q.0)

  module _ (done : Edge → Bool) (k : Edge) (fresh : done k ≡ false) where
    -- what has been read of sort k comes before
    read_before : (i j : ℕ) (e : Edge) → k ≡ e → (x y : ℕ) → part S done k i j e x y ≡ true → (S e x y ≡ true) × ((x < i) ⊎ ((x ≡ i) × (y < j)))
    read_before i j e q x y h =
        let p = part_says S done k i j e x y h in
        (p.0, ⊎_elim (λ d. absurd (true≢false (sym d ∙ ap done (sym q) ∙ fresh))) (λ (r : (k ≡ e) × (before x y i j ≡ true)). before_says x y i j r.1) p.1)

    not_itself : (i j : ℕ) (e : Edge) → k ≡ e → part S done k i j e i j ≡ false
    not_itself i j e q =
        false_from_ne_true (part S done k i j e i j) (λ h. ⊎_elim (λ (l : i < i). omega arith) (λ (l : (i ≡ i) × (j < j)). omega arith) (read_before i j e q i j h).1)

    not_given : (i j : ℕ) → S k i j ≡ true → (e : Edge) → k ≡ e → given_in (part S done k i j) e i j ≡ false
    unfolding given_in range_below
    not_given i j s ReadFrom q =
        some_none 64 (λ x. part S done k i j ReadFrom x j) (λ x l. false_from_ne_true (part S done k i j ReadFrom x j) (λ h.
        let r = read_before i j ReadFrom q x j h in
        let same : x ≡ i = eqb-true x i (source (x, i, j) r.0 (ap (λ (z : Edge). S z i j) (sym q) ∙ s)) in
        ⊎_elim (λ (l : x < i). omega arith) (λ (l : (x ≡ i) × (j < j)). omega arith) r.1))
    not_given i j s Order q =
        or_from (part S done k i j Order i j) (part S done k i j Order j i) (not_itself i j Order q)
        (false_from_ne_true (part S done k i j Order j i) (λ h. true≢false (sym (read_before i j Order q j i h).0 ∙ way i j (ap (λ (z : Edge). S z i j) (sym q) ∙ s))))
    not_given i j s Atomic q = not_itself i j Atomic q
    not_given i j s Depend q = not_itself i j Depend q

    -- the next edge is accepted
    one_accepted : (i j : ℕ) → S k i j ≡ true → refusal (book_with (part S done k i j)) (Lay k i j) ≡ None
    unfolding absent full bad_field cannot_carry differ there edge_fits
    one_accepted i j s =
        let b = book_with (part S done k i j) in
        let p = and_parts (ltb i (length es)) _ (fit (k, i, j) s) in
        let q = and_parts (ltb j (length es)) _ p.1 in
        let r = and_parts (carries es k i j) (not (values_differ es k i j)) q.1 in
        no_row b (Lay k i j) (ap not (and_from _ _ p.0 q.0)) refl refl (ap not r.0) (not-true (values_differ es k i j) r.1) (not_given i j s k refl)

    step : (i m : ℕ) (t : Bool) → S k i m ≡ t → Taken (book_with (part S done k i m)) (map (Lay k i) (cond t (m ∷ []) [])) (book_with (part S done k i (m + 1)))
    unfolding accepted
    step i m true s =
        let l = inside k i m s in
        taken_one (book_with (part S done k i m)) (book_with (part S done k i (m + 1))) (Lay k i m) (one_accepted i m s)
        (ap book_with (part_yes S done k i m (omega (arith, l.0)) (omega (arith, l.1)) s))
    step i m false s = ap book_with (part_no S done k i m s)

    row_taken : (i m : ℕ) → Taken (book_with (part S done k i 0)) (map (Lay k i) (picked (S k i) m)) (book_with (part S done k i m))
    row_taken i zero = refl
    row_taken i (suc m) =
        subst (λ (xs : List Call). Taken (book_with (part S done k i 0)) xs (book_with (part S done k i (suc m))))
        (sym (map-append (Lay k i) (picked (S k i) m) (cond (S k i m) (m ∷ []) [])))
        (taken_append (book_with (part S done k i 0)) (book_with (part S done k i m)) (book_with (part S done k i (suc m))) (map (Lay k i) (picked (S k i) m)) _
        (row_taken i m) (subst (λ n. Taken (book_with (part S done k i m)) (map (Lay k i) (cond (S k i m) (m ∷ []) [])) (book_with (part S done k i n))) (add-one m) (step i m (S k i m) refl)))

    pub rows_taken : (m : ℕ) → Taken (book_with (part S done k 0 0)) (lays k (S k) (length es) m) (book_with (part S done k m 0))
    rows_taken zero = refl
    rows_taken (suc m) =
        taken_append (book_with (part S done k 0 0)) (book_with (part S done k m 0)) (book_with (part S done k (suc m) 0)) (lays k (S k) (length es) m) _
        (rows_taken m)
        (subst (λ (s : EdgeSets). Taken (book_with (part S done k m 0)) (map (Lay k m) (picked (S k m) (length es))) (book_with s))
        (part_row S done k (length es) m (λ x y s. (inside k x y s).1) ∙ ap (λ n. part S done k n 0) (add-one m))
        (row_taken m (length es)))

    -- the sort is done
    finished : (next : Edge → Bool) (q : Edge) → ((e : Edge) → next e ≡ (done e || same_edge k e)) → part S done k (length es) 0 ≡ part S next q 0 0
    finished next q f =
        let n = length es in
        same_edge_sets (part S done k n 0) (part S next q 0 0)
        (λ e x y h.
        let p = part_says S done k n 0 e x y h in
        part_done S next q 0 0 e x y p.0 (f e ∙ ⊎_elim (or_left (done e) (same_edge k e))
        (λ (r : (k ≡ e) × (before x y n 0 ≡ true)). or_right (done e) (same_edge k e) (ap (λ (z : Edge). same_edge k z) (sym r.0) ∙ own_sort k)) p.1))
        (λ e x y h.
        let p = part_start S next q e x y h in
        ⊎_elim (part_done S done k n 0 e x y p.0)
        (λ a. part_before S done k n 0 e x y p.0 (same_sort k e a) (before_first x y n 0 (inside e x y p.0).0))
        (or_cases (done e) (same_edge k e) (sym (f e) ∙ p.1)))

    -- a whole sort
    pub sort_taken : (next : Edge → Bool) (q : Edge) → ((e : Edge) → next e ≡ (done e || same_edge k e))
        → Taken (book_with (part S done k 0 0)) (lays k (S k) (length es) (length es)) (book_with (part S next q 0 0))
    sort_taken next q f =
        subst (λ (s : EdgeSets). Taken (book_with (part S done k 0 0)) (lays k (S k) (length es) (length es)) (book_with s)) (finished next q f) (rows_taken (length es))

-- nothing is read yet
pub part_none : (S : EdgeSets) (q : Edge) → part S (λ e. false) q 0 0 ≡ no_edges
unfolding no_edges none
part_none S q =
    same_edge_sets (part S (λ e. false) q 0 0) no_edges
    (λ e x y h. absurd (true≢false (sym (part_start S (λ e. false) q e x y h).1))) (λ e x y h. absurd (true≢false (sym h)))

-- all is read
pub part_all : (S : EdgeSets) (done : Edge → Bool) (q : Edge) → ((e : Edge) → done e ≡ true) → part S done q 0 0 ≡ S
part_all S done q f =
    same_edge_sets (part S done q 0 0) S (λ e x y h. (part_start S done q e x y h).0) (λ e x y h. part_done S done q 0 0 e x y h (f e))
