-- The edges of a sheet that have been read back so far, when they come by sort, then by first, then by second event.
use Rattle.std.proofs.Common.{◌≡◌, ℕ, ◌+◌, ◌<◌, Bool, true, false, ◌&&◌, ◌||◌, eqb, ltb, ◌⊎◌, sym, ap, ◌∙◌, ap₂, inl, inr, ⊎_elim, arith}
use mathlib.Core.Path.{fun_ext}
use Rattle.std.proofs.lemmas.Bool.{and_parts, and_from, or_cases, or_left, or_right, cases_eq, true≢false, ltb-true, lt-ltb, eqb-true, eq-eqb}
use Rattle.relation.proofs.Laws.{same_test}
use Rattle.sheet.specs.declared.calls.Edge.{Edge}
use Rattle.sheet.specs.Sets.{EdgeSets, same_edge, with_edge}
use Rattle.sheet.proofs.OneEdge.{same_sort, own_sort, with_cases, with_old, with_new}

-- (x, y) comes before (i, j)
abbrev pub before : ℕ → ℕ → ℕ → ℕ → Bool
before x y i j = ltb x i || (eqb x i && ltb y j)

pub before_says : (x y i j : ℕ) → before x y i j ≡ true → (x < i) ⊎ ((x ≡ i) × (y < j))
before_says x y i j h =
    ⊎_elim (λ a. inl (ltb-true x i a)) (λ a. let p = and_parts (eqb x i) (ltb y j) a in inr (eqb-true x i p.0, ltb-true y j p.1)) (or_cases (ltb x i) (eqb x i && ltb y j) h)

pub before_first : (x y i j : ℕ) → x < i → before x y i j ≡ true
before_first x y i j l = or_left (ltb x i) (eqb x i && ltb y j) (lt-ltb x i l)

before_second : (x y i j : ℕ) → x ≡ i → y < j → before x y i j ≡ true
before_second x y i j e l = or_right (ltb x i) (eqb x i && ltb y j) (and_from (eqb x i) (ltb y j) (eq-eqb x i e) (lt-ltb y j l))

-- one pair further
before_more : (x y i j : ℕ) → before x y i j ≡ true → before x y i (j + 1) ≡ true
before_more x y i j h =
    ⊎_elim (λ l. before_first x y i (j + 1) l) (λ (q : (x ≡ i) × (y < j)). before_second x y i (j + 1) q.0 (omega arith)) (before_says x y i j h)

before_less : (x y i j : ℕ) → before x y i (j + 1) ≡ true → (before x y i j ≡ true) ⊎ ((x ≡ i) × (y ≡ j))
before_less x y i j h =
    ⊎_elim (λ l. inl (before_first x y i j l))
    (λ (q : (x ≡ i) × (y < j + 1)). ⊎_elim (λ (e : y ≡ j). inr (q.0, e)) (λ (ne : y ≡ j → ⊥). inl (before_second x y i j q.0 (omega arith))) (cases_eq y j))
    (before_says x y i (j + 1) h)

pub same_edge_sets : (s t : EdgeSets) → ((e : Edge) (x y : ℕ) → s e x y ≡ true → t e x y ≡ true) → ((e : Edge) (x y : ℕ) → t e x y ≡ true → s e x y ≡ true) → s ≡ t
same_edge_sets s t f g = fun_ext (λ e. fun_ext (λ x. fun_ext (λ y. same_test (s e x y) (t e x y) (f e x y) (g e x y))))

-- of the sets S: the sorts that are done, and of sort k the pairs before (i, j)
unfoldable pub part : EdgeSets → (Edge → Bool) → Edge → ℕ → ℕ → EdgeSets
part S done k i j e x y = S e x y && (done e || (same_edge k e && before x y i j))

module _ (S : EdgeSets) (done : Edge → Bool) (k : Edge) where
  pub part_says : (i j : ℕ) (e : Edge) (x y : ℕ) → part S done k i j e x y ≡ true
      → (S e x y ≡ true) × ((done e ≡ true) ⊎ ((k ≡ e) × (before x y i j ≡ true)))
  unfolding part
  part_says i j e x y h =
      let p = and_parts (S e x y) (done e || (same_edge k e && before x y i j)) h in
      (p.0, ⊎_elim inl (λ a. let q = and_parts (same_edge k e) (before x y i j) a in inr (same_sort k e q.0, q.1)) (or_cases (done e) (same_edge k e && before x y i j) p.1))

  -- at the start only the sorts that are done
  pub part_start : (e : Edge) (x y : ℕ) → part S done k 0 0 e x y ≡ true → (S e x y ≡ true) × (done e ≡ true)
  part_start e x y h =
      let p = part_says 0 0 e x y h in (
        p.0,
        ⊎_elim (λ d. d)
            (λ (r : (k ≡ e) × (before x y 0 0 ≡ true)). absurd (⊎_elim (λ (l : x < 0). omega arith) (λ (l : (x ≡ 0) × (y < 0)). omega arith) (before_says x y 0 0 r.1))) p.1,
      )

  pub part_done : (i j : ℕ) (e : Edge) (x y : ℕ) → S e x y ≡ true → done e ≡ true → part S done k i j e x y ≡ true
  unfolding part
  part_done i j e x y h d = and_from (S e x y) (done e || (same_edge k e && before x y i j)) h (or_left (done e) (same_edge k e && before x y i j) d)

  pub part_before : (i j : ℕ) (e : Edge) (x y : ℕ) → S e x y ≡ true → k ≡ e → before x y i j ≡ true → part S done k i j e x y ≡ true
  unfolding part
  part_before i j e x y h q b =
      and_from (S e x y) (done e || (same_edge k e && before x y i j)) h
      (or_right (done e) (same_edge k e && before x y i j) (and_from (same_edge k e) (before x y i j) (ap (λ (z : Edge). same_edge k z) (sym q) ∙ own_sort k) b))

  -- from one place to another: what changes is the pairs of sort k between
  part_move : (i j i' j' : ℕ) → ((x y : ℕ) → S k x y ≡ true → before x y i j ≡ true → before x y i' j' ≡ true)
      → (e : Edge) (x y : ℕ) → part S done k i j e x y ≡ true → part S done k i' j' e x y ≡ true
  part_move i j i' j' f e x y h =
      let p = part_says i j e x y h in
      ⊎_elim (λ d. part_done i' j' e x y p.0 d)
      (λ (q : (k ≡ e) × (before x y i j ≡ true)). part_before i' j' e x y p.0 q.0 (f x y (ap (λ (z : Edge). S z x y) q.0 ∙ p.0) q.1))
      p.1

  -- a pair that is no edge is stepped over
  pub part_no : (i j : ℕ) → S k i j ≡ false → part S done k i j ≡ part S done k i (j + 1)
  part_no i j n =
      same_edge_sets (part S done k i j) (part S done k i (j + 1)) (part_move i j i (j + 1) (λ x y s b. before_more x y i j b))
      (part_move i (j + 1) i j (λ x y s b. ⊎_elim (λ l. l) (λ (q : (x ≡ i) × (y ≡ j)). absurd (true≢false (sym s ∙ ap₂ (S k) q.0 q.1 ∙ n))) (before_less x y i j b)))

  -- the end of a row is the start of the next
  pub part_row : (n i : ℕ) → ((x y : ℕ) → S k x y ≡ true → y < n) → part S done k i n ≡ part S done k (i + 1) 0
  part_row n i inside =
      same_edge_sets (part S done k i n) (part S done k (i + 1) 0)
      (part_move i n (i + 1) 0 (λ x y s b. ⊎_elim (λ (l : x < i). before_first x y (i + 1) 0 (omega arith)) (λ (q : (x ≡ i) × (y < n)). before_first x y (i + 1) 0 (omega arith)) (before_says x y i n b)))
      (part_move (i + 1) 0 i n (λ x y s b. ⊎_elim
      (λ (l : x < i + 1). ⊎_elim (λ (e : x ≡ i). before_second x y i n e (inside x y s)) (λ (ne : x ≡ i → ⊥). before_first x y i n (omega arith)) (cases_eq x i))
      (λ (q : (x ≡ i + 1) × (y < 0)). absurd (omega arith)) (before_says x y (i + 1) 0 b)))

-- an edge is added to what has been read
pub part_yes : (S : EdgeSets) (done : Edge → Bool) (k : Edge) (i j : ℕ) → i < 64 → j < 64 → S k i j ≡ true → with_edge (part S done k i j) k i j ≡ part S done k i (j + 1)
part_yes S done k i j li lj s =
    let so_far = part S done k i j in
    same_edge_sets (with_edge so_far k i j) (part S done k i (j + 1))
    (λ e x y h. ⊎_elim (part_move S done k i j i (j + 1) (λ x y s b. before_more x y i j b) e x y)
    (λ (t : (k ≡ e) × (i ≡ x) × (j ≡ y)).
    part_before S done k i (j + 1) e x y (ap₂ (S e) (sym t.1) (sym t.2) ∙ ap (λ (z : Edge). S z i j) (sym t.0) ∙ s) t.0
    (let b = t.2 in before_second x y i (j + 1) (sym t.1) (omega arith)))
    (with_cases so_far k i j e x y h))
    (λ e x y h.
    let p = part_says S done k i (j + 1) e x y h in
    ⊎_elim (λ d. with_old so_far k i j e x y (part_done S done k i j e x y p.0 d))
    (λ (q : (k ≡ e) × (before x y i (j + 1) ≡ true)).
    ⊎_elim (λ l. with_old so_far k i j e x y (part_before S done k i j e x y p.0 q.0 l))
    (λ (r : (x ≡ i) × (y ≡ j)). with_new so_far k i j li lj e x y q.0 r.0 r.1) (before_less x y i j q.1)) p.1)
