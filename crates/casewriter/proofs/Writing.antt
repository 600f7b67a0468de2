-- The bytes of records one after another, their lengths, and the counts of edges.
use Rattle.std.proofs.Common.{◌≡◌, ℕ, zero, suc, ◌+◌, ◌*◌, ◌≤◌, Bool, true, false, cond, List, [], ◌∷◌, ◌++◌, map, length, sym, refl, ap, ◌∙◌, ap₂, append_assoc, append-nil, mul-zero, mul-suc, add-one, zero-add, map-id, arith, length-append}
use Rattle.std.proofs.lemmas.List.{length-map}
use Rattle.std.specs.List.{filter, sum_by, range_with_len}
use Rattle.std.proofs.lemmas.List.Sums.{length-filter, count_by-le-length}
use Rattle.std.proofs.lemmas.List.FromFn.{length-range_with_len, filter_of_map_range_with_len_more, sum_by-map-range_with_len_more}
use Rattle.relation.specs.Algebra.{Rel}
use Rattle.records.specs.Grammar.{Item, encode, file}
use Rattle.sheet.specs.declared.calls.Edge.{Edge}
use Rattle.sheet.specs.declared.calls.Edge.TheVariants.{ReadFrom, Order, Atomic, Depend}
use Rattle.sheet.specs.Book.{Book}
use Rattle.casewriter.specs.Items.{thread_item, event_item, edge_item, end_item, picked, edge_items, sort_items, file_of}

-- the numbers that pass, one further
pub picked_yes : (f : ℕ → Bool) (j : ℕ) → f j ≡ true → picked f (j + 1) ≡ picked f j ++ j ∷ []
picked_yes f j e = ap (picked f) (add-one j) ∙ ap (λ b. picked f j ++ cond b (j ∷ []) []) e

pub picked_no : (f : ℕ → Bool) (j : ℕ) → f j ≡ false → picked f (j + 1) ≡ picked f j
picked_no f j e = ap (picked f) (add-one j) ∙ ap (λ b. picked f j ++ cond b (j ∷ []) []) e ∙ append-nil (picked f j)

pub edges_next : (k : Edge) (R : Rel) (n i : ℕ) → edge_items k R n i ++ map (edge_item k i) (picked (R i) n) ≡ edge_items k R n (i + 1)
edges_next k R n i = ap (edge_items k R n) (sym (add-one i))

-- ---- the length of the file, part by part

rows_long : {X : Type 0} (f : X → Item) (k : ℕ) → ((x : X) → length (encode (f x)) ≡ k) → (xs : List X) (rest : List Item)
    → length (file (map f xs ++ rest)) ≡ k * length xs + length (file rest)
rows_long f k h [] rest = omega (arith, mul-zero k)
rows_long f k h (x ∷ xs) rest =
    length-append (encode (f x)) (file (map f xs ++ rest)) ∙ (let a = h x in let b = rows_long f k h xs rest in let c = mul-suc k (length xs) in omega arith)

edge_long : (k : Edge) (i j : ℕ) → length (encode (edge_item k i j)) ≡ 4
edge_long ReadFrom i j = refl
edge_long Order i j = refl
edge_long Atomic i j = refl
edge_long Depend i j = refl

edges_long : (k : Edge) (R : Rel) (n m : ℕ) (rest : List Item) → length (file (edge_items k R n m ++ rest)) ≡ 4 * length (edge_items k R n m) + length (file rest)
edges_long k R n zero rest = omega arith
edges_long k R n (suc m) rest =
    let row = map (edge_item k m) (picked (R m) n) in
    let a = length-append (edge_items k R n m) row in
    let b = length-map (picked (R m) n) (edge_item k m) in
    let c = rows_long (edge_item k m) 4 (edge_long k m) (picked (R m) n) rest in
    let d = edges_long k R n m (row ++ rest) in
    ap (λ is. length (file is)) (append_assoc (edge_items k R n m) row rest) ∙ omega arith

pub file_length : (b : Book) → length (file_of b)
    ≡ 4 * length b.threads + 13 * length b.events + 4 * (length (sort_items b ReadFrom) + length (sort_items b Atomic) + length (sort_items b Depend) + length (sort_items b Order)) + 2
file_length b =
    let sort = λ (k : Edge) (rest : List Item). edges_long k (b.edges k) (length b.events) (length b.events) rest in
    let orders = sort_items b Order ++ end_item ∷ [] in
    let depends = sort_items b Depend ++ orders in
    let atomics = sort_items b Atomic ++ depends in
    let edges = sort_items b ReadFrom ++ atomics in
    omega (
      arith,
      rows_long thread_item 4 (λ t. refl) b.threads (map event_item b.events ++ edges),
      rows_long event_item 13 (λ e. refl) b.events edges,
      sort ReadFrom atomics,
      sort Atomic depends,
      sort Depend orders,
      sort Order (end_item ∷ []),
    )

-- the edges that a table holds are those of the book
pub sort_is : (b : Book) (k : Edge) (R : Rel) (n m : ℕ) → R ≡ b.edges k → n ≡ length b.events → m ≡ n → edge_items k R n m ≡ sort_items b k
sort_is b k R n m e f g = ap₂ (λ (Q : Rel) (l : ℕ). edge_items k Q l m) e f ∙ ap (edge_items k (b.edges k) (length b.events)) (g ∙ f)

-- ---- counts

-- the numbers that pass are those of the range that pass
pub picked_is : (f : ℕ → Bool) (n : ℕ) → picked f n ≡ filter f (range_with_len 0 n)
picked_is f n = go n ∙ ap (filter f) (map-id (range_with_len 0 n))
  where
    go : (m : ℕ) → picked f m ≡ filter f (map (λ x. x) (range_with_len 0 m))
    go zero = refl
    go (suc m) = ap (λ l. l ++ cond (f m) (m ∷ []) []) (go m) ∙ sym (filter_of_map_range_with_len_more f (λ x. x) 0 m m (zero-add m)) ∙ ap (λ z. filter f (map (λ x. x) (range_with_len 0 z))) (add-one m)

-- the edges, counted row by row
pub edges_count : (k : Edge) (R : Rel) (n m : ℕ) → length (edge_items k R n m) ≡ sum_by (λ i. length (picked (R i) n)) (range_with_len 0 m)
edges_count k R n m = go m ∙ ap (sum_by row) (map-id (range_with_len 0 m))
  where
    row : ℕ → ℕ
    row i = length (picked (R i) n)

    go : (l : ℕ) → length (edge_items k R n l) ≡ sum_by row (map (λ x. x) (range_with_len 0 l))
    go zero = refl
    go (suc l) =
        length-append (edge_items k R n l) (map (edge_item k l) (picked (R l) n))
        ∙ ap₂ (λ (a b : ℕ). a + b) (go l) (length-map (picked (R l) n) (edge_item k l))
        ∙ sym (sum_by-map-range_with_len_more row (λ x. x) 0 l l (zero-add l)) ∙ ap (λ z. sum_by row (map (λ x. x) (range_with_len 0 z))) (add-one l)

pub picked_few : (f : ℕ → Bool) (n : ℕ) → length (picked f n) ≤ n
picked_few f n =
    let xs = range_with_len 0 n in
    omega (arith, ap length (picked_is f n), length-filter f xs, count_by-le-length f xs, length-range_with_len 0 n)

pub edges_few : (k : Edge) (R : Rel) (n m : ℕ) → n ≤ 64 → length (edge_items k R n m) ≤ 64 * m
edges_few k R n zero h = omega arith
edges_few k R n (suc m) h =
    let a = length-append (edge_items k R n m) (map (edge_item k m) (picked (R m) n)) in
    let b = length-map (picked (R m) n) (edge_item k m) in
    let c = picked_few (R m) n in
    let d = edges_few k R n m h in
    omega arith
