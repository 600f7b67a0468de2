-- Bytes put one after another, into memory that may end before them.
use Rattle.std.proofs.Common.{◌≡◌, ℕ, zero, suc, ◌+◌, ◌-◌, ◌<◌, ◌≤◌, min, List, [], ◌∷◌, ◌++◌, map, length, get_or, take, drop, sym, refl, ap, ◌∙◌, subst, append_assoc, append-nil, ap₂, arith, Bool, true, false, take-append-drop}
use Rattle.relation.specs.Algebra.{Rel}
use Rattle.sheet.specs.declared.calls.Edge.{Edge}
use Rattle.sheet.specs.declared.calls.Edge.TheVariants.{ReadFrom, Order, Atomic, Depend}
use Rattle.sheet.specs.Book.{Book}
use Rattle.casewriter.specs.Items.{thread_item, event_item, edge_item, end_item, picked, edge_items, sort_items, file_of}
use Rattle.casewriter.proofs.Writing.{picked_yes, picked_no, edges_next}
use Rattle.std.proofs.lemmas.List.{length-take-le, take_min, drop-drop, take_all, take_more, map_push, flat_map_more}
use Rattle.std.proofs.Math.Seq.{take-append-add}
use Rattle.std.proofs.lemmas.Grind.{flat_map-append}
use Rattle.records.specs.Grammar.{Item, encode, file}
use Rattle.casewriter.specs.declared.writer.Writer.{Writer}
use Rattle.casewriter.specs.Written.{Added}

take_again : (n : ℕ) (xs ys : List ℕ) → take n (take n xs ++ ys) ≡ take n (xs ++ ys)
take_again zero xs ys = refl
take_again (suc n) [] ys = refl
take_again (suc n) (x ∷ xs) ys = ap (λ (l : List ℕ). x ∷ l) (take_again n xs ys)

-- as many bytes of a part as fit behind the first `at`
pub fitting : (at count : ℕ) (xs part : List ℕ) → at ≤ length xs → count ≡ min (length part) (length xs - at)
    → take (length xs) (take at xs ++ part) ≡ take at xs ++ take count part
fitting at count xs part h e =
    let n = length xs - at in
    let a = length-take-le at xs h in
    let all : length xs ≡ length (take at xs) + n = omega arith in
    let same : min n (length part) ≡ count = omega arith in
    ap (λ m. take m (take at xs ++ part)) all ∙ take-append-add (take at xs) part n
    ∙ ap (λ (l : List ℕ). take at xs ++ l) (sym (take_min n part) ∙ ap (λ m. take m part) same)

pub added_none : (w : Writer) → Added w [] w
added_none w =
    let done = take w.at w.memory.now in
    let l = length-take-le w.at w.memory.now w.within in
    record {
      same_reference = refl;
      size = refl;
      onward = omega arith;
      front = sym (ap (take (length w.memory.now)) (append-nil done) ∙ take_all (length w.memory.now) done (omega (arith, w.within)));
      behind = refl;
    }

pub added_more : {u v w : Writer} {xs ys : List ℕ} → Added u xs v → Added v ys w → Added u (xs ++ ys) w
added_more {u} {v} {w} {xs} {ys} p q =
    let n = length u.memory.now in
    let done = take u.at u.memory.now in
    let k = w.at - v.at in
    let gap : v.at + k ≡ w.at = omega (arith, q.onward) in
    let at = λ (z : Writer). drop-drop k v.at z.memory.now ∙ ap (λ m. drop m z.memory.now) gap in
    record {
      same_reference = q.same_reference ∙ p.same_reference;
      size = q.size ∙ p.size;
      onward = omega (arith, p.onward, q.onward);
      front = q.front ∙ ap (λ m. take m (take v.at v.memory.now ++ ys)) p.size ∙ ap (λ (l : List ℕ). take n (l ++ ys)) p.front
          ∙ take_again n (done ++ xs) ys ∙ ap (take n) (append_assoc done xs ys);
      behind = q.behind ∙ sym (at v) ∙ ap (drop k) p.behind ∙ at u;
    }

pub added_as : {u v : Writer} {xs ys : List ℕ} → xs ≡ ys → Added u xs v → Added u ys v
added_as {u} {v} e p = subst (λ (bs : List ℕ). Added u bs v) e p

-- more records
pub added_items : {u v w : Writer} (is js : List Item) → Added u (file is) v → Added v (file js) w → Added u (file (is ++ js)) w
added_items is js p q = added_as (sym (flat_map-append encode is js)) (added_more p q)

added_item : {u v w : Writer} (is : List Item) (i : Item) → Added u (file is) v → Added v (encode i) w → Added u (file (is ++ i ∷ [])) w
added_item is i p q = added_as (flat_map_more encode [] is i) (added_more p q)

-- one more row
pub added_row : {R : Type 0} {u v w : Writer} (f : R → Item) (xs : List R) (i : ℕ) (x : R) → x ≡ get_or xs i x → i < length xs
    → Added u (file (map f (take i xs))) v → Added v (encode (f x)) w → Added u (file (map f (take (i + 1) xs))) w
added_row f xs i x e h p q =
    added_as
    (ap file (ap (λ z. map f (take i xs) ++ f z ∷ []) e ∙ sym (map_push f (take i xs) (get_or xs i x)) ∙ ap (map f) (sym (take_more xs i x h))))
    (added_item (map f (take i xs)) (f x) p q)

-- one more pair of a row: an edge, or none
pub added_edge : {u v w : Writer} {bs : List ℕ} (k : Edge) (i : ℕ) (f : ℕ → Bool) (j : ℕ) → f j ≡ true → bs ≡ encode (edge_item k i j)
    → Added u (file (map (edge_item k i) (picked f j))) v → Added v bs w → Added u (file (map (edge_item k i) (picked f (j + 1)))) w
added_edge k i f j h b p q =
    added_as (ap file (sym (map_push (edge_item k i) (picked f j) j) ∙ ap (map (edge_item k i)) (sym (picked_yes f j h))))
    (added_item (map (edge_item k i) (picked f j)) (edge_item k i j) p (added_as b q))

pub skipped_edge : {u v : Writer} (k : Edge) (i : ℕ) (f : ℕ → Bool) (j : ℕ) → f j ≡ false
    → Added u (file (map (edge_item k i) (picked f j))) v → Added u (file (map (edge_item k i) (picked f (j + 1)))) v
skipped_edge k i f j h p = added_as (ap (λ (js : List ℕ). file (map (edge_item k i) js)) (sym (picked_no f j h))) p

-- the edges from one more event
pub added_edges : {u v w : Writer} (k : Edge) (R : Rel) (n i : ℕ) → Added u (file (edge_items k R n i)) v
    → Added v (file (map (edge_item k i) (picked (R i) n))) w → Added u (file (edge_items k R n (i + 1))) w
added_edges k R n i p q = added_as (ap file (edges_next k R n i)) (added_items (edge_items k R n i) (map (edge_item k i) (picked (R i) n)) p q)

-- all parts put one after another are the file
pub added_file : {t₀ t₁ t₂ t₃ t₄ t₅ t₆ t₇ : Writer} (b : Book) → Added t₀ (file (map thread_item b.threads)) t₁
    → Added t₁ (file (map event_item b.events)) t₂ → Added t₂ (file (sort_items b ReadFrom)) t₃ → Added t₃ (file (sort_items b Atomic)) t₄
    → Added t₄ (file (sort_items b Depend)) t₅ → Added t₅ (file (sort_items b Order)) t₆ → Added t₆ (file (end_item ∷ [])) t₇ → Added t₀ (file_of b) t₇
added_file b p q r s t u v =
    added_items (map thread_item b.threads) _ p (added_items (map event_item b.events) _ q (added_items (sort_items b ReadFrom) _ r (added_items (sort_items b Atomic) _ s
    (added_items (sort_items b Depend) _ t (added_items (sort_items b Order) (end_item ∷ []) u v)))))

-- bytes that fit stand at the front, and behind them what was there
pub filled : {u w : Writer} {bs old new : List ℕ} {n : ℕ} → Added u bs w → u.at ≡ 0 → u.memory.now ≡ old → length bs ≤ length old → n ≡ w.at
    → new ≡ w.memory.now → (n ≡ length bs) × (n ≤ length old) × (new ≡ bs ++ drop n old)
filled {u} {w} {bs} {old} {new} {n} p z m l e f =
    let front : take w.at w.memory.now ≡ bs =
    p.front ∙ ap (λ k. take (length u.memory.now) (take k u.memory.now ++ bs)) z ∙ take_all (length u.memory.now) bs (omega (arith, ap length m)) in
    let at : w.at ≡ length bs = sym (length-take-le w.at w.memory.now w.within) ∙ ap length front in (
      e ∙ at,
      omega arith,
      f ∙ sym (take-append-drop w.at w.memory.now) ∙ ap₂ (λ (xs ys : List ℕ). xs ++ ys) front (p.behind ∙ ap₂ drop (sym e) m),
    )
