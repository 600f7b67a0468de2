-- Where a record is due one thing only is found, and so a file is read in one way only.
use Rattle.std.proofs.Common.{◌≡◌, ℕ, ◌+◌, ◌<◌, Bool, true, cond, List, [], ◌∷◌, ◌++◌, length, take, drop, Some, None, Ok, Err, Option, sym, refl, ap, ◌∙◌, subst, ap₂, ⊎_elim, append_assoc, arith}
use Rattle.records.specs.declared.fault.Cause.{Cause}
use Rattle.records.specs.declared.fault.Cause.TheVariants.{Cut, Oversize, UnknownMark, LateRow, Trailing, BadQuestion}
use Rattle.records.specs.declared.mark.Mark.{Mark}
use Rattle.records.specs.declared.mark.Mark.TheVariants.{Question}
use Rattle.records.specs.declared.mark.Phase.{Phase}
use Rattle.records.specs.declared.mark.Phase.TheVariants.{Rows, Edges, Ended}
use Rattle.records.specs.Format.{Begins, size, is_row, is_end, leads, Fields, Broken}
use Rattle.records.specs.Grammar.{Item, encode, file, Whole, Led, Outcome, Next, over, Reading}
use Rattle.records.proofs.Marks.{begins_one, begins_long, encode_begins, encode_long, encode_body, item_one}

-- a thread or an event may not stand among the edges
late : (p : Phase) (m : Mark) → p ≡ Edges → is_row m ≡ true → leads p m ≡ None
late p m e r =
    let lead : Bool → Option Phase = λ b. cond b None (Some (cond (is_end m) Ended Edges)) in
    ap (λ (q : Phase). leads q m) e ∙ ap lead r

-- nothing may stand behind the end
closed : (p : Phase) (m : Mark) → p ≡ Ended → leads p m ≡ None
closed p m e = ap (λ (q : Phase). leads q m) e

edges_ended : (p : Phase) → p ≡ Edges → p ≡ Ended → ⊥
edges_ended p e f = let z : ◌≡◌ {A = ℕ} 0 1 = cc in omega arith

no_row : (m : Mark) → m ≡ Question → is_row m ≡ true → ⊥
no_row m e r = let k : is_row Question ≡ true = sym (ap is_row e) ∙ r in let z : ◌≡◌ {A = ℕ} 0 1 = cc in omega arith

-- ---- a record and a fault exclude each other

module _ (p : Phase) (i : Item) (x : List ℕ) (w : Whole i) (may : leads p i.mark ≡ None → ⊥) where
  own : (m : Mark) → Begins (encode i ++ x) m → m ≡ i.mark
  own m b = begins_one (encode i ++ x) m i.mark b (encode_begins i x)

  question : i.mark ≡ Question → (Fields Question (take 4 (drop 2 (encode i ++ x))) → ⊥) → ⊥
  question e bad =
      bad (subst (λ (m : Mark). Fields m (take (size m) (drop 2 (encode i ++ x)))) e
      (subst (Fields i.mark) (sym (encode_body i x w)) w.fields))

  record_whole : (c : Cause) → Broken p (encode i ++ x) c → ⊥
  record_whole Cut (np, why) =
      ⊎_elim
      (λ (l : length (encode i ++ x) < 2). omega (arith, encode_long i x w))
      (λ (t : (m : Mark) × Begins (encode i ++ x) m × (leads p m ≡ None → ⊥) × (length (encode i ++ x) < 2 + size m)).
      omega (arith, encode_long i x w, ap size (own t.0 t.1), t.3)) why
  record_whole Oversize b = b
  record_whole UnknownMark b = b.2 i.mark (encode_begins i x)
  record_whole LateRow b = may (late p i.mark b.0 (sym (ap is_row (own b.1 b.2)) ∙ b.3))
  record_whole Trailing b = may (closed p i.mark b.0)
  record_whole BadQuestion b = question (sym (own Question b.1)) b.3

-- ---- two faults exclude each other

module _ (p : Phase) (bs : List ℕ) where
  cut_unknown : Broken p bs Cut → Broken p bs UnknownMark → ⊥
  cut_unknown a b =
      ⊎_elim (λ (l : length bs < 2). omega (arith, b.1))
      (λ (t : (m : Mark) × Begins bs m × (leads p m ≡ None → ⊥) × (length bs < 2 + size m)). b.2 t.0 t.1) a.1

  cut_late : Broken p bs Cut → Broken p bs LateRow → ⊥
  cut_late a b =
      ⊎_elim (λ (l : length bs < 2). omega (arith, begins_long bs b.1 b.2))
      (λ (t : (m : Mark) × Begins bs m × (leads p m ≡ None → ⊥) × (length bs < 2 + size m)).
      t.2 (late p t.0 b.0 (ap is_row (begins_one bs t.0 b.1 t.1 b.2) ∙ b.3))) a.1

  cut_bad : Broken p bs Cut → Broken p bs BadQuestion → ⊥
  cut_bad a b =
      ⊎_elim (λ (l : length bs < 2). omega (arith, b.2))
      (λ (t : (m : Mark) × Begins bs m × (leads p m ≡ None → ⊥) × (length bs < 2 + size m)).
      omega (arith, b.2, t.3, ap size (begins_one bs t.0 Question t.1 b.1))) a.1

  late_bad : Broken p bs LateRow → Broken p bs BadQuestion → ⊥
  late_bad a b = no_row a.1 (begins_one bs a.1 Question a.2 b.1) a.3

  broken_one : (c d : Cause) → Broken p bs c → Broken p bs d → c ≡ d
  broken_one Cut Cut a b = refl
  broken_one Cut Oversize a b = absurd b
  broken_one Cut UnknownMark a b = absurd (cut_unknown a b)
  broken_one Cut LateRow a b = absurd (cut_late a b)
  broken_one Cut Trailing a b = absurd (a.0 b.0)
  broken_one Cut BadQuestion a b = absurd (cut_bad a b)
  broken_one Oversize d a b = absurd a
  broken_one UnknownMark Cut a b = absurd (cut_unknown b a)
  broken_one UnknownMark Oversize a b = absurd b
  broken_one UnknownMark UnknownMark a b = refl
  broken_one UnknownMark LateRow a b = absurd (a.2 b.1 b.2)
  broken_one UnknownMark Trailing a b = absurd (a.0 b.0)
  broken_one UnknownMark BadQuestion a b = absurd (a.2 Question b.1)
  broken_one LateRow Cut a b = absurd (cut_late b a)
  broken_one LateRow Oversize a b = absurd b
  broken_one LateRow UnknownMark a b = absurd (b.2 a.1 a.2)
  broken_one LateRow LateRow a b = refl
  broken_one LateRow Trailing a b = absurd (edges_ended p a.0 b.0)
  broken_one LateRow BadQuestion a b = absurd (late_bad a b)
  broken_one Trailing Cut a b = absurd (b.0 a.0)
  broken_one Trailing Oversize a b = absurd b
  broken_one Trailing UnknownMark a b = absurd (b.0 a.0)
  broken_one Trailing LateRow a b = absurd (edges_ended p b.0 a.0)
  broken_one Trailing Trailing a b = refl
  broken_one Trailing BadQuestion a b = absurd (b.0 a.0)
  broken_one BadQuestion Cut a b = absurd (cut_bad b a)
  broken_one BadQuestion Oversize a b = absurd b
  broken_one BadQuestion UnknownMark a b = absurd (b.2 Question a.1)
  broken_one BadQuestion LateRow a b = absurd (late_bad b a)
  broken_one BadQuestion Trailing a b = absurd (a.0 b.0)
  broken_one BadQuestion BadQuestion a b = refl

  -- a clean end is no fault
  end_clean : (c : Cause) → (p ≡ Ended) × (bs ≡ []) → Broken p bs c → ⊥
  end_clean Cut a b = b.0 a.0
  end_clean Oversize a b = b
  end_clean UnknownMark a b = b.0 a.0
  end_clean LateRow a b = edges_ended p b.0 a.0
  end_clean Trailing a b = omega (arith, b.1, ap length a.1)
  end_clean BadQuestion a b = b.0 a.0

  found_broken : (i : Item) (c : Cause) → Next p bs (Ok (Some i)) → Broken p bs c → ⊥
  found_broken i c a b = record_whole p i a.2 a.0 a.1 c (subst (λ (l : List ℕ). Broken p l c) a.3 b)

  -- where a record is due one thing only is found
  pub next_one : (o u : Outcome) → Next p bs o → Next p bs u → o ≡ u
  next_one (Ok None) (Ok None) a b = refl
  next_one (Ok None) (Ok (Some j)) a b = absurd (b.1 (closed p j.mark a.0))
  next_one (Ok None) (Err d) a b = absurd (end_clean d a b)
  next_one (Ok (Some i)) (Ok None) a b = absurd (a.1 (closed p i.mark b.0))
  next_one (Ok (Some i)) (Ok (Some j)) a b =
      ap (λ (k : Item). Ok (Some k)) (item_one i j a.2 b.2 a.0 b.0 (sym a.3 ∙ b.3)).0
  next_one (Ok (Some i)) (Err d) a b = absurd (found_broken i d a b)
  next_one (Err c) (Ok None) a b = absurd (end_clean c b a)
  next_one (Err c) (Ok (Some j)) a b = absurd (found_broken j c b a)
  next_one (Err c) (Err d) a b = ap Err (broken_one c d a b)

-- ---- whole files

over_one : (d e : Option Cause) → over d ≡ over e → d ≡ e
over_one None None h = refl
over_one None (Some c) h = absurd (let z : ◌≡◌ {A = ℕ} 0 1 = cc in omega arith)
over_one (Some c) None h = absurd (let z : ◌≡◌ {A = ℕ} 0 1 = cc in omega arith)
over_one (Some c) (Some d) h = cc

over_record : (d : Option Cause) (i : Item) → over d ≡ Ok (Some i) → ⊥
over_record None i h = let z : ◌≡◌ {A = ℕ} 0 1 = cc in omega arith
over_record (Some c) i h = let z : ◌≡◌ {A = ℕ} 0 1 = cc in omega arith

pub may_stand : (p : Phase) (m : Mark) (q : Phase) → leads p m ≡ Some q → leads p m ≡ None → ⊥
may_stand p m q h n = let e : Some q ≡ None = sym h ∙ n in let z : ◌≡◌ {A = ℕ} 0 1 = cc in omega arith

same_leads : (p q s : Phase) (m : Mark) → leads s m ≡ Some p → leads s m ≡ Some q → p ≡ q
same_leads p q s m a b = let e : Some p ≡ Some q = sym a ∙ b in cc

-- the first record of a front is what is found
first_found : (s p : Phase) (i : Item) (is : List Item) (x : List ℕ) → Led s (i ∷ is) p → Next s (file (i ∷ is) ++ x) (Ok (Some i))
first_found s p i is x l = (l.0, may_stand s i.mark l.1 l.2, file is ++ x, append_assoc (encode i) (file is) x)

pub read_one : (s p q : Phase) (is js : List Item) (x y : List ℕ) (d e : Option Cause) → Led s is p → Led s js q
    → file is ++ x ≡ file js ++ y → Next p x (over d) → Next q y (over e) → (is ≡ js) × (d ≡ e)
read_one s p q [] [] x y d e l m h a b = (
  refl,
  over_one d e (next_one s x (over d) (over e) (subst (λ (r : Phase). Next r x (over d)) (sym l) a)
      (subst (λ (r : Phase). Next r x (over e)) (sym m) (subst (λ (z : List ℕ). Next q z (over e)) (sym h) b))),
)
read_one s p q [] (j ∷ js) x y d e l m h a b =
    absurd (over_record d j (next_one s x (over d) (Ok (Some j)) (subst (λ (r : Phase). Next r x (over d)) (sym l) a)
    (subst (λ (z : List ℕ). Next s z (Ok (Some j))) (sym h) (first_found s q j js y m))))
read_one s p q (i ∷ is) [] x y d e l m h a b =
    absurd (over_record e i (next_one s y (over e) (Ok (Some i)) (subst (λ (r : Phase). Next r y (over e)) (sym m) b)
    (subst (λ (z : List ℕ). Next s z (Ok (Some i))) h (first_found s p i is x l))))
read_one s p q (i ∷ is) (j ∷ js) x y d e l m h a b =
    let f : (i ≡ j) × (file is ++ x ≡ file js ++ y) =
    item_one i j (file is ++ x) (file js ++ y) l.0 m.0
    (sym (append_assoc (encode i) (file is) x) ∙ h ∙ append_assoc (encode j) (file js) y) in
    let same : l.1 ≡ m.1 = same_leads l.1 m.1 s i.mark l.2 (ap (λ (k : Item). leads s k.mark) f.0 ∙ m.2) in
    let r = read_one l.1 p q is js x y d e l.3 (subst (λ (t : Phase). Led t js q) (sym same) m.3) f.1 a b in
    (ap₂ ◌∷◌ f.0 r.0, r.1)

-- a file is read in one way only
pub reading_one : (bs : List ℕ) (is js : List Item) (d e : Option Cause) → Reading bs is d → Reading bs js e → (is ≡ js) × (d ≡ e)
reading_one bs is js d e a b =
    read_one Rows a.phase b.phase is js a.rest b.rest d e a.led b.led (sym a.bytes ∙ b.bytes) a.ends b.ends
