-- A case file is answered one thing only.
use Rattle.std.proofs.Common.{◌≡◌, ℕ, List, [], ◌∷◌, ◌++◌, length, Some, None, Ok, Err, Option, Result, sym, refl, ap, ◌∙◌, subst, ap₂, append_assoc, arith}
use Rattle.records.specs.declared.mark.Phase.{Phase}
use Rattle.records.specs.declared.mark.Phase.TheVariants.{Rows}
use Rattle.records.specs.Grammar.{Item, encode, file, Led, Outcome, Next}
use Rattle.records.proofs.Marks.{item_one}
use Rattle.records.proofs.Unique.{next_one, may_stand}
use Rattle.sheet.specs.declared.calls.Call.{Call}
use Rattle.sheet.specs.declared.calls.Refusal.{Refusal}
use Rattle.sheet.specs.Book.{Book, blank, refusal}
use Rattle.casefile.specs.declared.fault.Cause.{Cause}
use Rattle.casefile.specs.declared.fault.Cause.TheVariants.{Framing, Sheet}
use Rattle.casefile.specs.declared.fault.Fault.{Fault}
use Rattle.casefile.specs.Calls.{call_of, listed, closing, onward, calls, Taken}
use Rattle.casefile.specs.Files.{Faulty, Reads}
use Rattle.casefile.proofs.Taking.{taken_parts, taken_one, onward_one}

-- ---- where a reading ends

-- what was found, in phase p and with book b, ends the reading by this answer: the end, a fault, or a record that the sheet refuses
abbrev Ends : Phase → Book → Outcome → Result Book Cause → Type 0
Ends p b (Ok None) o = o ≡ Ok b
Ends p b (Ok (Some i)) o =
    (c : Book) × (a : Call) × (r : Refusal) × Taken b (closing p i.mark) c × (call_of i.mark i.body ≡ Some a) × (refusal c a ≡ Some r)
    × (o ≡ Err (Sheet r))
Ends p b (Err k) o = o ≡ Err (Framing k)

abbrev Stop : Phase → List ℕ → Book → Result Book Cause → Type 0
Stop p x b o = (u : Outcome) × Next p x u × Ends p b u o

ends_one : (p : Phase) (b : Book) (u : Outcome) (o w : Result Book Cause) → Ends p b u o → Ends p b u w → o ≡ w
ends_one p b (Ok None) o w e f = e ∙ sym f
ends_one p b (Ok (Some i)) o w e f =
    let books : e.0 ≡ f.0 = taken_one b e.0 f.0 (closing p i.mark) e.3 f.3 in
    let own : Some e.1 ≡ Some f.1 = sym e.4 ∙ f.4 in
    let same : e.1 ≡ f.1 = cc in
    let why : Some e.2 ≡ Some f.2 = sym e.5 ∙ ap₂ refusal books same ∙ f.5 in
    let r : e.2 ≡ f.2 = cc in
    e.6 ∙ ap (λ (x : Refusal). Err (Sheet x)) r ∙ sym f.6
ends_one p b (Err k) o w e f = e ∙ sym f

stop_one : (p : Phase) (x : List ℕ) (b : Book) (o w : Result Book Cause) → Stop p x b o → Stop p x b w → o ≡ w
stop_one p x b o w s t =
    let same : s.0 ≡ t.0 = next_one p x s.0 t.0 s.1 t.1 in
    ends_one p b t.0 o w (subst (λ (u : Outcome). Ends p b u o) same s.2) t.2

-- ---- the first record of several

-- the calls of the first record, and those of the others
first_taken : (s : Phase) (b d : Book) (i : Item) (is : List Item) → Taken b (calls s (i ∷ is)) d
    → (c : Book) × (e : Book) × Taken b (closing s i.mark) c × Taken c (listed (call_of i.mark i.body)) e × Taken e (calls (onward i.mark) is) d
first_taken s b d i is t =
    let own = listed (call_of i.mark i.body) in
    let p = taken_parts b d (closing s i.mark) (own ++ calls (onward i.mark) is) t in
    let q = taken_parts p.0 d own (calls (onward i.mark) is) p.2 in
    (p.0, q.0, p.1, q.1, q.2)

-- a record that the sheet took ends no reading
not_last : (s : Phase) (b d : Book) (i : Item) (is : List Item) (o : Result Book Cause) → Taken b (calls s (i ∷ is)) d → Ends s b (Ok (Some i)) o → ⊥
not_last s b d i is o t e =
    let p = first_taken s b d i is t in
    let books : e.0 ≡ p.0 = taken_one b e.0 p.0 (closing s i.mark) e.3 p.2 in
    let own : Taken p.0 (e.1 ∷ []) p.1 = subst (λ (k : Option Call). Taken p.0 (listed k) p.1) e.4 p.3 in
    let why : Some e.2 ≡ None = sym e.5 ∙ ap (λ (x : Book). refusal x e.1) books ∙ own.0 in
    let z : ◌≡◌ {A = ℕ} 0 1 = cc in omega arith

goes_on : (s q : Phase) (x y : List ℕ) (b d : Book) (o : Result Book Cause) (j : Item) (js : List Item) → Stop s x b o → Led s (j ∷ js) q
    → Taken b (calls s (j ∷ js)) d → x ≡ file (j ∷ js) ++ y → ⊥
goes_on s q x y b d o j js a m t h =
    let found : Next s x (Ok (Some j)) =
    (m.0, may_stand s j.mark m.1 m.2, file js ++ y, h ∙ append_assoc (encode j) (file js) y) in
    let same : a.0 ≡ Ok (Some j) = next_one s x a.0 (Ok (Some j)) a.1 found in
    not_last s b d j js o t (subst (λ (u : Outcome). Ends s b u o) same a.2)

-- ---- whole files

moved : (p s : Phase) (x y : List ℕ) (b c : Book) (o : Result Book Cause) → p ≡ s → x ≡ y → b ≡ c → Stop p x b o → Stop s y c o
moved p s x y b c o e f g a =
    subst (λ (q : Phase). Stop q y c o) e (subst (λ (l : List ℕ). Stop p l c o) f (subst (λ (d : Book). Stop p x d o) g a))

-- two readings of the same bytes, from the same phase and book on
agree : (s p q : Phase) (b c d : Book) (is js : List Item) (x y : List ℕ) (o w : Result Book Cause) → Led s is p → Led s js q
    → Taken b (calls s is) c → Taken b (calls s js) d → file is ++ x ≡ file js ++ y → Stop p x c o → Stop q y d w → (is ≡ js) × (o ≡ w)
agree s p q b c d [] [] x y o w l m t u h e f =
    (refl, stop_one s x b o w (moved p s x x c b o (sym l) refl (sym t) e) (moved q s y x d b w (sym m) (sym h) (sym u) f))
agree s p q b c d [] (j ∷ js) x y o w l m t u h e f =
    absurd (goes_on s q x y b d o j js (moved p s x x c b o (sym l) refl (sym t) e) m u h)
agree s p q b c d (i ∷ is) [] x y o w l m t u h e f =
    absurd (goes_on s p y x b c w i is (moved q s y y d b w (sym m) refl (sym u) f) l t (sym h))
agree s p q b c d (i ∷ is) (j ∷ js) x y o w l m t u h e f =
    let g : (i ≡ j) × (file is ++ x ≡ file js ++ y) =
    item_one i j (file is ++ x) (file js ++ y) l.0 m.0
    (sym (append_assoc (encode i) (file is) x) ∙ h ∙ append_assoc (encode j) (file js) y) in
    let m' : Led s (i ∷ js) q = subst (λ (k : Item). Led s (k ∷ js) q) (sym g.0) m in
    let t' = first_taken s b c i is t in
    let u' = first_taken s b d i js (subst (λ (k : Item). Taken b (calls s (k ∷ js)) d) (sym g.0) u) in
    let first : u'.0 ≡ t'.0 = taken_one b u'.0 t'.0 (closing s i.mark) u'.2 t'.2 in
    let books : u'.1 ≡ t'.1 =
    taken_one t'.0 u'.1 t'.1 (listed (call_of i.mark i.body))
    (subst (λ (z : Book). Taken z (listed (call_of i.mark i.body)) u'.1) first u'.3) t'.3 in
    let r = agree (onward i.mark) p q t'.1 c d is js x y o w
    (subst (λ (z : Phase). Led z is p) (sym (onward_one s i.mark l.1 l.2)) l.3)
    (subst (λ (z : Phase). Led z js q) (sym (onward_one s i.mark m'.1 m'.2)) m'.3)
    t'.4 (subst (λ (z : Book). Taken z (calls (onward i.mark) js) d) books u'.4) g.1 e f in
    (ap₂ ◌∷◌ g.0 r.0, r.1)

-- a reading of bs that ends at this place by this answer
record Told (bs : List ℕ) (place : ℕ) (o : Result Book Cause) : Type 0 where
  front : List Item
  phase : Phase
  rest : List ℕ
  book : Book
  bytes : bs ≡ file front ++ rest
  led : Led Rows front phase
  taken : Taken blank (calls Rows front) book
  stop : Stop phase rest book o
  at : place ≡ length (file front)

told_one : (bs : List ℕ) (m n : ℕ) (o w : Result Book Cause) → Told bs m o → Told bs n w → (m ≡ n) × (o ≡ w)
told_one bs m n o w a b =
    let r = agree Rows a.phase b.phase blank a.book b.book a.front b.front a.rest b.rest o w a.led b.led a.taken b.taken
    (sym a.bytes ∙ b.bytes) a.stop b.stop in
    (a.at ∙ ap (λ (is : List Item). length (file is)) r.0 ∙ sym b.at, r.1)

fault_told : (bs : List ℕ) (place : ℕ) (k : Cause) → Faulty bs k place → Told bs place (Err k)
fault_told bs place (Framing k) f =
    let g = f.2 in
    record { front = f.0; phase = g.phase; rest = g.rest; book = f.1; bytes = g.bytes; led = g.led; taken = f.3; stop = (Err k, g.ends, refl); at = f.4 }
fault_told bs place (Sheet r) f =
    let p = taken_parts blank f.book (calls Rows f.front) (closing f.phase f.item.mark) f.taken in
    record {
      front = f.front;
      phase = f.phase;
      rest = encode f.item ++ f.rest;
      book = p.0;
      bytes = f.bytes;
      led = f.led;
      taken = p.1;
      stop = (Ok (Some f.item), (f.whole, f.may, f.rest, refl), (f.book, f.call, r, p.2, f.makes, f.refused, refl));
      at = f.at;
    }

book_told : (bs : List ℕ) (c : Book) → (r : Reads bs (Ok c)) → Told bs (length (file r.0)) (Ok c)
book_told bs c r =
    let g = r.1 in
    record { front = r.0; phase = g.phase; rest = g.rest; book = c; bytes = g.bytes; led = g.led; taken = r.2; stop = (Ok None, g.ends, refl); at = refl }

-- what reading answers is the only thing that it can answer
pub reads_one : (bs : List ℕ) (a b : Result Book Fault) → Reads bs a → Reads bs b → a ≡ b
reads_one bs (Ok c) (Ok d) r s =
    let e : ◌≡◌ {A = Result Book Cause} (Ok c) (Ok d) = (told_one bs _ _ (Ok c) (Ok d) (book_told bs c r) (book_told bs d s)).1 in
    let f : c ≡ d = cc in
    ap Ok f
reads_one bs (Ok c) (Err g) r s =
    let e : ◌≡◌ {A = Result Book Cause} (Ok c) (Err g.cause) = (told_one bs _ _ (Ok c) (Err g.cause) (book_told bs c r) (fault_told bs g.place g.cause s)).1 in
    absurd (let z : ◌≡◌ {A = ℕ} 0 1 = cc in omega arith)
reads_one bs (Err f) (Ok d) r s =
    let e : ◌≡◌ {A = Result Book Cause} (Err f.cause) (Ok d) = (told_one bs _ _ (Err f.cause) (Ok d) (fault_told bs f.place f.cause r) (book_told bs d s)).1 in
    absurd (let z : ◌≡◌ {A = ℕ} 0 1 = cc in omega arith)
reads_one bs (Err f) (Err g) r s =
    let e = told_one bs f.place g.place (Err f.cause) (Err g.cause) (fault_told bs f.place f.cause r) (fault_told bs g.place g.cause s) in
    let h : ◌≡◌ {A = Result Book Cause} (Err f.cause) (Err g.cause) = e.1 in
    let k : f.cause ≡ g.cause = cc in
    ap₂ (λ (x : Cause) (y : ℕ). Err (record { cause = x; place = y })) k e.0
