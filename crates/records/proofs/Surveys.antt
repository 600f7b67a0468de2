-- A front of records that a reader has stepped over, and the numbers of their sorts.
use Rattle.std.proofs.Common.{◌≡◌, ℕ, ◌+◌, ◌≤◌, Bool, true, false, cond, List, [], ◌∷◌, ◌++◌, length, drop, Some, None, Ok, Err, Option, Result, sym, refl, ap, ◌∙◌, subst, ap₂, append_assoc, arith, length-append}
use Rattle.std.proofs.lemmas.List.{drop_at, drop-drop, flat_map_more, length_push}
use Rattle.records.specs.declared.fault.Cause.{Cause}
use Rattle.records.specs.declared.fault.Fault.{Fault}
use Rattle.records.specs.declared.mark.Phase.{Phase}
use Rattle.records.specs.declared.mark.Phase.TheVariants.{Rows}
use Rattle.records.specs.declared.mark.Record.{Record}
use Rattle.records.specs.declared.reader.Reader.{Reader}
use Rattle.records.specs.declared.survey.Tally.{Tally}
use Rattle.records.specs.Format.{size, leads}
use Rattle.records.specs.Grammar.{Item, encode, file, Whole, Led, Next, item, seen, over, Reading}
use Rattle.records.specs.Readers.{rest, Fresh, Placed, Moved}
use Rattle.records.specs.Counts.{Sort, thread, event, edge, question, end, sort, same, one, count, tally, noted, noted_sort, Reads}
use Rattle.records.proofs.Marks.{encode_length}
use Rattle.records.proofs.Unique.{reading_one}

-- the records that the reader has stepped over
pub record Front (bs : List ℕ) (r : Reader) (is : List Item) : Type 0 where
  pub same : r.file.now ≡ bs
  pub bytes : bs ≡ file is ++ rest r
  pub place : r.at ≡ length (file is)
  pub led : Led Rows is r.phase

pub front_none : (bs : List ℕ) (r : Reader) → Fresh bs r → Front bs r []
front_none bs r f =
    record { same = f.0; bytes = sym (ap₂ (λ (n : ℕ) (l : List ℕ). drop n l) f.1 f.0); place = f.1; led = sym f.2 }

led_more : (p q s : Phase) (is : List Item) (i : Item) → Led p is q → Whole i → leads q i.mark ≡ Some s → Led p (is ++ i ∷ []) s
led_more p q s [] i l w e = (w, s, ap (λ (t : Phase). leads t i.mark) l ∙ e, refl)
led_more p q s (j ∷ is) i l w e = (l.0, l.1, l.2, led_more l.1 q s is i l.3 w e)

-- one record more
pub front_more : (bs : List ℕ) (r s : Reader) (is : List Item) (c : Record) → Front bs r is → Next r.phase (rest r) (Ok (Some (item c)))
    → Moved r (Ok (Some c)) s → s.file.now ≡ r.file.now → Front bs s (is ++ item c ∷ [])
front_more bs r s is c f n m e =
    let i : Item = item c in
    let long : length (encode i) ≡ 2 + size c.mark = encode_length i n.0 in
    let left : rest s ≡ n.2 =
    ap₂ (λ (k : ℕ) (l : List ℕ). drop k l) (m.0 ∙ omega arith) e
    ∙ sym (drop-drop (2 + size c.mark) r.at r.file.now)
    ∙ ap (drop (2 + size c.mark)) n.3 ∙ drop_at (encode i) n.2 (2 + size c.mark) long in
    let joins : file is ++ encode i ≡ file (is ++ i ∷ []) = flat_map_more encode [] is i in
    record {
      same = e ∙ f.same;
      bytes = f.bytes ∙ ap (λ (l : List ℕ). file is ++ l) (n.3 ∙ ap (λ (l : List ℕ). encode i ++ l) (sym left))
          ∙ sym (append_assoc (file is) (encode i) (rest s)) ∙ ap (λ (l : List ℕ). l ++ rest s) joins;
      place = omega (arith, m.0, f.place, long, length-append (file is) (encode i), ap length joins);
      led = led_more Rows r.phase s.phase is i f.led n.0 m.1;
    }

-- the records are over
pub front_over : (bs : List ℕ) (r : Reader) (is : List Item) (e : Option Cause) → Front bs r is → Next r.phase (rest r) (over e) → Reading bs is e
front_over bs r is e f n = record { phase = r.phase; rest = rest r; bytes = f.bytes; led = f.led; ends = n }

-- ---- numbers

count_more : (s : Sort) (is : List Item) (i : Item) → count s (is ++ i ∷ []) ≡ count s is + one s (sort i.mark)
count_more s [] i = omega arith
count_more s (j ∷ is) i = let h = count_more s is i in omega arith

at_most_one : (b : Bool) → cond b 1 0 ≤ 1
at_most_one true = omega arith
at_most_one false = omega arith

pub count_few : (s : Sort) (is : List Item) → count s is ≤ length is
count_few s [] = omega arith
count_few s (i ∷ is) = let h = count_few s is in let k = at_most_one (same s (sort i.mark)) in omega arith

pub file_long : (p q : Phase) (is : List Item) → Led p is q → length is ≤ length (file is)
file_long p q [] l = omega arith
file_long p q (i ∷ is) l =
    let h = file_long l.1 q is l.3 in
    let k = length-append (encode i) (file is) in
    let m = encode_length i l.0 in omega arith

abbrev numbers : ℕ → ℕ → ℕ → ℕ → ℕ → Tally
numbers n a b c d = record { records = n; threads = a; events = b; edges = c; questions = d }

same_numbers : (n n' a a' b b' c c' d d' : ℕ) → n ≡ n' → a ≡ a' → b ≡ b' → c ≡ c' → d ≡ d' → numbers n a b c d ≡ numbers n' a' b' c' d'
same_numbers n n' a a' b b' c c' d d' e f g h k = cc

module _ (is : List Item) (i : Item) where
  counted : (k s : Sort) → sort i.mark ≡ s → count k (is ++ i ∷ []) ≡ count k is + one k s
  counted k s e = count_more k is i ∙ ap (λ (t : Sort). count k is + one k t) e

  tally_as : (s : Sort) → sort i.mark ≡ s → (a b c d : ℕ)
      → a ≡ count thread is + one thread s → b ≡ count event is + one event s → c ≡ count edge is + one edge s → d ≡ count question is + one question s
      → numbers (length is + 1) a b c d ≡ tally (is ++ i ∷ [])
  tally_as s e a b c d f g h k =
      same_numbers _ _ _ _ _ _ _ _ _ _ (sym (length_push is i)) (f ∙ sym (counted thread s e)) (g ∙ sym (counted event s e)) (h ∙ sym (counted edge s e)) (k ∙ sym (counted question s e))

  tally_at : (s : Sort) → sort i.mark ≡ s → noted_sort (tally is) s ≡ tally (is ++ i ∷ [])
  tally_at thread e = tally_as thread e _ _ _ _ refl (omega arith) (omega arith) (omega arith)
  tally_at event e = tally_as event e _ _ _ _ (omega arith) refl (omega arith) (omega arith)
  tally_at edge e = tally_as edge e _ _ _ _ (omega arith) (omega arith) refl (omega arith)
  tally_at question e = tally_as question e _ _ _ _ (omega arith) (omega arith) (omega arith) refl
  tally_at end e = tally_as end e _ _ _ _ (omega arith) (omega arith) (omega arith) (omega arith)

pub tally_more : (is : List Item) (i : Item) → noted (tally is) i.mark ≡ tally (is ++ i ∷ [])
tally_more is i = tally_at is i (sort i.mark) refl

-- ---- answers

-- a fault behind a front of records
pub front_fault : (bs : List ℕ) (r : Reader) (is : List Item) (x : Result (Option Record) Fault) (f : Fault) → Front bs r is
    → Next r.phase (rest r) (seen x) → Placed r.at x → x ≡ Err f → Reads bs (Err f)
front_fault bs r is x f h n p e =
    let at : f.place ≡ r.at = subst (λ (y : Result (Option Record) Fault). Placed r.at y) e p in
    (is, front_over bs r is (Some f.cause) h (subst (λ (y : Result (Option Record) Fault). Next r.phase (rest r) (seen y)) e n), at ∙ h.place)

-- what reading answers is the only thing that it can answer
pub reads_one : (bs : List ℕ) (a b : Result Tally Fault) → Reads bs a → Reads bs b → a ≡ b
reads_one bs (Ok t) (Ok u) r s = ap Ok (r.2 ∙ ap tally (reading_one bs r.0 s.0 None None r.1 s.1).0 ∙ sym s.2)
reads_one bs (Ok t) (Err f) r s =
    absurd (let e = (reading_one bs r.0 s.0 None (Some f.cause) r.1 s.1).1 in let z : ◌≡◌ {A = ℕ} 0 1 = cc in omega arith)
reads_one bs (Err f) (Ok t) r s =
    absurd (let e = (reading_one bs r.0 s.0 (Some f.cause) None r.1 s.1).1 in let z : ◌≡◌ {A = ℕ} 0 1 = cc in omega arith)
reads_one bs (Err f) (Err g) r s =
    let e = reading_one bs r.0 s.0 (Some f.cause) (Some g.cause) r.1 s.1 in
    let c : f.cause ≡ g.cause = let d = e.1 in cc in
    let p : f.place ≡ g.place = r.2 ∙ ap (λ (is : List Item). length (file is)) e.0 ∙ sym s.2 in
    ap₂ (λ (x : Cause) (y : ℕ). Err (record { cause = x; place = y })) c p
