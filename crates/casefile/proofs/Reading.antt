-- What the turns of the reader and the answers of the sheet say of the file.
use Rattle.std.proofs.Common.{◌≡◌, ℕ, true, false, List, [], ◌∷◌, ◌++◌, ◌+◌, ◌-◌, ◌<◌, length, Some, None, Ok, Err, Option, Result, sym, refl, ap, ◌∙◌, subst, append_assoc, arith, length-append}
use Rattle.std.specs.Result.{is_err}
use Rattle.std.proofs.lemmas.List.{flat_map_more}
use Rattle.records.specs.declared.fault.Fault.{Fault as RecordFault}
use Rattle.records.specs.declared.mark.Phase.{Phase}
use Rattle.records.specs.declared.mark.Phase.TheVariants.{Rows}
use Rattle.records.specs.declared.mark.Record.{Record}
use Rattle.records.specs.declared.reader.Reader.{Reader}
use Rattle.records.specs.Format.{is_row}
use Rattle.records.specs.Grammar.{Item, encode, file, Next, item, seen}
use Rattle.records.specs.Readers.{rest, Placed, Moved}
use Rattle.records.proofs.Marks.{encode_length}
use Rattle.records.proofs.Surveys.{Front, front_more, front_over}
use Rattle.sheet.specs.declared.calls.Call.{Call}
use Rattle.sheet.specs.declared.calls.Call.TheVariants.{Close}
use Rattle.sheet.specs.Book.{Book, blank, after}
use Rattle.casefile.specs.declared.fault.Cause.TheVariants.{Framing}
use Rattle.casefile.specs.declared.fault.Fault.{Fault}
use Rattle.casefile.specs.Calls.{call_of, listed, calls, closing, Taken}
use Rattle.casefile.specs.Cases.{Before, Advanced, Behind, Begun}
use Rattle.casefile.specs.Files.{Faulty, Reads}
use Rattle.casefile.specs.Steps.{Handed, Stopped}
use Rattle.casefile.proofs.Taking.{taken_more, taken_still, taken_record, row_stays, row_closes, other_closes, late_row, closed_once, past_rows, may_close}

-- ---- one turn of the reader

module _ (bs : List ℕ) (r s : Reader) (is : List Item) (o : Result (Option Record) RecordFault) (f : Front bs r is)
    (n : Next r.phase (rest r) (seen o)) (p : Placed r.at o) where
  pub handed : (x : Record) → Moved r o s → s.file.now ≡ r.file.now → o ≡ Ok (Some x) → Handed bs is r.phase x s
  handed x m e g =
      let n' = subst (λ (u : Result (Option Record) RecordFault). Next r.phase (rest r) (seen u)) g n in
      let m' = subst (λ (u : Result (Option Record) RecordFault). Moved r u s) g m in
      let p' = subst (λ (u : Result (Option Record) RecordFault). Placed r.at u) g p in
      let f' = front_more bs r s is x f n' m' e in
      record {
        same = f'.same;
        bytes = f'.bytes ∙ ap (λ (l : List ℕ). l ++ rest s) (sym (flat_map_more encode [] is (item x))) ∙ append_assoc (file is) (encode (item x)) (rest s);
        place = p' ∙ f.place;
        before = f.led;
        whole = n'.0;
        onto = m'.1;
        at = f'.place;
        led = f'.led;
      }

  -- the records are broken
  pub broken : (c : Book) (g : RecordFault) → Taken blank (calls Rows is) c → o ≡ Err g → Faulty bs (Framing g.cause) g.place
  broken c g t e =
      let n' = subst (λ (u : Result (Option Record) RecordFault). Next r.phase (rest r) (seen u)) e n in
      let p' = subst (λ (u : Result (Option Record) RecordFault). Placed r.at u) e p in
      (is, c, front_over bs r is (Some g.cause) f n', t, p' ∙ f.place)

-- ---- a record that was handed out

module _ (bs : List ℕ) (is : List Item) (p : Phase) (x : Record) (r : Reader) (h : Handed bs is p x r) where
  pub passed : Front bs r (is ++ item x ∷ [])
  passed =
      record {
        same = h.same;
        bytes = h.bytes ∙ sym (append_assoc (file is) (encode (item x)) (rest r)) ∙ ap (λ (l : List ℕ). l ++ rest r) (flat_map_more encode [] is (item x));
        place = h.at;
        led = h.led;
      }

-- ---- rows

module _ (bs : List ℕ) (is : List Item) (x : Record) (r : Reader) (h : Handed bs is Rows x r) (b : Book) (t : Taken blank (calls Rows is) b)
    (row : is_row x.mark ≡ true) where
  row_still : Taken blank (calls Rows is ++ closing Rows x.mark) b
  row_still = taken_still blank b (calls Rows is) (closing Rows x.mark) (row_closes x.mark row) t

  pub row_taken : (c : Book) → Taken b (listed (call_of x.mark x.body.now)) c → (r.phase ≡ Rows) × Taken blank (calls Rows (is ++ item x ∷ [])) c
  row_taken c own = (row_stays Rows x.mark r.phase h.onto row, taken_record Rows Rows is (item x) blank b c h.before row_still own)

-- ---- the others

-- the next record waits for the sheet of book c, which is closed, or the file is over
abbrev pub Waiting : List ℕ → Reader → Option Record → Book → Type 0
Waiting bs r o c = (is : List Item) × Before bs is r o c

-- how many records may follow, the one that waits too
abbrev pub left : Option Record → Reader → ℕ
left None r = 0
left (Some x) r = length r.file.now - r.at + 1

-- the rows are taken, and the sheet was closed
pub rows_first : (bs cs : List ℕ) (r : Reader) (o : Option Record) (b d : Book) → Stopped cs r (Ok o) b → cs ≡ bs → d ≡ after b Close
    → Begun bs r (Ok o) d
rows_first bs cs r None b d s g e = absurd s
rows_first bs cs r (Some x) b d s g e =
    let v = subst (λ (l : List ℕ). Stopped l r (Ok (Some x)) b) g s in
    let close : Taken b (closing Rows x.mark) d = subst (λ (ks : List Call). Taken b ks d) (sym (other_closes x.mark v.2)) (may_close b, sym e) in
    (v.0, v.1.before, (Rows, v.1, v.2, taken_more blank b d (calls Rows v.0) (closing Rows x.mark) v.3 close))

-- or a fault broke them, and the sheet is empty; n is what the case keeps of it
pub begun : (bs cs : List ℕ) (r : Reader) (o n : Result (Option Record) Fault) (b c d : Book) → Stopped cs r o b → cs ≡ bs
    → (is_err o ≡ false → c ≡ b) → (is_err o ≡ true → c ≡ blank) → d ≡ after c Close → o ≡ n → Begun bs r n d
begun bs cs r o n b c d s g kept none e q = subst (λ (u : Result (Option Record) Fault). Begun bs r u d) q (go o s kept none)
  where
    go : (u : Result (Option Record) Fault) → Stopped cs r u b → (is_err u ≡ false → c ≡ b) → (is_err u ≡ true → c ≡ blank) → Begun bs r u d
    go (Ok m) s kept none = rows_first bs cs r m b d s g (e ∙ ap (λ (a : Book). after a Close) (kept refl))
    go (Err f) s kept none =
        (subst (λ (l : List ℕ). Stopped l r (Err f) b) g s, e ∙ ap (λ (a : Book). after a Close) (none refl))

-- without a fault the case stands behind one record more
pub advanced_behind : (bs : List ℕ) (front : List Item) (r : Reader) (o : Result (Option Record) Fault) (c : Book) (n : Option Record)
    → o ≡ Ok n → Advanced bs front r o c → Behind bs front r o c
advanced_behind bs front r (Ok m) c n e a = a
advanced_behind bs front r (Err f) c n e a = absurd (let z : ◌≡◌ {A = ℕ} 0 1 = cc in omega arith)

pub advanced_fault : (bs : List ℕ) (front : List Item) (r : Reader) (o : Result (Option Record) Fault) (c : Book) (f : Fault)
    → o ≡ Err f → Advanced bs front r o c → Reads bs (Err f)
advanced_fault bs front r o c f e a = subst (λ (u : Result (Option Record) Fault). Advanced bs front r u c) e a

module _ (bs : List ℕ) (r : Reader) (x : Record) (b : Book) (is : List Item) (w : Before bs is r (Some x) b) where
  -- its call is accepted
  module _ (c : Book) (own : Taken b (listed (call_of x.mark x.body.now)) c) where
    pub waiting_taken : Taken blank (calls Rows (is ++ item x ∷ [])) c
    waiting_taken = taken_record Rows w.0 is (item x) blank b c w.1.before w.3 own

    module _ (s : Reader) (o : Result (Option Record) RecordFault) (n : Next r.phase (rest r) (seen o)) (p : Placed r.at o) where
      pub waiting_broken : (k : RecordFault) → o ≡ Err k → Faulty bs (Framing k.cause) k.place
      waiting_broken k e = broken bs r s (is ++ item x ∷ []) o (passed bs is w.0 x r w.1) n p c k waiting_taken e

      -- the next record waits behind it
      pub before_more : (y : Option Record) → Moved r o s → s.file.now ≡ r.file.now → o ≡ Ok y → Before bs (is ++ item x ∷ []) s y c
      before_more None m e h =
          let n' = subst (λ (u : Result (Option Record) RecordFault). Next r.phase (rest r) (seen u)) h n in
          (front_over bs r (is ++ item x ∷ []) None (passed bs is w.0 x r w.1) n', waiting_taken)
      before_more (Some y) m e h =
          let js = is ++ item x ∷ [] in
          let more = handed bs r s js o (passed bs is w.0 x r w.1) n p y m e h in
          let past = past_rows w.0 x.mark r.phase w.1.onto w.2 in (
            r.phase,
            more,
            late_row r.phase y.mark s.phase past more.onto,
            taken_still blank c (calls Rows js) (closing r.phase y.mark) (closed_once r.phase y.mark past) waiting_taken,
          )

  -- fewer records may follow behind it
  pub fewer_left : (s : Reader) (y : Option Record) (c : Book) → Before bs (is ++ item x ∷ []) s y c → left y s < left (Some x) r
  fewer_left s None c v = omega arith
  fewer_left s (Some y) c v =
      let js = is ++ item x ∷ [] in
      let more : length (file js ++ encode (item y)) ≡ length (file (js ++ item y ∷ [])) = ap length (flat_map_more encode [] js (item y)) in
      omega (arith, more, length-append (file js) (encode (item y)), encode_length (item y) v.1.whole, w.1.at, v.1.at, ap length w.1.same, ap length v.1.same, s.within)
