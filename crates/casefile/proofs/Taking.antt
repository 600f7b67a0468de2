-- The calls of records, taken one after another.
use Rattle.std.proofs.Common.{◌≡◌, ℕ, Bool, true, false, cond, List, [], ◌∷◌, ◌++◌, Some, None, Ok, Err, Option, Result, sym, refl, ap, ◌∙◌, subst, append_assoc, append-nil, arith}
use Rattle.records.specs.declared.mark.Mark.{Mark}
use Rattle.records.specs.declared.mark.Phase.{Phase}
use Rattle.records.specs.declared.mark.Phase.TheVariants.{Rows, Edges, Ended}
use Rattle.records.specs.Format.{is_row, is_end, leads}
use Rattle.records.specs.Grammar.{Item, Led}
use Rattle.sheet.specs.declared.calls.Call.{Call}
use Rattle.sheet.specs.declared.calls.Call.TheVariants.{Close}
use Rattle.sheet.specs.declared.calls.Refusal.{Refusal}
use Rattle.sheet.specs.Book.{Book, absent, full, bad_field, cannot_carry, differ, there, refusal, after}
use Rattle.casefile.specs.declared.fault.Cause.{Cause}
use Rattle.casefile.specs.declared.fault.Cause.TheVariants.{Sheet}
use Rattle.casefile.specs.Calls.{call_of, listed, closing, onward, calls, Taken}
use Rattle.casefile.specs.Steps.{answer_of, Asked}

-- ---- lists of calls

pub taken_more : (b c d : Book) (ks ls : List Call) → Taken b ks c → Taken c ls d → Taken b (ks ++ ls) d
taken_more b c d [] ls t u = subst (λ (x : Book). Taken x ls d) (sym t) u
taken_more b c d (k ∷ ks) ls t u = (t.0, taken_more (after b k) c d ks ls t.1 u)

pub taken_parts : (b d : Book) (ks ls : List Call) → Taken b (ks ++ ls) d → (c : Book) × Taken b ks c × Taken c ls d
taken_parts b d [] ls t = (b, refl, t)
taken_parts b d (k ∷ ks) ls t = let p = taken_parts (after b k) d ks ls t.1 in (p.0, (t.0, p.1), p.2)

-- calls lead to one book only
pub taken_one : (b c d : Book) (ks : List Call) → Taken b ks c → Taken b ks d → c ≡ d
taken_one b c d [] t u = sym t ∙ u
taken_one b c d (k ∷ ks) t u = taken_one (after b k) c d ks t.1 u.1

-- a sheet may be closed
pub may_close : (b : Book) → refusal b Close ≡ None
unfolding refusal absent full bad_field cannot_carry differ there
may_close b = refl

-- ---- answers of the sheet

module _ {T : Type 0} (x : T) where
  none_refused : (o : Option Refusal) (y : T) → answer_of o x ≡ Ok y → (o ≡ None) × (y ≡ x)
  none_refused None y e = (refl, cc)
  none_refused (Some r) y e = absurd (let z : ◌≡◌ {A = ℕ} 0 1 = cc in omega arith)

  one_refused : (o : Option Refusal) (k : Cause) → answer_of o x ≡ Err k → (r : Refusal) × (o ≡ Some r) × (k ≡ Sheet r)
  one_refused None k e = absurd (let z : ◌≡◌ {A = ℕ} 0 1 = cc in omega arith)
  one_refused (Some r) k e = (r, refl, cc)

  -- a call that was accepted
  pub asked_ok : (b : Book) (k : Option Call) (r : Result T Cause) (c : Book) (y : T) → Asked b k x r c → r ≡ Ok y → Taken b (listed k) c × (y ≡ x)
  asked_ok b None r c y a e = (sym a.book, (none_refused None y (sym a.answer ∙ e)).1)
  asked_ok b (Some k) r c y a e =
      let n = none_refused (refusal b k) y (sym a.answer ∙ e) in
      ((n.0, sym a.book), n.1)

  -- a call that was refused
  pub asked_err : (b : Book) (k : Option Call) (r : Result T Cause) (c : Book) (e : Cause) → Asked b k x r c → r ≡ Err e
      → (a : Call) × (y : Refusal) × (k ≡ Some a) × (refusal b a ≡ Some y) × (e ≡ Sheet y)
  asked_err b None r c e a g = let n = one_refused None e (sym a.answer ∙ g) in absurd (let m = n.1 in let z : ◌≡◌ {A = ℕ} 0 1 = cc in omega arith)
  asked_err b (Some k) r c e a g =
      let n = one_refused (refusal b k) e (sym a.answer ∙ g) in
      (k, n.0, refl, n.1, n.2)

-- ---- phases

module _ (p : Phase) (m : Mark) (q : Phase) where
  missing : (o : Option Phase) → o ≡ Some q → o ≡ None → ⊥
  missing o e n = let z : ◌≡◌ {A = ℕ} 0 1 = cc in omega arith

  among : (b : Bool) (s : Phase) → cond b None (Some s) ≡ Some q → (b ≡ false) × (s ≡ q)
  among true s e = absurd (missing None e refl)
  among false s e = (refl, cc)

-- the phase behind a record
pub onward_one : (p : Phase) (m : Mark) (q : Phase) → leads p m ≡ Some q → onward m ≡ q
onward_one Rows m q e = cc
onward_one Edges m q e =
    let h = among Edges m q (is_row m) (cond (is_end m) Ended Edges) e in
    ap (λ (b : Bool). cond b Rows (cond (is_end m) Ended Edges)) h.0 ∙ h.1
onward_one Ended m q e = absurd (missing Ended m q None e refl)

-- behind the rows no row stands, and nothing closes the sheet once more
pub late_row : (q : Phase) (m : Mark) (t : Phase) → (q ≡ Rows → ⊥) → leads q m ≡ Some t → is_row m ≡ false
late_row Rows m t n e = absurd (n refl)
late_row Edges m t n e = (among Edges m t (is_row m) (cond (is_end m) Ended Edges) e).0
late_row Ended m t n e = absurd (missing Ended m t None e refl)

pub closed_once : (q : Phase) (m : Mark) → (q ≡ Rows → ⊥) → closing q m ≡ []
closed_once Rows m n = absurd (n refl)
closed_once Edges m n = refl
closed_once Ended m n = refl

no_rows : (b : Bool) → cond b Ended Edges ≡ Rows → ⊥
no_rows true e = let z : ◌≡◌ {A = ℕ} 0 1 = cc in omega arith
no_rows false e = let z : ◌≡◌ {A = ℕ} 0 1 = cc in omega arith

-- a record that is no row leads away from the rows
pub past_rows : (p : Phase) (m : Mark) (q : Phase) → leads p m ≡ Some q → is_row m ≡ false → q ≡ Rows → ⊥
past_rows p m q e r h =
    no_rows (is_end m) (sym (ap (λ (b : Bool). cond b Rows (cond (is_end m) Ended Edges)) r) ∙ onward_one p m q e ∙ h)

-- a thread or an event stays among the rows
pub row_stays : (p : Phase) (m : Mark) (q : Phase) → leads p m ≡ Some q → is_row m ≡ true → q ≡ Rows
row_stays p m q e r =
    sym (onward_one p m q e) ∙ ap (λ (b : Bool). cond b Rows (cond (is_end m) Ended Edges)) r

-- and closes nothing
pub row_closes : (m : Mark) → is_row m ≡ true → closing Rows m ≡ []
row_closes m r = ap (λ (b : Bool). cond b [] (Close ∷ [])) r

-- the first other record closes the sheet
pub other_closes : (m : Mark) → is_row m ≡ false → closing Rows m ≡ Close ∷ []
other_closes m r = ap (λ (b : Bool). cond b [] (Close ∷ [])) r

-- ---- one record more

pub calls_more : (p q : Phase) (is : List Item) (i : Item) → Led p is q
    → calls p (is ++ i ∷ []) ≡ calls p is ++ (closing q i.mark ++ listed (call_of i.mark i.body))
calls_more p q [] i l =
    ap (λ (ks : List Call). closing p i.mark ++ ks) (append-nil (listed (call_of i.mark i.body)))
    ∙ ap (λ (s : Phase). closing s i.mark ++ listed (call_of i.mark i.body)) l
calls_more p q (j ∷ is) i l =
    let first = closing p j.mark in
    let own = listed (call_of j.mark j.body) in
    let more = closing q i.mark ++ listed (call_of i.mark i.body) in
    let s : onward j.mark ≡ l.1 = onward_one p j.mark l.1 l.2 in
    let h : calls (onward j.mark) (is ++ i ∷ []) ≡ calls (onward j.mark) is ++ more =
    calls_more (onward j.mark) q is i (subst (λ (t : Phase). Led t is q) (sym s) l.3) in
    ap (λ (ks : List Call). first ++ (own ++ ks)) h
    ∙ ap (λ (ks : List Call). first ++ ks) (sym (append_assoc own (calls (onward j.mark) is) more))
    ∙ sym (append_assoc first (own ++ calls (onward j.mark) is) more)

-- where a record closes nothing
pub taken_still : (b c : Book) (ks ls : List Call) → ls ≡ [] → Taken b ks c → Taken b (ks ++ ls) c
taken_still b c ks ls e t =
    subst (λ (l : List Call). Taken b l c) (sym (append-nil ks) ∙ ap (λ (l : List Call). ks ++ l) (sym e)) t

-- a record's own call, behind those of the records before it and the closing
pub taken_record : (p q : Phase) (is : List Item) (i : Item) (b c d : Book) → Led p is q → Taken b (calls p is ++ closing q i.mark) c
    → Taken c (listed (call_of i.mark i.body)) d → Taken b (calls p (is ++ i ∷ [])) d
taken_record p q is i b c d l t u =
    let own = listed (call_of i.mark i.body) in
    subst (λ (ks : List Call). Taken b ks d)
    (append_assoc (calls p is) (closing q i.mark) own ∙ sym (calls_more p q is i l))
    (taken_more b c d (calls p is ++ closing q i.mark) own t u)
