-- What a trial makes of the book, and its end.
use Rattle.std.proofs.Common.{◌≡◌, ℕ, true, false, Some, None, Ok, Err, Option, Result, sym, refl, ap, ◌∙◌}
use Rattle.std.specs.Bool.{then_some}
use Rattle.std.specs.Result.{is_ok}
use Rattle.std.proofs.lemmas.Bool.{or_parts}
use Rattle.sheet.specs.declared.calls.Edge.TheVariants.{Order}
use Rattle.sheet.specs.declared.calls.Refusal.{Refusal}
use Rattle.sheet.specs.declared.calls.Call.TheVariants.{Lay, Try}
use Rattle.sheet.specs.declared.closed.ClosedSheet.{ClosedSheet}
use Rattle.sheet.specs.declared.trial.Trial.{Trial}
use Rattle.sheet.specs.Book.{Book, refusal, absent, full, bad_field, cannot_carry, differ, there, after, accepted, ended, unless, given}
use Rattle.sheet.specs.Sets.{EdgeSets, laid, given_in}
use Rattle.sheet.specs.Sheets.{closed_book}
use Rattle.sheet.specs.Trials.{trial_book}
use Rattle.sheet.proofs.Laws.{passed, accepts, refuses, given_none, given_some}
use Rattle.sheet.proofs.OneEdge.{undone}

-- the book with this trial standing
abbrev pub standing : Book → Option (ℕ × ℕ) → Book
standing b o = record { threads = b.threads; events = b.events; edges = b.edges; closed = b.closed; trial = o }

-- a trial is refused as an order is
pub refused_alike : (b : Book) (i j : ℕ) → refusal b (Try i j) ≡ refusal b (Lay Order i j)
unfolding refusal absent full bad_field cannot_carry differ there
refused_alike b i j = refl

module _ (s t : ClosedSheet) (i j : ℕ) (o : Option (ℕ × ℕ)) (r : Result (Unit {0}) Refusal)
    (answers : r ≡ given (refusal (closed_book s) (Lay Order i j)) tt) (book : closed_book t ≡ after (closed_book s) (Lay Order i j)) where
  pub tried : (u : Unit {0}) → r ≡ Ok u → o ≡ Some (i, j) → standing (closed_book t) o ≡ after (closed_book s) (Try i j)
  unfolding accepted
  tried u e f =
      let b = closed_book s in
      let n : refusal b (Lay Order i j) ≡ None = given_none (refusal b (Lay Order i j)) tt (sym e ∙ answers) in
      ap (λ (c : Book). standing c o) (book ∙ sym (accepts b (Lay Order i j) (tt {0}) n).1)
      ∙ ap (standing (accepted b (Lay Order i j))) f ∙ (accepts b (Try i j) (tt {0}) (refused_alike b i j ∙ n)).1

  pub untried : (e : Refusal) → r ≡ Err e → o ≡ None → standing (closed_book t) o ≡ after (closed_book s) (Try i j)
  untried e q f =
      let b = closed_book s in
      let n : refusal b (Lay Order i j) ≡ Some e = given_some (refusal b (Lay Order i j)) (tt {0}) e (sym q ∙ answers) in
      ap (λ (c : Book). standing c o) (book ∙ sym (refuses b (Lay Order i j) e (tt {0}) n).1)
      ∙ ap (standing b) f ∙ (refuses b (Try i j) e (tt {0}) (refused_alike b i j ∙ n)).1

  -- the trial stands where the order is accepted
  pub stands : o ≡ then_some (is_ok r) (i, j) → standing (closed_book t) o ≡ after (closed_book s) (Try i j)
  stands e = go r refl
    where
      go : (q : Result (Unit {0}) Refusal) → r ≡ q → standing (closed_book t) o ≡ after (closed_book s) (Try i j)
      go (Ok u) p = tried u p (e ∙ ap (λ (z : Result (Unit {0}) Refusal). then_some (is_ok z) (i, j)) p)
      go (Err y) p = untried y p (e ∙ ap (λ (z : Result (Unit {0}) Refusal). then_some (is_ok z) (i, j)) p)

-- ---- the end of a trial

-- an order that is accepted was not there
fresh : (s : ClosedSheet) (i j : ℕ) → refusal (closed_book s) (Try i j) ≡ None → laid s.edges Order i j ≡ false
unfolding there given_in
fresh s i j h = (or_parts (laid s.edges Order i j) (laid s.edges Order j i) (passed (closed_book s) (Try i j) h).5).0

gone : (s : ClosedSheet) (i j : ℕ) → refusal (closed_book s) (Try i j) ≡ None → ended (accepted (closed_book s) (Try i j)) ≡ closed_book s
unfolding ended accepted
gone s i j h =
    ap {B = Book} (λ (e : EdgeSets). record { threads = (closed_book s).threads; events = (closed_book s).events; edges = e; closed = true; trial = None })
    (undone (laid s.edges) Order i j (fresh s i j h))

idle : (s : ClosedSheet) → ended (closed_book s) ≡ closed_book s
unfolding ended
idle s = refl

pick : (s : ClosedSheet) (i j : ℕ) (o : Option Refusal) → refusal (closed_book s) (Try i j) ≡ o
    → ended (unless o (accepted (closed_book s) (Try i j)) (closed_book s)) ≡ closed_book s
pick s i j None h = gone s i j h
pick s i j (Some r) h = idle s

-- it leaves the book as it was
pub ended_trial : (s : ClosedSheet) (i j : ℕ) → ended (after (closed_book s) (Try i j)) ≡ closed_book s
unfolding after
ended_trial s i j = pick s i j (refusal (closed_book s) (Try i j)) refl

-- the sheet x that comes back from a trial t over the sheet s
pub restored : (x d : ClosedSheet) (t : Trial) (s : ClosedSheet) (i j : ℕ) → x ≡ d → closed_book d ≡ ended (trial_book t)
    → trial_book t ≡ after (closed_book s) (Try i j) → closed_book x ≡ closed_book s
restored x d t s i j e f g = ap closed_book e ∙ f ∙ ap ended g ∙ ended_trial s i j
