-- Which calls stand in their place, and what they are answered.
use Rattle.std.proofs.Common.{◌≡◌, ℕ, true, false, is_some, Some, None, Ok, Err, Option, Result, MatchResult, sym, refl, ap, subst}
use Rattle.std.specs.Result.{IsOkAnd}
use Rattle.sheet.specs.declared.calls.Edge.{Edge}
use Rattle.sheet.specs.declared.calls.Edge.TheVariants.{Order}
use Rattle.sheet.specs.declared.calls.Refusal.{Refusal}
use Rattle.sheet.specs.declared.calls.Call.{Call}
use Rattle.sheet.specs.declared.calls.Call.TheVariants.{Thread as AddThread, Event as AddEvent, Close, Lay, Try, End}
use Rattle.sheet.specs.declared.open.OpenSheet.{OpenSheet}
use Rattle.sheet.specs.declared.closed.ClosedSheet.{ClosedSheet}
use Rattle.sheet.specs.Book.{Book, absent, full, bad_field, cannot_carry, differ, there, refusal, after, accepted, ended, given}
use Rattle.sheet.specs.Sheets.{open_book, closed_book}
use Rattle.sheet.proofs.Trials.{refused_alike}
use Rattle.replay.specs.Runs.{Answer, place, reply, answer}
use Rattle.replay.specs.Phases.{adds}

-- ---- answers

-- a call's own result as an answer
pub mapped : {A : Type 0} (Q : A → Option ℕ → Type 0) (o : Option Refusal) (x : A) (v : Option ℕ) (r : Result A Refusal) (a : Answer) → ((y : Option ℕ) → Q x y → y ≡ v)
    → r ≡ given o x → MatchResult r (λ z. IsOkAnd a (Q z)) (λ e. a ≡ Err e) → a ≡ given o v
mapped Q None x v r a f e h = go a (subst (λ z. MatchResult z (λ z. IsOkAnd a (Q z)) (λ e. a ≡ Err e)) e h)
  where
    go : (a : Answer) → IsOkAnd a (Q x) → a ≡ Ok v
    go (Ok y) q = ap Ok (f y q)
    go (Err y) q = absurd q
mapped Q (Some s) x v r a f e h = subst (λ z. MatchResult z (λ z. IsOkAnd a (Q z)) (λ e. a ≡ Err e)) e h

-- a trial is answered as an order is
pub try_answer : (b : Book) (x y : ℕ) → given (refusal b (Lay Order x y)) None ≡ answer b (Try x y)
unfolding answer reply
try_answer b x y = ap (λ o. given o None) (sym (refused_alike b x y))

-- close and the end of a trial are never refused
pub close_answer : (b : Book) → Ok None ≡ answer b Close
unfolding answer reply refusal absent full bad_field cannot_carry differ there
close_answer b = refl

pub end_answer : (b : Book) → Ok None ≡ answer b End
unfolding answer reply refusal absent full bad_field cannot_carry differ there
end_answer b = refl

pub end_ends : (b : Book) → ended b ≡ after b End
unfolding after accepted refusal absent full bad_field cannot_carry differ there
end_ends b = refl

-- ---- places

-- before close
pub out_of_open : (s : OpenSheet) (k : Call) → adds k ≡ false → (k ≡ Close → ⊥) → place (open_book s) k ≡ false
unfolding place
out_of_open s (AddThread x y) n m = n
out_of_open s (AddEvent f) n m = n
out_of_open s Close n m = absurd (m refl)
out_of_open s (Lay e x y) n m = refl
out_of_open s (Try x y) n m = refl
out_of_open s End n m = refl

-- after close, outside a trial
pub out_of_closed : (s : ClosedSheet) (k : Call) → ((e : Edge) (x y : ℕ) → k ≡ Lay e x y → ⊥) → ((x y : ℕ) → k ≡ Try x y → ⊥) → place (closed_book s) k ≡ false
unfolding place
out_of_closed s (AddThread x y) n m = refl
out_of_closed s (AddEvent f) n m = refl
out_of_closed s Close n m = refl
out_of_closed s (Lay e x y) n m = absurd (n e x y refl)
out_of_closed s (Try x y) n m = absurd (m x y refl)
out_of_closed s End n m = refl

-- in a trial
module _ (b : Book) (e : ℕ × ℕ) (closed : b.closed ≡ true) (stands : Some e ≡ b.trial) where
  pub end_in_place : place b End ≡ true
  unfolding place
  end_in_place = ap is_some (sym stands)

  pub out_of_trial : (k : Call) → (k ≡ End → ⊥) → place b k ≡ false
  unfolding place
  out_of_trial (AddThread x y) n = rw closed refl
  out_of_trial (AddEvent f) n = rw closed refl
  out_of_trial Close n = rw closed refl
  out_of_trial (Lay k x y) n = rw (closed, sym stands) refl
  out_of_trial (Try x y) n = rw (closed, sym stands) refl
  out_of_trial End n = absurd (n refl)
