-- What a list of calls comes to. Assumes nothing.
use Rattle.std.specs.Prelude.{ℕ, Bool, true, false, cond, not, ◌&&◌, List, [], ◌∷◌, ◌++◌, length, is_some, Some, None, Option, Result}
use Rattle.sheet.specs.declared.calls.Refusal.{Refusal}
use Rattle.sheet.specs.declared.calls.Call.{Call}
use Rattle.sheet.specs.declared.calls.Call.TheVariants.{Thread as AddThread, Event as AddEvent, Close, Lay, Try, End}
use Rattle.sheet.specs.Book.{Book, refusal, given, after}

-- whether a call stands in its place: threads, events and close before close, edges and tries after it, in a trial its end alone
unfoldable pub place : Book → Call → Bool
place b (AddThread x y) = not b.closed
place b (AddEvent f) = not b.closed
place b Close = not b.closed
place b (Lay e x y) = b.closed && not (is_some b.trial)
place b (Try x y) = b.closed && not (is_some b.trial)
place b End = is_some b.trial

-- what a call is answered: a number or none, or why it is refused
abbrev pub Answer : Type 0
Answer = Result (Option ℕ) Refusal

-- what an accepted call is answered: the number of the new thread or event, or none
unfoldable pub reply : Book → Call → Option ℕ
reply b (AddThread x y) = Some (length b.threads)
reply b (AddEvent f) = Some (length b.events)
reply b Close = None
reply b (Lay e x y) = None
reply b (Try x y) = None
reply b End = None

-- a refused call is answered by its refusal
unfoldable pub answer : Book → Call → Answer
answer b c = given (refusal b c) (reply b c)

-- what a list of calls comes to: its answers, the book as it stands then, and whether every call stood in its place
pub record Run : Type 0 where
  pub answers : List Answer
  pub book : Book
  pub whole : Bool

-- a run with answers given before it
abbrev pub told : List Answer → Run → Run
told xs r = record { answers = xs ++ r.answers; book = r.book; whole = r.whole }

-- call by call; it stops at the end of the list, and at the first call out of its place
unfoldable pub run : Book → List Call → Run
run b [] = record { answers = []; book = b; whole = true }
run b (c ∷ cs) = cond (place b c) (told (answer b c ∷ []) (run (after b c) cs)) (record { answers = []; book = b; whole = false })
