-- Parts of a run. Assumes nothing.
use Rattle.std.specs.Prelude.{◌≡◌, ℕ, ◌≤◌, Bool, true, false, List, [], ◌∷◌, length}
use Rattle.std.specs.Borrow.{Bor}
use Rattle.std.specs.declared.ops.ControlFlow.{ControlFlow}
use Rattle.std.specs.declared.ops.ControlFlow.TheVariants.{Continue, Break}
use Rattle.sheet.specs.declared.calls.Call.{Call}
use Rattle.sheet.specs.declared.calls.Call.TheVariants.{Thread as AddThread, Event as AddEvent, Close, Lay, Try, End}
use Rattle.sheet.specs.declared.closed.ClosedSheet.{ClosedSheet}
use Rattle.sheet.specs.Book.{Book, ended}
use Rattle.sheet.specs.Sheets.{closed_book}
use Rattle.replay.specs.declared.outcome.Stop.{Stop}
use Rattle.replay.specs.Outcomes.{with_standing}
use Rattle.replay.specs.Runs.{Answer, run, told}

-- at the calls cs with book b and answers xs, the run comes to the same as at the calls ds with book b' and answers ys
abbrev pub Goes : List Call → Book → List Answer → List Call → Book → List Answer → Type 0
Goes cs b xs ds b' ys = told xs (run b cs) ≡ told ys (run b' ds)

-- at the calls cs with book b and answers xs, the run ends with book b' and answers ys
abbrev pub Halts : List Call → Book → List Answer → Book → List Answer → Bool → Type 0
Halts cs b xs b' ys w = told xs (run b cs) ≡ record { answers = ys; book = b'; whole = w }

-- the run ends so, with this trial standing, and b' is its book with that trial ended
abbrev pub Stopped : List Call → Book → List Answer → Book → List Answer → Stop → Type 0
Stopped cs b xs b' ys s = Halts cs b xs (with_standing b' s.standing) ys s.whole × (b' ≡ ended (with_standing b' s.standing))

-- the run goes on with at most m calls left, or ends
abbrev pub Turned : ℕ → List Call → Book → List Answer → Book → List Answer → ControlFlow Stop (Bor (List Call)) → Type 0
Turned m cs b xs b' ys (Continue r) = (length r.now ≤ m) × Goes cs b xs r.now b' ys
Turned m cs b xs b' ys (Break s) = Stopped cs b xs b' ys s

-- two closed sheets hold the same book
unfoldable pub SameBook : ClosedSheet → ClosedSheet → Type 0
SameBook s t = closed_book s ≡ closed_book t

-- the calls that add a thread or an event
abbrev pub adds : Call → Bool
adds (AddThread x y) = true
adds (AddEvent f) = true
adds Close = false
adds (Lay e x y) = false
adds (Try x y) = false
adds End = false

-- whether a thread or an event comes first
abbrev pub adds_first : List Call → Bool
adds_first [] = false
adds_first (c ∷ cs) = adds c
