-- The book: what a sheet holds, and what each call does to it and answers. Assumes nothing.
use Rattle.std.specs.Prelude.{ℕ, Bool, true, false, cond, not, ◌&&◌, List, [], ◌∷◌, ◌++◌, length, Some, None, Ok, Err, Option, Result, nat_lt}
use Rattle.sheet.specs.declared.row.Thread.{Thread}
use Rattle.sheet.specs.declared.row.Event.{Event}
use Rattle.sheet.specs.declared.calls.Edge.TheVariants.{Order}
use Rattle.sheet.specs.declared.calls.Refusal.{Refusal}
use Rattle.sheet.specs.declared.calls.Refusal.TheVariants.{Absent, Full, BadField, CannotCarry, ValuesDiffer, Given}
use Rattle.sheet.specs.declared.calls.Call.{Call}
use Rattle.sheet.specs.declared.calls.Call.TheVariants.{Thread as AddThread, Event as AddEvent, Close, Lay, Try, End}
use Rattle.sheet.specs.Rules.{thread_fits, fields_fit, event_of, carries, values_differ}
use Rattle.sheet.specs.Sets.{EdgeSets, no_edges, with_edge, without_edge, given_in}

-- what a sheet holds: rows in order, edges as sets, whether it is closed, and the edge of a standing trial
pub record Book : Type 0 where
  pub threads : List Thread
  pub events : List Event
  pub edges : EdgeSets
  pub closed : Bool
  pub trial : Option (ℕ × ℕ)

-- the book of a new sheet
abbrev pub blank : Book
blank = record { threads = []; events = []; edges = no_edges; closed = false; trial = None }

-- whether there is an event i
abbrev pub known : List Event → ℕ → Bool
known es i = nat_lt i (length es)

abbrev pub both_known : List Event → ℕ → ℕ → Bool
both_known es i j = known es i && known es j

-- ---- the rows of the table of refusals, each as a test of a call

-- 1: a named thread or event does not exist
unfoldable pub absent : Book → Call → Bool
absent b (AddThread x y) = false
absent b (AddEvent f) = not (nat_lt f.thread (length b.threads))
absent b Close = false
absent b (Lay e x y) = not (both_known b.events x y)
absent b (Try x y) = not (both_known b.events x y)
absent b End = false

-- 2: the sheet has 16 threads, or 64 events
unfoldable pub full : Book → Call → Bool
full b (AddThread x y) = not (nat_lt (length b.threads) 16)
full b (AddEvent f) = not (nat_lt (length b.events) 64)
full b Close = false
full b (Lay e x y) = false
full b (Try x y) = false
full b End = false

-- 3: a field breaks a rule
unfoldable pub bad_field : Book → Call → Bool
bad_field b (AddThread x y) = not (thread_fits b.threads x y)
bad_field b (AddEvent f) = not (fields_fit f)
bad_field b Close = false
bad_field b (Lay e x y) = false
bad_field b (Try x y) = false
bad_field b End = false

-- 4: the two events cannot carry the edge, values apart
unfoldable pub cannot_carry : Book → Call → Bool
cannot_carry b (AddThread x y) = false
cannot_carry b (AddEvent f) = false
cannot_carry b Close = false
cannot_carry b (Lay e x y) = not (carries b.events e x y)
cannot_carry b (Try x y) = not (carries b.events Order x y)
cannot_carry b End = false

-- 5: source and read differ in value
unfoldable pub differ : Book → Call → Bool
differ b (AddThread x y) = false
differ b (AddEvent f) = false
differ b Close = false
differ b (Lay e x y) = values_differ b.events e x y
differ b (Try x y) = values_differ b.events Order x y
differ b End = false

-- 6: the edge is there, the order is given the other way, or the read has a source
unfoldable pub there : Book → Call → Bool
there b (AddThread x y) = false
there b (AddEvent f) = false
there b Close = false
there b (Lay e x y) = given_in b.edges e x y
there b (Try x y) = given_in b.edges Order x y
there b End = false

-- the first row that holds
abbrev pub first : List (Bool × Refusal) → Option Refusal
first [] = None
first (x ∷ xs) = cond x.0 (Some x.1) (first xs)

-- a call is refused by the first row that holds of it, and accepted if none does
unfoldable pub refusal : Book → Call → Option Refusal
refusal b c =
    first ((absent b c, Absent) ∷ (full b c, Full) ∷ (bad_field b c, BadField) ∷ (cannot_carry b c, CannotCarry)
    ∷ (differ b c, ValuesDiffer) ∷ (there b c, Given) ∷ [])

-- ---- what a call leaves and answers

abbrev pub out : EdgeSets → Option (ℕ × ℕ) → EdgeSets
out s None = s
out s (Some e) = without_edge s Order e.0 e.1

-- the edge of a standing trial is taken out
unfoldable pub ended : Book → Book
ended b = record { threads = b.threads; events = b.events; edges = out b.edges b.trial; closed = b.closed; trial = None }

-- what an accepted call leaves
unfoldable pub accepted : Book → Call → Book
accepted b (AddThread x y) = record { threads = b.threads ++ record { block = x; device = y } ∷ []; events = b.events; edges = b.edges; closed = b.closed; trial = b.trial }
accepted b (AddEvent f) = record { threads = b.threads; events = b.events ++ event_of f ∷ []; edges = b.edges; closed = b.closed; trial = b.trial }
accepted b Close = record { threads = b.threads; events = b.events; edges = b.edges; closed = true; trial = b.trial }
accepted b (Lay e x y) = record { threads = b.threads; events = b.events; edges = with_edge b.edges e x y; closed = b.closed; trial = b.trial }
accepted b (Try x y) = record { threads = b.threads; events = b.events; edges = with_edge b.edges Order x y; closed = b.closed; trial = Some (x, y) }
accepted b End = ended b

abbrev pub unless : {A : Type 0} → Option Refusal → A → A → A
unless None x y = x
unless (Some r) x y = y

-- the book after a call; a refused call alters nothing
unfoldable pub after : Book → Call → Book
after b c = unless (refusal b c) (accepted b c) b

-- a call's own result: what it gives if it is not refused
abbrev pub given : {A : Type 0} → Option Refusal → A → Result A Refusal
given None x = Ok x
given (Some r) x = Err r
