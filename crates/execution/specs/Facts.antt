-- What a model looks at. Assumes nothing.
use Rattle.std.specs.Prelude.{List}
use Rattle.relation.specs.Algebra.{Rel}
use Rattle.relation.specs.Meaning.{holds}
use Rattle.sheet.specs.Book.{Book}
use Rattle.sheet.specs.Sheets.{closed_book}
use Rattle.sheet.specs.declared.row.Event.{Event}
use Rattle.sheet.specs.declared.row.Thread.{Thread}
use Rattle.sheet.specs.declared.calls.Edge.TheVariants.{ReadFrom, Order, Atomic, Depend}
use Rattle.execution.specs.declared.execution.Execution.{Execution}
use Rattle.execution.specs.declared.tie.Tie.TheVariants.{ProgramOrder}
use Rattle.execution.specs.Joins.{Joins}
use Rattle.execution.specs.Ties.{tied}

-- threads and events as lists, so that nothing past their ends can matter; program order and the four sets of edges
pub record Facts : Type 0 where
  pub threads : List Thread
  pub events : List Event
  pub po : Rel
  pub rf : Rel
  pub order : Rel
  pub atomic : Rel
  pub depend : Rel

-- the facts of a sheet: program order relates events of one thread in number order
abbrev pub facts_of : Book → Facts
facts_of b =
    record {
      threads = b.threads;
      events = b.events;
      po = tied b.threads b.events ProgramOrder;
      rf = b.edges ReadFrom;
      order = b.edges Order;
      atomic = b.edges Atomic;
      depend = b.edges Depend;
    }

-- the same under another program order
abbrev pub with_po : Facts → Rel → Facts
with_po x po = record { threads = x.threads; events = x.events; po = po; rf = x.rf; order = x.order; atomic = x.atomic; depend = x.depend }

-- the same under another order of writes and fences
abbrev pub with_order : Facts → Rel → Facts
with_order x order = record { threads = x.threads; events = x.events; po = x.po; rf = x.rf; order = order; atomic = x.atomic; depend = x.depend }

-- the facts of an execution: those of its sheet, with its own program order
abbrev pub facts : Execution → Facts
facts x = with_po (facts_of (closed_book x.sheet.now)) (holds x.po)

-- each relation joins events of the list
pub record Sound (x : Facts) : Type 0 where
  pub po : Joins x.events x.po
  pub rf : Joins x.events x.rf
  pub order : Joins x.events x.order
  pub atomic : Joins x.events x.atomic
  pub depend : Joins x.events x.depend
