-- The book that a sheet holds. Assumes nothing.
use Rattle.std.specs.Prelude.{true, false, take, None}
use Rattle.sheet.specs.declared.open.OpenSheet.{OpenSheet}
use Rattle.sheet.specs.declared.closed.ClosedSheet.{ClosedSheet}
use Rattle.sheet.specs.Sets.{no_edges, laid}
use Rattle.sheet.specs.Book.{Book}

-- an open sheet has no edges
abbrev pub open_book : OpenSheet → Book
open_book s =
    record {
      threads = take s.rows.thread_count s.rows.threads;
      events = take s.rows.event_count s.rows.events;
      edges = no_edges;
      closed = false;
      trial = None;
    }

abbrev pub closed_book : ClosedSheet → Book
closed_book s =
    record {
      threads = take s.rows.thread_count s.rows.threads;
      events = take s.rows.event_count s.rows.events;
      edges = laid s.edges;
      closed = true;
      trial = None;
    }
