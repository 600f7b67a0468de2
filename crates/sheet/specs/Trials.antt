-- The book that a sheet under trial holds. Assumes nothing.
use Rattle.std.specs.Prelude.{true, take}
use Rattle.sheet.specs.declared.trial.Trial.{Trial}
use Rattle.sheet.specs.Sets.{laid}
use Rattle.sheet.specs.Book.{Book}

-- the sheet as it stands, with the trial's edge
abbrev pub trial_book : Trial → Book
trial_book t =
    record {
      threads = take t.sheet.now.rows.thread_count t.sheet.now.rows.threads;
      events = take t.sheet.now.rows.event_count t.sheet.now.rows.events;
      edges = laid t.sheet.now.edges;
      closed = true;
      trial = t.edge;
    }
