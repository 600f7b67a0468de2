-- What the code hands back, as a run of the book. Assumes nothing.
use Rattle.std.specs.Prelude.{Some, None, vec_items, Option}
use Rattle.sheet.specs.Book.{Book}
use Rattle.sheet.specs.Sets.{laid}
use Rattle.sheet.specs.Sheets.{open_book, closed_book}
use Rattle.replay.specs.declared.outcome.Outcome.{Outcome}
use Rattle.replay.specs.declared.outcome.Standing.{Standing}
use Rattle.replay.specs.declared.outcome.Stage.{Stage}
use Rattle.replay.specs.declared.outcome.Stage.TheVariants.{Unclosed, Closed}
use Rattle.replay.specs.Runs.{Run}

-- the book of the sheet that is handed back
abbrev pub stage_book : Stage → Book
stage_book (Unclosed s) = open_book s
stage_book (Closed s) = closed_book s

-- a book with the edges and the edge of a trial that stood in place, if one stood
abbrev pub with_standing : Book → Option Standing → Book
with_standing b None = b
with_standing b (Some s) =
    record { threads = b.threads; events = b.events; edges = laid s.edges; closed = b.closed; trial = Some (s.first, s.second) }

-- the book as it stood where the calls stopped
abbrev pub stood : Outcome → Book
stood o = with_standing (stage_book o.stage) o.stop.standing

-- an outcome as a run
abbrev pub outcome_run : Outcome → Run
outcome_run o = record { answers = vec_items o.answers; book = stood o; whole = o.stop.whole }
