-- What a record that waits for a closed sheet is like. Assumes nothing.
use Rattle.std.specs.Prelude.{Bool, true, false, not, ◌&&◌, length, Some, None, Ok, Err, Option, Result, ◌==◌}
use Rattle.records.specs.declared.mark.Phase.{Phase}
use Rattle.records.specs.declared.mark.Phase.TheVariants.{Rows, Edges, Ended}
use Rattle.records.specs.declared.mark.Record.{Record}
use Rattle.records.specs.Format.{size, is_row}

abbrev pub among_rows : Phase → Bool
among_rows Rows = true
among_rows Edges = false
among_rows Ended = false

-- it has a body of its mark's size, it is neither a thread nor an event, and none of these comes behind it
abbrev pub ready : {E : Type 0} → Result (Option Record) E → Phase → Bool
ready (Ok None) p = true
ready (Ok (Some x)) p = length x.body.now == size x.mark && (not (is_row x.mark) && not (among_rows p))
ready (Err e) p = true
