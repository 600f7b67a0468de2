-- How many events a sheet has.
use Rattle.std.proofs.Common.{◌≤◌, length, arith, length-take}
use Rattle.sheet.specs.declared.closed.ClosedSheet.{ClosedSheet}
use Rattle.sheet.specs.Sheets.{closed_book}

pub few_events : (s : ClosedSheet) → length (closed_book s).events ≤ 64
few_events s = omega (arith, length-take s.rows.event_count s.rows.events, s.rows.few)
