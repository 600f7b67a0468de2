use Rattle.std.proofs.Common.{not, sym, refl, ap}
use Rattle.sheet.specs.declared.calls.Refusal.TheVariants.{Absent, CannotCarry, ValuesDiffer, Given}
use Rattle.sheet.specs.declared.calls.Call.TheVariants.{Lay}
use Rattle.sheet.specs.Sheets.{closed_book}
use Rattle.sheet.specs.Book.{absent, full, bad_field, cannot_carry, differ, there}
use Rattle.sheet.proofs.Laws.{row_1, row_4, row_5, row_6, no_row, refuses, accepts}
use Rattle.sheet.proofs.closed.ClosedSheet.check.Goals as goal

pub returns-then-not-both_known : goal.returns-then-not-both_known
unfolding absent
returns-then-not-both_known c =
    let b = closed_book c.args.self.now in
    let k = Lay c.args.edge c.args.first c.args.second in
    (refuses b k Absent tt (row_1 b k (ap not (sym c.if-not-both_known.ensures)))).0

pub returns-then-not-can_carry : goal.returns-then-not-can_carry
unfolding absent full bad_field cannot_carry
returns-then-not-can_carry c =
    let b = closed_book c.args.self.now in
    let k = Lay c.args.edge c.args.first c.args.second in
    (refuses b k CannotCarry tt (row_4 b k (ap not (sym c.if-not-both_known.ensures)) refl refl (ap not (sym c.if-not-can_carry.ensures)))).0

pub returns-then-differs : goal.returns-then-differs
unfolding absent full bad_field cannot_carry differ
returns-then-differs c =
    let b = closed_book c.args.self.now in
    let k = Lay c.args.edge c.args.first c.args.second in
    (refuses b k ValuesDiffer tt (row_5 b k (ap not (sym c.if-not-both_known.ensures)) refl refl (ap not (sym c.if-not-can_carry.ensures)) (sym c.if-differs.ensures))).0

pub returns-then-gives : goal.returns-then-gives
unfolding absent full bad_field cannot_carry differ there
returns-then-gives c =
    let b = closed_book c.args.self.now in
    let k = Lay c.args.edge c.args.first c.args.second in
    (refuses b k Given tt (row_6 b k (ap not (sym c.if-not-both_known.ensures)) refl refl (ap not (sym c.if-not-can_carry.ensures)) (sym c.if-differs.ensures) (sym c.if-gives.ensures))).0

pub returns : goal.returns
unfolding absent full bad_field cannot_carry differ there
returns c =
    let b = closed_book c.args.self.now in
    let k = Lay c.args.edge c.args.first c.args.second in
    (accepts b k tt (no_row b k (ap not (sym c.if-not-both_known.ensures)) refl refl (ap not (sym c.if-not-can_carry.ensures)) (sym c.if-differs.ensures) (sym c.if-gives.ensures))).0
