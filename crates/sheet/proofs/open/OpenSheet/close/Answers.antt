use Rattle.std.proofs.Common.{refl}
use Rattle.sheet.specs.Book.{absent, full, bad_field, cannot_carry, differ, there, accepted}
use Rattle.sheet.specs.declared.calls.Call.TheVariants.{Close}
use Rattle.sheet.specs.Sheets.{open_book}
use Rattle.sheet.proofs.Laws.{accepts, no_row, blank_fits, blank_one_source, blank_one_way}
use Rattle.sheet.proofs.open.OpenSheet.close.Goals as goal

pub invariant_of-result : goal.invariant_of-result
invariant_of-result c = record { edges_fit = blank_fits _ _ c.none.ensures; one_source = blank_one_source _ c.none.ensures; one_way = blank_one_way _ c.none.ensures }

pub returns : goal.returns
unfolding absent full bad_field cannot_carry differ there accepted
returns c =
    let b = open_book c.args.self in
    let r = accepts b Close (tt {0}) (no_row b Close refl refl refl refl refl refl) in
    rw c.none.ensures r.1
