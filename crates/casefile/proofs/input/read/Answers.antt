use Rattle.std.proofs.Common.{[], ◌∷◌, ◌++◌, ◌<◌, Some, Ok, Option, sym, subst, rules}
use Rattle.std.proofs.lemmas.Result.{err_from_is_err_and}
use Rattle.records.specs.declared.mark.Record.{Record}
use Rattle.records.specs.Grammar.{item}
use Rattle.sheet.specs.Sheets.{closed_book}
use Rattle.casefile.specs.Files.{Reads, map_ok}
use Rattle.casefile.proofs.Reading.{Waiting, left, rows_first, advanced_fault, fewer_left}
use Rattle.casefile.proofs.Unique.{reads_one}
use Rattle.casefile.proofs.input.read.Goals as goal
use Rattle.casefile.proofs.input.read.Goals.{In-Some}

pub returns-in_err-next-clause-only : goal.returns-in_err-next-clause-only
returns-in_err-next-clause-only c =
    let bs = c.args.file.now in
    let g : Reads bs (map_ok closed_book c.from_residual.result) = search rules in
    λ s k. reads_one bs s _ k g

pub loop-next-init : goal.loop-next-init
loop-next-init c =
    let v = rows_first c.args.file.now _ _ c.in_ok-next.next _ _ c.in_ok-next.ensures c.new-reader.ensures.0 c.close-sheet.ensures in
    (v.0, v.2)

-- the record of this turn
here : (c : In-Some) → Waiting c.args.file.now c.loop-next.reader (Some c.in-Some.item) (closed_book c.loop-next.sheet)
here c =
    subst (λ (o : Option Record). Waiting c.args.file.now c.loop-next.reader o (closed_book c.loop-next.sheet)) c.in-Some.is
    c.loop-next.invariant

pub returns-in_err-next-2 : goal.returns-in_err-next-2
returns-in_err-next-2 c =
    let bs = c.args.file.now in
    let w = here (goal.at.returns-in_err-next-2 c).In-Some in
    let p = err_from_is_err_and c.from_residual-in_err-next-2.result c.from_residual-in_err-next-2.ensures.1 in
    let g = advanced_fault bs _ _ c.advance.result _ _ c.in_err-next-2.was (c.advance.ensures.more bs w.0 w.1) in
    rw (p.1, p.2) (record { reads = g; only = λ s k. reads_one bs s _ k g })

pub loop-next-smaller : goal.loop-next-smaller
loop-next-smaller c =
    let bs = c.args.file.now in
    let x = c.in-Some.item in
    let w = here (goal.at.loop-next-smaller c).In-Some in
    let less = fewer_left bs c.loop-next.reader x _ w.0 w.1 c.advance.new.reader c.in_ok-next-2.next _ (c.in_ok-next-2.ensures.more bs w.0 w.1) in
    subst (λ (o : Option Record). left c.in_ok-next-2.next c.advance.new.reader < left o c.loop-next.reader) (sym c.in-Some.is) less

pub loop-next-preserved : goal.loop-next-preserved
loop-next-preserved c =
    let w = here (goal.at.loop-next-preserved c).In-Some in
    (w.0 ++ item c.in-Some.item ∷ [], c.in_ok-next-2.ensures.more c.args.file.now w.0 w.1)

pub returns-clause-only : goal.returns-clause-only
returns-clause-only c =
    let bs = c.args.file.now in
    let g : Reads bs (Ok (closed_book c.loop-next.sheet)) = search rules in
    λ s k. reads_one bs s _ k g
