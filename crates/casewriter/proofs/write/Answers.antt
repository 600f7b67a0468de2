use Rattle.std.proofs.Common.{rules, ℕ, List, map, drop, take, Ok, sym, ap, ◌∙◌, subst, arith}
use Rattle.std.proofs.lemmas.List.{take_at}
use Rattle.records.specs.Grammar.{file}
use Rattle.sheet.specs.declared.row.Thread.{Thread}
use Rattle.sheet.specs.declared.row.Event.{Event}
use Rattle.sheet.specs.Sheets.{closed_book}
use Rattle.casewriter.specs.Items.{thread_item, event_item, file_of}
use Rattle.casewriter.proofs.Adding.{added_as, added_file, filled}
use Rattle.casewriter.proofs.Return.{reads_back, files_tell}
use Rattle.casefile.specs.Files.{Reads}
use Rattle.casewriter.proofs.write.Goals as goal

pub returns : goal.returns
returns c =
    let b = closed_book c.args.sheet.now in
    let t = ap (λ (ts : List Thread). file (map thread_item ts)) c.threads.ensures in
    let e = ap (λ (es : List Event). file (map event_item es)) c.events.ensures in
    let all = added_file b (added_as t c.put_rows.ensures) (added_as e c.put_rows-2.ensures) c.put_sort.ensures c.put_sort-2.ensures c.put_sort-3.ensures c.put_sort-4.ensures c.put.ensures in
    let w = filled {new = _} all c.new-file.ensures.none c.new-file.ensures.bytes (omega (arith, c.file_length.ensures)) c.written.ensures (search (rules, all.same_reference, c.new-file.ensures.same_reference)) in
    record {
      written = w;
      back = subst (λ (l : List ℕ). Reads l (Ok b)) (sym (ap (take c.written.result) w.2 ∙ take_at (file_of b) (drop c.written.result c.args.out.now) c.written.result (sym w.0))) (reads_back c.args.sheet.now);
      tell = files_tell;
    }

pub returns-then-out-file_length-clause-tell : goal.returns-then-out-file_length-clause-tell
returns-then-out-file_length-clause-tell c = files_tell
