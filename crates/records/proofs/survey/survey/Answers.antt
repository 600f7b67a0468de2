use Rattle.std.proofs.Common.{◌<◌, [], ◌∷◌, ◌++◌, length, Some, None, Ok, ap, ◌∙◌, arith, rules}
use Rattle.std.proofs.lemmas.Result.{err_from_is_err_and}
use Rattle.records.specs.declared.survey.Tally.{Tally}
use Rattle.records.specs.Counts.{noted, Reads, thread, event, edge, question}
use Rattle.records.specs.Grammar.{Next, item}
use Rattle.records.specs.Readers.{rest, Moved}
use Rattle.records.proofs.Surveys.{front_more, front_over, front_fault, tally_more, count_few, file_long, reads_one}
use Rattle.records.proofs.survey.survey.Goals as goal

pub returns-in_err-record : goal.returns-in_err-record
returns-in_err-record c =
    let bs = c.args.file.now in
    let r = c.loop-record.reader in
    let v = c.loop-record.invariant in
    let p = err_from_is_err_and c.from_residual.result c.from_residual.ensures.1 in
    let g = front_fault bs r v.0 c.next.result _ v.1 c.next.ensures.answer c.next.ensures.place c.in_err-record.was in
    rw (p.1, p.2) (record { reads = g; only = λ s k. reads_one bs s _ k g })

pub note-requires : goal.note-requires
note-requires c =
    let v = c.loop-record.invariant in
    let is = v.0 in
    let few : length is < 9223372036854775808 = omega (arith, file_long _ _ is v.1.led, v.1.place, ap length v.1.same) in
    let t = v.2 in
    let n = ap (λ (x : Tally). x.records) t in
    let a = ap (λ (x : Tally). x.threads) t in
    let b = ap (λ (x : Tally). x.events) t in
    let d = ap (λ (x : Tally). x.edges) t in
    let e = ap (λ (x : Tally). x.questions) t in
    (omega arith, (omega (arith, count_few thread is), (omega (arith, count_few event is), (omega (arith, count_few edge is), omega (arith, count_few question is)))))

pub loop-record-preserved : goal.loop-record-preserved
loop-record-preserved c =
    let r = c.loop-record.reader in
    let v = c.loop-record.invariant in
    let x = c.in-Some.record in
    let n : Next r.phase (rest r) (Ok (Some (item x))) = search rules in
    let m : Moved r (Ok (Some x)) c.next.new.self = search rules in (
      v.0 ++ item x ∷ [],
      front_more c.args.file.now r c.next.new.self v.0 x v.1 n m c.next.ensures.same,
      c.note.ensures ∙ ap (λ (t : Tally). noted t x.mark) v.2 ∙ tally_more v.0 (item x),
    )

pub returns : goal.returns
returns c =
    let r = c.loop-record.reader in
    let v = c.loop-record.invariant in
    let n : Next r.phase (rest r) (Ok None) = search rules in
    let g : Reads c.args.file.now (Ok c.loop-record.tally) = (v.0, front_over c.args.file.now r v.0 None v.1 n, v.2) in
    record { reads = g; only = λ s k. reads_one c.args.file.now s (Ok c.loop-record.tally) k g }
