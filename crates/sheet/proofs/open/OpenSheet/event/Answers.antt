use Rattle.std.proofs.Common.{◌≡◌, not, ltb, length, Ok, Err, sym, refl, ap, ◌∙◌, arith, length-set}
use Rattle.std.proofs.lemmas.List.{length-take-le, take_more_set}
use Rattle.std.proofs.lemmas.Bool.{le-ltb, lt-ltb, and_from}
use Rattle.std.proofs.lemmas.Result.{err_from_is_err_and}
use Rattle.sheet.specs.declared.calls.Refusal.TheVariants.{Absent, Full, BadField}
use Rattle.sheet.specs.declared.calls.Call.TheVariants.{Event as AddEvent}
use Rattle.sheet.specs.Fitting.{event_comes}
use Rattle.sheet.specs.Rules.{no_event}
use Rattle.sheet.specs.Sheets.{open_book}
use Rattle.sheet.specs.Book.{absent, full, bad_field, cannot_carry, differ, there, accepted}
use Rattle.sheet.proofs.Laws.{row_1, row_2, row_3, no_row, refuses, accepts}
use Rattle.sheet.proofs.Fits.{fit_more}
use Rattle.sheet.proofs.Reading.{read_none, read_some, decoded_none, decoded_unlawful, decoded_lawful, decoded_numbers}
use Rattle.sheet.proofs.open.OpenSheet.event.Goals as goal

pub returns-then-fields-self : goal.returns-then-fields-self
unfolding absent
returns-then-fields-self c =
    let b = open_book c.args.self.now in
    let k = AddEvent c.args.fields in
    let l : length b.threads ≡ c.args.self.now.rows.thread_count = length-take-le _ _ (omega arith) in
    let r = refuses b k Absent (length b.events) (row_1 b k (ap not (le-ltb _ _ (omega arith)))) in
    record { answers = r.0; book = r.1 }

pub returns-then-n-ge-EVENTS : goal.returns-then-n-ge-EVENTS
unfolding absent full
returns-then-n-ge-EVENTS c =
    let b = open_book c.args.self.now in
    let k = AddEvent c.args.fields in
    let l : length b.threads ≡ c.args.self.now.rows.thread_count = length-take-le _ _ (omega arith) in
    let m : length b.events ≡ c.args.self.now.rows.event_count = length-take-le _ _ (omega arith) in
    let r = refuses b k Full (length b.events) (row_2 b k (ap not (lt-ltb _ _ (omega arith))) (ap not (le-ltb _ _ (omega arith)))) in
    record { answers = r.0; book = r.1 }

pub returns-in_err-event : goal.returns-in_err-event
unfolding absent full bad_field
returns-in_err-event c =
    let b = open_book c.args.self.now in
    let k = AddEvent c.args.fields in
    let l : length b.threads ≡ c.args.self.now.rows.thread_count = length-take-le _ _ (omega arith) in
    let m : length b.events ≡ c.args.self.now.rows.event_count = length-take-le _ _ (omega arith) in
    let p = err_from_is_err_and c.from_residual.result c.from_residual.ensures.1 in
    let q = read_none _ _ c.in_err-event.ensures in
    let g = decoded_none c.args.fields q.0 in
    let r = refuses b k BadField (length b.events) (row_3 b k (ap not (lt-ltb _ _ (omega arith))) (ap not (lt-ltb _ _ (omega arith))) (ap not g)) in
    record { answers = p.1 ∙ ap Err (p.2 ∙ q.1) ∙ r.0; book = r.1 }

pub returns-then-not-is_lawful : goal.returns-then-not-is_lawful
unfolding absent full bad_field
returns-then-not-is_lawful c =
    let b = open_book c.args.self.now in
    let k = AddEvent c.args.fields in
    let l : length b.threads ≡ c.args.self.now.rows.thread_count = length-take-le _ _ (omega arith) in
    let m : length b.events ≡ c.args.self.now.rows.event_count = length-take-le _ _ (omega arith) in
    let g = decoded_unlawful c.args.fields c.in_ok-event.event (read_some _ _ c.in_ok-event.ensures) (sym c.if-not-is_lawful.ensures) in
    let r = refuses b k BadField (length b.events) (row_3 b k (ap not (lt-ltb _ _ (omega arith))) (ap not (lt-ltb _ _ (omega arith))) (ap not g)) in
    record { answers = r.0; book = r.1 }

pub invariant_of-self-2 : goal.invariant_of-self-2
unfolding event_comes
invariant_of-self-2 c =
    let t = c.args.self.now.rows in
    let n = t.event_count in
    let d = read_some _ _ c.in_ok-event.ensures in
    let q = decoded_numbers c.args.fields c.in_ok-event.event d in
    let own = ap (λ i. ltb i t.thread_count) q.0 ∙ lt-ltb c.args.fields.thread t.thread_count (omega arith) in
    let a = ap (λ i. ltb i 65536) q.1 ∙ lt-ltb c.args.fields.address 65536 (omega arith) in
    let v = ap (λ i. ltb i 4294967296) q.2 ∙ lt-ltb c.args.fields.value 4294967296 (omega arith) in
    record {
      few = (omega arith, omega arith);
      long = (omega arith, length-set t.events n _ ∙ omega arith);
      threads_fit = t.threads_fit;
      events_fit = fit_more (λ es e. event_comes t.thread_count e) no_event t.events n c.in_ok-event.event (omega arith) (and_from _ _ own (and_from _ _ (sym c.if-not-is_lawful.ensures) (and_from _ _ a v))) t.events_fit;
    }

pub returns : goal.returns
unfolding absent full bad_field cannot_carry differ there accepted
returns c =
    let b = open_book c.args.self.now in
    let k = AddEvent c.args.fields in
    let t = c.args.self.now.rows in
    let l : length b.threads ≡ t.thread_count = length-take-le _ _ (omega arith) in
    let m : length b.events ≡ t.event_count = length-take-le _ _ (omega arith) in
    let g = decoded_lawful c.args.fields c.in_ok-event.event (read_some _ _ c.in_ok-event.ensures) (sym c.if-not-is_lawful.ensures) in
    let r = accepts b k (length b.events) (no_row b k (ap not (lt-ltb _ _ (omega arith))) (ap not (lt-ltb _ _ (omega arith))) (ap not g.0) refl refl refl) in
    record { answers = ap Ok (sym m) ∙ r.0; book = rw (take_more_set t.events t.event_count c.in_ok-event.event (omega arith), g.1) r.1 }
