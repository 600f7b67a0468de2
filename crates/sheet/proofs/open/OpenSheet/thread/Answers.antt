use Rattle.std.proofs.Common.{◌≡◌, true, false, not, length, take, Ok, sym, refl, ap, ◌∙◌, arith, length-set}
use native.Mathlib.Nat.{sub-zero}
use Rattle.std.proofs.lemmas.List.{length-take-le, take_more_set}
use Rattle.std.proofs.lemmas.Bool.{le-ltb, lt-ltb}
use Rattle.sheet.specs.declared.calls.Refusal.TheVariants.{Full, BadField}
use Rattle.sheet.specs.declared.calls.Call.TheVariants.{Thread as AddThread}
use Rattle.sheet.specs.Fitting.{thread_comes}
use Rattle.sheet.specs.Rules.{thread_fits, no_thread}
use Rattle.sheet.specs.Sheets.{open_book}
use Rattle.sheet.specs.Book.{absent, full, bad_field, cannot_carry, differ, there, accepted}
use Rattle.sheet.proofs.Laws.{row_2, row_3, no_row, refuses, accepts}
use Rattle.sheet.proofs.Fits.{fit_more, more_threads}
use Rattle.sheet.proofs.open.OpenSheet.thread.Goals as goal

pub returns-then-n-ge-THREADS : goal.returns-then-n-ge-THREADS
unfolding absent full
returns-then-n-ge-THREADS c =
    let b = open_book c.args.self.now in
    let k = AddThread c.args.block c.args.device in
    let l : length b.threads ≡ c.args.self.now.rows.thread_count = length-take-le _ _ (omega arith) in
    let r = refuses b k Full (length b.threads) (row_2 b k refl (ap not (le-ltb _ _ (omega arith)))) in
    record { answers = r.0; book = r.1 }

pub returns-then-not-thread_fits : goal.returns-then-not-thread_fits
unfolding absent full bad_field
returns-then-not-thread_fits c =
    let b = open_book c.args.self.now in
    let k = AddThread c.args.block c.args.device in
    let t = c.args.self.now.rows in
    let l : length b.threads ≡ t.thread_count = length-take-le _ _ (omega arith) in
    let g : thread_fits b.threads c.args.block c.args.device ≡ false =
    ap (λ n. thread_fits (take n t.threads) c.args.block c.args.device) (sym (sub-zero t.thread_count)) ∙ sym c.if-not-thread_fits.ensures in
    let r = refuses b k BadField (length b.threads) (row_3 b k refl (ap not (lt-ltb _ _ (omega arith))) (ap not g)) in
    record { answers = r.0; book = r.1 }

pub invariant_of-self-2 : goal.invariant_of-self-2
unfolding thread_comes
invariant_of-self-2 c =
    let t = c.args.self.now.rows in
    let n = t.thread_count in
    let g : thread_fits (take n t.threads) c.args.block c.args.device ≡ true =
    ap (λ m. thread_fits (take m t.threads) c.args.block c.args.device) (sym (sub-zero n)) ∙ sym c.if-not-thread_fits.ensures in
    record {
      few = (omega arith, omega arith);
      long = (length-set t.threads n _ ∙ omega arith, omega arith);
      threads_fit = fit_more thread_comes no_thread t.threads n _ (omega arith) g t.threads_fit;
      events_fit = more_threads n t.events t.event_count t.events_fit;
    }

pub returns : goal.returns
unfolding absent full bad_field cannot_carry differ there accepted
returns c =
    let b = open_book c.args.self.now in
    let k = AddThread c.args.block c.args.device in
    let t = c.args.self.now.rows in
    let l : length b.threads ≡ t.thread_count = length-take-le _ _ (omega arith) in
    let g : thread_fits b.threads c.args.block c.args.device ≡ true =
    ap (λ n. thread_fits (take n t.threads) c.args.block c.args.device) (sym (sub-zero t.thread_count)) ∙ sym c.if-not-thread_fits.ensures in
    let r = accepts b k (length b.threads) (no_row b k refl (ap not (lt-ltb _ _ (omega arith))) (ap not g) refl refl refl) in
    record { answers = ap Ok (sym l) ∙ r.0; book = rw (take_more_set t.threads t.thread_count (record { block = c.args.block; device = c.args.device }) (omega arith)) r.1 }
