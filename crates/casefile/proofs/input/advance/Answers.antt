use Rattle.std.proofs.Common.{◌≡◌, Ok, rules}
use Rattle.std.proofs.lemmas.Result.{err_from_is_err_and}
use Rattle.casefile.proofs.Reading.{waiting_broken, before_more}
use Rattle.casefile.proofs.Taking.{asked_ok}
use Rattle.casefile.proofs.input.advance.Goals as goal

pub returns-in_err-next-clause-more : goal.returns-in_err-next-clause-more
returns-in_err-next-clause-more c =
    let ok : c.lay.result ≡ Ok tt = search rules in
    let own = (asked_ok tt _ _ c.lay.result _ tt c.lay.ensures ok).0 in
    let p = err_from_is_err_and c.from_residual-in_err-next.result c.from_residual-in_err-next.ensures.1 in
    rw (p.1, p.2)
    (λ bs front w. waiting_broken bs c.args.reader.now c.args.item _ front w _ own c.next.new.self c.next.result c.next.ensures.answer
    c.next.ensures.place _ c.in_err-next.was)

pub returns-clause-more : goal.returns-clause-more
returns-clause-more c =
    let ok : c.lay.result ≡ Ok tt = search rules in
    let own = (asked_ok tt _ _ c.lay.result _ tt c.lay.ensures ok).0 in
    λ bs front w. before_more bs c.args.reader.now c.args.item _ front w _ own c.next.new.self c.next.result c.next.ensures.answer
    c.next.ensures.place c.in_ok-next.field-0 c.next.ensures.after c.next.ensures.same c.in_ok-next.was
