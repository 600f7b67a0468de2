use Rattle.std.proofs.Common.{◌<◌, length, ap, arith}
use Rattle.sheet.specs.Rules.{no_event}
use Rattle.sheet.specs.Sheets.{closed_book}
use Rattle.execution.proofs.Tying.{tied_at, tied_first, tied_second}
use Rattle.execution.proofs.tie.TiedPairs.related.Goals as goal

pub returns-in_default : goal.returns-in_default
returns-in_default c =
    let n = ap length c.events-events.ensures in
    tied_second _ _ c.args.self.now.tie c.args.i c.args.j (omega (arith, n, c.in_default.ensures'.lookup.3))

pub returns-in_default-2 : goal.returns-in_default-2
returns-in_default-2 c =
    let n = ap length c.events-events.ensures in
    tied_first _ _ c.args.self.now.tie c.args.i c.args.j (omega (arith, n, c.in_default.ensures.lookup.3))

pub returns : goal.returns
returns c =
    let k = closed_book c.args.self.now.sheet.now in
    let n = ap length c.events-events.ensures in
    let l : c.args.i < length k.events = omega (arith, n, c.in-Some-Some.ensures.lookup.3.0) in
    let m : c.args.j < length k.events = omega (arith, n, c.in-Some-Some.ensures'.lookup.3.0) in
    let e = c.in-Some-Some.ensures.lookup.3.1 no_event in
    let f = c.in-Some-Some.ensures'.lookup.3.1 no_event in
    cc (tied_at k.threads k.events c.args.self.now.tie c.args.i c.args.j l m)
