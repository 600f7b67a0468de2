use Rattle.std.proofs.Common.{◌≡◌, refl, rules, ⊎_elim}
use borrow.Author.Tests.{tests}
use Rattle.std.proofs.lemmas.Bool.{le-ltb, lt-ltb}
use Rattle.std.proofs.lemmas.Iterator.{YieldsList-from_slice}
use Rattle.std.proofs.lemmas.Iterator.Search.{all_from_yields_List}
use Rattle.sheet.specs.Rules.{thread_fits, every, agrees}
use Rattle.sheet.proofs.rules.thread_fits.Goals as goal

pub returns-then-block-ge-BLOCKS : goal.returns-then-block-ge-BLOCKS
unfolding thread_fits
returns-then-block-ge-BLOCKS c = ⊎_elim (λ h. rw (le-ltb c.args.block 16 h) refl) (λ p. rw (lt-ltb c.args.block 16 p.0, le-ltb c.args.device 4 p.1) refl) c.then-block-ge-BLOCKS.either

pub returns : goal.returns
unfolding thread_fits
returns c =
    let e : c.all.result ≡ every (agrees c.args.block c.args.device) c.args.threads.now =
    all_from_yields_List (agrees c.args.block c.args.device) _ _ c.all.result c.all.ensures.ran (YieldsList-from_slice c.args.threads.now cc) (λ x b q k. search (rules, tests)) in
    rw (lt-ltb c.args.block 16 c.if-block-ge-BLOCKS.false, lt-ltb c.args.device 4 c.if-device-ge-DEVICES.false) e
