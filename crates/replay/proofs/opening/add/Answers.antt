use Rattle.std.proofs.Common.{refl, rules}
use Rattle.replay.specs.Runs.{place, answer, reply}
use Rattle.replay.proofs.Places.{mapped}
use Rattle.replay.proofs.opening.add.Goals as goal

pub returns-in-Thread : goal.returns-in-Thread
unfolding place answer reply
returns-in-Thread c =
    rw c.in-Thread.is (refl, mapped _ _ _ _ _ _ (λ y q. search rules) c.thread.ensures.answers c.map.ensures.cases, c.thread.ensures.book)

pub returns-in-Event : goal.returns-in-Event
unfolding place answer reply
returns-in-Event c =
    rw c.in-Event.is (refl, mapped _ _ _ _ _ _ (λ y q. search rules) c.event.ensures.answers c.map-in-Event.ensures.cases, c.event.ensures.book)
