-- The laws of sequential consistency.
use Rattle.std.specs.Prelude.{[], ◌∷◌}
use Rattle.std.proofs.Common.{lit≤}
use Rattle.std.proofs.lemmas.List.{get_or_past}
use Rattle.relation.specs.Algebra.{none, ◌∪◌}
use Rattle.execution.specs.Facts.{Facts, Sound}
use Rattle.execution.specs.Words.{co, fr}
use Rattle.execution.proofs.Joining.{joins_either, joins_other, joins_co, joins_fr}
use Rattle.model.specs.Meaning.{Lawful}
use Rattle.model.proofs.Lists.{AllJoin, joins_at}
use Rattle.model.proofs.Rivalry.{rivals_flip, rivals_orderable}
use Rattle.sc.specs.Sc.{sequence, torn, sc_meaning}

joined : (x : Facts) → Sound x → AllJoin x.events (sequence x ∷ torn x ∷ [])
joined x s =
    let es = x.events in (
      joins_either es (x.po ∪ x.rf ∪ co x) (fr x) (joins_either es (x.po ∪ x.rf) (co x) (joins_either es x.po x.rf s.po s.rf) (joins_co x)) (joins_fr x),
      (joins_other es _ x.atomic s.atomic, tt),
    )

pub sc_lawful : Lawful sc_meaning
sc_lawful =
    record {
      few = lit≤ tt;
      past = λ x i. get_or_past (sequence x ∷ torn x ∷ []) i none;
      among = λ x s. joins_at x.events (sequence x ∷ torn x ∷ []) (joined x s);
      symmetric = rivals_flip;
      joinable = rivals_orderable;
    }
