-- Relations of axioms as a list.
use Rattle.std.proofs.Common.{ℕ, zero, suc, List, [], ◌∷◌, get_or}
use Rattle.relation.specs.Algebra.{Rel, none}
use Rattle.sheet.specs.declared.row.Event.{Event}
use Rattle.execution.specs.Joins.{Joins}
use Rattle.execution.proofs.Joining.{joins_none}

-- each relation of a list joins events of es
abbrev pub AllJoin : List Event → List Rel → Type 0
AllJoin es [] = Unit {0}
AllJoin es (r ∷ rs) = Joins es r × AllJoin es rs

pub joins_at : (es : List Event) (rs : List Rel) → AllJoin es rs → (i : ℕ) → Joins es (get_or rs i none)
joins_at es [] h i = joins_none es
joins_at es (r ∷ rs) h zero = h.0
joins_at es (r ∷ rs) h (suc i) = joins_at es rs h.1 i
