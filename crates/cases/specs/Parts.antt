-- A row of parts, each behind its length. Assumes nothing.
use Rattle.std.specs.Prelude.{◌≡◌, ℕ, ◌%◌, ◌/◌, ◌<◌, List, ◌∷◌, ◌++◌, length, Some, None, Option}
use denote.Ref.{Bor}

-- a part behind its length in two bytes, low byte first
abbrev pub framed : List ℕ → List ℕ
framed part = length part % 256 ∷ (length part / 256 ∷ part)

-- bs begins with this part behind its length, and `more` is left
pub record Begins (bs part more : List ℕ) : Type 0 where
  pub fits : length part < 65536
  pub bytes : bs ≡ framed part ++ more

-- the first part of a row is handed out, and the others are left; where the first is cut or there is none, nothing is handed out any more
abbrev pub Handed : List ℕ → Option (Bor (List ℕ)) → List ℕ → Type 0
Handed bs None more = ((part rest : List ℕ) → Begins bs part rest → ⊥) × (more ≡ bs)
Handed bs (Some part) more = Begins bs part.now more
