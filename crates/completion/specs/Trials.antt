-- Trials: an open pair ordered one way, and the other. Assumes nothing.
use Rattle.std.specs.Prelude.{◌≡◌, ℕ, suc, true, false, cond, ◌&&◌, ◌||◌, ◌⊎◌, List, [], ◌∷◌, length, nat_lt}
use Rattle.relation.specs.Algebra.{Rel, ◌∪◌}
use Rattle.execution.specs.Facts.{Facts, with_order}
use Rattle.model.specs.Meaning.{Meaning, orderable}
use Rattle.completion.specs.Openings.{edge, is_open, open_pairs}
use Rattle.completion.specs.Verdicts.{Possible}

-- the execution with an order edge from a to b
abbrev pub tried : Facts → ℕ → ℕ → Facts
tried x a b = with_order x (x.order ∪ edge a b)

-- the pair is in the list
abbrev pub in_list : List (ℕ × ℕ) → Rel
in_list [] a b = false
in_list (p ∷ ps) a b = edge a b p.0 p.1 || in_list ps a b

-- the list with the pair taken out
abbrev pub without : List (ℕ × ℕ) → ℕ → ℕ → List (ℕ × ℕ)
without [] a b = []
without (p ∷ ps) a b = cond (edge a b p.0 p.1) (without ps a b) (p ∷ without ps a b)

-- what trying an open pair both ways tells
pub record Split (m : Meaning) (x : Facts) (a b : ℕ) : Type 0 where
  -- an order edge can join them, either way, and neither is given
  pub forth : orderable x.events a b ≡ true
  pub back : orderable x.events b a ≡ true
  pub fresh : x.order a b ≡ false
  pub fresh_back : x.order b a ≡ false
  -- either trial leaves the other pairs open, and they are one fewer
  pub left_forth : open_pairs m (tried x a b) ≡ without (open_pairs m x) a b
  pub left_back : open_pairs m (tried x b a) ≡ without (open_pairs m x) a b
  pub fewer : length (open_pairs m x) ≡ suc (length (without (open_pairs m x) a b))
  -- some completion is consistent exactly if one is in one of the two trials
  pub parts : Possible m x → Possible m (tried x a b) ⊎ Possible m (tried x b a)
  pub whole : Possible m (tried x a b) ⊎ Possible m (tried x b a) → Possible m x

-- each open pair splits the execution
abbrev pub Splits : Meaning → Facts → Type 0
Splits m x = (a b : ℕ) → in_list (open_pairs m x) a b ≡ true → Split m x a b

-- the pairs listed are the open ones, the lower event first
abbrev pub ListsOpen : Meaning → Facts → Type 0
ListsOpen m x = (a b : ℕ) → in_list (open_pairs m x) a b ≡ (nat_lt a b && is_open m x a b)
