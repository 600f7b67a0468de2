-- The closure of a relation, by a table of yes and no.
use Rattle.std.proofs.Common.{◌≡◌, ℕ, ◌+◌, ◌*◌, ◌/◌, ◌%◌, ◌<◌, Bool, true, false, ◌&&◌, ◌||◌, ltb, List, sym, ◌∙◌, ap₂, arith}
use Rattle.std.proofs.lemmas.Bool.{and_from, and_parts, lt-ltb, ltb-true}
use Rattle.closure.specs.Steps.{table, Closed}
use Rattle.closure.specs.Ways.{Chain, one, more, Yes}
use Rattle.closure.proofs.Reached.{walks_chain, chain_walks}
use Rattle.relation.specs.Algebra.{Rel, cut, plus}
use Rattle.relation.specs.Meaning.{holds, Laid}
use Rattle.relation.specs.declared.Relation.{Relation}
use Rattle.relation.proofs.Relations.{holds_first, holds_second}
use Rattle.relation.proofs.Laws.{same_pairs}

-- a chain of the one relation is one of the other
chain_map : (P Q : ℕ → ℕ → Type 0) → ((a b : ℕ) → a < 64 → b < 64 → P a b → Q a b) → {i j : ℕ} → i < 64 → j < 64 → Chain P 64 i j → Chain Q 64 i j
chain_map P Q f l m (one {i = i} {j = j} p) = one (f i j l m p)
chain_map P Q f l m (more {i = i} {m = k} h p c) = more h (f i k l h p) (chain_map P Q f h m c)

-- where a chain starts, and where it ends
chain_first : (r : Relation) → {i j : ℕ} → Chain (λ a b. holds r a b ≡ true) 64 i j → i < 64
chain_first r (one {i = i} {j = j} h) = holds_first r i j h
chain_first r (more {i = i} {m = k} l h c) = holds_first r i k h

chain_last : (r : Relation) → {i j : ℕ} → Chain (λ a b. holds r a b ≡ true) 64 i j → j < 64
chain_last r (one {i = i} {j = j} h) = holds_second r i j h
chain_last r (more l h c) = chain_last r c

-- a pair of the closure is a chain, and a chain is a pair of the closure
pub plus_chain : (r : Rel) (i j : ℕ) → plus r i j ≡ true → Chain (λ a b. r a b ≡ true) 64 i j
unfolding plus
plus_chain r i j h = (walks_chain 64 r 64 i j h).0

pub chain_plus : (r : Relation) (i j : ℕ) → Chain (λ a b. holds r a b ≡ true) 64 i j → plus (holds r) i j ≡ true
unfolding plus
chain_plus r i j c = chain_walks 64 (holds r) i j (chain_first r c) (omega arith) c

-- the closed table of a relation is its closure
module _ (r : Relation) (before after : List Bool) (s : Laid (holds r) before 4096) (f : Closed false ◌||◌ ◌&&◌ 64 before after) where
  laid_at : (a b : ℕ) → a < 64 → b < 64 → table false 64 before a b ≡ holds r a b
  laid_at a b k l =
      let p : (a * 64 + b) / 64 ≡ a = omega arith in
      let q : (a * 64 + b) % 64 ≡ b = omega arith in
      s (a * 64 + b) (omega arith) ∙ ap₂ (holds r) p q

  closed_chain : (i j : ℕ) → cut 64 (table false 64 after) i j ≡ true → plus (holds r) i j ≡ true
  unfolding cut
  closed_chain i j h =
      let a = and_parts (ltb i 64) (ltb j 64 && table false 64 after i j) h in
      let b = and_parts (ltb j 64) (table false 64 after i j) a.1 in
      let k : i < 64 = ltb-true i 64 a.0 in
      let l : j < 64 = ltb-true j 64 b.0 in
      chain_plus r i j
      (chain_map (Yes 64 before) (λ x y. holds r x y ≡ true) (λ x y m n e. sym (laid_at x y m n) ∙ e) k l
      (walks_chain 64 (table false 64 before) 64 i j (sym (f.entries i j k l) ∙ b.1)).0)

  chain_closed : (i j : ℕ) → plus (holds r) i j ≡ true → cut 64 (table false 64 after) i j ≡ true
  unfolding cut
  chain_closed i j h =
      let c = plus_chain (holds r) i j h in
      let k : i < 64 = chain_first r c in
      let l : j < 64 = chain_last r c in
      and_from (ltb i 64) (ltb j 64 && table false 64 after i j) (lt-ltb i 64 k)
      (and_from (ltb j 64) (table false 64 after i j) (lt-ltb j 64 l)
      (f.entries i j k l ∙ chain_walks 64 (table false 64 before) i j k (omega arith)
      (chain_map (λ x y. holds r x y ≡ true) (Yes 64 before) (λ x y m n e. laid_at x y m n ∙ e) k l c)))

  pub closed_plus : cut 64 (table false 64 after) ≡ plus (holds r)
  closed_plus = same_pairs (cut 64 (table false 64 after)) (plus (holds r)) closed_chain chain_closed
