-- A completion as a choice for each pair of a list.
use Rattle.std.proofs.Common.{◌≡◌, ℕ, zero, suc, ◌+◌, ◌*◌, ◌/◌, ◌%◌, ◌^◌, ◌<◌, Bool, true, false, cond, ◌||◌, eqb, List, [], ◌∷◌, length, get_or, sym, refl, ap, ◌∙◌, ⊎_elim, le_of_suc-le-suc, not-suc-le-zero, pow-suc, arith}
use mathlib.Core.Path.{fun_ext}
use native.Mathlib.Nat.{div-div-eq-div-mul}
use Rattle.std.proofs.lemmas.Bool.{cases_Bool, and_from, and_parts, or_left, or_right, eqb-true, eq-eqb, ne_eqb, cond-true, cond-false, both_ways}
use Rattle.relation.specs.Algebra.{Rel, some_below}
use Rattle.relation.specs.Bits.{member}
use Rattle.completion.specs.Openings.{edge, edge_of, added_first, added}
use Rattle.completion.specs.Trials.{in_list}

-- some pair of the list passes
abbrev pub any : List (ℕ × ℕ) → (ℕ × ℕ → Bool) → Bool
any [] f = false
any (p ∷ ps) f = f p || any ps f

-- the edges of a list's pairs, each directed as g says
abbrev pub chosen : List (ℕ × ℕ) → Rel → Rel
chosen ps g u v = any ps (λ p. edge_of p (g p.0 p.1) u v)

-- no pair stands there twice
abbrev pub Distinct : List (ℕ × ℕ) → Type 0
Distinct [] = Unit {0}
Distinct (p ∷ ps) = (in_list ps p.0 p.1 ≡ false) × Distinct ps

pub or_swap : (a b c : Bool) → (a || (b || c)) ≡ (b || (a || c))
or_swap true true c = refl
or_swap true false c = refl
or_swap false b c = refl

pub edge_self : (a b : ℕ) → edge a b a b ≡ true
edge_self a b = and_from _ _ (eq-eqb a a refl) (eq-eqb b b refl)

pub edge_is : (a b u v : ℕ) → edge a b u v ≡ true → (u ≡ a) × (v ≡ b)
edge_is a b u v e = let both = and_parts (eqb u a) (eqb v b) e in (eqb-true u a both.0, eqb-true v b both.1)

some_below_front : (n : ℕ) (f : ℕ → Bool) → some_below (suc n) f ≡ (f 0 || some_below n (λ i. f (suc i)))
unfolding some_below
some_below_front zero f = refl
some_below_front (suc n) f =
    ap (λ (s : Bool). f (suc n) || s) (some_below_front n f) ∙ or_swap (f (suc n)) (f 0) (some_below n (λ i. f (suc i)))

-- choices by place that are the choices by pair
at_any : (ps : List (ℕ × ℕ)) (F : ℕ × ℕ → Bool → Bool) (f : ℕ → Bool) (g : ℕ × ℕ → Bool)
    → ((i : ℕ) → i < length ps → f i ≡ g (get_or ps i (0, 0))) → some_below (length ps) (λ i. F (get_or ps i (0, 0)) (f i)) ≡ any ps (λ p. F p (g p))
unfolding some_below
at_any [] F f g h = refl
at_any (p ∷ ps) F f g h =
    some_below_front (length ps) (λ i. F (get_or (p ∷ ps) i (0, 0)) (f i))
    ∙ ap (λ (s : Bool). F p s || some_below (length ps) (λ i. F (get_or ps i (0, 0)) (f (suc i)))) (h 0 (omega arith))
    ∙ ap (λ (s : Bool). F p (g p) || s) (at_any ps F (λ i. f (suc i)) g (λ i l. h (suc i) (omega arith)))

pub added_chosen : (ps : List (ℕ × ℕ)) (c : ℕ) (g : Rel)
    → ((i : ℕ) → i < length ps → member c i ≡ g (get_or ps i (0, 0)).0 (get_or ps i (0, 0)).1) → added ps c ≡ chosen ps g
unfolding added_first
added_chosen ps c g h = fun_ext (λ u. fun_ext (λ v. at_any ps (λ p s. edge_of p s u v) (member c) (λ p. g p.0 p.1) h))

-- from places to pairs
abbrev pub look : List (ℕ × ℕ) → (ℕ → Bool) → Rel
look [] f u v = false
look (p ∷ ps) f u v = cond (edge u v p.0 p.1) (f 0) (look ps (λ i. f (suc i)) u v)

in_at : (ps : List (ℕ × ℕ)) (i : ℕ) → i < length ps → in_list ps (get_or ps i (0, 0)).0 (get_or ps i (0, 0)).1 ≡ true
in_at [] i h = absurd (not-suc-le-zero h)
in_at (p ∷ ps) zero h = or_left _ _ (edge_self p.0 p.1)
in_at (p ∷ ps) (suc i) h = or_right _ _ (in_at ps i (le_of_suc-le-suc h))

apart : (ps : List (ℕ × ℕ)) (p q : ℕ × ℕ) → in_list ps p.0 p.1 ≡ false → in_list ps q.0 q.1 ≡ true → edge q.0 q.1 p.0 p.1 ≡ false
apart ps p q out here = ⊎_elim
    (λ e. let same = edge_is q.0 q.1 p.0 p.1 e in
    absurd (both_ways (in_list ps p.0 p.1) out
    (ap (λ (k : ℕ). in_list ps k p.1) same.0 ∙ ap (λ (k : ℕ). in_list ps q.0 k) same.1 ∙ here)))
    (λ e. e)
    (cases_Bool (edge q.0 q.1 p.0 p.1))

pub look_at : (ps : List (ℕ × ℕ)) → Distinct ps → (f : ℕ → Bool) (i : ℕ) → i < length ps → f i ≡ look ps f (get_or ps i (0, 0)).0 (get_or ps i (0, 0)).1
look_at [] d f i h = absurd (not-suc-le-zero h)
look_at (p ∷ ps) d f zero h = sym (cond-true (edge p.0 p.1 p.0 p.1) (f 0) _ (edge_self p.0 p.1))
look_at (p ∷ ps) d f (suc i) h =
    look_at ps d.1 (λ j. f (suc j)) i (le_of_suc-le-suc h)
    ∙ sym (cond-false _ (f 0) _ (apart ps p (get_or ps i (0, 0)) d.0 (in_at ps i (le_of_suc-le-suc h))))

-- from choices to a number
abbrev pub number : ℕ → (ℕ → Bool) → ℕ
number zero f = 0
number (suc k) f = number k (λ i. f (suc i)) * 2 + cond (f 0) 1 0

digit_below : (t : Bool) → cond {A = ℕ} t 1 0 < 2
digit_below true = omega arith
digit_below false = omega arith

pub number_below : (k : ℕ) (f : ℕ → Bool) → number k f < 2 ^ k
number_below zero f = omega arith
number_below (suc k) f = omega (arith, number_below k (λ i. f (suc i)), digit_below (f 0), pow-suc 2 k)

digit : (n : ℕ) (t : Bool) → member (n * 2 + cond t 1 0) 0 ≡ t
unfolding member
digit n true = eq-eqb ((n * 2 + 1) / 2 ^ 0 % 2) 1 (omega arith)
digit n false = ne_eqb ((n * 2 + 0) / 2 ^ 0 % 2) 1 (λ e. omega arith)

next_digit : (n : ℕ) (t : Bool) (i : ℕ) → member (n * 2 + cond t 1 0) (suc i) ≡ member n i
unfolding member
next_digit n t i =
    let half : (n * 2 + cond t 1 0) / 2 ≡ n = omega (arith, digit_below t) in
    let twice : 2 ^ suc i ≡ 2 * 2 ^ i = omega (arith, pow-suc 2 i) in
    ap (λ (v : ℕ). eqb ((n * 2 + cond t 1 0) / v % 2) 1) twice
    ∙ ap (λ (v : ℕ). eqb (v % 2) 1) (sym (div-div-eq-div-mul (n * 2 + cond t 1 0) 2 (2 ^ i)))
    ∙ ap (λ (v : ℕ). eqb (v / 2 ^ i % 2) 1) half

pub number_bit : (k : ℕ) (f : ℕ → Bool) (i : ℕ) → i < k → member (number k f) i ≡ f i
number_bit zero f i h = absurd (not-suc-le-zero h)
number_bit (suc k) f zero h = digit (number k (λ j. f (suc j))) (f 0)
number_bit (suc k) f (suc i) h = next_digit (number k (λ j. f (suc j))) (f 0) i ∙ number_bit k (λ j. f (suc j)) i (le_of_suc-le-suc h)
