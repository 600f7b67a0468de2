-- The edges of a completion, one pair more.
use Rattle.std.proofs.Common.{◌≡◌, ℕ, ◌+◌, ◌<◌, Bool, true, false, ◌&&◌, ◌||◌, List, get_or, sym, refl, ap, ◌∙◌, ap₂, arith}
use mathlib.Core.Path.{fun_ext}
use Rattle.std.proofs.Math.Bool.{or-false}
use Rattle.relation.specs.Algebra.{Rel, pair, some_below, ◌∪◌}
use Rattle.relation.specs.Bits.{member}
use Rattle.relation.proofs.Below.{some_more, some_none}
use Rattle.relation.proofs.Sets.{single_event}
use Rattle.model.proofs.Rivalry.{eqb_flip}
use Rattle.completion.specs.Openings.{edge, edge_of, added_first}

-- between events, the edge of the algebra is the edge here
pub pair_edge : (a b : ℕ) → a < 64 → b < 64 → pair a b ≡ edge a b
unfolding pair
pair_edge a b l m =
    fun_ext (λ u. fun_ext (λ v. ap₂ ◌&&◌ (single_event a u l ∙ eqb_flip a u) (single_event b v m ∙ eqb_flip b v)))

or_swap : (r e s : Bool) → ((r || s) || e) ≡ (r || (e || s))
or_swap true e s = refl
or_swap false true true = refl
or_swap false true false = refl
or_swap false false true = refl
or_swap false false false = refl

pub added_none : (R : Rel) (ps : List (ℕ × ℕ)) (c : ℕ) → R ≡ R ∪ added_first 0 ps c
unfolding ◌∪◌ added_first
added_none R ps c = fun_ext (λ a. fun_ext (λ b. sym (ap (λ (t : Bool). R a b || t) (some_none 0 _ (λ k l. absurd (omega arith))) ∙ or-false (R a b))))

pub added_more : (R : Rel) (ps : List (ℕ × ℕ)) (c n : ℕ) (t : Bool) → member c n ≡ t → (R ∪ added_first n ps c) ∪ edge_of (get_or ps n (0, 0)) t ≡ R ∪ added_first (n + 1) ps c
unfolding ◌∪◌ added_first
added_more R ps c n t e =
    fun_ext (λ a. fun_ext (λ b.
    or_swap (R a b) (edge_of (get_or ps n (0, 0)) t a b) (some_below n (λ i. edge_of (get_or ps i (0, 0)) (member c i) a b))
    ∙ ap (λ (s : Bool). R a b || (edge_of (get_or ps n (0, 0)) s a b || some_below n (λ i. edge_of (get_or ps i (0, 0)) (member c i) a b))) (sym e)
    ∙ ap (λ (s : Bool). R a b || s) (sym (some_more n (λ i. edge_of (get_or ps i (0, 0)) (member c i) a b)))))
