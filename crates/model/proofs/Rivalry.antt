-- Different writes to one address, and other ties that go both ways.
use Rattle.std.proofs.Common.{◌≡◌, ℕ, zero, suc, Bool, true, false, not, ◌&&◌, eqb, ltb, List, length, sym, refl, ap, ◌∙◌}
use mathlib.Core.Bool.{and_comm}
use Rattle.std.proofs.Math.Bool.{and-false}
use Rattle.std.proofs.lemmas.Bool.{and_parts, and_from, or_left, ltb-true}
use Rattle.relation.specs.Algebra.{cut, upto, ◌∖◌, ◌◁◌, ◌▷◌}
use Rattle.sheet.specs.Book.{known, both_known}
use Rattle.sheet.specs.Rules.{at, is_write, is_sc_fence, same_address, can_order, carries}
use Rattle.sheet.specs.declared.row.Event.{Event}
use Rattle.sheet.specs.declared.row.Thread.{Thread}
use Rattle.sheet.specs.declared.calls.Edge.TheVariants.{Order}
use Rattle.execution.specs.declared.class.Class.{Class}
use Rattle.execution.specs.declared.class.Class.TheVariants.{Write}
use Rattle.execution.specs.declared.tie.Tie.{Tie}
use Rattle.execution.specs.declared.tie.Tie.TheVariants.{Location, Strong, Itself}
use Rattle.execution.specs.Classes.{in_class, those}
use Rattle.execution.specs.Ties.{ties, tied, is_access, covers}
use Rattle.execution.specs.Words.{rivals}
use Rattle.execution.proofs.Tying.{tied_at}
use Rattle.model.specs.Meaning.{orderable}

pub eqb_flip : (a b : ℕ) → eqb a b ≡ eqb b a
eqb_flip zero zero = refl
eqb_flip zero (suc b) = lib.Dec.eqb-zero-suc b ∙ sym (lib.Dec.eqb-suc-zero b)
eqb_flip (suc a) zero = lib.Dec.eqb-suc-zero a ∙ sym (lib.Dec.eqb-zero-suc a)
eqb_flip (suc a) (suc b) = lib.Dec.eqb-suc-suc a b ∙ eqb_flip a b ∙ sym (lib.Dec.eqb-suc-suc b a)

and_swap : (a b c d : Bool) → c ≡ d → (a && (b && c)) ≡ (b && (a && d))
and_swap true b c d e = ap (λ t. b && t) e
and_swap false true c d e = refl
and_swap false false c d e = refl

-- a tie that goes both ways
abbrev pub BothWays : Tie → Type 0
BothWays t = (ts : List Thread) (a b : ℕ) (e f : Event) → ties t ts a e b f ≡ ties t ts b f a e

pub tied_flip : (t : Tie) → BothWays t → (ts : List Thread) (es : List Event) (a b : ℕ) → tied ts es t a b ≡ tied ts es t b a
unfolding tied cut
tied_flip t s ts es a b = and_swap (ltb a (length es)) (ltb b (length es)) _ _ (s ts a b (at es a) (at es b))

pub loc_flip : BothWays Location
loc_flip ts a b e f = and_swap (is_access e) (is_access f) _ _ (eqb_flip e.address f.address)

pub itself_flip : BothWays Itself
itself_flip ts a b e f = eqb_flip a b

pub strong_flip : BothWays Strong
strong_flip ts a b e f = and_comm (covers ts e f) (covers ts f e)

-- ---- rivals

turn : (a b c d t u : Bool) → c ≡ d → t ≡ u → (((a && c) && b) && not t) ≡ (((b && d) && a) && not u)
turn true true c d t u e f = rw (e, f) refl
turn true false c d t u e f = ap (λ x. x && not t) (and-false c)
turn false b c d t u e f = sym (ap (λ x. x && not u) (and-false (b && d)))

pub rivals_flip : (ts : List Thread) (es : List Event) (a b : ℕ) → rivals ts es a b ≡ rivals ts es b a
unfolding rivals ◌∖◌ ◌◁◌ ◌▷◌
rivals_flip ts es a b =
    turn (those es Write a) (those es Write b) (tied ts es Location a b) (tied ts es Location b a) (tied ts es Itself a b) (tied ts es Itself b a)
    (tied_flip Location loc_flip ts es a b) (tied_flip Itself itself_flip ts es a b)

-- an event of a class is one of the list, and of the class
pub of_those : (es : List Event) (c : Class) (a : ℕ) → those es c a ≡ true → (known es a ≡ true) × (in_class c (at es a) ≡ true)
unfolding those upto
of_those es c a h = and_parts (ltb a (length es)) (in_class c (at es a)) h

-- two events with a tie
pub of_tied : (ts : List Thread) (es : List Event) (t : Tie) (a b : ℕ) → tied ts es t a b ≡ true → ties t ts a (at es a) b (at es b) ≡ true
unfolding tied cut
of_tied ts es t a b h =
    (and_parts (ltb b (length es)) _ (and_parts (ltb a (length es)) _ h).1).1

apart : (t u : Bool) → t ≡ u → not u ≡ true → not t ≡ true
apart t u e h = ap not e ∙ h

pub rivals_orderable : (ts : List Thread) (es : List Event) (a b : ℕ) → rivals ts es a b ≡ true → orderable es a b ≡ true
unfolding rivals ◌∖◌ ◌◁◌ ◌▷◌ carries can_order
rivals_orderable ts es a b h =
    let p = and_parts ((those es Write a && tied ts es Location a b) && those es Write b) (not (tied ts es Itself a b)) h in
    let q = and_parts (those es Write a && tied ts es Location a b) (those es Write b) p.0 in
    let r = and_parts (those es Write a) (tied ts es Location a b) q.0 in
    let v = of_those es Write a r.0 in
    let w = of_those es Write b q.1 in
    let l = of_tied ts es Location a b r.1 in
    let x = and_parts (is_access (at es a)) (is_access (at es b) && same_address (at es a) (at es b)) l in
    let y = and_parts (is_access (at es b)) (same_address (at es a) (at es b)) x.1 in
    let d = apart (eqb a b) (tied ts es Itself a b) (tied_at ts es Itself a b (ltb-true a (length es) v.0) (ltb-true b (length es) w.0)) p.1 in
    and_from (both_known es a b) (carries es Order a b) (and_from (known es a) (known es b) v.0 w.0)
    (and_from (not (eqb a b)) (can_order (at es a) (at es b)) d
    (or_left (is_write (at es a) && (is_write (at es b) && same_address (at es a) (at es b))) (is_sc_fence (at es a) && is_sc_fence (at es b))
    (and_from (is_write (at es a)) (is_write (at es b) && same_address (at es a) (at es b)) v.1 (and_from (is_write (at es b)) (same_address (at es a) (at es b)) w.1 y.1))))
