-- Rows as sets.
use Rattle.std.proofs.Common.{◌≡◌, ℕ, ◌-◌, ◌^◌, ◌<◌, ◌≤◌, Bool, true, false, not, ◌&&◌, ◌||◌, eqb, ltb, Some, None, Option, is_some, IfSome, sym, refl, ap, ◌∙◌, ap₂, ⊎_elim, arith}
use mathlib.Core.Path.{fun_ext}
use lib.Bits.{bit_and, bit_or}
use Rattle.std.specs.Cmp.{both_ways}
use Rattle.std.proofs.Math.Bool.{and-true, not-not, and_comm}
use Rattle.std.proofs.lemmas.Bool.{and_right, and_from, and_parts, eqb-true, cases_lt, cases_eq, lt-ltb, le-ltb, eq-eqb, ne_eqb}
use Rattle.relation.specs.Algebra.{Set, nothing, everything, single, below, either, both, except, only_if, some_below, least_below}
use Rattle.relation.specs.Bits.{member}
use Rattle.relation.specs.Meaning.{members}
use Rattle.relation.specs.Reading.{NothingIn}
use Rattle.closure.proofs.Reached.{never}
use Rattle.relation.specs.declared.Row.{Row}
use lib.Count.{count_trailing_zeros}
use Rattle.relation.proofs.Below.{some_from, from_some, some_none, least_is, least_none}
use Rattle.relation.proofs.Digits.{member_zero, member_ones, member_or, member_and, member_except, member_single, trailing_at, trailing_below}

pub members_in : (r : Row) (j : ℕ) → j < 64 → members r j ≡ member r.bits j
unfolding members
members_in r j l = ap (λ t. t && member r.bits j) (lt-ltb j 64 l)

pub members_past : (r : Row) (j : ℕ) → 64 ≤ j → members r j ≡ false
unfolding members
members_past r j l = ap (λ t. t && member r.bits j) (le-ltb j 64 l)

-- a row by its digits
pub members_by : (r : Row) (s : Set) → ((j : ℕ) → j < 64 → member r.bits j ≡ s j)
    → ((j : ℕ) → 64 ≤ j → s j ≡ false) → members r ≡ s
members_by r s below past =
    fun_ext (λ j. ⊎_elim (λ l. members_in r j l ∙ below j l) (λ l. members_past r j l ∙ sym (past j l)) (cases_lt j 64))

pub row_empty : (r : Row) → r.bits ≡ 0 → members r ≡ nothing
unfolding nothing
row_empty r e = members_by r nothing (λ j l. ap (λ n. member n j) e ∙ member_zero j) (λ j l. refl)

pub row_or : (a b r : Row) → r.bits ≡ bit_or a.bits b.bits → members r ≡ either (members a) (members b)
unfolding either
row_or a b r e =
    members_by r (either (members a) (members b))
    (λ j l. ap (λ n. member n j) e ∙ member_or a.bits b.bits j ∙ ap₂ (λ x y. x || y) (sym (members_in a j l)) (sym (members_in b j l)))
    (λ j l. ap₂ (λ x y. x || y) (members_past a j l) (members_past b j l))

pub row_and : (a b r : Row) → r.bits ≡ bit_and a.bits b.bits → members r ≡ both (members a) (members b)
unfolding both
row_and a b r e =
    members_by r (both (members a) (members b))
    (λ j l. ap (λ n. member n j) e ∙ member_and a.bits b.bits j ∙ ap₂ (λ x y. x && y) (sym (members_in a j l)) (sym (members_in b j l)))
    (λ j l. ap₂ (λ x y. x && y) (members_past a j l) (members_past b j l))

pub row_except : (a b r : Row) → b.bits < 2 ^ 64 → r.bits ≡ bit_and a.bits (2 ^ 64 - 1 - b.bits)
    → members r ≡ except (members a) (members b)
unfolding except
row_except a b r h e =
    members_by r (except (members a) (members b))
    (λ j l. ap (λ n. member n j) e ∙ member_except 64 a.bits b.bits j h l ∙ ap₂ (λ x y. x && not y) (sym (members_in a j l)) (sym (members_in b j l)))
    (λ j l. ap₂ (λ x y. x && not y) (members_past a j l) (members_past b j l))

-- ---- the set of one event

pub single_event : (i j : ℕ) → i < 64 → single i j ≡ eqb i j
unfolding single
single_event i j l = ap (λ t. t && eqb i j) (lt-ltb i 64 l)

pub single_past : (i : ℕ) → 64 ≤ i → single i ≡ nothing
unfolding single nothing
single_past i l = fun_ext (λ j. ap (λ t. t && eqb i j) (le-ltb i 64 l))

pub row_single : (r : Row) (i : ℕ) → i < 64 → r.bits ≡ 2 ^ i → members r ≡ single i
row_single r i h e =
    members_by r (single i) (λ j l. ap (λ n. member n j) e ∙ member_single i j ∙ sym (single_event i j h))
    (λ j l. single_event i j h ∙ ne_eqb i j (λ q. omega arith))

pub both_comm : (a b : Set) → both a b ≡ both b a
unfolding both
both_comm a b = fun_ext (λ j. and_comm (a j) (b j))

-- i is in a where a and the set of i have an event in common
pub meets_single : (r : Row) (i : ℕ) → some_below 64 (both (members r) (single i)) ≡ members r i
unfolding both single
meets_single r i = both_ways _ _
    (λ h.
    let w = from_some 64 (both (members r) (single i)) h in
    let p = and_parts (members r w.0) (single i w.0) w.2 in
    ap (members r) (eqb-true i w.0 (and_parts (ltb i 64) (eqb i w.0) p.1).1) ∙ p.0)
    (λ h. ⊎_elim
    (λ (l : i < 64). some_from 64 (both (members r) (single i)) i l (and_from (members r i) (single i i) h (single_event i i l ∙ eq-eqb i i refl)))
    (λ l. never (sym (members_past r i l) ∙ h)) (cases_lt i 64))

pub has_test : (r : Row) (i : ℕ) (empty : Bool) → empty ≡ not (some_below 64 (both (members r) (single i))) → not empty ≡ members r i
has_test r i empty e = ap not e ∙ not-not _ ∙ meets_single r i

-- ---- all events, and those below n

pub row_all : (r : Row) → r.bits ≡ 2 ^ 64 - 1 → members r ≡ everything
unfolding everything
row_all r e = members_by r everything (λ j l. ap (λ m. member m j) e ∙ member_ones 64 j) (λ j l. le-ltb j 64 l)

pub row_below : (r : Row) (n : ℕ) → n < 64 → r.bits ≡ 2 ^ n - 1 → members r ≡ below n
unfolding below
row_below r n h e =
    members_by r (below n)
    (λ j l. ap (λ m. member m j) e ∙ member_ones n j ∙ sym (ap (λ t. ltb j n && t) (lt-ltb j 64 l) ∙ and-true (ltb j n)))
    (λ j l. ap (λ t. t && ltb j 64) (le-ltb j n (omega arith)))

pub below_all : (n : ℕ) → 64 ≤ n → everything ≡ below n
unfolding below everything
below_all n h =
    fun_ext (λ j. ⊎_elim (λ l. ap (λ t. t && ltb j 64) (sym (lt-ltb j n (omega arith))))
    (λ l. le-ltb j 64 l ∙ sym (and_right (ltb j n) (ltb j 64) (le-ltb j 64 l))) (cases_lt j 64))

pub only_true : (a : Set) → only_if true a ≡ a
unfolding only_if
only_true a = refl

pub only_false : (a : Set) → only_if false a ≡ nothing
unfolding only_if nothing
only_false a = refl

-- ---- the lowest member

pub row_none : (r : Row) → r.bits ≡ 0 → (j : ℕ) → members r j ≡ false
unfolding nothing
row_none r e j = ap (λ (s : Set). s j) (row_empty r e)

pub row_lowest_in : (r : Row) → (r.bits ≡ 0 → ⊥) → r.bits < 2 ^ 64 → count_trailing_zeros 64 r.bits < 64
row_lowest_in r ne h = (trailing_at 64 r.bits (omega arith) h).0

pub row_lowest_at : (r : Row) → (r.bits ≡ 0 → ⊥) → r.bits < 2 ^ 64 → members r (count_trailing_zeros 64 r.bits) ≡ true
row_lowest_at r ne h =
    let t = trailing_at 64 r.bits (omega arith) h in members_in r (count_trailing_zeros 64 r.bits) t.0 ∙ t.1

pub row_lowest : (r : Row) → (r.bits ≡ 0 → ⊥) → r.bits < 2 ^ 64 → least_below 64 (members r) ≡ Some (count_trailing_zeros 64 r.bits)
row_lowest r ne h =
    let b : count_trailing_zeros 64 r.bits < 64 = row_lowest_in r ne h in
    least_is 64 (members r) (count_trailing_zeros 64 r.bits) b (row_lowest_at r ne h)
    (λ j l. members_in r j (omega arith) ∙ trailing_below 64 r.bits j l)

pub row_some : (r : Row) → (r.bits ≡ 0 → ⊥) → r.bits < 2 ^ 64 → some_below 64 (members r) ≡ true
row_some r ne h = some_from 64 (members r) (count_trailing_zeros 64 r.bits) (row_lowest_in r ne h) (row_lowest_at r ne h)

-- the place of the lowest digit, unless the row is said to be empty
pub row_least : (r : Row) (empty : Bool) (o : Option ℕ) → r.bits < 2 ^ 64 → NothingIn (members r) empty → is_some o ≡ not empty
    → IfSome o (λ k. k ≡ count_trailing_zeros 64 r.bits) → o ≡ least_below 64 (members r)
row_least r true None h none e k = sym (least_none 64 (members r) (λ j l. none.0 refl j))
row_least r true (Some k) h none e place = never (sym e)
row_least r false None h none e place = never e
row_least r false (Some k) h none e place = ap (λ (n : ℕ). Some n) place ∙ sym (row_lowest r (λ z. never (none.1 (row_none r z))) h)

-- the test of `is_empty`
pub row_vacant : (r : Row) → r.bits < 2 ^ 64 → eqb r.bits 0 ≡ not (some_below 64 (members r))
row_vacant r h =
    ⊎_elim (λ e. eq-eqb r.bits 0 e ∙ ap not (sym (some_none 64 (members r) (λ j l. row_none r e j))))
    (λ ne. ne_eqb r.bits 0 ne ∙ ap not (sym (row_some r ne h))) (cases_eq r.bits 0)
