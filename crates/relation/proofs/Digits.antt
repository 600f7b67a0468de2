-- The laws of `member`.
use Rattle.std.proofs.Common.{◌≡◌, ℕ, zero, suc, ◌-◌, ◌/◌, ◌%◌, ◌^◌, ◌<◌, ◌≤◌, min, max, true, false, not, ◌&&◌, ◌||◌, eqb, ltb, sym, refl, ap, ◌∙◌, ⊎_elim, pow-suc, div-one, one-add, arith, pow_pos, shr-shr}
use lib.Bits.{bit_and, bit_or, and_shr, or_shr, and_step, or_step, and_mask}
use lib.Count.{count_trailing_zeros, under}
use native.Mathlib.Nat.{zero-div}
use Rattle.std.proofs.lemmas.Bool.Decides.{nat_tests}
use Rattle.std.proofs.lemmas.Bool.{cases_lt, lt-ltb, le-ltb, eq-eqb, ne_eqb}
use Rattle.relation.specs.Bits.{member}

pub member_zero : (j : ℕ) → member 0 j ≡ false
unfolding member
member_zero j = rw zero-div

-- ---- the digit 0, and the others as those of the half

pub member_low : (n : ℕ) → member n 0 ≡ eqb (n % 2) 1
unfolding member
member_low n = ap (λ m. eqb (m % 2) 1) (div-one n)

pub member_half : (n j : ℕ) → member n (suc j) ≡ member (n / 2) j
unfolding member
member_half n j =
    ap (λ m. eqb (m % 2) 1) (ap (λ (k : ℕ). n / 2 ^ k) (sym (one-add j)) ∙ sym (shr-shr n 1 j))

-- ---- or, and, xor

or_digit : (x y : ℕ) → x < 2 → y < 2 → eqb (max x y) 1 ≡ (eqb x 1 || eqb y 1)
or_digit x y h k = grind (arith, nat_tests)

or_low : (x y : ℕ) → bit_or x y % 2 ≡ max (x % 2) (y % 2)
or_low x y = omega (arith, or_step x y)

pub member_or : (a b j : ℕ) → member (bit_or a b) j ≡ (member a j || member b j)
unfolding member
member_or a b j =
    ap (λ n. eqb (n % 2) 1) (or_shr a b j) ∙ ap (λ n. eqb n 1) (or_low (a / 2 ^ j) (b / 2 ^ j))
    ∙ or_digit (a / 2 ^ j % 2) (b / 2 ^ j % 2) (omega arith) (omega arith)

and_digit : (x y : ℕ) → x < 2 → y < 2 → eqb (min x y) 1 ≡ (eqb x 1 && eqb y 1)
and_digit x y h k = grind (arith, nat_tests)

and_low : (x y : ℕ) → bit_and x y % 2 ≡ min (x % 2) (y % 2)
and_low x y = omega (arith, and_step x y)

pub member_and : (a b j : ℕ) → member (bit_and a b) j ≡ (member a j && member b j)
unfolding member
member_and a b j =
    ap (λ n. eqb (n % 2) 1) (and_shr a b j) ∙ ap (λ n. eqb n 1) (and_low (a / 2 ^ j) (b / 2 ^ j))
    ∙ and_digit (a / 2 ^ j % 2) (b / 2 ^ j % 2) (omega arith) (omega arith)

-- ---- a number below 2 ^ k has no digit from k on

pub member_past : (k n j : ℕ) → n < 2 ^ k → k ≤ j → member n j ≡ false
member_past zero n j h l = ap (λ m. member m j) (let z : n ≡ 0 = omega arith in z) ∙ member_zero j
member_past (suc k) n zero h l = absurd (omega arith)
member_past (suc k) n (suc j) h l = member_half n j ∙ member_past k (n / 2) j (omega (arith, pow-suc 2 k)) (omega arith)

-- ---- not, at k digits

not_digit : (x : ℕ) → x < 2 → eqb (1 - x) 1 ≡ not (eqb x 1)
not_digit x h = grind (arith, nat_tests)

pub member_not : (k n j : ℕ) → n < 2 ^ k → j < k → member (2 ^ k - 1 - n) j ≡ not (member n j)
member_not zero n j h l = absurd (omega arith)
member_not (suc k) n zero h l =
    member_low (2 ^ suc k - 1 - n)
    ∙ ap (λ m. eqb m 1) (let e : (2 ^ suc k - 1 - n) % 2 ≡ 1 - n % 2 = omega (arith, pow-suc 2 k) in e)
    ∙ not_digit (n % 2) (omega arith) ∙ ap not (sym (member_low n))
member_not (suc k) n (suc j) h l =
    member_half (2 ^ suc k - 1 - n) j
    ∙ ap (λ m. member m j) (let e : (2 ^ suc k - 1 - n) / 2 ≡ 2 ^ k - 1 - n / 2 = omega (arith, pow-suc 2 k) in e)
    ∙ member_not k (n / 2) j (omega (arith, pow-suc 2 k)) (omega arith) ∙ ap not (sym (member_half n j))

-- ---- the first n digits

pub member_ones : (n j : ℕ) → member (2 ^ n - 1) j ≡ ltb j n
member_ones n j =
    ⊎_elim
    (λ l. ap (λ m. member m j) (let e : 2 ^ n - 1 ≡ 2 ^ n - 1 - 0 = omega arith in e) ∙ member_not n 0 j (pow_pos n) l ∙ ap not (member_zero j)
    ∙ sym (lt-ltb j n l))
    (λ l. member_past n (2 ^ n - 1) j (omega (arith, pow_pos n)) l ∙ sym (le-ltb j n l)) (cases_lt j n)

-- ---- one digit

pub member_single : (i j : ℕ) → member (2 ^ i) j ≡ eqb i j
member_single zero zero = member_low 1
member_single zero (suc j) = member_half 1 j ∙ member_zero j ∙ sym (ne_eqb 0 (suc j) (λ e. omega arith))
member_single (suc i) zero =
    member_low (2 ^ suc i) ∙ ap (λ m. eqb m 1) (let e : 2 ^ suc i % 2 ≡ 0 = omega (arith, pow-suc 2 i) in e)
    ∙ sym (ne_eqb (suc i) 0 (λ e. omega arith))
member_single (suc i) (suc j) =
    member_half (2 ^ suc i) j ∙ ap (λ m. member m j) (let e : 2 ^ suc i / 2 ≡ 2 ^ i = omega (arith, pow-suc 2 i) in e)
    ∙ member_single i j ∙ grind (arith, nat_tests)

-- ---- the test `n >> j & 1 == 1`

pub member_test : (n j : ℕ) → eqb (bit_and (n / 2 ^ j) 1) 1 ≡ member n j
unfolding member
member_test n j = ap (λ m. eqb m 1) (and_mask (n / 2 ^ j) 1)

-- ---- the lowest digit

low_unset : (n d t : ℕ) → n % 2 ≡ d → 0 < under d t → member n 0 ≡ false
low_unset n zero t e l = member_low n ∙ ap (λ m. eqb m 1) e
low_unset n (suc d) t e l = absurd (omega arith)

under_drop : (d t j : ℕ) → suc j < under d t → j < t
under_drop zero t j l = omega arith
under_drop (suc d) t j l = absurd (omega arith)

pub trailing_below : (k n j : ℕ) → j < count_trailing_zeros k n → member n j ≡ false
unfolding count_trailing_zeros
trailing_below zero n j l = absurd (omega arith)
trailing_below (suc k) n zero l = low_unset n (n % 2) (count_trailing_zeros k (n / 2)) refl l
trailing_below (suc k) n (suc j) l =
    member_half n j ∙ trailing_below k (n / 2) j (under_drop (n % 2) (count_trailing_zeros k (n / 2)) j l)

abbrev SetAt : ℕ → ℕ → ℕ → Type 0
SetAt n t k = (t < k) × (member n t ≡ true)

lowest_set : (n d t k : ℕ) → n % 2 ≡ d → 0 < n → (0 < n / 2 → SetAt (n / 2) t k) → SetAt n (under d t) (suc k)
lowest_set n zero t k e h rest =
    let r = rest (omega arith) in
    (omega arith, member_half n t ∙ r.1)
lowest_set n (suc d) t k e h rest = (omega arith, member_low n ∙ eq-eqb (n % 2) 1 (omega arith))

pub trailing_at : (k n : ℕ) → 0 < n → n < 2 ^ k → (count_trailing_zeros k n < k) × (member n (count_trailing_zeros k n) ≡ true)
unfolding count_trailing_zeros
trailing_at zero n h l = absurd (omega arith)
trailing_at (suc k) n h l =
    lowest_set n (n % 2) (count_trailing_zeros k (n / 2)) k refl h
    (λ p. trailing_at k (n / 2) p (omega (arith, pow-suc 2 k)))

-- ---- and, with not

pub member_except : (k a b j : ℕ) → b < 2 ^ k → j < k → member (bit_and a (2 ^ k - 1 - b)) j ≡ (member a j && not (member b j))
member_except k a b j h l = member_and a (2 ^ k - 1 - b) j ∙ ap (λ t. member a j && t) (member_not k b j h l)
