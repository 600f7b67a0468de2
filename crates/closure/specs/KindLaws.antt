-- The laws of the two kinds. Assumes nothing.
use Rattle.std.specs.Prelude.{◌≡◌, ℕ, ◌+◌, ◌<◌, ◌≤◌, min, Bool, true, false, cond, ◌&&◌, ◌||◌, nat_le, refl, Some, None, Option}
use Rattle.std.proofs.Common.{ap, sym, ◌∙◌, arith, leb-true, leb-false, le-leb}
use Rattle.std.proofs.lemmas.Bool.{lt-leb}
use Rattle.closure.specs.Steps.{Laws}
use Rattle.closure.specs.Kinds.{capped, fewer, further}

or_assoc : (a b c : Bool) → ((a || b) || c) ≡ (a || (b || c))
or_assoc true b c = refl
or_assoc false b c = refl

or_comm : (a b : Bool) → (a || b) ≡ (b || a)
or_comm true true = refl
or_comm true false = refl
or_comm false true = refl
or_comm false false = refl

or_same : (a : Bool) → (a || a) ≡ a
or_same true = refl
or_same false = refl

and_assoc : (a b c : Bool) → ((a && b) && c) ≡ (a && (b && c))
and_assoc true b c = refl
and_assoc false b c = refl

and_or : (a b c : Bool) → (a && (b || c)) ≡ ((a && b) || (a && c))
and_or true b c = refl
and_or false b c = refl

or_and : (a b c : Bool) → ((a || b) && c) ≡ ((a && c) || (b && c))
or_and true true true = refl
or_and true true false = refl
or_and true false true = refl
or_and true false false = refl
or_and false b c = refl

and_false : (a : Bool) → (a && false) ≡ false
and_false true = refl
and_false false = refl

detour_after : (a b : Bool) → (a || (a && b)) ≡ a
detour_after true b = refl
detour_after false b = refl

detour_before : (a b : Bool) → (a || (b && a)) ≡ a
detour_before true b = refl
detour_before false b = and_false b

pub reach_laws : Laws false ◌||◌ ◌&&◌
reach_laws = record {
  join_assoc = or_assoc;
  join_comm = or_comm;
  join_same = or_same;
  join_none = λ a. refl;
  chain_assoc = and_assoc;
  chain_join = and_or;
  join_chain = or_and;
  none_chain = λ a. refl;
  chain_none = and_false;
  detour_after = detour_after;
  detour_before = detour_before;
}

-- cases of a count that may be over 64
pub by_cap : (P : Option ℕ → Type 0) (n : ℕ) → (n ≤ 64 → P (Some n)) → (64 < n → P None) → P (capped n)
by_cap P n small large = go (nat_le n 64) refl
  where
    go : (b : Bool) → nat_le n 64 ≡ b → P (cond b (Some n) None)
    go true e = small (leb-true n 64 e)
    go false e = large (leb-false n 64 e)

pub capped_small : (n : ℕ) → n ≤ 64 → capped n ≡ Some n
capped_small n h = ap (λ b. cond b (Some n) None) (le-leb n 64 h)

capped_large : (n : ℕ) → 64 < n → capped n ≡ None
capped_large n h = ap (λ b. cond b (Some n) None) (lt-leb n 64 h)

further_small : (a n : ℕ) → further (Some a) (capped n) ≡ capped (a + n)
further_small a n = by_cap (λ x. further (Some a) x ≡ capped (a + n)) n (λ h. refl) (λ h. sym (capped_large (a + n) (omega arith)))

small_further : (n a : ℕ) → further (capped n) (Some a) ≡ capped (n + a)
small_further n a = by_cap (λ x. further x (Some a) ≡ capped (n + a)) n (λ h. refl) (λ h. sym (capped_large (n + a) (omega arith)))

fewer_none : (x : Option ℕ) → fewer x None ≡ x
fewer_none None = refl
fewer_none (Some a) = refl

further_none : (x : Option ℕ) → further x None ≡ None
further_none None = refl
further_none (Some a) = refl

fewer_capped : (m n : ℕ) → fewer (capped m) (capped n) ≡ capped (min m n)
fewer_capped m n =
    by_cap (λ x. fewer x (capped n) ≡ capped (min m n)) m
    (λ h. by_cap (λ y. fewer (Some m) y ≡ capped (min m n)) n
    (λ k. sym (capped_small (min m n) (omega arith)))
    (λ k. let e : min m n ≡ m = omega arith in sym (ap capped e ∙ capped_small m h)))
    (λ h. by_cap (λ y. y ≡ capped (min m n)) n
    (λ k. let e : min m n ≡ n = omega arith in sym (ap capped e ∙ capped_small n k))
    (λ k. sym (capped_large (min m n) (omega arith))))

fewer_more : (a n : ℕ) → a ≤ n → fewer (Some a) (capped n) ≡ Some a
fewer_more a n h = by_cap (λ x. fewer (Some a) x ≡ Some a) n (λ k. ap Some (omega arith)) (λ k. refl)

fewer_assoc : (x y z : Option ℕ) → fewer (fewer x y) z ≡ fewer x (fewer y z)
fewer_assoc None y z = refl
fewer_assoc (Some a) None z = refl
fewer_assoc (Some a) (Some b) None = refl
fewer_assoc (Some a) (Some b) (Some c) = ap Some (omega arith)

fewer_comm : (x y : Option ℕ) → fewer x y ≡ fewer y x
fewer_comm None y = sym (fewer_none y)
fewer_comm (Some a) None = refl
fewer_comm (Some a) (Some b) = ap Some (omega arith)

fewer_same : (x : Option ℕ) → fewer x x ≡ x
fewer_same None = refl
fewer_same (Some a) = ap Some (omega arith)

further_assoc : (x y z : Option ℕ) → further (further x y) z ≡ further x (further y z)
further_assoc None y z = refl
further_assoc (Some a) None z = refl
further_assoc (Some a) (Some b) None = further_none (capped (a + b))
further_assoc (Some a) (Some b) (Some c) =
    let e : (a + b) + c ≡ a + (b + c) = omega arith in
    small_further (a + b) c ∙ ap capped e ∙ sym (further_small a (b + c))

further_fewer : (x y z : Option ℕ) → further x (fewer y z) ≡ fewer (further x y) (further x z)
further_fewer None y z = refl
further_fewer (Some a) None z = refl
further_fewer (Some a) (Some b) None = sym (fewer_none (capped (a + b)))
further_fewer (Some a) (Some b) (Some c) =
    let e : a + min b c ≡ min (a + b) (a + c) = omega arith in
    ap capped e ∙ sym (fewer_capped (a + b) (a + c))

fewer_further : (x y z : Option ℕ) → further (fewer x y) z ≡ fewer (further x z) (further y z)
fewer_further None y z = refl
fewer_further (Some a) None z = sym (fewer_none (further (Some a) z))
fewer_further (Some a) (Some b) None = refl
fewer_further (Some a) (Some b) (Some c) =
    let e : min a b + c ≡ min (a + c) (b + c) = omega arith in
    ap capped e ∙ sym (fewer_capped (a + c) (b + c))

count_after : (x y : Option ℕ) → fewer x (further x y) ≡ x
count_after None y = refl
count_after (Some a) None = refl
count_after (Some a) (Some b) = fewer_more a (a + b) (omega arith)

count_before : (x y : Option ℕ) → fewer x (further y x) ≡ x
count_before None y = further_none y
count_before (Some a) None = refl
count_before (Some a) (Some b) = fewer_more a (b + a) (omega arith)

pub count_laws : Laws None fewer further
count_laws = record {
  join_assoc = fewer_assoc;
  join_comm = fewer_comm;
  join_same = fewer_same;
  join_none = λ x. refl;
  chain_assoc = further_assoc;
  chain_join = further_fewer;
  join_chain = fewer_further;
  none_chain = λ x. refl;
  chain_none = further_none;
  detour_after = count_after;
  detour_before = count_before;
}
