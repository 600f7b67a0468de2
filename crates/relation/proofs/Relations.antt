-- Relations by their rows.
use Rattle.std.proofs.Common.{◌≡◌, ℕ, ◌<◌, ◌≤◌, Bool, true, false, not, ◌&&◌, ltb, length, get_or, set, Some, None, Option, sym, refl, ap, ◌∙◌, ap₂, ⊎_elim, arith}
use denote.Ref.{Bor}
use Rattle.std.specs.Option.{option_copied, unwrap_or}
use Rattle.std.specs.Slice.{IsItemAt}
use mathlib.Core.Path.{fun_ext}
use Rattle.std.proofs.Math.Bool.{not-not, and-true, or-false}
use Rattle.std.proofs.lemmas.Bool.{cases_lt, cases_eq, lt-ltb, le-ltb, eq-eqb, ne_eqb}
use Rattle.std.proofs.lemmas.List.{get_or-set_same, get_or-set_other}
use Rattle.closure.proofs.Reached.{never}
use Rattle.relation.specs.Algebra.{Set, Rel, nothing, single, either, both, except, only_if, some_below, image, image_below, range, range_below, upto, domain, column, inverse, pair, cut, ◌∪◌, ◌∩◌, ◌∖◌, ◌⨾◌, ◌◁◌, ◌▷◌}
use Rattle.relation.specs.Meaning.{members, blank, holds, StartsBelow}
use Rattle.relation.specs.declared.Row.{Row}
use Rattle.relation.specs.declared.Relation.{Relation}
use Rattle.relation.proofs.Below.{some_none}
use Rattle.relation.proofs.Sets.{only_true, only_false, members_past, single_event, single_past}

pub holds_row : (r : Relation) (i : ℕ) → i < 64 → holds r i ≡ members (get_or r.rows i blank)
unfolding holds
holds_row r i l = ap (λ t. only_if t (members (get_or r.rows i blank))) (lt-ltb i 64 l) ∙ only_true (members (get_or r.rows i blank))

pub holds_past : (r : Relation) (i : ℕ) → 64 ≤ i → holds r i ≡ nothing
unfolding holds
holds_past r i l = ap (λ t. only_if t (members (get_or r.rows i blank))) (le-ltb i 64 l) ∙ only_false (members (get_or r.rows i blank))

-- the row that `get` lends, and an empty one where it lends none
pub row_got : (r : Relation) (i k : ℕ) (o : Option (Bor Row)) (empty x : Row) → length r.rows ≡ 64 → k ≡ i → IsItemAt r.rows k o → members empty ≡ nothing
    → x ≡ unwrap_or (option_copied o) empty → members x ≡ holds r i
row_got r i k None empty x long same got none e = ap members e ∙ none ∙ sym (holds_past r i (omega (arith, got.3)))
row_got r i k (Some y) empty x long same got none e =
    ap members (e ∙ got.3.1 blank) ∙ sym (holds_row r k (omega (arith, got.3.0))) ∙ ap (holds r) same

-- a relation by its rows
pub holds_by : (r : Relation) (s : Rel) → ((i : ℕ) → i < 64 → members (get_or r.rows i blank) ≡ s i)
    → ((i : ℕ) → 64 ≤ i → s i ≡ nothing) → holds r ≡ s
holds_by r s below past =
    fun_ext (λ i. ⊎_elim (λ l. holds_row r i l ∙ below i l) (λ l. holds_past r i l ∙ sym (past i l)) (cases_lt i 64))

either_nothing : either nothing nothing ≡ nothing
unfolding either nothing
either_nothing = refl

both_nothing : (a : Set) → both nothing a ≡ nothing
unfolding both nothing
both_nothing a = refl

except_nothing : (a : Set) → except nothing a ≡ nothing
unfolding except nothing
except_nothing a = refl

image_nothing : (r : Rel) → image nothing r ≡ nothing
unfolding image_below nothing
image_nothing r = fun_ext (λ j. some_none 64 (λ k. false) (λ k l. refl))

only_nothing : (t : Bool) → only_if t nothing ≡ nothing
only_nothing true = only_true nothing
only_nothing false = only_false nothing

-- ---- each operation, row by row

pub or_row : (a b : Rel) (i : ℕ) → (a ∪ b) i ≡ either (a i) (b i)
unfolding ◌∪◌ either
or_row a b i = refl

pub or_starts : (a b : Relation) → StartsBelow (holds a ∪ holds b)
or_starts a b i l = or_row (holds a) (holds b) i ∙ ap₂ either (holds_past a i l) (holds_past b i l) ∙ either_nothing

pub and_row : (a b : Rel) (i : ℕ) → (a ∩ b) i ≡ both (a i) (b i)
unfolding ◌∩◌ both
and_row a b i = refl

pub and_starts : (a b : Relation) → StartsBelow (holds a ∩ holds b)
and_starts a b i l = and_row (holds a) (holds b) i ∙ ap (λ s. both s (holds b i)) (holds_past a i l) ∙ both_nothing (holds b i)

pub except_row : (a b : Rel) (i : ℕ) → (a ∖ b) i ≡ except (a i) (b i)
unfolding ◌∖◌ except
except_row a b i = refl

pub except_starts : (a b : Relation) → StartsBelow (holds a ∖ holds b)
except_starts a b i l = except_row (holds a) (holds b) i ∙ ap (λ s. except s (holds b i)) (holds_past a i l) ∙ except_nothing (holds b i)

pub then_row : (a b : Rel) (i : ℕ) → (a ⨾ b) i ≡ image (a i) b
unfolding ◌⨾◌ image_below
then_row a b i = refl

pub then_starts : (a b : Relation) → StartsBelow (holds a ⨾ holds b)
then_starts a b i l = then_row (holds a) (holds b) i ∙ ap (λ s. image s (holds b)) (holds_past a i l) ∙ image_nothing (holds b)

pub to_row : (a : Rel) (s : Set) (i : ℕ) → (a ▷ s) i ≡ both (a i) s
unfolding ◌▷◌ both
to_row a s i = refl

pub to_starts : (a : Relation) (s : Set) → StartsBelow (holds a ▷ s)
to_starts a s i l = to_row (holds a) s i ∙ ap (λ t. both t s) (holds_past a i l) ∙ both_nothing s

pub from_row : (s : Set) (a : Rel) (i : ℕ) → (s ◁ a) i ≡ only_if (s i) (a i)
unfolding ◌◁◌ only_if
from_row s a i = refl

pub from_starts : (s : Set) (a : Relation) → StartsBelow (s ◁ holds a)
from_starts s a i l = from_row s (holds a) i ∙ ap (λ t. only_if (s i) t) (holds_past a i l) ∙ only_nothing (s i)

pub holds_ends : (r : Relation) (i j : ℕ) → 64 ≤ j → holds r i j ≡ false
unfolding nothing
holds_ends r i j l =
    ⊎_elim (λ h. ap (λ (s : Set). s j) (holds_row r i h) ∙ members_past (get_or r.rows i blank) j l)
    (λ h. ap (λ (s : Set). s j) (holds_past r i h)) (cases_lt i 64)

pub holds_starts : (r : Relation) (i j : ℕ) → 64 ≤ i → holds r i j ≡ false
unfolding nothing
holds_starts r i j l = ap (λ (s : Set). s j) (holds_past r i l)

-- a pair of a relation is one of events
pub holds_first : (r : Relation) (i j : ℕ) → holds r i j ≡ true → i < 64
holds_first r i j h = ⊎_elim (λ l. l) (λ l. never (sym (holds_starts r i j l) ∙ h)) (cases_lt i 64)

pub holds_second : (r : Relation) (i j : ℕ) → holds r i j ≡ true → j < 64
holds_second r i j h = ⊎_elim (λ l. l) (λ l. never (sym (holds_ends r i j l) ∙ h)) (cases_lt j 64)

pub column_whole : (r : Relation) (j : ℕ) → upto 64 (column (holds r) j) ≡ column (holds r) j
unfolding upto column
column_whole r j =
    fun_ext (λ i. ⊎_elim (λ l. ap (λ t. t && holds r i j) (lt-ltb i 64 l))
    (λ l. ap (λ t. t && holds r i j) (le-ltb i 64 l) ∙ sym (holds_starts r i j l)) (cases_lt i 64))

pub domain_whole : (r : Relation) → upto 64 (domain (holds r)) ≡ domain (holds r)
unfolding upto domain
domain_whole r =
    fun_ext (λ i. ⊎_elim (λ l. ap (λ t. t && some_below 64 (holds r i)) (lt-ltb i 64 l))
    (λ l. ap (λ t. t && some_below 64 (holds r i)) (le-ltb i 64 l) ∙ sym (some_none 64 (holds r i) (λ j m. holds_starts r i j l))) (cases_lt i 64))

-- the range of the pairs that start in s
pub image_range : (s : Set) (a : Rel) → range (s ◁ a) ≡ image s a
unfolding ◌◁◌ image_below range_below
image_range s a = refl

pub domain_at : (a : Rel) (i : ℕ) → not (not (some_below 64 (a i))) ≡ domain a i
unfolding domain
domain_at a i = not-not (some_below 64 (a i))

pub column_at : (a : Rel) (j i : ℕ) → column a j i ≡ a i j
unfolding column
column_at a j i = refl

pub inverse_row : (a : Rel) (i : ℕ) → inverse a i ≡ column a i
unfolding inverse column
inverse_row a i = refl

pub inverse_starts : (a : Relation) → StartsBelow (inverse (holds a))
unfolding inverse nothing
inverse_starts a i l = fun_ext (λ j. holds_ends a j i l)

-- ---- one pair

either_none : (a : Set) → either a nothing ≡ a
unfolding either nothing
either_none a = fun_ext (λ j. or-false (a j))

except_none : (a : Set) → except a nothing ≡ a
unfolding except nothing
except_none a = fun_ext (λ j. and-true (a j))

set_row : (r a : Relation) (i : ℕ) (x : Row) → i < 64 → i < length a.rows → r.rows ≡ set a.rows i x → holds r i ≡ members x
set_row r a i x l m e =
    holds_row r i l ∙ ap members (ap (λ xs. get_or xs i blank) e ∙ get_or-set_same a.rows i x blank m)

other_row : (r a : Relation) (i k : ℕ) (x : Row) → r.rows ≡ set a.rows i x → (k ≡ i → ⊥) → holds r k ≡ holds a k
unfolding holds
other_row r a i k x e ne =
    ap (λ y. only_if (ltb k 64) (members y)) (ap (λ xs. get_or xs k blank) e ∙ get_or-set_other a.rows i k x blank ne)

-- row i is as after the pair of i and j was added, and the others are as before
add_row : (a : Rel) (i j k : ℕ) (s : Set) → i < 64 → (k ≡ i → s ≡ either (a i) (single j)) → ((k ≡ i → ⊥) → s ≡ a k) → s ≡ (a ∪ pair i j) k
unfolding ◌∪◌ pair either only_if
add_row a i j k s h same other =
    ⊎_elim
    (λ e. same e ∙ ap₂ either (ap a (sym e)) (sym (ap (λ t. only_if t (single j)) (single_event i k h ∙ eq-eqb i k (sym e)) ∙ only_true (single j))))
    (λ ne. other ne ∙ sym (ap (λ t. either (a k) t) (ap (λ t. only_if t (single j)) (single_event i k h ∙ ne_eqb i k (λ e. ne (sym e))) ∙ only_false (single j)) ∙ either_none (a k)))
    (cases_eq k i)

remove_row : (a : Rel) (i j k : ℕ) (s : Set) → i < 64 → (k ≡ i → s ≡ except (a i) (single j)) → ((k ≡ i → ⊥) → s ≡ a k) → s ≡ (a ∖ pair i j) k
unfolding ◌∖◌ pair except only_if
remove_row a i j k s h same other =
    ⊎_elim
    (λ e. same e ∙ ap₂ except (ap a (sym e)) (sym (ap (λ t. only_if t (single j)) (single_event i k h ∙ eq-eqb i k (sym e)) ∙ only_true (single j))))
    (λ ne. other ne ∙ sym (ap (λ t. except (a k) t) (ap (λ t. only_if t (single j)) (single_event i k h ∙ ne_eqb i k (λ e. ne (sym e))) ∙ only_false (single j)) ∙ except_none (a k)))
    (cases_eq k i)

pub row_added : (r a : Relation) (i j : ℕ) (x : Row) → i < 64 → i < length a.rows → r.rows ≡ set a.rows i x
    → members x ≡ either (members (get_or a.rows i blank)) (single j) → holds r ≡ holds a ∪ pair i j
row_added r a i j x l m e h =
    fun_ext (λ k. add_row (holds a) i j k (holds r k) l
    (λ q. ap (holds r) q ∙ set_row r a i x l m e ∙ h ∙ ap (λ s. either s (single j)) (sym (holds_row a i l)))
    (λ ne. other_row r a i k x e ne))

pub row_removed : (r a : Relation) (i j : ℕ) (x : Row) → i < 64 → i < length a.rows → r.rows ≡ set a.rows i x
    → members x ≡ except (members (get_or a.rows i blank)) (single j) → holds r ≡ holds a ∖ pair i j
row_removed r a i j x l m e h =
    fun_ext (λ k. remove_row (holds a) i j k (holds r k) l
    (λ q. ap (holds r) q ∙ set_row r a i x l m e ∙ h ∙ ap (λ s. except s (single j)) (sym (holds_row a i l)))
    (λ ne. other_row r a i k x e ne))

-- a pair of what is no event is none
pair_past : (i j k : ℕ) → 64 ≤ i → pair i j k ≡ nothing
unfolding pair nothing
pair_past i j k l = fun_ext (λ m. ap (λ (s : Set). s k && single j m) (single_past i l))

pub none_added : (a : Rel) (i j : ℕ) → 64 ≤ i → a ≡ a ∪ pair i j
unfolding ◌∪◌ either
none_added a i j l = fun_ext (λ k. sym (ap (either (a k)) (pair_past i j k l) ∙ either_none (a k)))

pub none_removed : (a : Rel) (i j : ℕ) → 64 ≤ i → a ≡ a ∖ pair i j
unfolding ◌∖◌ except
none_removed a i j l = fun_ext (λ k. sym (ap (except (a k)) (pair_past i j k l) ∙ except_none (a k)))

-- ---- a test on the pairs below n

pub cut_in : (n : ℕ) (p : Rel) (i : ℕ) → i < n → upto n (p i) ≡ cut n p i
unfolding cut only_if upto
cut_in n p i l = sym (ap (λ t. only_if t (upto n (p i))) (lt-ltb i n l) ∙ only_true (upto n (p i)))

pub cut_past : (n : ℕ) (p : Rel) (i : ℕ) → n ≤ i → cut n p i ≡ nothing
unfolding cut only_if upto
cut_past n p i l = ap (λ t. only_if t (upto n (p i))) (le-ltb i n l) ∙ only_false (upto n (p i))

pub cut_starts : (p : Rel) (n : ℕ) → n ≤ 64 → StartsBelow (cut n p)
cut_starts p n l i k = cut_past n p i (omega arith)
