-- Marks by their letters, and records by their bytes.
use Rattle.std.proofs.Common.{◌≡◌, ℕ, ◌+◌, ◌≤◌, cond, eqb, List, [], ◌∷◌, ◌++◌, length, take, drop, Some, None, Option, sym, refl, ap, ◌∙◌, subst, ap₂, append_assoc, arith, length-append, length-take}
use Rattle.std.proofs.lemmas.List.{take_at, drop_at}
use Rattle.records.specs.declared.mark.Mark.{Mark}
use Rattle.records.specs.declared.mark.Mark.TheVariants.{Thread, Event, ReadFrom, Order, Atomic, Depend, Question, End}
use Rattle.records.specs.Format.{letters, size, Begins}
use Rattle.records.specs.Grammar.{Item, encode, Whole}

-- the mark of two letters
abbrev named : List ℕ → Option Mark
named [] = None
named (a ∷ []) = None
named (a ∷ b ∷ bs) =
    cond (eqb a 84) (Some Thread)
    (cond (eqb a 82) (Some ReadFrom)
    (cond (eqb a 79) (Some Order)
    (cond (eqb a 65) (Some Atomic)
    (cond (eqb a 68) (Some Depend)
    (cond (eqb a 81) (Some Question)
    (cond (eqb b 86) (Some Event) (Some End)))))))

named_letters : (m : Mark) → named (letters m) ≡ Some m
named_letters Thread = refl
named_letters Event = refl
named_letters ReadFrom = refl
named_letters Order = refl
named_letters Atomic = refl
named_letters Depend = refl
named_letters Question = refl
named_letters End = refl

letters_one : (m n : Mark) → letters m ≡ letters n → m ≡ n
letters_one m n e = let s : Some m ≡ Some n = sym (named_letters m) ∙ ap named e ∙ named_letters n in cc

-- bytes begin with one mark at most
pub begins_one : (bs : List ℕ) (m n : Mark) → Begins bs m → Begins bs n → m ≡ n
begins_one bs m n h k = letters_one m n (sym h ∙ k)

pub letters_long : (m : Mark) → length (letters m) ≡ 2
letters_long Thread = refl
letters_long Event = refl
letters_long ReadFrom = refl
letters_long Order = refl
letters_long Atomic = refl
letters_long Depend = refl
letters_long Question = refl
letters_long End = refl

pub begins_long : (bs : List ℕ) (m : Mark) → Begins bs m → 2 ≤ length bs
begins_long bs m h = omega (arith, sym (length-take 2 bs) ∙ ap length h ∙ letters_long m)

-- ---- the bytes of a record

pub encode_begins : (i : Item) (x : List ℕ) → Begins (encode i ++ x) i.mark
encode_begins i x =
    ap (take 2) (append_assoc (letters i.mark) i.body x) ∙ take_at (letters i.mark) (i.body ++ x) 2 (letters_long i.mark)

pub encode_length : (i : Item) → Whole i → length (encode i) ≡ 2 + size i.mark
encode_length i w = let a = length-append (letters i.mark) i.body in let b = letters_long i.mark in let c = w.long in omega arith

pub encode_long : (i : Item) (x : List ℕ) → Whole i → length (encode i ++ x) ≡ 2 + size i.mark + length x
encode_long i x w = let a = length-append (encode i) x in let b = encode_length i w in omega arith

pub encode_body : (i : Item) (x : List ℕ) → Whole i → take (size i.mark) (drop 2 (encode i ++ x)) ≡ i.body
encode_body i x w =
    ap (λ (l : List ℕ). take (size i.mark) (drop 2 l)) (append_assoc (letters i.mark) i.body x)
    ∙ ap (take (size i.mark)) (drop_at (letters i.mark) (i.body ++ x) 2 (letters_long i.mark))
    ∙ take_at i.body x (size i.mark) w.long

split_same : (xs ys us vs : List ℕ) → length xs ≡ length ys → xs ++ us ≡ ys ++ vs → us ≡ vs
split_same xs ys us vs l e =
    sym (drop_at xs us (length xs) refl) ∙ ap (drop (length xs)) e ∙ drop_at ys vs (length xs) (sym l)

-- bytes begin with one record at most
pub item_one : (i j : Item) (x y : List ℕ) → Whole i → Whole j → encode i ++ x ≡ encode j ++ y → (i ≡ j) × (x ≡ y)
item_one i j x y v w e =
    let m : i.mark ≡ j.mark = begins_one (encode j ++ y) i.mark j.mark (subst (λ (l : List ℕ). Begins l i.mark) e (encode_begins i x)) (encode_begins j y) in
    let b : i.body ≡ j.body =
    sym (encode_body i x v) ∙ ap₂ (λ (n : Mark) (l : List ℕ). take (size n) (drop 2 l)) m e ∙ encode_body j y w in
    let l : length (encode i) ≡ length (encode j) = encode_length i v ∙ ap (λ (n : Mark). 2 + size n) m ∙ sym (encode_length j w) in
    (ap₂ (λ (n : Mark) (c : List ℕ). record { mark = n; body = c }) m b, split_same (encode i) (encode j) x y l e)
