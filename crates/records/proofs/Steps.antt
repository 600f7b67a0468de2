-- What the reader finds at its place, from the sign there and what is due.
use Rattle.std.proofs.Common.{◌≡◌, ℕ, ◌+◌, ◌-◌, ◌≤◌, List, ◌++◌, length, take, drop, Some, Ok, sym, ap, ◌∙◌, subst, append_assoc, arith, length-drop, take-append-drop}
use Rattle.std.proofs.lemmas.List.{length-take-le, take_rest}
use Rattle.records.specs.declared.mark.Mark.{Mark}
use Rattle.records.specs.declared.mark.Sign.{Sign}
use Rattle.records.specs.declared.mark.Phase.{Phase}
use Rattle.records.specs.declared.reader.Reader.{Reader}
use Rattle.records.specs.Format.{Here, Begins, Due, Fields, size, letters}
use Rattle.records.specs.Grammar.{Item, Next}
use Rattle.records.specs.Readers.{rest}
use Rattle.records.proofs.Marks.{encode_long}
use Rattle.records.proofs.Unique.{may_stand}

module _ (p q : Phase) (bs : List ℕ) (s : Sign) (m : Mark) (here : Here bs s) (due : Due p s (Ok (Some (m, q)))) where
  begins : Begins bs m
  begins = subst (Here bs) due.0 here

  -- the n bytes behind the mark are its body
  found_record : (n : ℕ) (body : List ℕ) → n ≡ size m → 2 + n ≤ length bs → body ≡ take (2 + n - 2) (drop 2 bs) → Fields m body
      → Next p bs (Ok (Some (record { mark = m; body = body })))
  found_record n body e l b f =
      let k : 2 + n - 2 ≡ size m = omega arith in
      let own : body ≡ take (size m) (drop 2 bs) = b ∙ ap (λ (j : ℕ). take j (drop 2 bs)) k in (
        record { long = ap length own ∙ length-take-le (size m) (drop 2 bs) (omega (arith, length-drop 2 bs)); fields = f },
        may_stand p m q due.1,
        drop (size m) (drop 2 bs),
        sym (append_assoc (letters m) body (drop (size m) (drop 2 bs))
            ∙ ap (λ (l : List ℕ). letters m ++ (l ++ drop (size m) (drop 2 bs))) own
            ∙ ap (λ (l : List ℕ). letters m ++ l) (take-append-drop (size m) (drop 2 bs))
            ∙ ap (λ (l : List ℕ). l ++ drop 2 bs) (sym begins)
            ∙ take-append-drop 2 bs),
      )

-- the same from the slice that begins at the reader's place
pub at_record : (r : Reader) (s : Sign) (m : Mark) (q : Phase) (n : ℕ) (body : List ℕ)
    → Here (take (length r.file.now - r.at) (drop r.at r.file.now)) s → Due r.phase s (Ok (Some (m, q))) → n ≡ size m
    → 2 + n ≤ length (take (length r.file.now - r.at) (drop r.at r.file.now))
    → body ≡ take (2 + n - 2) (drop 2 (take (length r.file.now - r.at) (drop r.at r.file.now))) → Fields m body
    → Next r.phase (rest r) (Ok (Some (record { mark = m; body = body })))
at_record r s m q n body h d e l b f =
    subst (λ (x : List ℕ). Next r.phase x (Ok (Some (record { mark = m; body = body })))) (take_rest r.file.now r.at)
    (found_record r.phase q (take (length r.file.now - r.at) (drop r.at r.file.now)) s m h d n body e l b f)

-- a record that was found lies within the file
pub at_most_file : (r : Reader) (i : Item) → r.at ≤ length r.file.now → Next r.phase (rest r) (Ok (Some i)) → r.at + 2 + length i.body ≤ length r.file.now
at_most_file r i w n = omega (arith, encode_long i n.2 n.0, ap length n.3, length-drop r.at r.file.now, n.0.long)
