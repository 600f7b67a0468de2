use Rattle.std.proofs.Common.{rules, ℕ, ◌+◌, ◌-◌, List, ◌++◌, length, take, sym, refl, ap, ◌∙◌, arith}
use Rattle.std.proofs.lemmas.List.{take_all}
use Rattle.std.proofs.lemmas.Slice.{take-put_mid, drop-put_mid, overwrites}
use Rattle.casewriter.proofs.Adding.{fitting}
use Rattle.casewriter.proofs.writer.Writer.put.Goals as goal

pub returns-then-part-room : goal.returns-then-part-room
returns-then-part-room c =
    let s = c.args.self.now in
    let p = c.args.part.now in
    let n = length p in
    record {
      same_reference = refl;
      size = search (rules, overwrites);
      onward = omega arith;
      front = take-put_mid s.at _ s.memory.now _ (s.at + n) (omega (arith, c.copy_from_slice.ensures.len)) s.within
          ∙ ap (λ (l : List ℕ). take s.at s.memory.now ++ l) (c.copy_from_slice.ensures.after ∙ sym (take_all n p (omega arith)))
          ∙ sym (fitting s.at n s.memory.now p s.within (omega arith));
      behind = drop-put_mid s.at _ s.memory.now _ (s.at + n) (omega arith) s.within (omega (arith, c.copy_from_slice.ensures.len));
    }

pub returns-else-part-room : goal.returns-else-part-room
returns-else-part-room c =
    let s = c.args.self.now in
    let p = c.args.part.now in
    let n = length s.memory.now - s.at in
    record {
      same_reference = refl;
      size = search (rules, overwrites);
      onward = omega arith;
      front = take-put_mid s.at _ s.memory.now _ (s.at + n) (omega (arith, c.copy_from_slice-else-part-room.ensures.len)) s.within
          ∙ ap (λ (l : List ℕ). take s.at s.memory.now ++ l) c.copy_from_slice-else-part-room.ensures.after ∙ sym (fitting s.at n s.memory.now p s.within (omega arith));
      behind = drop-put_mid s.at _ s.memory.now _ (s.at + n) (omega arith) s.within (omega (arith, c.copy_from_slice-else-part-room.ensures.len));
    }
