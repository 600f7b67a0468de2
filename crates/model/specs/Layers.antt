-- The laws of the view layer, and where it makes no difference.
use Rattle.std.specs.Prelude.{◌≡◌, ℕ, ◌<◌, Bool, true, List, length, refl}
use Rattle.std.proofs.Common.{sym, ap, ◌∙◌, inl}
use Rattle.std.proofs.lemmas.Bool.{and_parts, and_from, ltb-true}
use Rattle.std.proofs.lemmas.List.Recursion.{and_at}
use Rattle.relation.specs.Algebra.{Rel, ◌∩◌}
use Rattle.relation.proofs.Laws.{same_pairs, in_union}
use Rattle.sheet.specs.Book.{known}
use Rattle.sheet.specs.Rules.{at, every, generic, no_event}
use Rattle.sheet.specs.declared.row.Event.{Event}
use Rattle.sheet.specs.declared.row.Thread.{Thread}
use Rattle.sheet.specs.declared.words.Proxy.{Proxy}
use Rattle.sheet.specs.declared.words.Proxy.TheVariants.{Generic, Constant, Texture, Surface}
use Rattle.execution.specs.declared.tie.Tie.TheVariants.{SameProxy}
use Rattle.execution.specs.Facts.{Facts, Sound, with_po, with_order}
use Rattle.execution.specs.Joins.{Joins}
use Rattle.execution.specs.Ties.{tied, same_proxy}
use Rattle.execution.proofs.Joining.{joins_both}
use Rattle.execution.proofs.Tying.{tied_at}
use Rattle.model.specs.Meaning.{Meaning, Lawful}
use Rattle.model.specs.View.{passed, seen, viewed, all_generic, Transparent}

seen_sound : (x : Facts) → Sound x → Sound (seen x)
seen_sound x s =
    record { po = joins_both x.events x.po (passed x) s.po; rf = s.rf; order = s.order; atomic = s.atomic; depend = s.depend }

pub viewed_lawful : (m : Meaning) → Lawful m → Lawful (viewed m)
viewed_lawful m laws =
    record {
      few = laws.few;
      past = λ x. laws.past (seen x);
      among = λ x s. laws.among (seen x) (seen_sound x s);
      symmetric = laws.symmetric;
      joinable = laws.joinable;
    }

-- ---- generic events

pub every_at : (p : Event → Bool) (es : List Event) (a : ℕ) → every p es ≡ true → a < length es → p (at es a) ≡ true
every_at p es a h l = and_at (every p) p refl (λ _ _. refl) es a no_event l h

pub one_proxy : (p q : Proxy) → generic p ≡ true → generic q ≡ true → same_proxy p q ≡ true
one_proxy Generic Generic g h = refl
one_proxy Generic Constant g h = h
one_proxy Generic Texture g h = h
one_proxy Generic Surface g h = h
one_proxy Constant q g h = cc
one_proxy Texture q g h = cc
one_proxy Surface q g h = cc

-- among generic events all have one proxy
pub generic_same : (ts : List Thread) (es : List Event) → all_generic es ≡ true → (r : Rel) → Joins es r → (a b : ℕ) → r a b ≡ true → tied ts es SameProxy a b ≡ true
generic_same ts es g r j a b h =
    let k = and_parts (known es a) (known es b) (j a b h) in
    let l = ltb-true a (length es) k.0 in
    let m = ltb-true b (length es) k.1 in
    sym (tied_at ts es SameProxy a b l m)
    ∙ one_proxy (at es a).proxy (at es b).proxy (every_at (λ e. generic e.proxy) es a g l) (every_at (λ e. generic e.proxy) es b g m)

-- a relation among pairs of s is not cut by s
pub within_whole : (r s : Rel) → ((a b : ℕ) → r a b ≡ true → s a b ≡ true) → r ∩ s ≡ r
unfolding ◌∩◌
within_whole r s f =
    same_pairs (r ∩ s) r (λ a b h. (and_parts (r a b) (s a b) h).0) (λ a b h. and_from (r a b) (s a b) h (f a b h))

seen_whole : (x : Facts) → Joins x.events x.po → all_generic x.events ≡ true → x.po ∩ passed x ≡ x.po
seen_whole x j g =
    within_whole x.po (passed x)
    (λ a b h. in_union (tied x.threads x.events SameProxy) _ a b (inl (generic_same x.threads x.events g x.po j a b h)))

pub transparent : (m : Meaning) → Transparent m
transparent m x j g =
    record {
      kinds = refl;
      need = refl;
      relation = λ o. ap (λ (po : Rel). m.relation (with_po (with_order x o) po)) (seen_whole x j g);
    }
