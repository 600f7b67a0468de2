-- Where every event is generic, proxies make no difference.
use Rattle.std.proofs.Common.{◌≡◌, ℕ, ◌≤◌, true, List, length, get_or, sym, refl, ap, ◌∙◌, ap₂, inl, inr, ⊎_elim, arith}
use Rattle.std.proofs.lemmas.Bool.{and_parts, and_from, eq-eqb, ltb-true}
use Rattle.relation.specs.Algebra.{Set, Rel, none, plus, ◌∪◌, ◌∩◌, ◌⨾◌, ◌◁◌, ◌▷◌}
use Rattle.relation.proofs.Laws.{same_pairs, in_union, of_union, in_then}
use Rattle.sheet.specs.Book.{known}
use Rattle.sheet.specs.Rules.{generic}
use Rattle.sheet.specs.declared.row.Event.{Event}
use Rattle.sheet.specs.declared.row.Thread.{Thread}
use Rattle.execution.specs.declared.class.Class.TheVariants.{Generic}
use Rattle.execution.specs.declared.tie.Tie.TheVariants.{Location, Strong, SameProxy, Itself}
use Rattle.execution.specs.Classes.{those}
use Rattle.execution.specs.Facts.{Facts, with_order}
use Rattle.execution.specs.Joins.{Joins}
use Rattle.execution.specs.Ties.{tied}
use Rattle.execution.specs.Words.{rivals}
use Rattle.execution.proofs.Joining.{joins_tied, joins_both}
use Rattle.execution.proofs.Tying.{tied_at, those_at}
use Rattle.model.specs.View.{all_generic}
use Rattle.model.specs.Layers.{every_at, generic_same, within_whole}
use Rattle.ptx.specs.declared.flavour.Ptx.TheVariants.{Plain, WithProxies}
use Rattle.ptx.specs.Axioms.{ptx_axioms}
use Rattle.ptx.specs.Generic.{ProxiesAgree}
use Rattle.ptx.specs.Kept.{departs, lands, crosses, kept_of, kept}
use Rattle.ptx.specs.Ptx.{strong, poloc, fence_pairs, base, cause_of, cause, ptx_need}
use Rattle.ptx.specs.Laws.{joins_base}

-- a generic event departs and lands at itself
module _ (ts : List Thread) (es : List Event) (few : length es ≤ 64) (g : all_generic es ≡ true) where
  itself_at : (a : ℕ) → known es a ≡ true → (those es Generic ◁ tied ts es Itself) a a ≡ true
  unfolding ◌◁◌
  itself_at a k =
      let l = ltb-true a (length es) k in
      and_from (those es Generic a) (tied ts es Itself a a) (sym (those_at es Generic a l) ∙ every_at (λ e. generic e.proxy) es a g l)
      (sym (tied_at ts es Itself a a l l) ∙ eq-eqb a a refl)

  module _ (other fences : Set) (together b : Rel) where
    crossed : (i j : ℕ) → known es i ≡ true → known es j ≡ true → b i j ≡ true → crosses (those es Generic) other fences together (tied ts es Itself) b i j ≡ true
    unfolding departs lands crosses
    crossed i j k m h =
        let d = departs (those es Generic) other fences together (tied ts es Itself) b in
        let l = lands (those es Generic) other fences together (tied ts es Itself) b in
        let p = ltb-true i (length es) k in
        let q = ltb-true j (length es) m in
        in_union (d ⨾ l) (d ⨾ b ⨾ l) i j
        (inr (in_then (d ⨾ b) l i j j (omega arith) (in_then d b i i j (omega arith) (in_union (those es Generic ◁ tied ts es Itself) _ i i (inl (itself_at i k))) h)
        (in_union (those es Generic ◁ tied ts es Itself) _ j j (inl (itself_at j m)))))

  -- every base pair is kept
  kept_whole : (b : Rel) → Joins es b → kept ts es b ≡ b
  unfolding kept_of ◌◁◌ ◌▷◌ ◌∩◌
  kept_whole b j =
      same_pairs (kept ts es b) b
      (λ i k h.
      ⊎_elim
      (λ h1. ⊎_elim (λ h2. ⊎_elim (λ h3. (and_parts _ (b i k) h3).1) (λ h3. (and_parts (b i k) _ h3).0) (of_union _ _ i k h2)) (λ h2. (and_parts (b i k) _ h2).0) (of_union _ _ i k h1))
      (λ h1. (and_parts (b i k) _ h1).0) (of_union _ _ i k h))
      (λ i k h.
      let n = and_parts (known es i) (known es k) (j i k h) in
      in_union _ _ i k (inr (and_from (b i k) _ h (crossed _ _ _ b i k n.0 n.1 h))))

  strong_whole : strong WithProxies ts es ≡ strong Plain ts es
  strong_whole = within_whole (tied ts es Strong) (tied ts es SameProxy) (generic_same ts es g (tied ts es Strong) (joins_tied es ts Strong))

pub proxies_agree : ProxiesAgree
unfolding ptx_need
proxies_agree x few j g =
    let ts = x.threads in
    let es = x.events in
    let s : strong WithProxies ts es ≡ strong Plain ts es = strong_whole ts es few g in
    let p : poloc WithProxies x ≡ poloc Plain x =
    within_whole (x.po ∩ tied ts es Location) (tied ts es SameProxy) (generic_same ts es g (x.po ∩ tied ts es Location) (joins_both es x.po _ j)) in
    record {
      kinds = refl;
      need = ap (λ (r : Rel). (rivals ts es ∪ fence_pairs ts es) ∩ r) s;
      relation = λ o.
          let y : Facts = with_order x o in
          let b : base WithProxies y ≡ base Plain y = rw (s, p) refl in
          let k : kept ts es (base WithProxies y) ≡ base Plain y = kept_whole ts es few g (base WithProxies y) (joins_base WithProxies y j) ∙ b in
          let c : cause WithProxies y ≡ cause Plain y = ap₂ cause_of (ap (λ (r : Rel). plus (r ∩ (x.rf ∪ x.atomic))) s) k in
          let l : ptx_axioms WithProxies y ≡ ptx_axioms Plain y = cc in
          let read : List Rel → ℕ → Rel = λ rs i. get_or rs i none in
          ap read l;
    }
