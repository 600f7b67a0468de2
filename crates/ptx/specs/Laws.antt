-- The laws of PTX.
use Rattle.std.specs.Prelude.{◌≡◌, ℕ, Bool, true, not, ◌&&◌, ◌||◌, List, length, ◌==◌, refl}
use Rattle.std.proofs.Common.{ap, ap₂, ◌∙◌, ⊎_elim, lit≤}
use Rattle.std.proofs.Math.Bool.{and_comm}
use Rattle.std.proofs.lemmas.Bool.{and_parts, and_from, or_cases, or_right, ltb-true}
use Rattle.std.proofs.lemmas.List.{get_or_past}
use Rattle.relation.specs.Algebra.{Rel, none, ◌∪◌, ◌∩◌, ◌∖◌}
use Rattle.sheet.specs.Book.{known, both_known}
use Rattle.sheet.specs.Rules.{at, is_write, is_sc_fence, same_address, can_order, carries}
use Rattle.sheet.specs.declared.row.Event.{Event}
use Rattle.sheet.specs.declared.row.Thread.{Thread}
use Rattle.sheet.specs.declared.words.Proxy.{Proxy}
use Rattle.sheet.specs.declared.words.Proxy.TheVariants.{Generic, Constant, Texture, Surface}
use Rattle.sheet.specs.declared.calls.Edge.TheVariants.{Order}
use Rattle.execution.specs.declared.class.Class.TheVariants.{ScFence}
use Rattle.execution.specs.declared.tie.Tie.TheVariants.{Strong, SameProxy, Itself}
use Rattle.execution.specs.Classes.{those}
use Rattle.execution.specs.Facts.{Facts, Sound}
use Rattle.execution.specs.Joins.{Joins}
use Rattle.execution.specs.Ties.{tied, same_proxy}
use Rattle.execution.specs.Words.{loc, rivals}
use Rattle.execution.proofs.Joining.{joins_tied, joins_either, joins_both, joins_other, joins_except, joins_then, joins_plus, joins_from, joins_to, joins_rivals, joins_co, joins_sc, joins_comm}
use Rattle.execution.proofs.Tying.{tied_at}
use Rattle.model.specs.Meaning.{Lawful, orderable}
use Rattle.model.proofs.Lists.{AllJoin, joins_at}
use Rattle.model.proofs.Rivalry.{BothWays, tied_flip, itself_flip, strong_flip, rivals_flip, rivals_orderable, of_those}
use Rattle.ptx.specs.declared.flavour.Ptx.{Ptx}
use Rattle.ptx.specs.declared.flavour.Ptx.TheVariants.{Plain, WithProxies}
use Rattle.ptx.specs.Axioms.{ptx_axioms, ptx_meaning}
use Rattle.ptx.specs.Kept.{kept_of}
use Rattle.ptx.specs.Ptx.{strong, poloc, counted, obs, sync_of, base, cause_of, cause, product, fence_pairs, ptx_need}

-- ---- relations among the events of a sheet

joins_strong : (f : Ptx) (ts : List Thread) (es : List Event) → Joins es (strong f ts es)
joins_strong Plain ts es = joins_tied es ts Strong
joins_strong WithProxies ts es = joins_both es (tied ts es Strong) _ (joins_tied es ts Strong)

joins_poloc : (f : Ptx) (x : Facts) → Sound x → Joins x.events (poloc f x)
joins_poloc Plain x s = joins_both x.events x.po (loc x) s.po
joins_poloc WithProxies x s = joins_both x.events (x.po ∩ loc x) _ (joins_both x.events x.po (loc x) s.po)

joins_counted : (f : Ptx) (ts : List Thread) (es : List Event) (b : Rel) → Joins es b → Joins es (counted f ts es b)
unfolding kept_of
joins_counted Plain ts es b j = j
joins_counted WithProxies ts es b j =
    joins_either es _ _
    (joins_either es _ _ (joins_either es _ _ (joins_from es _ b j) (joins_to es _ b j)) (joins_both es b _ j))
    (joins_both es b _ j)

pub joins_base : (f : Ptx) (x : Facts) → Joins x.events x.po → Joins x.events (base f x)
unfolding sync_of
joins_base f x j =
    let es = x.events in
    joins_plus es _
    (joins_either es _ _ (joins_either es _ _ j (joins_both es (strong f x.threads es) _ (joins_strong f x.threads es))) (joins_sc x))

joins_cause : (f : Ptx) (x : Facts) → Sound x → Joins x.events (cause f x)
unfolding cause_of
joins_cause f x s =
    let es = x.events in
    let k = joins_counted f x.threads es (base f x) (joins_base f x s.po) in
    let o = joins_plus es (obs f x) (joins_both es (strong f x.threads es) _ (joins_strong f x.threads es)) in
    joins_either es _ _ k (joins_then es _ _ o k)

joined : (f : Ptx) (x : Facts) → Sound x → AllJoin x.events (ptx_axioms f x)
joined f x s =
    let es = x.events in
    let c = joins_cause f x s in (
      joins_either es x.rf x.depend s.rf s.depend,
      (
        joins_either es _ _ (joins_both es (strong f x.threads es) _ (joins_strong f x.threads es)) (joins_poloc f x s),
        (
          joins_other es _ x.atomic s.atomic,
          (
            joins_except es _ _ (joins_other es _ _ (joins_rivals es x.threads)),
            (joins_either es _ _ c (joins_then es _ _ (joins_comm x s.rf) c), (joins_co x, tt)),
          ),
        ),
      ),
    )

-- ---- need

proxy_flip : BothWays SameProxy
proxy_flip ts a b e f = go e.proxy f.proxy
  where
    go : (p q : Proxy) → same_proxy p q ≡ same_proxy q p
    go Generic Generic = refl
    go Generic Constant = refl
    go Generic Texture = refl
    go Generic Surface = refl
    go Constant Generic = refl
    go Constant Constant = refl
    go Constant Texture = refl
    go Constant Surface = refl
    go Texture Generic = refl
    go Texture Constant = refl
    go Texture Texture = refl
    go Texture Surface = refl
    go Surface Generic = refl
    go Surface Constant = refl
    go Surface Texture = refl
    go Surface Surface = refl

strong_both : (f : Ptx) (ts : List Thread) (es : List Event) (a b : ℕ) → strong f ts es a b ≡ strong f ts es b a
unfolding ◌∩◌
strong_both Plain ts es a b = tied_flip Strong strong_flip ts es a b
strong_both WithProxies ts es a b = ap₂ ◌&&◌ (tied_flip Strong strong_flip ts es a b) (tied_flip SameProxy proxy_flip ts es a b)

fences_flip : (ts : List Thread) (es : List Event) (a b : ℕ) → fence_pairs ts es a b ≡ fence_pairs ts es b a
unfolding fence_pairs product ◌∖◌
fences_flip ts es a b =
    ap₂ (λ (s t : Bool). s && not t) (and_comm (those es ScFence a) (those es ScFence b)) (tied_flip Itself itself_flip ts es a b)

need_flip : (f : Ptx) (ts : List Thread) (es : List Event) (a b : ℕ) → ptx_need f ts es a b ≡ ptx_need f ts es b a
unfolding ptx_need ◌∩◌ ◌∪◌
need_flip f ts es a b = ap₂ ◌&&◌ (ap₂ ◌||◌ (rivals_flip ts es a b) (fences_flip ts es a b)) (strong_both f ts es a b)

fences_orderable : (ts : List Thread) (es : List Event) (a b : ℕ) → fence_pairs ts es a b ≡ true → orderable es a b ≡ true
unfolding fence_pairs product ◌∖◌ carries can_order
fences_orderable ts es a b h =
    let p = and_parts (those es ScFence a && those es ScFence b) (not (tied ts es Itself a b)) h in
    let q = and_parts (those es ScFence a) (those es ScFence b) p.0 in
    let v = of_those es ScFence a q.0 in
    let w = of_those es ScFence b q.1 in
    let d : not (a == b) ≡ true = ap not (tied_at ts es Itself a b (ltb-true a (length es) v.0) (ltb-true b (length es) w.0)) ∙ p.1 in
    and_from (both_known es a b) (carries es Order a b) (and_from (known es a) (known es b) v.0 w.0)
    (and_from (not (a == b)) (can_order (at es a) (at es b)) d
    (or_right (is_write (at es a) && (is_write (at es b) && same_address (at es a) (at es b))) (is_sc_fence (at es a) && is_sc_fence (at es b))
    (and_from (is_sc_fence (at es a)) (is_sc_fence (at es b)) v.1 w.1)))

need_orderable : (f : Ptx) (ts : List Thread) (es : List Event) (a b : ℕ) → ptx_need f ts es a b ≡ true → orderable es a b ≡ true
unfolding ptx_need ◌∩◌ ◌∪◌
need_orderable f ts es a b h =
    ⊎_elim (rivals_orderable ts es a b) (fences_orderable ts es a b)
    (or_cases (rivals ts es a b) (fence_pairs ts es a b) (and_parts (rivals ts es a b || fence_pairs ts es a b) (strong f ts es a b) h).0)

pub ptx_lawful : (f : Ptx) → Lawful (ptx_meaning f)
ptx_lawful f =
    record {
      few = lit≤ tt;
      past = λ x i. get_or_past (ptx_axioms f x) i none;
      among = λ x s. joins_at x.events (ptx_axioms f x) (joined f x s);
      symmetric = need_flip f;
      joinable = need_orderable f;
    }
