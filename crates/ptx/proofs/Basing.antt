-- What was prepared gives the relations of the axioms.
use Rattle.std.proofs.Common.{◌≡◌, ℕ, List, get_or, refl, ap, ◌∙◌, ap₂}
use Rattle.relation.specs.Algebra.{Rel, none, plus, ◌∪◌}
use Rattle.relation.specs.Meaning.{members, holds}
use Rattle.execution.specs.declared.class.Class.TheVariants.{ScFence}
use Rattle.execution.specs.Classes.{those}
use Rattle.execution.specs.Facts.{Facts, with_order}
use Rattle.execution.specs.Readings.{Reads}
use Rattle.execution.specs.Words.{rivals}
use Rattle.ptx.specs.declared.basis.Basis.{Basis}
use Rattle.ptx.specs.declared.flavour.Ptx.{Ptx}
use Rattle.ptx.specs.Axioms.{ptx_axioms}
use Rattle.ptx.specs.Prepared.{counted_by, base_by, cause_by, listed_under, yielded}
use Rattle.ptx.specs.Ptx.{strong, poloc, counted, obs, sync, base, cause_of, cause}

-- each part is what it is called
pub record Based (b : Basis) (f : Ptx) (x : Facts) : Type 0 where
  pub reading : Reads b.reading x
  pub rf : holds b.rf ≡ x.rf
  pub atomic : holds b.atomic ≡ x.atomic
  pub thin_air : holds b.thin_air ≡ x.rf ∪ x.depend
  pub strong : holds b.strong ≡ strong f x.threads x.events
  pub poloc : holds b.poloc ≡ poloc f x
  pub rivals : holds b.rivals ≡ rivals x.threads x.events
  pub seen : holds b.seen ≡ plus (obs f x)
  pub fixed : holds b.fixed ≡ x.po ∪ sync f x
  pub fences : members b.fences ≡ those x.events ScFence
  pub crossing : counted_by b.crossing ≡ counted f x.threads x.events

based_cause : (b : Basis) (f : Ptx) (x : Facts) → Based b f x → (o : Rel) → cause_by b o ≡ cause f (with_order x o)
based_cause b f x p o =
    let e = p.fixed in
    let g = p.fences in
    let q : base_by b o ≡ base f (with_order x o) = rw (e, g) refl in
    ap₂ cause_of p.seen (ap (λ (k : Rel → Rel). k (base_by b o)) p.crossing ∙ ap (counted f x.threads x.events) q)

based_list : (b : Basis) (f : Ptx) (x : Facts) → Based b f x → (o : Rel) → listed_under b o ≡ ptx_axioms f (with_order x o)
based_list b f x p o =
    let c = based_cause b f x p o in
    let r = p.reading in
    cc

pub based_yields : (b : Basis) (f : Ptx) (x : Facts) → Based b f x → (o : Rel) (i : ℕ) → yielded b o i ≡ get_or (ptx_axioms f (with_order x o)) i none
based_yields b f x p o i = ap (λ (rs : List Rel). get_or rs i none) (based_list b f x p o)
