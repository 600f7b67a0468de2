-- Verdicts from tests, for any lawful model and any small sheet.
use Rattle.std.proofs.Common.{◌≡◌, ℕ, ◌<◌, ◌≤◌, Bool, true, false, cond, not, ◌&&◌, eqb, leb, List, [], ◌∷◌, length, get_or, sym, ap, ◌∙◌, subst, ⊎_elim, arith, pow_pos}
use Rattle.std.proofs.lemmas.Bool.{cases_Bool, cases_lt, and_from, and_parts, ltb-true, leb-true, eqb-true, not-true, not_from_false, true≢false}
use Rattle.relation.specs.Algebra.{some_below, none, pair, ◌∪◌}
use Rattle.relation.specs.Bits.{member}
use Rattle.relation.proofs.Below.{from_some}
use Rattle.relation.proofs.Laws.{pair_test}
use Rattle.sheet.specs.Book.{Book, known, both_known}
use Rattle.sheet.specs.Sets.{EdgeSets, same_edge, no_edges, with_edge}
use Rattle.sheet.specs.declared.row.Event.{Event}
use Rattle.sheet.specs.declared.calls.Edge.{Edge}
use Rattle.sheet.specs.declared.calls.Edge.TheVariants.{ReadFrom, Order, Atomic, Depend}
use Rattle.execution.specs.declared.tie.Tie.TheVariants.{ProgramOrder}
use Rattle.execution.specs.Facts.{Facts, Sound, facts_of}
use Rattle.execution.specs.Joins.{Joins}
use Rattle.execution.proofs.Joining.{joins_tied, joins_none, joins_either}
use Rattle.model.specs.Meaning.{Meaning, Lawful, kind_at}
use Rattle.model.specs.declared.axiom_kind.AxiomKind.{AxiomKind}
use Rattle.model.specs.declared.axiom_kind.AxiomKind.TheVariants.{Acyclic, Irreflexive, Empty}
use Rattle.violation.specs.Violations.{Violation, Breaks}
use Rattle.completion.specs.Openings.{edge_of, added_first, added, open_pairs, completed}
use Rattle.completion.specs.Verdicts.{Violates, Consistent, BrokenBy, AllowedBy}
use Rattle.worked.proofs.Judging.{Inside, is_broken, is_witness, none_passes, unbroken, witnessed}

-- ---- the edges of a sheet

-- each edge joins events of the sheet
abbrev pub Edged : List Event → EdgeSets → Type 0
Edged es edges = (k : Edge) → Joins es (edges k)

pub edged_none : (es : List Event) → Edged es no_edges
unfolding no_edges
edged_none es k = joins_none es

joins_pair : (es : List Event) (i j : ℕ) → both_known es i j ≡ true → Joins es (pair i j)
joins_pair es i j h a b p =
    let q = pair_test i j a b p in
    subst (λ (v : ℕ). both_known es a v ≡ true) q.1 (subst (λ (u : ℕ). both_known es u j ≡ true) q.0 h)

pub edged : (es : List Event) (s : EdgeSets) (e : Edge) (i j : ℕ) → both_known es i j ≡ true → Edged es s → Edged es (with_edge s e i j)
unfolding with_edge
edged es s e i j h f k = go (same_edge e k)
  where
    go : (t : Bool) → Joins es (cond t (s k ∪ pair i j) (s k))
    go true = joins_either es (s k) (pair i j) (f k) (joins_pair es i j h)
    go false = f k

-- ---- the edges of a completion

-- some pair names an event that is not there
unfoldable pub strays : List Event → List (ℕ × ℕ) → Bool
strays es ps = some_below (length ps) (λ i. not (both_known es (get_or ps i (0, 0)).0 (get_or ps i (0, 0)).1))

joins_edge : (es : List Event) (p : ℕ × ℕ) (t : Bool) → both_known es p.0 p.1 ≡ true → Joins es (edge_of p t)
joins_edge es p true h a b e =
    let q = and_parts (eqb a p.1) (eqb b p.0) e in
    let k = and_parts (known es p.0) (known es p.1) h in
    and_from (known es a) (known es b) (ap (known es) (eqb-true a p.1 q.0) ∙ k.1) (ap (known es) (eqb-true b p.0 q.1) ∙ k.0)
joins_edge es p false h a b e =
    let q = and_parts (eqb a p.0) (eqb b p.1) e in
    let k = and_parts (known es p.0) (known es p.1) h in
    and_from (known es a) (known es b) (ap (known es) (eqb-true a p.0 q.0) ∙ k.0) (ap (known es) (eqb-true b p.1 q.1) ∙ k.1)

joins_added : (es : List Event) (ps : List (ℕ × ℕ)) (c : ℕ) → strays es ps ≡ false → Joins es (added ps c)
unfolding added_first strays
joins_added es ps c e a b h =
    let w = from_some (length ps) (λ i. edge_of (get_or ps i (0, 0)) (member c i) a b) h in
    let p : ℕ × ℕ = get_or ps w.0 (0, 0) in
    joins_edge es p (member c w.0)
    (⊎_elim (λ k. k)
    (λ k. absurd (none_passes (length ps) (λ i. not (both_known es (get_or ps i (0, 0)).0 (get_or ps i (0, 0)).1)) e w.0 w.1 (not_from_false _ k)))
    (cases_Bool (both_known es p.0 p.1)))
    a b w.2

-- ---- verdicts

pub sheet_sound : (b : Book) → Edged b.events b.edges → Sound (facts_of b)
sheet_sound b edges =
    record {
      po = joins_tied b.events b.threads ProgramOrder;
      rf = edges ReadFrom;
      order = edges Order;
      atomic = edges Atomic;
      depend = edges Depend;
    }

none_breaks : (k : AxiomKind) → Breaks k none → ⊥
unfolding none
none_breaks k h = go k h.0 h.1
  where
    go : (k : AxiomKind) (ws : List ℕ) → Violation k none ws → ⊥
    go Acyclic [] v = v
    go Acyclic (a ∷ []) v = true≢false (sym v)
    go Acyclic (a ∷ (b ∷ vs)) v = true≢false (sym v.0)
    go Irreflexive [] v = v
    go Irreflexive (a ∷ []) v = true≢false (sym v)
    go Irreflexive (a ∷ (b ∷ vs)) v = v
    go Empty [] v = v
    go Empty (a ∷ []) v = v
    go Empty (a ∷ (b ∷ [])) v = true≢false (sym v)
    go Empty (a ∷ (b ∷ (c ∷ vs))) v = v

module _ (m : Meaning) (b : Book) (c : ℕ) where
  -- the sheet under completion c
  abbrev pub under : Facts
  under = completed (facts_of b) (open_pairs m (facts_of b)) c

  -- at most 64 events, and open pairs of events of the sheet
  unfoldable pub is_small : Bool
  is_small = leb (length b.events) 64 && not (strays b.events (open_pairs m (facts_of b)))

  -- one of the axioms below i is violated
  unfoldable pub breaks_below : ℕ → Bool
  breaks_below i = some_below i (λ j. is_broken (kind_at m.kinds j) (length b.events) (m.relation under j))

  -- it violates none
  unfoldable pub is_consistent : Bool
  is_consistent = is_small && not (breaks_below (length m.kinds))

  -- of the axioms it violates i and none below, with this witness
  unfoldable pub is_broken_by : ℕ → List ℕ → Bool
  is_broken_by i ws = is_small && (not (breaks_below i) && is_witness (kind_at m.kinds i) (length b.events) (m.relation under i) ws)

  module _ (laws : Lawful m) (edges : Edged b.events b.edges) where
    sound : is_small ≡ true → Sound under
    unfolding is_small
    sound s =
        let e : strays b.events (open_pairs m (facts_of b)) ≡ false = not-true _ (and_parts (leb (length b.events) 64) _ s).1 in
        let f = sheet_sound b edges in
        record {
          po = f.po;
          rf = f.rf;
          order = joins_either b.events (b.edges Order) _ f.order (joins_added b.events (open_pairs m (facts_of b)) c e);
          atomic = f.atomic;
          depend = f.depend;
        }

    inside : is_small ≡ true → (j : ℕ) → Inside (length b.events) (m.relation under j)
    inside s j u v h =
        let k = and_parts (known b.events u) (known b.events v) (laws.among under (sound s) j u v h) in
        (ltb-true u (length b.events) k.0, ltb-true v (length b.events) k.1)

    none_below : (i : ℕ) → is_small ≡ true → breaks_below i ≡ false → (j : ℕ) → j < i → Violates m (facts_of b) c j → ⊥
    unfolding breaks_below is_small
    none_below i s e j l h =
        unbroken (length b.events) (leb-true _ 64 (and_parts (leb (length b.events) 64) _ s).0) (m.relation under j) (inside s j) (kind_at m.kinds j)
        (⊎_elim (λ t. absurd (none_passes i (λ j. is_broken (kind_at m.kinds j) (length b.events) (m.relation under j)) e j l t)) (λ f. f)
        (cases_Bool (is_broken (kind_at m.kinds j) (length b.events) (m.relation under j))))
        h

    pub consistent : is_consistent ≡ true → Consistent m (facts_of b) c
    unfolding is_consistent
    consistent t j h =
        let p = and_parts is_small (not (breaks_below (length m.kinds))) t in
        ⊎_elim (λ (l : j < length m.kinds). none_below (length m.kinds) p.0 (not-true _ p.1) j l h)
        (λ (l : length m.kinds ≤ j). none_breaks (kind_at m.kinds j) (subst (Breaks (kind_at m.kinds j)) (laws.past under j l) h))
        (cases_lt j (length m.kinds))

    pub broken_by : (i : ℕ) (ws : List ℕ) → is_broken_by i ws ≡ true → BrokenBy m (facts_of b) c i ws
    unfolding is_broken_by
    broken_by i ws t =
        let w = is_witness (kind_at m.kinds i) (length b.events) (m.relation under i) ws in
        let p = and_parts is_small (not (breaks_below i) && w) t in
        let q = and_parts (not (breaks_below i)) w p.1 in
        record {
          lower = none_below i p.0 (not-true _ q.0);
          witness = witnessed (length b.events) (m.relation under i) (inside p.0 i) (kind_at m.kinds i) ws q.1;
        }

-- a completion that violates one of the axioms is not consistent
pub refuted : (m : Meaning) (x : Facts) (c i : ℕ) (ws : List ℕ) → BrokenBy m x c i ws → Consistent m x c → ⊥
refuted m x c i ws h g = g i (ws, h.witness.violation)

-- a sheet whose completion 0 is consistent is allowed by it
pub allowed_first : (m : Meaning) (b : Book) → Lawful m → Edged b.events b.edges → is_consistent m b 0 ≡ true → AllowedBy m (facts_of b) 0
allowed_first m b laws edges t =
    record { completion = pow_pos (length (open_pairs m (facts_of b))); consistent = consistent m b 0 laws edges t; lower = λ d l. absurd (omega arith) }
