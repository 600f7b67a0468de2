-- Relations that join events of a list only, and how the operators keep that.
use Rattle.std.proofs.Common.{◌≡◌, ℕ, true, not, ◌&&◌, ltb, List, length, ⊎_elim}
use Rattle.std.proofs.lemmas.Bool.{and_parts, and_from, false≢true}
use Rattle.closure.specs.Ways.{Chain, one, more}
use Rattle.relation.specs.Algebra.{Set, Rel, none, cut, upto, plus, ◌∪◌, ◌∩◌, ◌∖◌, ◌⨾◌, ◌◁◌, ◌▷◌}
use Rattle.relation.proofs.Laws.{of_union, of_then}
use Rattle.relation.proofs.Plus.{plus_chain}
use Rattle.sheet.specs.Book.{known, both_known}
use Rattle.sheet.specs.declared.row.Event.{Event}
use Rattle.sheet.specs.declared.row.Thread.{Thread}
use Rattle.sheet.specs.declared.calls.Edge.{Edge}
use Rattle.sheet.specs.declared.calls.Edge.TheVariants.{ReadFrom, Order, Atomic, Depend}
use Rattle.sheet.specs.Fitting.{edge_fits}
use Rattle.sheet.specs.Sets.{laid}
use Rattle.sheet.specs.Sheets.{closed_book}
use Rattle.execution.specs.declared.execution.Execution.{Execution}
use Rattle.execution.specs.declared.class.Class.{Class}
use Rattle.execution.specs.declared.class.Class.TheVariants.{Read, Write, ScFence}
use Rattle.execution.specs.declared.tie.Tie.{Tie}
use Rattle.execution.specs.declared.tie.Tie.TheVariants.{Location}
use Rattle.execution.specs.Classes.{those}
use Rattle.execution.specs.Joins.{Joins}
use Rattle.execution.specs.Facts.{Facts, facts, Sound}
use Rattle.execution.specs.Ties.{tied}
use Rattle.execution.specs.Words.{writes, loc, rivals, co, sc, near, near_unsourced, fr, comm}

module _ (es : List Event) where
  pub joins_cut : (p : Rel) → Joins es (cut (length es) p)
  unfolding cut
  joins_cut p a b h =
      let s = and_parts (ltb a (length es)) (ltb b (length es) && p a b) h in
      and_from (known es a) (known es b) s.0 (and_parts (ltb b (length es)) (p a b) s.1).0

  pub joins_tied : (ts : List Thread) (t : Tie) → Joins es (tied ts es t)
  unfolding tied
  joins_tied ts t = joins_cut _

  pub joins_none : Joins es none
  unfolding none
  joins_none a b h = absurd (false≢true h)

  pub joins_either : (r s : Rel) → Joins es r → Joins es s → Joins es (r ∪ s)
  joins_either r s f g a b h = ⊎_elim (f a b) (g a b) (of_union r s a b h)

  pub joins_both : (r s : Rel) → Joins es r → Joins es (r ∩ s)
  unfolding ◌∩◌
  joins_both r s f a b h = f a b (and_parts (r a b) (s a b) h).0

  pub joins_other : (r s : Rel) → Joins es s → Joins es (r ∩ s)
  unfolding ◌∩◌
  joins_other r s f a b h = f a b (and_parts (r a b) (s a b) h).1

  pub joins_except : (r s : Rel) → Joins es r → Joins es (r ∖ s)
  unfolding ◌∖◌
  joins_except r s f a b h = f a b (and_parts (r a b) (not (s a b)) h).0

  pub joins_from : (A : Set) (r : Rel) → Joins es r → Joins es (A ◁ r)
  unfolding ◌◁◌
  joins_from A r f a b h = f a b (and_parts (A a) (r a b) h).1

  pub joins_to : (A : Set) (r : Rel) → Joins es r → Joins es (r ▷ A)
  unfolding ◌▷◌
  joins_to A r f a b h = f a b (and_parts (r a b) (A b) h).0

  -- the first of one pair and the second of another
  ends : (a b c d : ℕ) → both_known es a b ≡ true → both_known es c d ≡ true → both_known es a d ≡ true
  ends a b c d p q = and_from (known es a) (known es d) (and_parts (known es a) (known es b) p).0 (and_parts (known es c) (known es d) q).1

  pub joins_then : (r s : Rel) → Joins es r → Joins es s → Joins es (r ⨾ s)
  joins_then r s f g a b h = let w = of_then r s a b h in ends a w.0 w.0 b (f a w.0 w.2) (g w.0 b w.3)

  chain_joins : (r : Rel) → Joins es r → {a b : ℕ} → Chain (λ i j. r i j ≡ true) 64 a b → both_known es a b ≡ true
  chain_joins r f (one {i = i} {j = j} h) = f i j h
  chain_joins r f {b = b} (more {i = i} {m = k} l h c) = ends i k k b (f i k h) (chain_joins r f c)

  pub joins_plus : (r : Rel) → Joins es r → Joins es (plus r)
  joins_plus r f a b h = chain_joins r f (plus_chain r a b h)

  -- a relation between sets of events
  pub joins_those : (c d : Class) (r : Rel) → Joins es (those es c ◁ r ▷ those es d)
  unfolding those upto ◌◁◌ ◌▷◌
  joins_those c d r a b h =
      let p = and_parts (those es c a && r a b) (those es d b) h in
      and_from (known es a) (known es b) (and_parts (known es a) _ (and_parts (those es c a) (r a b) p.0).0).0 (and_parts (known es b) _ p.1).0

  pub joins_rivals : (ts : List Thread) → Joins es (rivals ts es)
  unfolding rivals
  joins_rivals ts = joins_except _ _ (joins_those Write Write _)

-- ---- the shared words

module _ (x : Facts) where
  pub joins_co : Joins x.events (co x)
  joins_co = joins_those x.events Write Write x.order

  pub joins_sc : Joins x.events (sc x)
  joins_sc = joins_those x.events ScFence ScFence x.order

  pub joins_near : Joins x.events (near x)
  joins_near = joins_those x.events Read Write (loc x)

  pub joins_fr : Joins x.events (fr x)
  joins_fr =
      let es = x.events in
      joins_either es (near_unsourced x) _
      (joins_to es (writes x) _ (joins_from es _ (loc x) (joins_tied es x.threads Location)))
      (joins_both es (near x) _ joins_near)

  pub joins_comm : Joins x.events x.rf → Joins x.events (comm x)
  joins_comm f =
      let es = x.events in
      joins_either es (x.rf ∪ fr x) (plus (co x)) (joins_either es x.rf (fr x) f joins_fr) (joins_plus es (co x) joins_co)

-- ---- every execution

pub execution_sound : (x : Execution) → Sound (facts x)
unfolding edge_fits
execution_sound x = record { po = x.within; rf = edge ReadFrom; order = edge Order; atomic = edge Atomic; depend = edge Depend }
  where
    es : List Event
    es = (closed_book x.sheet.now).events

    edge : (e : Edge) → Joins es (laid x.sheet.now.edges e)
    edge e a b h =
        let s = and_parts (ltb a (length es)) _ (x.sheet.now.edges_fit (e, a, b) h) in
        and_from (known es a) (known es b) s.0 (and_parts (ltb b (length es)) _ s.1).0
