-- The facts that a closed sheet keeps, when an edge is laid and when one is taken out.
use Rattle.std.proofs.Common.{◌≡◌, ℕ, true, not, None, sym, ap, subst}
use Rattle.std.proofs.lemmas.Bool.{and_parts, and_from, not-false}
use Rattle.relation.proofs.Relations.{holds_first}
use Rattle.sheet.specs.declared.calls.Edge.{Edge}
use Rattle.sheet.specs.declared.calls.Call.TheVariants.{Lay}
use Rattle.sheet.specs.declared.closed.ClosedSheet.{ClosedSheet}
use Rattle.sheet.specs.declared.edges.Edges.{Edges}
use Rattle.sheet.specs.Book.{refusal, absent, cannot_carry, differ, there, known}
use Rattle.sheet.specs.Fitting.{EdgesFit, OneSource, OneWay, edge_fits}
use Rattle.sheet.specs.Rules.{carries}
use Rattle.sheet.specs.Sets.{laid, with_edge, without_edge}
use Rattle.sheet.specs.Sheets.{closed_book}
use Rattle.sheet.proofs.Laws.{passed}
use Rattle.sheet.proofs.OneEdge.{fit_laid, fit_undone, source_laid, source_undone, way_laid, way_undone, order_apart}

module _ (s : ClosedSheet) (e : Edge) (i j : ℕ) where
  -- an edge that is accepted fits
  accepted_fits : refusal (closed_book s) (Lay e i j) ≡ None → edge_fits (closed_book s).events e i j ≡ true
  unfolding absent cannot_carry differ edge_fits
  accepted_fits h =
      let es = (closed_book s).events in
      let p = passed (closed_book s) (Lay e i j) h in
      let k = and_parts (known es i) (known es j) (not-false _ p.0) in
      and_from _ _ k.0 (and_from _ _ k.1 (and_from _ _ (not-false (carries es e i j) p.3) (ap not p.4)))

  pub facts_laid : refusal (closed_book s) (Lay e i j) ≡ None → (t : Edges) → laid t ≡ with_edge (laid s.edges) e i j
      → record { edges_fit : EdgesFit (closed_book s).events (laid t); one_source : OneSource (laid t); one_way : OneWay (laid t) }
  unfolding cannot_carry there
  facts_laid h t q =
      let es = (closed_book s).events in
      let p = passed (closed_book s) (Lay e i j) h in
      record {
        edges_fit = subst (EdgesFit es) (sym q) (fit_laid es (laid s.edges) e i j s.edges_fit (accepted_fits h));
        one_source = subst OneSource (sym q) (source_laid (laid s.edges) e i j p.5 (λ x y r. holds_first s.edges.read_from x y r) s.one_source);
        one_way = subst OneWay (sym q) (way_laid (laid s.edges) e i j p.5 s.one_way (order_apart es e i j (not-false _ p.3)));
      }

  pub facts_undone : (t : Edges) → laid t ≡ without_edge (laid s.edges) e i j
      → record { edges_fit : EdgesFit (closed_book s).events (laid t); one_source : OneSource (laid t); one_way : OneWay (laid t) }
  facts_undone t q =
      let es = (closed_book s).events in
      record {
        edges_fit = subst (EdgesFit es) (sym q) (fit_undone es (laid s.edges) e i j s.edges_fit);
        one_source = subst OneSource (sym q) (source_undone (laid s.edges) e i j s.one_source);
        one_way = subst OneWay (sym q) (way_undone (laid s.edges) e i j s.one_way);
      }
