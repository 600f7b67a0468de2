-- The worked sheets, by computing.
use Rattle.std.proofs.Common.{◌≡◌, ℕ, ◌<◌, true, false, not, ltb, List, [], ◌∷◌, refl, subst, inl, ⊎_elim, arith}
use Rattle.std.proofs.lemmas.Bool.{cases_Bool, and_from, and_parts, or_left, ltb-true, not_from_false}
use Rattle.closure.specs.Steps.{joining, walks}
use Rattle.relation.specs.Algebra.{some_below, single, either, both, except, upto, none, pair, range, range_below, plus, inverse, cut, ◌∪◌, ◌∩◌, ◌∖◌, ◌⨾◌, ◌◁◌, ◌▷◌}
use Rattle.relation.proofs.Laws.{in_union}
use Rattle.relation.specs.Bits.{member}
use Rattle.sheet.specs.Book.{both_known}
use Rattle.sheet.specs.Sets.{EdgeSets, no_edges, with_edge}
use Rattle.sheet.specs.declared.row.Event.{Event}
use Rattle.sheet.specs.declared.calls.Edge.TheVariants.{ReadFrom, Order, Depend}
use Rattle.sheet.specs.declared.words.Scope.{Scope}
use Rattle.sheet.specs.declared.words.Scope.TheVariants.{Block, Device}
use Rattle.sheet.specs.declared.words.Proxy.TheVariants.{Constant, Texture}
use Rattle.execution.specs.Classes.{those}
use Rattle.execution.specs.Facts.{Facts, facts_of}
use Rattle.execution.specs.Ties.{tied}
use Rattle.execution.specs.Words.{rivals, reads, writes, loc, co, fr, comm}
use Rattle.model.specs.Meaning.{Lawful}
use Rattle.model.specs.View.{viewed}
use Rattle.model.specs.Layers.{viewed_lawful}
use Rattle.completion.specs.Openings.{added_first, open_pairs}
use Rattle.completion.specs.Verdicts.{Completion, Consistent, BrokenBy, AllowedBy, Impossible}
use Rattle.sc.specs.Sc.{sc_meaning}
use Rattle.sc.specs.Laws.{sc_lawful}
use Rattle.ptx.specs.declared.flavour.Ptx.{Ptx}
use Rattle.ptx.specs.declared.flavour.Ptx.TheVariants.{Plain, WithProxies}
use Rattle.ptx.specs.Kept.{departs, lands, crosses, kept_of}
use Rattle.ptx.specs.Ptx.{starts, ends, sync_of, cause_of, product, fence_pairs, ptx_need, strong, cause}
use Rattle.ptx.specs.Axioms.{ptx_meaning}
use Rattle.ptx.specs.Laws.{ptx_lawful}
use Rattle.worked.specs.Sheets.{Worked, plain, proxies, blank_sheet, message, two_writes, overwritten, stale, fenced, in_a_row, crossed, buffering, depending, fence_away, in_one_block, one_sided, chained, ordered_apart, all_four}
use Rattle.worked.proofs.Building.{built}
use Rattle.worked.proofs.Judging.{is_broken, has_path, violates, not_after, some_list, is_witness, none_passes}
use Rattle.worked.proofs.Settling.{Edged, edged_none, edged, strays, is_small, breaks_below, is_consistent, is_broken_by, consistent, broken_by, sheet_sound, refuted, allowed_first}

-- all that computes
computing : ℕ
unfolding walks joining some_below single either both except upto none pair range_below plus inverse cut ◌∪◌ ◌∩◌ ◌∖◌ ◌⨾◌ ◌◁◌ ◌▷◌ member no_edges with_edge those tied rivals added_first departs lands crosses kept_of starts ends sync_of cause_of product fence_pairs ptx_need is_broken has_path violates not_after some_list is_witness strays is_small breaks_below is_consistent is_broken_by
computing = 0

sc_viewed_lawful : Lawful (viewed sc_meaning)
sc_viewed_lawful = viewed_lawful sc_meaning sc_lawful

-- ---- a blank sheet

blank_sc : AllowedBy sc_meaning (facts_of blank_sheet) 0
unfolding computing
blank_sc = allowed_first sc_meaning blank_sheet sc_lawful (edged_none []) refl

blank_ptx : (f : Ptx) → AllowedBy (ptx_meaning f) (facts_of blank_sheet) 0
unfolding computing
blank_ptx Plain = allowed_first plain blank_sheet (ptx_lawful Plain) (edged_none []) refl
blank_ptx WithProxies = allowed_first proxies blank_sheet (ptx_lawful WithProxies) (edged_none []) refl

blank_sc_viewed : AllowedBy (viewed sc_meaning) (facts_of blank_sheet) 0
unfolding computing
blank_sc_viewed = allowed_first (viewed sc_meaning) blank_sheet sc_viewed_lawful (edged_none []) refl

blank_ptx_viewed : (f : Ptx) → AllowedBy (viewed (ptx_meaning f)) (facts_of blank_sheet) 0
unfolding computing
blank_ptx_viewed Plain = allowed_first (viewed plain) blank_sheet (viewed_lawful plain (ptx_lawful Plain)) (edged_none []) refl
blank_ptx_viewed WithProxies = allowed_first (viewed proxies) blank_sheet (viewed_lawful proxies (ptx_lawful WithProxies)) (edged_none []) refl

-- ---- message passing

message_edged : (s : Scope) → Edged (message s).events (message s).edges
message_edged s = let es = (message s).events in edged es no_edges ReadFrom 1 2 refl (edged_none es)

message_sc : BrokenBy sc_meaning (facts_of (message Device)) 0 0 all_four
unfolding computing
message_sc = broken_by sc_meaning (message Device) 0 sc_lawful (message_edged Device) 0 all_four refl

message_ptx : BrokenBy plain (facts_of (message Device)) 0 4 (3 ∷ [])
unfolding computing
message_ptx = broken_by plain (message Device) 0 (ptx_lawful Plain) (message_edged Device) 4 (3 ∷ []) refl

message_in_block : AllowedBy plain (facts_of (message Block)) 0
unfolding computing
message_in_block = allowed_first plain (message Block) (ptx_lawful Plain) (message_edged Block) refl

-- ---- two writes in different blocks

two_writes_sc : open_pairs sc_meaning (facts_of two_writes) ≡ (0, 1) ∷ []
unfolding computing
two_writes_sc = refl

two_writes_ptx : open_pairs plain (facts_of two_writes) ≡ []
unfolding computing
two_writes_ptx = refl

two_writes_ptx_one : Completion plain (facts_of two_writes) 1 → ⊥
unfolding computing
two_writes_ptx_one l = omega arith

overwritten_edged : Edged overwritten.events overwritten.edges
overwritten_edged = let es = overwritten.events in edged es no_edges ReadFrom 0 2 refl (edged_none es)

overwritten_sc_zero : BrokenBy sc_meaning (facts_of overwritten) 0 0 (1 ∷ 2 ∷ [])
unfolding computing
overwritten_sc_zero = broken_by sc_meaning overwritten 0 sc_lawful overwritten_edged 0 (1 ∷ 2 ∷ []) refl

overwritten_sc : AllowedBy sc_meaning (facts_of overwritten) 1
unfolding computing
overwritten_sc =
    record {
      completion = omega arith;
      consistent = consistent sc_meaning overwritten 1 sc_lawful overwritten_edged refl;
      lower = λ d l.
          let e : 0 ≡ d = omega arith in
          subst (λ (d : ℕ). Consistent sc_meaning (facts_of overwritten) d → ⊥) e (refuted sc_meaning (facts_of overwritten) 0 0 (1 ∷ 2 ∷ []) overwritten_sc_zero);
    }

-- ---- a stale constant read

stale_edged : Edged stale.events stale.edges
stale_edged = let es = stale.events in edged es no_edges ReadFrom 0 2 refl (edged_none es)

stale_sc : BrokenBy sc_meaning (facts_of stale) 0 0 (0 ∷ 1 ∷ [])
unfolding computing
stale_sc = broken_by sc_meaning stale 0 sc_lawful stale_edged 0 (0 ∷ 1 ∷ []) refl

stale_viewed : AllowedBy (viewed sc_meaning) (facts_of stale) 0
unfolding computing
stale_viewed = allowed_first (viewed sc_meaning) stale sc_viewed_lawful stale_edged refl

stale_ptx : BrokenBy plain (facts_of stale) 0 1 (0 ∷ 1 ∷ [])
unfolding computing
stale_ptx = broken_by plain stale 0 (ptx_lawful Plain) stale_edged 1 (0 ∷ 1 ∷ []) refl

stale_proxies : AllowedBy proxies (facts_of stale) 0
unfolding computing
stale_proxies = allowed_first proxies stale (ptx_lawful WithProxies) stale_edged refl

-- ---- behind a proxy fence

fenced_viewed : BrokenBy (viewed sc_meaning) (facts_of (fenced Constant)) 0 0 (0 ∷ 1 ∷ 2 ∷ [])
unfolding computing
fenced_viewed = broken_by (viewed sc_meaning) (fenced Constant) 0 sc_viewed_lawful (edged_none (fenced Constant).events) 0 (0 ∷ 1 ∷ 2 ∷ []) refl

fenced_proxies : BrokenBy proxies (facts_of (fenced Constant)) 0 4 (2 ∷ [])
unfolding computing
fenced_proxies = broken_by proxies (fenced Constant) 0 (ptx_lawful WithProxies) (edged_none (fenced Constant).events) 4 (2 ∷ []) refl

texture_viewed : AllowedBy (viewed sc_meaning) (facts_of (fenced Texture)) 0
unfolding computing
texture_viewed = allowed_first (viewed sc_meaning) (fenced Texture) sc_viewed_lawful (edged_none (fenced Texture).events) refl

texture_proxies : AllowedBy proxies (facts_of (fenced Texture)) 0
unfolding computing
texture_proxies = allowed_first proxies (fenced Texture) (ptx_lawful WithProxies) (edged_none (fenced Texture).events) refl

away_edged : (b : ℕ) → Edged (fence_away b).events (fence_away b).edges
away_edged b =
    let es = (fence_away b).events in edged es (with_edge no_edges ReadFrom 1 2) ReadFrom 4 5 refl (edged es no_edges ReadFrom 1 2 refl (edged_none es))

fence_beside : BrokenBy proxies (facts_of (fence_away 0)) 0 4 (6 ∷ [])
unfolding computing
fence_beside = broken_by proxies (fence_away 0) 0 (ptx_lawful WithProxies) (away_edged 0) 4 (6 ∷ []) refl

fence_elsewhere : AllowedBy proxies (facts_of (fence_away 1)) 0
unfolding computing
fence_elsewhere = allowed_first proxies (fence_away 1) (ptx_lawful WithProxies) (away_edged 1) refl

-- ---- two writes of one thread

in_a_row_open : open_pairs plain (facts_of (in_a_row no_edges)) ≡ (0, 1) ∷ []
unfolding computing
in_a_row_open = refl

in_a_row_ptx : AllowedBy plain (facts_of (in_a_row no_edges)) 0
unfolding computing
in_a_row_ptx = allowed_first plain (in_a_row no_edges) (ptx_lawful Plain) (edged_none (in_a_row no_edges).events) refl

abbrev turned : EdgeSets
turned = with_edge no_edges Order 1 0

turned_edged : Edged (in_a_row turned).events turned
turned_edged = let es = (in_a_row turned).events in edged es no_edges Order 1 0 refl (edged_none es)

reversed_zero : BrokenBy plain (facts_of (in_a_row turned)) 0 1 (0 ∷ 1 ∷ [])
unfolding computing
reversed_zero = broken_by plain (in_a_row turned) 0 (ptx_lawful Plain) turned_edged 1 (0 ∷ 1 ∷ []) refl

reversed_ptx : Impossible plain (facts_of (in_a_row turned))
unfolding computing
reversed_ptx d l =
    let e : 0 ≡ d = omega arith in
    subst (λ (d : ℕ). Consistent plain (facts_of (in_a_row turned)) d → ⊥) e (refuted plain (facts_of (in_a_row turned)) 0 1 (0 ∷ 1 ∷ []) reversed_zero)

-- ---- load buffering

crossed_edged : (es : List Event) → both_known es 3 0 ≡ true → both_known es 1 2 ≡ true → Edged es crossed
crossed_edged es h k = edged es (with_edge no_edges ReadFrom 3 0) ReadFrom 1 2 k (edged es no_edges ReadFrom 3 0 h (edged_none es))

buffering_ptx : AllowedBy plain (facts_of (buffering crossed)) 0
unfolding computing
buffering_ptx = allowed_first plain (buffering crossed) (ptx_lawful Plain) (crossed_edged (buffering crossed).events refl refl) refl

depending_edged : Edged (buffering depending).events depending
depending_edged =
    let es = (buffering depending).events in
    edged es (with_edge crossed Depend 0 1) Depend 2 3 refl (edged es crossed Depend 0 1 refl (crossed_edged es refl refl))

depending_ptx : BrokenBy plain (facts_of (buffering depending)) 0 0 all_four
unfolding computing
depending_ptx = broken_by plain (buffering depending) 0 (ptx_lawful Plain) depending_edged 0 all_four refl

-- ---- what is easily misread

four_cause : (f : Ptx) → some_below 4 (λ a. cause f (facts_of (message Device)) a a) ≡ false
unfolding computing
four_cause Plain = refl
four_cause WithProxies = refl

no_self_cause : (f : Ptx) (a : ℕ) → cause f (facts_of (message Device)) a a ≡ false
no_self_cause f a = ⊎_elim (λ h. absurd (none_passes 4 (λ a. cause f x a a) (four_cause f) a (below h) h)) (λ h. h) (cases_Bool (cause f x a a))
  where
    x : Facts
    x = facts_of (message Device)

    below : cause f x a a ≡ true → a < 4
    below h =
        let k = (ptx_lawful f).among x (sheet_sound (message Device) (message_edged Device)) 4 a a (in_union (cause f x) (comm x ⨾ cause f x) a a (inl h)) in
        ltb-true a 4 (and_parts (ltb a 4) (ltb a 4) k).0

without_source : (x : Facts) (r w : ℕ) → reads x r ≡ true → range x.rf r ≡ false → loc x r w ≡ true → writes x w ≡ true → fr x r w ≡ true
unfolding ◌∪◌ ◌◁◌ ◌▷◌ except
without_source x r w hr hs hl hw =
    or_left _ _ (and_from _ (writes x w) (and_from _ (loc x r w) (and_from (reads x r) (not (range x.rf r)) hr (not_from_false (range x.rf r) hs)) hl) hw)

weak_apart : strong Plain in_one_block.threads in_one_block.events 0 1 ≡ false
unfolding computing
weak_apart = refl

covered_once : strong Plain one_sided.threads one_sided.events 0 1 ≡ false
unfolding computing
covered_once = refl

chain_open : open_pairs plain (facts_of chained) ≡ (0, 2) ∷ []
unfolding computing
chain_open = refl

order_counts : (open_pairs plain (facts_of ordered_apart) ≡ []) × (co (facts_of ordered_apart) 1 0 ≡ true)
unfolding computing
order_counts = (refl, refl)

pub worked : Worked
worked =
    record {
      built = built;
      blank_sc = blank_sc;
      blank_ptx = blank_ptx Plain;
      blank_proxies = blank_ptx WithProxies;
      blank_sc_viewed = blank_sc_viewed;
      blank_ptx_viewed = blank_ptx_viewed Plain;
      blank_proxies_viewed = blank_ptx_viewed WithProxies;
      message_sc = message_sc;
      message_ptx = message_ptx;
      message_in_block = message_in_block;
      two_writes_sc = two_writes_sc;
      two_writes_ptx = two_writes_ptx;
      two_writes_ptx_one = two_writes_ptx_one;
      overwritten_sc = overwritten_sc;
      stale_sc = stale_sc;
      stale_viewed = stale_viewed;
      stale_ptx = stale_ptx;
      stale_proxies = stale_proxies;
      fenced_viewed = fenced_viewed;
      fenced_proxies = fenced_proxies;
      in_a_row_open = in_a_row_open;
      in_a_row_ptx = in_a_row_ptx;
      reversed_ptx = reversed_ptx;
      buffering_ptx = buffering_ptx;
      depending_ptx = depending_ptx;
      no_self_cause = no_self_cause;
      without_source = without_source;
      fence_beside = fence_beside;
      fence_elsewhere = fence_elsewhere;
      texture_viewed = texture_viewed;
      texture_proxies = texture_proxies;
      weak_apart = weak_apart;
      covered_once = covered_once;
      chain_open = chain_open;
      order_counts = order_counts;
    }
