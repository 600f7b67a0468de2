-- The calls that leave each sheet.
use Rattle.std.proofs.Common.{◌≡◌, List, [], ◌∷◌, ◌++◌, map, refl}
use Rattle.std.specs.List.{AllByRecursion}
use Rattle.relation.specs.Algebra.{some_below, single, none, pair, range_below, ◌∪◌}
use Rattle.sheet.specs.Book.{Book, blank, absent, full, bad_field, cannot_carry, differ, there, refusal, accepted, after}
use Rattle.sheet.specs.Rules.{thread_fits, lawful, decoded, fields_fit, event_of, can_read_from, can_order, can_depend, carries, values_differ}
use Rattle.sheet.specs.Sets.{no_edges, with_edge, given_in}
use Rattle.sheet.specs.Words.{kind_code, grade_code, scope_code, proxy_code}
use Rattle.sheet.specs.declared.words.Scope.TheVariants.{Block, Device}
use Rattle.sheet.specs.declared.words.Proxy.TheVariants.{Constant, Texture}
use Rattle.sheet.specs.declared.row.Event.{Event}
use Rattle.sheet.specs.declared.row.Fields.{Fields}
use Rattle.sheet.specs.declared.row.Thread.{Thread}
use Rattle.sheet.specs.declared.calls.Call.{Call}
use Rattle.sheet.specs.declared.calls.Call.TheVariants.{Thread as AddThread, Event as AddEvent, Close, Lay}
use Rattle.sheet.specs.declared.calls.Edge.TheVariants.{ReadFrom, Order, Depend}
use Rattle.worked.specs.Sheets.{Built, left_by, all_sheets, blank_sheet, message, two_writes, overwritten, stale, fenced, in_a_row, crossed, buffering, depending, fence_away, in_one_block, one_sided, chained, ordered_apart}

infixr 20 ◌also◌
fields_of : Event → Fields
fields_of e =
    record {
      thread = e.thread;
      kind = kind_code e.kind;
      grade = grade_code e.grade;
      scope = scope_code e.scope;
      proxy = proxy_code e.proxy;
      address = e.address;
      value = e.value;
    }

-- its rows, and then its edges
rows_then : Book → List Call → List Call
rows_then b edges =
    map (λ (t : Thread). AddThread t.block t.device) b.threads ++ (map (λ (e : Event). AddEvent (fields_of e)) b.events ++ (Close ∷ edges))

◌also◌ : {A B : Type 0} → A → B → A × B
◌also◌ a b = (a, b)

by : (b : Book) (edges : List Call) → left_by blank (rows_then b edges) ≡ b → Built b
by b edges e = (rows_then b edges, e)

pub built : AllByRecursion Built all_sheets
unfolding fields_of rows_then some_below single none pair range_below ◌∪◌ absent full bad_field cannot_carry differ there refusal accepted after thread_fits lawful decoded fields_fit event_of can_read_from can_order can_depend carries values_differ no_edges with_edge given_in
built =
    by blank_sheet [] refl
    also by (message Device) (Lay ReadFrom 1 2 ∷ []) refl
    also by (message Block) (Lay ReadFrom 1 2 ∷ []) refl
    also by two_writes [] refl
    also by overwritten (Lay ReadFrom 0 2 ∷ []) refl
    also by stale (Lay ReadFrom 0 2 ∷ []) refl
    also by (fenced Constant) [] refl
    also by (in_a_row no_edges) [] refl
    also by (in_a_row (with_edge no_edges Order 1 0)) (Lay Order 1 0 ∷ []) refl
    also by (buffering crossed) (Lay ReadFrom 3 0 ∷ Lay ReadFrom 1 2 ∷ []) refl
    also by (buffering depending) (Lay ReadFrom 3 0 ∷ Lay ReadFrom 1 2 ∷ Lay Depend 0 1 ∷ Lay Depend 2 3 ∷ []) refl
    also by (fence_away 0) (Lay ReadFrom 1 2 ∷ Lay ReadFrom 4 5 ∷ []) refl
    also by (fence_away 1) (Lay ReadFrom 1 2 ∷ Lay ReadFrom 4 5 ∷ []) refl
    also by (fenced Texture) [] refl
    also by in_one_block [] refl
    also by one_sided (Lay ReadFrom 0 1 ∷ []) refl
    also by chained (Lay Order 0 1 ∷ Lay Order 1 2 ∷ []) refl
    also by ordered_apart (Lay Order 1 0 ∷ []) refl
    also tt
