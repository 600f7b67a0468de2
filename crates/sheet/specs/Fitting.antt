-- Rows and edges that broke no rule when they came. Assumes nothing.
use Rattle.std.specs.Prelude.{◌≡◌, ℕ, ◌<◌, Bool, true, false, not, ◌&&◌, List, length, take, ◌==◌, nat_lt, slice_index_or}
use Rattle.sheet.specs.declared.row.Thread.{Thread}
use Rattle.sheet.specs.declared.row.Event.{Event}
use Rattle.sheet.specs.declared.calls.Edge.{Edge}
use Rattle.sheet.specs.declared.calls.Edge.TheVariants.{ReadFrom, Order}
use Rattle.sheet.specs.Rules.{thread_fits, lawful, carries, values_differ, no_thread, no_event}

-- a thread that fits behind those before it
unfoldable pub thread_comes : List Thread → Thread → Bool
thread_comes ts t = thread_fits ts t.block t.device

-- the address has 16 bits and the value 32
abbrev pub sized : Event → Bool
sized e = nat_lt e.address 65536 && nat_lt e.value 4294967296

-- a lawful event of one of n threads
unfoldable pub event_comes : ℕ → Event → Bool
event_comes n e = nat_lt e.thread n && (lawful e && sized e)

-- each of the first n threads fits behind those before it
abbrev pub ThreadsFit : List Thread → ℕ → Type 0
ThreadsFit ts n = (k : ℕ) → k < n → thread_comes (take k ts) (slice_index_or ts k no_thread) ≡ true

-- each of the first n events is lawful, and of one of m threads
abbrev pub EventsFit : ℕ → List Event → ℕ → Type 0
EventsFit m es n = (k : ℕ) → k < n → event_comes m (slice_index_or es k no_event) ≡ true

-- an edge between events that there are, which can carry it, values too
unfoldable pub edge_fits : List Event → Edge → ℕ → ℕ → Bool
edge_fits es e i j = nat_lt i (length es) && (nat_lt j (length es) && (carries es e i j && not (values_differ es e i j)))

-- each edge of the sets fits
abbrev pub EdgesFit : List Event → (Edge → ℕ → ℕ → Bool) → Type 0
EdgesFit es s = (p : Edge × ℕ × ℕ) → s p.0 p.1 p.2 ≡ true → edge_fits es p.0 p.1 p.2 ≡ true

-- a read has one source
abbrev pub OneSource : (Edge → ℕ → ℕ → Bool) → Type 0
OneSource s = (p : ℕ × ℕ × ℕ) → s ReadFrom p.0 p.2 ≡ true → s ReadFrom p.1 p.2 ≡ true → (p.0 == p.1) ≡ true

-- an order is given one way only
abbrev pub OneWay : (Edge → ℕ → ℕ → Bool) → Type 0
OneWay s = (i j : ℕ) → s Order i j ≡ true → s Order j i ≡ false
