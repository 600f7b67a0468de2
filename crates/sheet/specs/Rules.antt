-- Which rows and which edges a sheet may have. Assumes nothing.
use Rattle.std.specs.Prelude.{ℕ, Bool, true, false, not, ◌&&◌, ◌||◌, List, Some, None, Option, ◌==◌, nat_lt, slice_index_or}
use Rattle.std.specs.List.{list_all}
use Rattle.relation.specs.Algebra.{some_below}
use Rattle.sheet.specs.declared.words.Kind.{Kind}
use Rattle.sheet.specs.declared.words.Kind.TheVariants.{Read, Write, MemoryFence, ProxyFence}
use Rattle.sheet.specs.declared.words.Grade.{Grade}
use Rattle.sheet.specs.declared.words.Grade.TheVariants.{Weak, Relaxed, Acquire, Release, AcquireRelease, Sc}
use Rattle.sheet.specs.declared.words.Scope.{Scope}
use Rattle.sheet.specs.declared.words.Scope.TheVariants.{Thread as Own, Block, Device, System}
use Rattle.sheet.specs.declared.words.Proxy.{Proxy}
use Rattle.sheet.specs.declared.words.Proxy.TheVariants.{Generic, Constant, Texture, Surface}
use Rattle.sheet.specs.declared.row.Thread.{Thread}
use Rattle.sheet.specs.declared.row.Event.{Event}
use Rattle.sheet.specs.declared.row.Fields.{Fields}
use Rattle.sheet.specs.declared.calls.Edge.{Edge}
use Rattle.sheet.specs.declared.calls.Edge.TheVariants.{ReadFrom, Order, Atomic, Depend}
use Rattle.sheet.specs.Words.{nth, kinds, grades, scopes, proxies}

-- ---- threads

-- whether each element passes
abbrev pub every : {A : Type 0} → (A → Bool) → List A → Bool
every p xs = list_all p xs

-- a block lies on one device
abbrev pub agrees : ℕ → ℕ → Thread → Bool
agrees block device t = not (t.block == block) || t.device == device

-- a thread that may come behind the threads ts: block 0 to 15, device 0 to 3
unfoldable pub thread_fits : List Thread → ℕ → ℕ → Bool
thread_fits ts block device = nat_lt block 16 && (nat_lt device 4 && every (agrees block device) ts)

-- ---- words

abbrev pub weak : Grade → Bool
weak Weak = true
weak Relaxed = false
weak Acquire = false
weak Release = false
weak AcquireRelease = false
weak Sc = false

abbrev pub own : Scope → Bool
own Own = true
own Block = false
own Device = false
own System = false

abbrev pub generic : Proxy → Bool
generic Generic = true
generic Constant = false
generic Texture = false
generic Surface = false

abbrev pub surface : Proxy → Bool
surface Generic = false
surface Constant = false
surface Texture = false
surface Surface = true

-- the grades of each kind
abbrev pub grade_fits : Kind → Grade → Bool
grade_fits Read g = elim g [ Weak ↦ true | Relaxed ↦ true | Acquire ↦ true | Release ↦ false | AcquireRelease ↦ false | Sc ↦ false ]
grade_fits Write g = elim g [ Weak ↦ true | Relaxed ↦ true | Acquire ↦ false | Release ↦ true | AcquireRelease ↦ false | Sc ↦ false ]
grade_fits MemoryFence g = elim g [ Weak ↦ false | Relaxed ↦ false | Acquire ↦ true | Release ↦ true | AcquireRelease ↦ true | Sc ↦ true ]
grade_fits ProxyFence g = weak g

-- weak has scope thread, any other grade a wider one
abbrev pub scope_fits : Grade → Scope → Bool
scope_fits Weak s = own s
scope_fits Relaxed s = not (own s)
scope_fits Acquire s = not (own s)
scope_fits Release s = not (own s)
scope_fits AcquireRelease s = not (own s)
scope_fits Sc s = not (own s)

-- the proxies of each kind; a read or a write that is not generic is weak
abbrev pub proxy_fits : Kind → Grade → Proxy → Bool
proxy_fits Read g p = generic p || weak g
proxy_fits Write g p = generic p || (surface p && weak g)
proxy_fits MemoryFence g p = generic p
proxy_fits ProxyFence g p = not (generic p)

-- fences have address 0 and value 0
abbrev pub contents_fit : Kind → ℕ → ℕ → Bool
contents_fit Read a v = true
contents_fit Write a v = true
contents_fit MemoryFence a v = a == 0 && v == 0
contents_fit ProxyFence a v = a == 0 && v == 0

-- ---- events

unfoldable pub lawful : Event → Bool
lawful e =
    grade_fits e.kind e.grade
    && (scope_fits e.grade e.scope && (proxy_fits e.kind e.grade e.proxy && contents_fit e.kind e.address e.value))

abbrev pub bind : {A B : Type 0} → Option A → (A → Option B) → Option B
bind None f = None
bind (Some x) f = f x

-- the event that fields stand for, if each code is one
unfoldable pub decoded : Fields → Option Event
decoded f =
    bind (nth kinds f.kind) (λ k. bind (nth grades f.grade) (λ g. bind (nth scopes f.scope) (λ s. bind (nth proxies f.proxy) (λ p.
    Some (record { thread = f.thread; kind = k; grade = g; scope = s; proxy = p; address = f.address; value = f.value })))))

abbrev pub keeps : Event → Option Event → Bool
keeps d None = false
keeps d (Some e) = lawful e

abbrev pub no_event : Event
no_event = record { thread = 0; kind = Read; grade = Weak; scope = Own; proxy = Generic; address = 0; value = 0 }

abbrev pub no_thread : Thread
no_thread = record { block = 0; device = 0 }

-- fields that break no rule, and the event they are
unfoldable pub fields_fit : Fields → Bool
fields_fit f = keeps no_event (decoded f)

abbrev pub or_none : Option Event → Event
or_none None = no_event
or_none (Some e) = e

unfoldable pub event_of : Fields → Event
event_of f = or_none (decoded f)

-- ---- edges

-- event i of a list
abbrev pub at : List Event → ℕ → Event
at es i = slice_index_or es i no_event

abbrev pub is_read : Event → Bool
is_read e = elim e.kind [ Read ↦ true | Write ↦ false | MemoryFence ↦ false | ProxyFence ↦ false ]

abbrev pub is_write : Event → Bool
is_write e = elim e.kind [ Read ↦ false | Write ↦ true | MemoryFence ↦ false | ProxyFence ↦ false ]

abbrev pub is_sc : Grade → Bool
is_sc g = elim g [ Weak ↦ false | Relaxed ↦ false | Acquire ↦ false | Release ↦ false | AcquireRelease ↦ false | Sc ↦ true ]

-- a memory fence of grade SC
abbrev pub is_sc_fence : Event → Bool
is_sc_fence e = elim e.kind [ Read ↦ false | Write ↦ false | MemoryFence ↦ is_sc e.grade | ProxyFence ↦ false ]

abbrev pub same_scope : Scope → Scope → Bool
same_scope Own s = own s
same_scope Block s = elim s [ Own ↦ false | Block ↦ true | Device ↦ false | System ↦ false ]
same_scope Device s = elim s [ Own ↦ false | Block ↦ false | Device ↦ true | System ↦ false ]
same_scope System s = elim s [ Own ↦ false | Block ↦ false | Device ↦ false | System ↦ true ]

abbrev pub same_address : Event → Event → Bool
same_address e f = e.address == f.address

abbrev pub same_thread : Event → Event → Bool
same_thread e f = e.thread == f.thread

-- a write and a read of one address
unfoldable pub can_read_from : Event → Event → Bool
can_read_from w r = is_write w && (is_read r && same_address w r)

-- two writes of one address, or two SC fences
unfoldable pub can_order : Event → Event → Bool
can_order e f = (is_write e && (is_write f && same_address e f)) || (is_sc_fence e && is_sc_fence f)

-- a read and a write of one address, both generic and of equal scope
unfoldable pub can_join : Event → Event → Bool
can_join r w = is_read r && (is_write w && (same_address r w && (generic r.proxy && (generic w.proxy && same_scope r.scope w.scope))))

-- a read, and an event of its thread
unfoldable pub can_depend : Event → Event → Bool
can_depend r e = is_read r && same_thread r e

-- no event of i's thread lies between i and j, and j is the next
unfoldable pub is_next : List Event → ℕ → ℕ → Bool
is_next es i j =
    nat_lt i j && (same_thread (at es i) (at es j) && not (some_below j (λ k. nat_lt i k && same_thread (at es i) (at es k))))

-- whether events i and j can carry an edge, values apart
unfoldable pub carries : List Event → Edge → ℕ → ℕ → Bool
carries es ReadFrom i j = can_read_from (at es i) (at es j)
carries es Order i j = not (i == j) && can_order (at es i) (at es j)
carries es Atomic i j = can_join (at es i) (at es j) && is_next es i j
carries es Depend i j = can_depend (at es i) (at es j) && nat_lt i j

-- whether the values of source and read differ
unfoldable pub values_differ : List Event → Edge → ℕ → ℕ → Bool
values_differ es ReadFrom i j = not ((at es i).value == (at es j).value)
values_differ es Order i j = false
values_differ es Atomic i j = false
values_differ es Depend i j = false
