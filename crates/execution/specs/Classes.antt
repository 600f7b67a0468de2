-- Sets of events by kind, grade and proxy. Assumes nothing.
use Rattle.std.specs.Prelude.{Bool, true, false, not, ◌&&◌, ◌||◌, List, length}
use Rattle.relation.specs.Algebra.{Set, upto}
use Rattle.sheet.specs.Rules.{at, is_read, is_write, is_sc_fence, generic}
use Rattle.sheet.specs.declared.row.Event.{Event}
use Rattle.sheet.specs.declared.words.Kind.TheVariants.{Read as ReadKind, Write as WriteKind, MemoryFence, ProxyFence as ProxyFenceKind}
use Rattle.sheet.specs.declared.words.Grade.{Grade}
use Rattle.sheet.specs.declared.words.Grade.TheVariants.{Weak, Relaxed, Acquire, Release, AcquireRelease, Sc}
use Rattle.execution.specs.declared.class.Class.{Class}
use Rattle.execution.specs.declared.class.Class.TheVariants.{Read, Write, Access, NonAccess, ReleaseWrite, AcquireRead, ReleaseFence, AcquireFence, ScFence, ProxyFence, Generic, NonGeneric}

-- grades that release: release, acquire-release and SC
abbrev pub releases : Grade → Bool
releases g = elim g [ Weak ↦ false | Relaxed ↦ false | Acquire ↦ false | Release ↦ true | AcquireRelease ↦ true | Sc ↦ true ]

-- grades that acquire: acquire, acquire-release and SC
abbrev pub acquires : Grade → Bool
acquires g = elim g [ Weak ↦ false | Relaxed ↦ false | Acquire ↦ true | Release ↦ false | AcquireRelease ↦ true | Sc ↦ true ]

abbrev pub is_memory_fence : Event → Bool
is_memory_fence e = elim e.kind [ ReadKind ↦ false | WriteKind ↦ false | MemoryFence ↦ true | ProxyFenceKind ↦ false ]

abbrev pub is_proxy_fence : Event → Bool
is_proxy_fence e = elim e.kind [ ReadKind ↦ false | WriteKind ↦ false | MemoryFence ↦ false | ProxyFenceKind ↦ true ]

-- whether an event is of a class; a write has no grade that releases but release, a read none that acquires but acquire
abbrev pub in_class : Class → Event → Bool
in_class Read e = is_read e
in_class Write e = is_write e
in_class Access e = is_read e || is_write e
in_class NonAccess e = not (is_read e || is_write e)
in_class ReleaseWrite e = is_write e && releases e.grade
in_class AcquireRead e = is_read e && acquires e.grade
in_class ReleaseFence e = is_memory_fence e && releases e.grade
in_class AcquireFence e = is_memory_fence e && acquires e.grade
in_class ScFence e = is_sc_fence e
in_class ProxyFence e = is_proxy_fence e
in_class Generic e = generic e.proxy
in_class NonGeneric e = not (generic e.proxy)

-- the events of a class
unfoldable pub those : List Event → Class → Set
those es c = upto (length es) (λ a. in_class c (at es a))
