-- The relations of PTX, plain and with proxies. Assumes nothing.
use Rattle.std.specs.Prelude.{◌&&◌, List}
use Rattle.relation.specs.Algebra.{Set, Rel, plus, ◌∪◌, ◌∩◌, ◌∖◌, ◌⨾◌, ◌◁◌, ◌▷◌}
use Rattle.sheet.specs.declared.row.Event.{Event}
use Rattle.sheet.specs.declared.row.Thread.{Thread}
use Rattle.execution.specs.declared.class.Class.TheVariants.{Read, Write, ReleaseWrite, AcquireRead, ReleaseFence, AcquireFence, ScFence}
use Rattle.execution.specs.declared.tie.Tie.TheVariants.{Location, Strong, SameProxy, Itself}
use Rattle.execution.specs.Classes.{those}
use Rattle.execution.specs.Facts.{Facts}
use Rattle.execution.specs.Ties.{tied}
use Rattle.execution.specs.Words.{rivals, sc}
use Rattle.ptx.specs.declared.flavour.Ptx.{Ptx}
use Rattle.ptx.specs.declared.flavour.Ptx.TheVariants.{Plain, WithProxies}
use Rattle.ptx.specs.Kept.{kept}

-- ---- where the two differ

-- the pairs; with proxies, those of one proxy
abbrev pub narrowed : Ptx → List Thread → List Event → Rel → Rel
narrowed Plain ts es r = r
narrowed WithProxies ts es r = r ∩ tied ts es SameProxy

-- strong pairs; with proxies, of one proxy
abbrev pub strong : Ptx → List Thread → List Event → Rel
strong f ts es = narrowed f ts es (tied ts es Strong)

-- program order within one location; with proxies, of one proxy
abbrev pub po_within_loc : Ptx → List Thread → List Event → Rel → Rel
po_within_loc f ts es po = narrowed f ts es (po ∩ tied ts es Location)

abbrev pub poloc : Ptx → Facts → Rel
poloc f x = po_within_loc f x.threads x.events x.po

-- the base pairs that causality uses; with proxies, the kept ones
abbrev pub counted : Ptx → List Thread → List Event → Rel → Rel
counted Plain ts es base = base
counted WithProxies ts es base = kept ts es base

-- ---- what they share, over strong and poloc

-- an event with itself, for the events of a set
abbrev pub each : List Thread → List Event → Set → Rel
each ts es a = a ◁ tied ts es Itself

-- a release write starts at itself and at later writes of its location, a release fence at every later event of its thread
unfoldable pub starts : List Thread → List Event → Rel → Rel → Rel
starts ts es po poloc = each ts es (those es ReleaseWrite) ∪ (those es ReleaseWrite ◁ poloc ▷ those es Write) ∪ (those es ReleaseFence ◁ po)

-- at an acquire read end itself and earlier reads of its location, at an acquire fence every earlier event of its thread
unfoldable pub ends : List Thread → List Event → Rel → Rel → Rel
ends ts es po poloc = each ts es (those es AcquireRead) ∪ (those es Read ◁ poloc ▷ those es AcquireRead) ∪ (po ▷ those es AcquireFence)

-- observation, of strong pairs
abbrev pub obs : Ptx → Facts → Rel
obs f x = strong f x.threads x.events ∩ (x.rf ∪ x.atomic)

-- synchronisation: a strong pair of a start and an end, with observation from the one to the other
unfoldable pub sync_of : Rel → Rel → Rel → Rel → Rel
sync_of strong starts seen ends = strong ∩ (starts ⨾ seen ⨾ ends)

abbrev pub sync : Ptx → Facts → Rel
sync f x =
    sync_of (strong f x.threads x.events) (starts x.threads x.events x.po (poloc f x)) (plus (obs f x))
    (ends x.threads x.events x.po (poloc f x))

-- base causality order
abbrev pub base : Ptx → Facts → Rel
base f x = plus (x.po ∪ sync f x ∪ sc x)

-- causality order, over what is observed and the base pairs that count
unfoldable pub cause_of : Rel → Rel → Rel
cause_of seen b = b ∪ (seen ⨾ b)

abbrev pub cause : Ptx → Facts → Rel
cause f x = cause_of (plus (obs f x)) (counted f x.threads x.events (base f x))

-- ---- which pairs need an order

unfoldable pub product : Set → Set → Rel
product a b i j = a i && b j

-- different SC fences
unfoldable pub fence_pairs : List Thread → List Event → Rel
fence_pairs ts es = product (those es ScFence) (those es ScFence) ∖ tied ts es Itself

-- strong pairs of different writes to one address, or of different SC fences
unfoldable pub ptx_need : Ptx → List Thread → List Event → Rel
ptx_need f ts es = (rivals ts es ∪ fence_pairs ts es) ∩ strong f ts es
