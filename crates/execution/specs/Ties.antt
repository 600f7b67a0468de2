-- Relations between events by their rows. Assumes nothing.
use Rattle.std.specs.Prelude.{ℕ, Bool, true, false, ◌&&◌, ◌||◌, List, length, ◌==◌, nat_lt, slice_index_or}
use Rattle.relation.specs.Algebra.{Rel, cut}
use Rattle.sheet.specs.Rules.{at, is_read, is_write, same_address, same_thread, no_thread}
use Rattle.sheet.specs.declared.row.Event.{Event}
use Rattle.sheet.specs.declared.row.Thread.{Thread}
use Rattle.sheet.specs.declared.words.Scope.TheVariants.{Thread as Own, Block, Device, System}
use Rattle.sheet.specs.declared.words.Proxy.{Proxy}
use Rattle.sheet.specs.declared.words.Proxy.TheVariants.{Generic, Constant, Texture, Surface}
use Rattle.execution.specs.declared.tie.Tie.{Tie}
use Rattle.execution.specs.declared.tie.Tie.TheVariants.{ProgramOrder, Location, Strong, SameProxy, SameBlock, Itself}

-- the thread of an event
abbrev pub thread_of : List Thread → Event → Thread
thread_of ts e = slice_index_or ts e.thread no_thread

abbrev pub same_block : List Thread → Event → Event → Bool
same_block ts e f = (thread_of ts e).block == (thread_of ts f).block

abbrev pub same_device : List Thread → Event → Event → Bool
same_device ts e f = (thread_of ts e).device == (thread_of ts f).device

-- the scope of e covers the thread of f: its own thread, block, device, or all threads
abbrev pub covers : List Thread → Event → Event → Bool
covers ts e f = elim e.scope [ Own ↦ same_thread e f | Block ↦ same_block ts e f | Device ↦ same_device ts e f | System ↦ true ]

abbrev pub same_proxy : Proxy → Proxy → Bool
same_proxy Generic p = elim p [ Generic ↦ true | Constant ↦ false | Texture ↦ false | Surface ↦ false ]
same_proxy Constant p = elim p [ Generic ↦ false | Constant ↦ true | Texture ↦ false | Surface ↦ false ]
same_proxy Texture p = elim p [ Generic ↦ false | Constant ↦ false | Texture ↦ true | Surface ↦ false ]
same_proxy Surface p = elim p [ Generic ↦ false | Constant ↦ false | Texture ↦ false | Surface ↦ true ]

abbrev pub is_access : Event → Bool
is_access e = is_read e || is_write e

-- whether event a, which is e, has a tie to event b, which is f
abbrev pub ties : Tie → List Thread → ℕ → Event → ℕ → Event → Bool
ties ProgramOrder ts a e b f = nat_lt a b && same_thread e f
ties Location ts a e b f = is_access e && (is_access f && same_address e f)
ties Strong ts a e b f = covers ts e f && covers ts f e
ties SameProxy ts a e b f = same_proxy e.proxy f.proxy
ties SameBlock ts a e b f = same_block ts e f
ties Itself ts a e b f = a == b

-- the pairs of events with a tie
unfoldable pub tied : List Thread → List Event → Tie → Rel
tied ts es t = cut (length es) (λ a b. ties t ts a (at es a) b (at es b))
