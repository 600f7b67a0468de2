-- Small sheets, and what the models say of them. Assumes nothing.
use Rattle.std.specs.Prelude.{◌≡◌, ℕ, true, false, List, [], ◌∷◌, None}
use Rattle.std.specs.List.{AllByRecursion}
use Rattle.relation.specs.Algebra.{range}
use Rattle.sheet.specs.Book.{Book, blank, after}
use Rattle.sheet.specs.Sets.{EdgeSets, no_edges, with_edge}
use Rattle.sheet.specs.declared.row.Event.{Event}
use Rattle.sheet.specs.declared.row.Thread.{Thread}
use Rattle.sheet.specs.declared.calls.Call.{Call}
use Rattle.sheet.specs.declared.calls.Edge.TheVariants.{ReadFrom, Order, Depend}
use Rattle.sheet.specs.declared.words.Kind.{Kind}
use Rattle.sheet.specs.declared.words.Kind.TheVariants.{Read, Write, ProxyFence}
use Rattle.sheet.specs.declared.words.Grade.TheVariants.{Weak, Acquire, Release}
use Rattle.sheet.specs.declared.words.Scope.{Scope}
use Rattle.sheet.specs.declared.words.Scope.TheVariants.{Thread as Own, Block, Device, System}
use Rattle.sheet.specs.declared.words.Proxy.{Proxy}
use Rattle.sheet.specs.declared.words.Proxy.TheVariants.{Generic, Constant, Texture}
use Rattle.execution.specs.Facts.{Facts, facts_of}
use Rattle.execution.specs.Words.{reads, writes, loc, co, fr}
use Rattle.model.specs.Meaning.{Meaning}
use Rattle.model.specs.View.{viewed}
use Rattle.completion.specs.Openings.{open_pairs}
use Rattle.completion.specs.Verdicts.{Completion, BrokenBy, AllowedBy, Impossible}
use Rattle.sc.specs.Sc.{sc_meaning}
use Rattle.ptx.specs.declared.flavour.Ptx.{Ptx}
use Rattle.ptx.specs.declared.flavour.Ptx.TheVariants.{Plain, WithProxies}
use Rattle.ptx.specs.Ptx.{strong, cause}
use Rattle.ptx.specs.Axioms.{ptx_meaning}

-- ---- models

abbrev pub plain : Meaning
plain = ptx_meaning Plain

abbrev pub proxies : Meaning
proxies = ptx_meaning WithProxies

-- ---- rows

-- three addresses: x, y and z
abbrev pub X : ℕ
X = 7

abbrev pub Y : ℕ
Y = 8

abbrev pub Z : ℕ
Z = 9

-- a thread of a block, on the one device
abbrev pub in_block : ℕ → Thread
in_block b = record { block = b; device = 0 }

-- a weak event: thread, kind, proxy, address and value
abbrev pub weakly : ℕ → Kind → Proxy → ℕ → ℕ → Event
weakly t k p a v = record { thread = t; kind = k; grade = Weak; scope = Own; proxy = p; address = a; value = v }

-- weak generic accesses: thread, address and value
abbrev pub write : ℕ → ℕ → ℕ → Event
write t a v = weakly t Write Generic a v

abbrev pub read : ℕ → ℕ → ℕ → Event
read t a v = weakly t Read Generic a v

abbrev pub constant_read : ℕ → ℕ → ℕ → Event
constant_read t a v = weakly t Read Constant a v

-- thread and proxy
abbrev pub proxy_fence : ℕ → Proxy → Event
proxy_fence t p = weakly t ProxyFence p 0 0

-- thread, scope, address and value
abbrev pub release : ℕ → Scope → ℕ → ℕ → Event
release t s a v = record { thread = t; kind = Write; grade = Release; scope = s; proxy = Generic; address = a; value = v }

abbrev pub acquire : ℕ → Scope → ℕ → ℕ → Event
acquire t s a v = record { thread = t; kind = Read; grade = Acquire; scope = s; proxy = Generic; address = a; value = v }

-- ---- sheets; in their descriptions a bar parts the threads

abbrev pub sheet : List Thread → List Event → EdgeSets → Book
sheet ts es edges = record { threads = ts; events = es; edges = edges; closed = true; trial = None }

abbrev pub one_thread : List Thread
one_thread = in_block 0 ∷ []

-- of different blocks
abbrev pub two_threads : List Thread
two_threads = in_block 0 ∷ in_block 1 ∷ []

-- no thread and no event
abbrev pub blank_sheet : Book
blank_sheet = sheet [] [] no_edges

-- W x 1, release W y 1 | acquire R y 1 from that, R x 0; at a scope
abbrev pub message : Scope → Book
message s = sheet two_threads (write 0 X 1 ∷ release 0 s Y 1 ∷ acquire 1 s Y 1 ∷ read 1 X 0 ∷ []) (with_edge no_edges ReadFrom 1 2)

-- W x 1 | W x 2
abbrev pub two_writes : Book
two_writes = sheet two_threads (write 0 X 1 ∷ write 1 X 2 ∷ []) no_edges

-- W x 1 | W x 2, R x 1 from the first
abbrev pub overwritten : Book
overwritten = sheet two_threads (write 0 X 1 ∷ write 1 X 2 ∷ read 1 X 1 ∷ []) (with_edge no_edges ReadFrom 0 2)

-- W x 1, constant R x 0, R x 1 from the write
abbrev pub stale : Book
stale = sheet one_thread (write 0 X 1 ∷ constant_read 0 X 0 ∷ read 0 X 1 ∷ []) (with_edge no_edges ReadFrom 0 2)

-- W x 1, proxy fence of a proxy, constant R x 0
abbrev pub fenced : Proxy → Book
fenced p = sheet one_thread (write 0 X 1 ∷ proxy_fence 0 p ∷ constant_read 0 X 0 ∷ []) no_edges

-- W x 1, W x 2; with some edges
abbrev pub in_a_row : EdgeSets → Book
in_a_row edges = sheet one_thread (write 0 X 1 ∷ write 0 X 2 ∷ []) edges

-- R x 1, W y 1 | R y 1, W x 1; with some edges
abbrev pub buffering : EdgeSets → Book
buffering edges = sheet two_threads (read 0 X 1 ∷ write 0 Y 1 ∷ read 1 Y 1 ∷ write 1 X 1 ∷ []) edges

-- each read from the other thread's write
abbrev pub crossed : EdgeSets
crossed = with_edge (with_edge no_edges ReadFrom 3 0) ReadFrom 1 2

-- the same, where each write depends on its thread's read
abbrev pub depending : EdgeSets
depending = with_edge (with_edge crossed Depend 0 1) Depend 2 3

-- W x 1, release W y 1, acquire R z 1, constant R x 0 | acquire R y 1, constant proxy fence, release W z 1: the fence lies between the write and
-- the constant read, in a thread of some block
abbrev pub fence_away : ℕ → Book
fence_away b =
    sheet (in_block 0 ∷ in_block b ∷ [])
    (write 0 X 1 ∷ release 0 Device Y 1 ∷ acquire 1 Device Y 1 ∷ proxy_fence 1 Constant ∷ release 1 Device Z 1 ∷ acquire 0 Device Z 1 ∷ constant_read 0 X 0 ∷ [])
    (with_edge (with_edge no_edges ReadFrom 1 2) ReadFrom 4 5)

-- W x 1 | W x 2, both threads of one block
abbrev pub in_one_block : Book
in_one_block = sheet (in_block 0 ∷ in_block 0 ∷ []) (write 0 X 1 ∷ write 1 X 2 ∷ []) no_edges

-- release W x 1 of block scope | acquire R x 1 from that, of system scope
abbrev pub one_sided : Book
one_sided = sheet two_threads (release 0 Block X 1 ∷ acquire 1 System X 1 ∷ []) (with_edge no_edges ReadFrom 0 1)

-- W x 1, W x 2, W x 3, ordered one after the other
abbrev pub chained : Book
chained = sheet one_thread (write 0 X 1 ∷ write 0 X 2 ∷ write 0 X 3 ∷ []) (with_edge (with_edge no_edges Order 0 1) Order 1 2)

-- W x 1 | W x 2, the second ordered first
abbrev pub ordered_apart : Book
ordered_apart = sheet two_threads (write 0 X 1 ∷ write 1 X 2 ∷ []) (with_edge no_edges Order 1 0)

abbrev pub all_sheets : List Book
all_sheets =
    blank_sheet ∷ message Device ∷ message Block ∷ two_writes ∷ overwritten ∷ stale ∷ fenced Constant ∷ in_a_row no_edges
    ∷ in_a_row (with_edge no_edges Order 1 0) ∷ buffering crossed ∷ buffering depending ∷ fence_away 0 ∷ fence_away 1 ∷ fenced Texture ∷ in_one_block
    ∷ one_sided ∷ chained ∷ ordered_apart ∷ []

-- the book that calls leave, one after the other
abbrev pub left_by : Book → List Call → Book
left_by b [] = b
left_by b (c ∷ cs) = left_by (after b c) cs

-- calls on a new sheet leave the book
abbrev pub Built : Book → Type 0
Built b = (cs : List Call) × (left_by blank cs ≡ b)

abbrev pub all_four : List ℕ
all_four = 0 ∷ 1 ∷ 2 ∷ 3 ∷ []

-- ---- what is true of them

pub record Worked : Type 0 where
  -- each can be built
  pub built : AllByRecursion Built all_sheets
  -- a blank sheet is allowed
  pub blank_sc : AllowedBy sc_meaning (facts_of blank_sheet) 0
  pub blank_ptx : AllowedBy plain (facts_of blank_sheet) 0
  pub blank_proxies : AllowedBy proxies (facts_of blank_sheet) 0
  pub blank_sc_viewed : AllowedBy (viewed sc_meaning) (facts_of blank_sheet) 0
  pub blank_ptx_viewed : AllowedBy (viewed plain) (facts_of blank_sheet) 0
  pub blank_proxies_viewed : AllowedBy (viewed proxies) (facts_of blank_sheet) 0
  -- a message passed at a scope that covers both threads, and at one that does not
  pub message_sc : BrokenBy sc_meaning (facts_of (message Device)) 0 0 all_four
  pub message_ptx : BrokenBy plain (facts_of (message Device)) 0 4 (3 ∷ [])
  pub message_in_block : AllowedBy plain (facts_of (message Block)) 0
  -- two writes of different blocks: PTX asks for no order, and has no completion 1
  pub two_writes_sc : open_pairs sc_meaning (facts_of two_writes) ≡ (0, 1) ∷ []
  pub two_writes_ptx : open_pairs plain (facts_of two_writes) ≡ []
  pub two_writes_ptx_one : Completion plain (facts_of two_writes) 1 → ⊥
  -- with a read of the first behind the second, the second comes first
  pub overwritten_sc : AllowedBy sc_meaning (facts_of overwritten) 1
  -- a constant read may be stale where proxies matter
  pub stale_sc : BrokenBy sc_meaning (facts_of stale) 0 0 (0 ∷ 1 ∷ [])
  pub stale_viewed : AllowedBy (viewed sc_meaning) (facts_of stale) 0
  pub stale_ptx : BrokenBy plain (facts_of stale) 0 1 (0 ∷ 1 ∷ [])
  pub stale_proxies : AllowedBy proxies (facts_of stale) 0
  -- a proxy fence of its proxy forbids it
  pub fenced_viewed : BrokenBy (viewed sc_meaning) (facts_of (fenced Constant)) 0 0 (0 ∷ 1 ∷ 2 ∷ [])
  pub fenced_proxies : BrokenBy proxies (facts_of (fenced Constant)) 0 4 (2 ∷ [])
  -- two writes of one thread, and the same with the opposite order given
  pub in_a_row_open : open_pairs plain (facts_of (in_a_row no_edges)) ≡ (0, 1) ∷ []
  pub in_a_row_ptx : AllowedBy plain (facts_of (in_a_row no_edges)) 0
  pub reversed_ptx : Impossible plain (facts_of (in_a_row (with_edge no_edges Order 1 0)))
  -- loads buffered, without and with dependencies
  pub buffering_ptx : AllowedBy plain (facts_of (buffering crossed)) 0
  pub depending_ptx : BrokenBy plain (facts_of (buffering depending)) 0 0 all_four
  -- Below: what is easily misread. No event causes itself where no chain leads back to it
  pub no_self_cause : (f : Ptx) (a : ℕ) → cause f (facts_of (message Device)) a a ≡ false
  -- a read without a source comes before every write of its address, of whichever thread and proxy
  pub without_source :
      (x : Facts) (r w : ℕ) → reads x r ≡ true → range x.rf r ≡ false → loc x r w ≡ true → writes x w ≡ true → fr x r w ≡ true
  -- a proxy fence counts in its own block, and not in another
  pub fence_beside : BrokenBy proxies (facts_of (fence_away 0)) 0 4 (6 ∷ [])
  pub fence_elsewhere : AllowedBy proxies (facts_of (fence_away 1)) 0
  -- nor does the fence of another proxy count
  pub texture_viewed : AllowedBy (viewed sc_meaning) (facts_of (fenced Texture)) 0
  pub texture_proxies : AllowedBy proxies (facts_of (fenced Texture)) 0
  -- weak events of different threads are not strong, even in one block
  pub weak_apart : strong Plain in_one_block.threads in_one_block.events 0 1 ≡ false
  -- each scope must cover the other's thread
  pub covered_once : strong Plain one_sided.threads one_sided.events 0 1 ≡ false
  -- a chain of order edges leaves its ends an open pair
  pub chain_open : open_pairs plain (facts_of chained) ≡ (0, 2) ∷ []
  -- an order edge counts where none is needed
  pub order_counts : (open_pairs plain (facts_of ordered_apart) ≡ []) × (co (facts_of ordered_apart) 1 0 ≡ true)
