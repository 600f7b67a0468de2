-- The words of events and their codes. Assumes nothing.
use Rattle.std.specs.Prelude.{ℕ, List, [], ◌∷◌, Option, slice_get}
use Rattle.sheet.specs.declared.words.Kind.{Kind}
use Rattle.sheet.specs.declared.words.Kind.TheVariants.{Read, Write, MemoryFence, ProxyFence}
use Rattle.sheet.specs.declared.words.Grade.{Grade}
use Rattle.sheet.specs.declared.words.Grade.TheVariants.{Weak, Relaxed, Acquire, Release, AcquireRelease, Sc}
use Rattle.sheet.specs.declared.words.Scope.{Scope}
use Rattle.sheet.specs.declared.words.Scope.TheVariants.{Thread, Block, Device, System}
use Rattle.sheet.specs.declared.words.Proxy.{Proxy}
use Rattle.sheet.specs.declared.words.Proxy.TheVariants.{Generic, Constant, Texture, Surface}

-- what stands at place n of a list
abbrev pub nth : {A : Type 0} → List A → ℕ → Option A
nth xs n = slice_get xs n

-- the words of each sort, in the order of their codes
abbrev pub kinds : List Kind
kinds = Read ∷ Write ∷ MemoryFence ∷ ProxyFence ∷ []

abbrev pub grades : List Grade
grades = Weak ∷ Relaxed ∷ Acquire ∷ Release ∷ AcquireRelease ∷ Sc ∷ []

abbrev pub scopes : List Scope
scopes = Thread ∷ Block ∷ Device ∷ System ∷ []

abbrev pub proxies : List Proxy
proxies = Generic ∷ Constant ∷ Texture ∷ Surface ∷ []

-- the code of a word
abbrev pub kind_code : Kind → ℕ
kind_code Read = 0
kind_code Write = 1
kind_code MemoryFence = 2
kind_code ProxyFence = 3

abbrev pub grade_code : Grade → ℕ
grade_code Weak = 0
grade_code Relaxed = 1
grade_code Acquire = 2
grade_code Release = 3
grade_code AcquireRelease = 4
grade_code Sc = 5

abbrev pub scope_code : Scope → ℕ
scope_code Thread = 0
scope_code Block = 1
scope_code Device = 2
scope_code System = 3

abbrev pub proxy_code : Proxy → ℕ
proxy_code Generic = 0
proxy_code Constant = 1
proxy_code Texture = 2
proxy_code Surface = 3
