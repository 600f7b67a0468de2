-- What a reader has before it, and how it moves. Assumes nothing.
use Rattle.std.specs.Prelude.{◌≡◌, ℕ, ◌+◌, List, drop, Some, None, Ok, Err, Option, Result}
use Rattle.records.specs.declared.fault.Cause.{Cause}
use Rattle.records.specs.declared.fault.Fault.{Fault}
use Rattle.records.specs.declared.mark.Record.{Record}
use Rattle.records.specs.declared.mark.Phase.{Phase}
use Rattle.records.specs.declared.mark.Phase.TheVariants.{Rows}
use Rattle.records.specs.declared.reader.Reader.{Reader}
use Rattle.records.specs.Format.{size, leads}
use Rattle.records.specs.Grammar.{Next, item}

-- the bytes that are left
abbrev pub rest : Reader → List ℕ
rest r = drop r.at r.file.now

-- a reader at the start of the file
abbrev pub Fresh : List ℕ → Reader → Type 0
Fresh bs r = (r.file.now ≡ bs) × (r.at ≡ 0) × (r.phase ≡ Rows)

-- what is found at the reader's place, and the phase behind it
abbrev pub Ahead : Reader → Result (Option (Record × Phase)) Cause → Type 0
Ahead r (Ok None) = Next r.phase (rest r) (Ok None)
Ahead r (Ok (Some x)) = Next r.phase (rest r) (Ok (Some (item x.0))) × (x.0.place ≡ r.at) × (leads r.phase x.0.mark ≡ Some x.1)
Ahead r (Err c) = Next r.phase (rest r) (Err c)

-- a record and a fault have the place where the record was due
abbrev pub Placed : ℕ → Result (Option Record) Fault → Type 0
Placed at (Ok None) = Unit {0}
Placed at (Ok (Some r)) = r.place ≡ at
Placed at (Err f) = f.place ≡ at

-- the reader steps over a record, into the phase behind it, and else stays
abbrev pub Moved : Reader → Result (Option Record) Fault → Reader → Type 0
Moved a (Ok None) b = (b.at ≡ a.at) × (b.phase ≡ a.phase)
Moved a (Ok (Some r)) b = (b.at ≡ a.at + 2 + size r.mark) × (leads a.phase r.mark ≡ Some b.phase)
Moved a (Err f) b = (b.at ≡ a.at) × (b.phase ≡ a.phase)
