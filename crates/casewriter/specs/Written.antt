-- What writing a sheet leaves and answers. Assumes nothing.
use Rattle.std.specs.Prelude.{◌≡◌, ℕ, ◌<◌, ◌≤◌, List, ◌++◌, length, take, drop, Ok, Err, Result}
use Rattle.sheet.specs.declared.calls.Refusal.{Refusal}
use Rattle.sheet.specs.declared.calls.Refusal.TheVariants.{Memory}
use Rattle.sheet.specs.Book.{Book}
use Rattle.sheet.specs.declared.closed.ClosedSheet.{ClosedSheet}
use Rattle.sheet.specs.Sheets.{closed_book}
use Rattle.casewriter.specs.Items.{file_of}
use Rattle.casewriter.specs.declared.writer.Writer.{Writer}

-- bs was put behind what was written, as much of it as fits, and the memory behind is as it was
pub record Added (old : Writer) (bs : List ℕ) (new : Writer) : Type 0 where
  pub same_reference : new.memory.ghost_name ≡ old.memory.ghost_name
  pub size : length new.memory.now ≡ length old.memory.now
  pub onward : old.at ≤ new.at
  pub front : take new.at new.memory.now ≡ take (length old.memory.now) (take old.at old.memory.now ++ bs)
  pub behind : drop new.at new.memory.now ≡ drop new.at old.memory.now

-- the file at the front of memory and its length; or memory too short, and nothing altered
abbrev pub Written : Book → List ℕ → Result ℕ Refusal → List ℕ → Type 0
Written b old (Ok n) new = (n ≡ length (file_of b)) × (n ≤ length old) × (new ≡ file_of b ++ drop n old)
Written b old (Err e) new = (e ≡ Memory) × (length old < length (file_of b)) × (new ≡ old)

-- two sheets are equal, rows in order and edges as sets, exactly if their files are
abbrev pub FilesTell : Type 0
FilesTell = (s t : ClosedSheet)
    → (file_of (closed_book s) ≡ file_of (closed_book t) → closed_book s ≡ closed_book t) × (closed_book s ≡ closed_book t → file_of (closed_book s) ≡ file_of (closed_book t))
