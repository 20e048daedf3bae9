-- A shelf in memory, and what a call on it does.
use Rattle.std.specs.Prelude.{◌≡◌, ◌<◌, ◌≤◌, ℕ, ◌+◌, Some, IsSomeAnd, List, [], ◌++◌, length}
use Rattle.std.specs.Prelude.{count_by}
use Rattle.std.specs.FinMap as map
use Rattle.mre_outside.specs.Failing.{Fails}
use Rattle.mre_outside.specs.Shelves.{Files}
use Rattle.mre_outside.specs.declared.failing.FailingCalls.{FailingCalls}
use Rattle.mre_outside.specs.declared.shelf.ShelfCall.{ShelfCall}

-- the bytes under each name, the calls that it answered, and which calls fail
pub record ShelfInMemory : Type 0 where
  pub held : Files
  pub asked : List ShelfCall
  pub failing : FailingCalls

-- the shelf with these files, each a name and its content, before any call
abbrev pub made_of : List (List ℕ × List ℕ) → FailingCalls → ShelfInMemory
made_of files failing = record { held = map.from_entries files; asked = []; failing = failing }

-- the number of failed calls
abbrev pub failed_calls : List ShelfCall → ℕ
failed_calls calls = count_by (λ call. call.failed) calls

-- the next call will fail
abbrev pub NextCallFails : ShelfInMemory → Type 0
NextCallFails shelf = Fails shelf.failing (length shelf.asked + 1)

-- the next call won't fail, and these are all the bytes under the name, within the limit
pub record Reads (shelf : ShelfInMemory) (name : List ℕ) (limit : ℕ) (bytes : List ℕ) : Type 0 where
  pub spared : ¬ NextCallFails shelf
  pub held : map.get shelf.held name ≡ Some bytes
  pub within : length bytes ≤ limit

-- the next call won't fail, and there are more bytes under the name than the limit
pub record IsTooLong (shelf : ShelfInMemory) (name : List ℕ) (limit : ℕ) : Type 0 where
  pub spared : ¬ NextCallFails shelf
  pub longer : IsSomeAnd (map.get shelf.held name) (λ bytes. limit < length bytes)

-- the shelf after a read, which adds its entry to the calls
abbrev pub after_read : ShelfInMemory → List ShelfCall → ShelfInMemory
after_read shelf entry = record shelf { asked = shelf.asked ++ entry }

-- the shelf after a put that left these bytes under the name and adds its entry to the calls
abbrev pub after_put : ShelfInMemory → List ℕ → List ℕ → List ShelfCall → ShelfInMemory
after_put shelf name bytes entry = record shelf {
  held = map.insert shelf.held name bytes;
  asked = shelf.asked ++ entry;
}
