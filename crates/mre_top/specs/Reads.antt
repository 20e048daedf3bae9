-- Reading the files of a request: the calls of the shelf, and the contents. Nothing is said of a
-- shelf where what it holds, or what it was asked, isn't known.
use Rattle.std.specs.Prelude.{◌≡◌, ◌≤◌, ◌<◌, ◌+◌, ℕ, Bool, true, false, List, [], ◌∷◌, ◌++◌, length}
use Rattle.std.specs.Prelude.{map, take, Option, None, Some, Result, Ok, Err, option_map, IfSome}
use Rattle.std.specs.Prelude.{IsSomeAnd}
use Rattle.std.specs.FinMap as files_map
use Rattle.mre_outside.specs.Shelves.{Files}
use Rattle.mre_outside.specs.declared.shelf.Act.TheVariants.{Read}
use Rattle.mre_outside.specs.declared.shelf.ShelfCall.{ShelfCall}
pub use Rattle.request_answers.specs.Lines.{name_at}
pub use Rattle.request_answers.specs.Texts.{file_limit, AreShort}
use Rattle.mre_top.specs.declared.refusal.Refusal.{Refusal}
use Rattle.mre_top.specs.declared.refusal.Refusal.TheVariants.{ReadFailed, TooLong, NoMemory}

-- a read of a name, and whether it failed
abbrev pub read_of : Bool → List ℕ → ShelfCall
read_of failed name = record { name = name; act = Read; failed = failed }

-- a read of each name, without a failure
abbrev pub reads : List (List ℕ) → List ShelfCall
reads names = map (read_of false) names

-- the calls so far, and then these
abbrev pub asked_then : Option (List ShelfCall) → List ShelfCall → Option (List ShelfCall)
asked_then asked calls = option_map (λ before. before ++ calls) asked

-- the contents are all the bytes under the names, one content for each name, and none is longer
-- than a file may be
pub record AreRead (held : Option Files) (names : List (List ℕ))
    (contents : List (List ℕ)) : Type 0 where
  pub counted : length contents ≡ length names
  pub whole : IfSome held (λ files. map (files_map.get files) names ≡ map Some contents)
  pub within : AreShort contents

-- each of the names can be read whole
abbrev pub AreReadable : Option Files → List (List ℕ) → Type 0
AreReadable held names = (contents : List (List ℕ)) × AreRead held names contents

-- there are more bytes under the name than a file may have
abbrev pub IsTooLong : Option Files → List ℕ → Type 0
IsTooLong held name =
    IfSome held (λ files. IsSomeAnd (files_map.get files name) (λ bytes. file_limit < length bytes))

-- a file is too long, and each before it can be read whole
abbrev pub IsFirstTooLong : Option Files → List (List ℕ) → Type 0
IsFirstTooLong held names =
    (file : ℕ) × (file < length names) × AreReadable held (take file names)
    × IsTooLong held (name_at names file)

-- reading the names in order ended with this refusal and after these calls: at the first name that
-- wasn't read whole, or where memory ran out
abbrev pub StopsReading : List (List ℕ) → Option Files → Refusal → List ShelfCall → Type 0
StopsReading names held (ReadFailed file) calls =
    (file < length names) × AreReadable held (take file names)
    × (calls ≡ reads (take file names) ++ read_of true (name_at names file) ∷ [])
StopsReading names held (TooLong file) calls =
    (file < length names) × AreReadable held (take file names) × IsTooLong held (name_at names file)
    × (calls ≡ reads (take (file + 1) names))
StopsReading names held NoMemory calls =
    (count : ℕ) × (count ≤ length names) × (calls ≡ reads (take count names))
StopsReading names held _ calls = ⊥

-- reading the names ended with this refusal, and the shelf was asked the calls
abbrev pub Stops : List (List ℕ) → Option Files → Option (List ShelfCall) → Option (List ShelfCall)
    → Refusal → Type 0
Stops names held asked_old asked_new refusal =
    (calls : List ShelfCall) × StopsReading names held refusal calls
    × (asked_new ≡ asked_then asked_old calls)

-- there is nothing under the name
abbrev pub IsMissing : Option Files → List ℕ → Type 0
IsMissing held name = IfSome held (λ files. files_map.get files name ≡ None)

-- if the refusal is a failed read, there is nothing under the name of the very file that it names
abbrev pub IsMissingWhereFailed : Option Files → List (List ℕ) → Refusal → Type 0
IsMissingWhereFailed held names (ReadFailed file) = IsMissing held (name_at names file)
IsMissingWhereFailed held names _ = Unit {0}

-- the refusal is a failed read
abbrev pub IsReadFailed : Refusal → Type 0
IsReadFailed (ReadFailed file) = Unit {0}
IsReadFailed _ = ⊥

-- ---- reading one file

-- these are all the bytes under the name, and not more than a file may have
pub record IsRead (held : Option Files) (name bytes : List ℕ) : Type 0 where
  pub whole : IfSome held (λ files. files_map.get files name ≡ Some bytes)
  pub within : length bytes ≤ file_limit

-- reading the file ended with this refusal
abbrev pub StopsAt : List (List ℕ) → ℕ → Option Files → Refusal → Type 0
StopsAt names file held (ReadFailed at) = at ≡ file
StopsAt names file held (TooLong at) = (at ≡ file) × IsTooLong held (name_at names file)
StopsAt names file held NoMemory = Unit {0}
StopsAt names file held _ = ⊥

-- the calls of reading one file, by its answer
abbrev pub calls_of : {T : Type 0} → List ℕ → Result T Refusal → List ShelfCall
calls_of name (Ok _) = read_of false name ∷ []
calls_of name (Err (ReadFailed file)) = read_of true name ∷ []
calls_of name (Err (TooLong file)) = read_of false name ∷ []
calls_of name (Err _) = []
