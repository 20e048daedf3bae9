-- What a shelf holds, what it was asked, and what a call does to it.
use Rattle.std.specs.Prelude.{◌≡◌, ◌≢◌, ℕ, true, false, List, [], ◌∷◌, take, Option, None, Some}
use Rattle.std.specs.Prelude.{Result, Ok, Err, ◌⊎◌, ⊤}
use Rattle.std.specs.Ordering.{nat_cmp}
use Rattle.std.specs.Cmp.Lexicographic.{slice_cmp}
use Rattle.std.specs.FinMap as map
use Rattle.std.specs.Coded.{Coded, coded_ℕ, coded_list}
use Rattle.mre_outside.specs.declared.shelf.Act.TheVariants.{Read, Put}
use Rattle.mre_outside.specs.declared.shelf.ShelfCall.{ShelfCall}
use Rattle.mre_outside.specs.declared.shelf.ShelfStop.{ShelfStop}
use Rattle.mre_outside.specs.declared.shelf.ShelfStop.TheVariants as read_stop
use Rattle.mre_outside.specs.declared.shelf.PutStop.{PutStop}
use Rattle.mre_outside.specs.declared.shelf.PutStop.TheVariants as put_stop

-- the bytes under each name
abbrev pub Files : Type 0
Files = map.FinMap (slice_cmp nat_cmp) (List ℕ)

-- the bytes of the first entry of this name
abbrev pub first_under : List (List ℕ × List ℕ) → List ℕ → Option (List ℕ)
first_under entries name = map.find (slice_cmp nat_cmp) name entries

-- files are equal where their entries are
abbrev pub files_code : Coded Files
files_code = map.code (coded_list coded_ℕ) (coded_list coded_ℕ)

-- the entry of a read with this answer; one that ran out of memory has none
abbrev pub read_entry : {T : Type 0} → List ℕ → Result T ShelfStop → List ShelfCall
read_entry name (Ok _) = record { name = name; act = Read; failed = false } ∷ []
read_entry name (Err read_stop.Failed) = record { name = name; act = Read; failed = true } ∷ []
read_entry name (Err read_stop.TooLong) = record { name = name; act = Read; failed = false } ∷ []
read_entry name (Err read_stop.NoMemory) = []

-- the entry of a put with this answer; one that ran out of memory has none
abbrev pub put_entry : {T : Type 0} → List ℕ → Result T PutStop → List ShelfCall
put_entry name (Ok _) = record { name = name; act = Put; failed = false } ∷ []
put_entry name (Err put_stop.Failed) = record { name = name; act = Put; failed = true } ∷ []
put_entry name (Err put_stop.NoMemory) = []

-- both are known or neither is, and known ones are in this relation
abbrev pub BothKnown : {A : Type 0} → Option A → Option A → (A → A → Type 0) → Type 0
BothKnown None None P = ⊤
BothKnown None (Some new) P = ⊥
BothKnown (Some old) None P = ⊥
BothKnown (Some old) (Some new) P = P old new

-- what an unfinished put leaves: what was there, nothing under the name, or a prefix of the bytes
abbrev pub LeavesPart : List ℕ → List ℕ → Files → Files → Type 0
LeavesPart name bytes old new =
    (new ≡ old) ⊎ ((new ≡ map.remove old name)
    ⊎ ((count : ℕ) × (new ≡ map.insert old name (take count bytes))))

-- every other name keeps its bytes
abbrev pub KeepsOthers : List ℕ → Files → Files → Type 0
KeepsOthers name old new = (other : List ℕ) → other ≢ name → map.get new other ≡ map.get old other
