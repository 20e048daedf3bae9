-- Numbers with their parents, as trees. A chain of parents that comes back to itself is cut at one
-- number, which is then a root.
use Rattle.std.specs.Prelude.{ℕ, ◌≡◌, ◌<◌, ◌≤◌, ◌+◌, ◌-◌, ◌⊎◌, Bool, true, false, List, [], ◌∷◌}
use Rattle.std.specs.Prelude.{length, slice_index, zero, suc}
use Rattle.std.specs.List.{slice_index_or}
use Rattle.pddl_names.specs.declared.forests.Node.{Node}

-- the parent of a number
abbrev pub up : List ℕ → ℕ → ℕ
up ups number = slice_index ups number

-- the number that many parents up
abbrev pub climb : List ℕ → ℕ → ℕ → ℕ
climb ups zero number = number
climb ups (suc n) number = slice_index ups (climb ups n number)

-- a number is another, or its chain of parents reaches the other
abbrev pub Reaches : List ℕ → ℕ → ℕ → Type 0
Reaches ups from to = (n : ℕ) × (climb ups n from ≡ to)

-- what is known of a number
abbrev pub node_at : List Node → ℕ → Node
node_at nodes number = slice_index_or nodes number (record { root = 0; depth = 0; jump = 0 })

-- a number is marked
abbrev pub IsMarked : List Bool → ℕ → Type 0
IsMarked marks number = slice_index_or marks number false ≡ true

-- how many are not marked
abbrev pub unmarked : List Bool → ℕ
unmarked [] = 0
unmarked (true ∷ marks) = unmarked marks
unmarked (false ∷ marks) = suc (unmarked marks)

-- from a number one jumps to one above it that is done too, by as many steps as it is less deep
pub record IsJump (ups : List ℕ) (nodes : List Node) (Done : ℕ → Type 0) (number : ℕ) : Type 0 where
  pub steps : ℕ
  pub done : Done (node_at nodes number).jump
  pub climbs : climb ups steps number ≡ (node_at nodes number).jump
  pub deep : (node_at nodes (node_at nodes number).jump).depth + steps
      ≡ (node_at nodes number).depth
  pub moves : 0 < (node_at nodes number).depth → 0 < steps

-- a number that is done is a root, or it is one deeper than its parent under the same root
pub record IsPlaced (ups : List ℕ) (nodes : List Node) (Done : ℕ → Type 0)
    (number : ℕ) : Type 0 where
  pub stands : (((node_at nodes number).root ≡ number) × ((node_at nodes number).depth ≡ 0))
      ⊎ (Done (up ups number) × ((node_at nodes number).root ≡ (node_at nodes (up ups number)).root)
      × ((node_at nodes number).depth ≡ suc (node_at nodes (up ups number)).depth))
  pub jumps : IsJump ups nodes Done number
  pub same : Done (up ups number) → (node_at nodes (up ups number)).root
      ≡ (node_at nodes number).root

-- each parent is a number
abbrev pub AreUps : List ℕ → Type 0
AreUps ups = (number : ℕ) → number < length ups → up ups number < length ups

-- the trees so far: each number that is done is placed, and so is its parent, but for one that may
-- be open
pub record IsGrown (ups : List ℕ) (nodes : List Node) (done : List Bool)
    (MayOpen : ℕ → Type 0) : Type 0 where
  pub nodes_count : length nodes ≡ length ups
  pub done_count : length done ≡ length ups
  pub placed : (number : ℕ) → IsMarked done number → IsPlaced ups nodes (IsMarked done) number
  pub closed : (number : ℕ) → IsMarked done number → IsMarked done (up ups number) ⊎ MayOpen number
  pub low : (number : ℕ) → IsMarked done number
      → (node_at nodes number).depth + 1 + unmarked done ≤ length done

-- each number is placed
pub record IsForest (ups : List ℕ) (nodes : List Node) : Type 0 where
  pub ups_within : AreUps ups
  pub count : length nodes ≡ length ups
  pub placed : (number : ℕ) → number < length ups → IsPlaced ups nodes (λ n. n < length ups) number

-- a number is on a path, before a place
abbrev pub IsOn : List ℕ → ℕ → ℕ → Type 0
IsOn path place number = (i : ℕ) × (i < place) × (slice_index path i ≡ number)

-- the path from a number up to one that was marked before or is on the path; its numbers are marked
-- after
pub record IsPath (ups : List ℕ) (before after : List Bool) (start : ℕ) (path : List ℕ)
    (end : ℕ) : Type 0 where
  pub count : length after ≡ length ups
  pub inside : (i : ℕ) → i < length path → slice_index path i < length ups
  pub end_inside : end < length ups
  pub chain : (i : ℕ) → i + 1 < length path → up ups (slice_index path i) ≡ slice_index path (i + 1)
  pub last : (i : ℕ) → i + 1 ≡ length path → up ups (slice_index path i) ≡ end
  pub kept : (number : ℕ) → IsMarked before number → IsMarked after number
  pub new : (number : ℕ) → IsMarked after number
      → IsMarked before number ⊎ IsOn path (length path) number
  pub closed : (number : ℕ) → IsMarked after number
      → IsMarked before number ⊎ (IsMarked after (up ups number) ⊎ (up ups number ≡ end))
  pub started : IsMarked after start ⊎ (start ≡ end)
  pub fresh : (i : ℕ) → i < length path → slice_index_or before (slice_index path i) false ≡ false
  pub marked : (i : ℕ) → i < length path → IsMarked after (slice_index path i)

-- no number
abbrev pub Never : ℕ → Type 0
Never number = ⊥

-- each number that was seen is done, with its parent
pub record IsSettled (ups : List ℕ) (nodes : List Node) (done seen : List Bool) : Type 0 where
  pub grown : IsGrown ups nodes done Never
  pub seen_count : length seen ≡ length ups
  pub all : (number : ℕ) → IsMarked seen number → IsMarked done number
  pub back : (number : ℕ) → IsMarked done number → IsMarked seen number

-- a number is above another in its tree, as many steps up as it is less deep
abbrev pub IsUnder : List ℕ → List Node → ℕ → ℕ → Type 0
IsUnder ups nodes from to =
    ((node_at nodes to).depth ≤ (node_at nodes from).depth)
    × (climb ups ((node_at nodes from).depth - (node_at nodes to).depth) from ≡ to)

-- some steps up from a number, to one that is as much less deep and not above a depth
pub record IsStep (ups : List ℕ) (nodes : List Node) (from to depth : ℕ) : Type 0 where
  pub steps : ℕ
  pub moves : 0 < steps
  pub climbs : climb ups steps from ≡ to
  pub deep : (node_at nodes to).depth + steps ≡ (node_at nodes from).depth
  pub above : depth ≤ (node_at nodes to).depth
