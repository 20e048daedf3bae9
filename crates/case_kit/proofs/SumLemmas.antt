-- Sums of costs that may be absent.
use Rattle.std.proofs.Common.{◌≡◌, ℕ, true, is_some, List, [], ◌∷◌, Option, None, Some, unwrap_or, refl, arith}
use Rattle.std.proofs.lemmas.Bool.{and_parts, false≢true}
use Rattle.task_kit.specs.Tasks.{Numbers, TaskMeaning, cost_at, after, IsValidFrom, cost_of}
use Rattle.case_kit.specs.Relaxed.{IsNoDearer}
use Rattle.case_kit.specs.Members.{member}
use Rattle.case_kit.specs.Evaluated.{permissive, restrictive}
use Rattle.case_kit.specs.Sums.{plus, sum_of, SumLaw}
use Rattle.case_kit.proofs.EasierLemmas.{IsEasier, member_permissive, member_restrictive, inner_permissive, inner_restrictive}

some_is : (x : Option ℕ) → is_some x ≡ true → x ≡ Some (unwrap_or x 0)
some_is None there = absurd (false≢true there)
some_is (Some n) there = refl

valid_from : (task : TaskMeaning) (state : Numbers) (list : List ℕ) → IsValidFrom task state list → sum_of task list ≡ Some (cost_of task list)
valid_from task state [] valid = refl
valid_from task state (action ∷ list) valid =
    let first : cost_at task action ≡ Some (unwrap_or (cost_at task action) 0) = some_is (cost_at task action) (and_parts _ _ valid.0).0 in
    let rest : sum_of task list ≡ Some (cost_of task list) = valid_from task (after task action state) list valid.1 in
    λ i. plus (first i) (rest i)

plus_no_dearer : (x y x' y' : Option ℕ) → IsNoDearer x x' → IsNoDearer y y' → IsNoDearer (plus x y) (plus x' y')
plus_no_dearer x y None y' a b = tt
plus_no_dearer x y (Some m') None a b = tt
plus_no_dearer None y (Some m') (Some n') a b = absurd a
plus_no_dearer (Some m) None (Some m') (Some n') a b = absurd b
plus_no_dearer (Some m) (Some n) (Some m') (Some n') a b = omega arith

-- an easier list costs no more, whether or not it is valid
easier_sum : (t u : TaskMeaning) → IsEasier t u → (list : List ℕ) → IsNoDearer (sum_of u list) (sum_of t list)
easier_sum t u easier [] = omega arith
easier_sum t u easier (action ∷ list) = plus_no_dearer (cost_at u action) (sum_of u list) (cost_at t action) (sum_of t list) (easier.each action).cost (easier_sum t u easier list)

pub sum_law : SumLaw
sum_law =
    record {
      valid = λ task list is. valid_from task task.start list is;
      least = λ table cube told list is. easier_sum (member table told) (permissive table cube) (member_permissive table cube told is) list;
      greatest = λ table cube told list is. easier_sum (restrictive table cube) (member table told) (member_restrictive table cube told is) list;
      least_inner = λ table inner outer list live inside. easier_sum (permissive table inner) (permissive table outer) (inner_permissive inner outer live inside table) list;
      greatest_inner = λ table inner outer list live inside. easier_sum (restrictive table outer) (restrictive table inner) (inner_restrictive inner outer live inside table) list;
    }
