-- Tasks of a table by tests that agree on the table's conditions, and the tasks of cubes that have
-- decided every difference.
use Rattle.std.proofs.Common.{◌≡◌, ℕ, suc, ◌+◌, Bool, true, false, ◌&&◌, not, cond, List, [], ◌∷◌, map, filter, Option, None, All, refl, sym, ap, ◌∙◌, arith}
use Rattle.std.specs.FinSet as set
use Rattle.std.specs.FinSet.{contains-difference, contains-empty}
use Rattle.std.specs.Cmp.{nat_cmp_total}
use Rattle.std.specs.Ordering.{nat_cmp}
use Rattle.std.proofs.lemmas.Bool.{and_parts, false≢true}
use Rattle.cube_kit.specs.Cubes.{Told, CubeMeaning, IsCube, is_listed, is_one_of, single, all_to}
use Rattle.cube_kit.proofs.CubeLemmas.{contains-all_to}
use Rattle.task_kit.specs.Tasks.{set_of}
use Rattle.case_kit.specs.declared.way.Way.{Way}
use Rattle.case_kit.specs.declared.way.Way.TheVariants.{Permissive, Restrictive}
use Rattle.case_kit.specs.declared.cases.When.{When}
use Rattle.case_kit.specs.declared.cases.When.TheVariants.{Always, IfTold, IfLeft}
use Rattle.case_kit.specs.declared.cases.Case.{Case}
use Rattle.case_kit.specs.declared.costs.CaseValue.{CaseValue}
use Rattle.case_kit.specs.declared.costs.CaseValue.TheVariants as values
use Rattle.case_kit.specs.declared.costs.CaseCost.{CaseCost}
use Rattle.case_kit.specs.declared.costs.CaseCost.TheVariants as costs
use Rattle.case_kit.specs.declared.action.CaseAction.{CaseAction}
use Rattle.case_kit.specs.declared.table.CaseTable.{CaseTable}
use Rattle.case_kit.specs.Sound.{is_listed_in, is_value_listed, is_cost_listed, IsCase, IsCaseAction}
use Rattle.case_kit.specs.Members.{holds, value_after, cost_after, known_cost_after, member}
use Rattle.case_kit.specs.Evaluated.{atoms_where, action_where, task_where, may_hold, must_hold, counts, opposite, value_by, cost_by, known_cost_by, relaxed}
use Rattle.case_kit.specs.Laws.{MemberLaw}
use Rattle.case_kit.proofs.PriceLemmas.{decided}

-- ---- tests that agree on the conditions of a table
first_of_all : {X : Type 0} (P : X → Type 0) (x : X) (xs : List X) → All P (x ∷ xs) → P x
first_of_all P x xs each = each 0 x (omega arith)

rest_of_all : {X : Type 0} (P : X → Type 0) (x : X) (xs : List X) → All P (x ∷ xs) → All P xs
rest_of_all P x xs each k d lt = each (suc k) d (omega arith)

map_agree : {X Y : Type 0} (P : X → Type 0) (f g : X → Y) (xs : List X) → All P xs → ((x : X) → P x → f x ≡ g x) → map f xs ≡ map g xs
map_agree P f g [] each same = refl
map_agree P f g (x ∷ xs) each same =
    let here : f x ≡ g x = same x (first_of_all P x xs each) in
    let rest : map f xs ≡ map g xs = map_agree P f g xs (rest_of_all P x xs each) same in
    λ i. here i ∷ rest i

-- tests that agree on each case take the same atoms
where_agree : (P : When → Type 0) (one two : When → Bool) (cases : List Case) → All (λ case. P case.when) cases → ((when : When) → P when → one when ≡ two when) → atoms_where one cases ≡ atoms_where two cases
where_agree P one two [] each agree = refl
where_agree P one two (case ∷ cases) each agree =
    ap (λ b. map (λ (c : Case). c.atom) (cond b (case ∷ filter (λ c. one c.when) cases) (filter (λ c. one c.when) cases))) (agree case.when (first_of_all (λ c. P c.when) case cases each))
    ∙ by (two case.when) (where_agree P one two cases (rest_of_all (λ c. P c.when) case cases each) agree)
  where
    by : (b : Bool) → atoms_where one cases ≡ atoms_where two cases
        → map (λ (c : Case). c.atom) (cond b (case ∷ filter (λ c. one c.when) cases) (filter (λ c. one c.when) cases)) ≡ map (λ (c : Case). c.atom) (cond b (case ∷ filter (λ c. two c.when) cases) (filter (λ c. two c.when) cases))
    by true rest = ap (λ xs. case.atom ∷ xs) rest
    by false rest = rest

-- a fact of each condition of an action
pub record IsOfAction (P : When → Type 0) (a : CaseAction) : Type 0 where
  pub pre : All (λ case. P case.when) a.pre
  pub add : All (λ case. P case.when) a.add
  pub del : All (λ case. P case.when) a.del

pub action_agree : (P : When → Type 0) (helps hinders : When → Bool) (cost : CaseAction → Option ℕ) (helps' hinders' : When → Bool) (cost' : CaseAction → Option ℕ) (a : CaseAction) → IsOfAction P a
    → ((when : When) → P when → helps when ≡ helps' when) → ((when : When) → P when → hinders when ≡ hinders' when) → cost a ≡ cost' a → action_where helps hinders cost a ≡ action_where helps' hinders' cost' a
action_agree P helps hinders cost helps' hinders' cost' a of more less same =
    let pre : set_of (atoms_where hinders a.pre) ≡ set_of (atoms_where hinders' a.pre) = ap set_of (where_agree P hinders hinders' a.pre of.pre less) in
    let add : set_of (atoms_where helps a.add) ≡ set_of (atoms_where helps' a.add) = ap set_of (where_agree P helps helps' a.add of.add more) in
    let del : set_of (atoms_where hinders a.del) ≡ set_of (atoms_where hinders' a.del) = ap set_of (where_agree P hinders hinders' a.del of.del less) in
    λ i. record { pre = pre i; add = add i; del = del i; cost = same i }

-- the condition's number is one of 1 to d
abbrev IsListed : ℕ → When → Type 0
IsListed d when = is_listed_in d when ≡ true

listed_cases : (d bound : ℕ) (cases : List Case) → All (IsCase d bound) cases → All (λ case. IsListed d case.when) cases
listed_cases d bound cases each k c lt = (each k c lt).listed

listed_action : (d atoms : ℕ) (a : CaseAction) → IsCaseAction d atoms a → IsOfAction (IsListed d) a
listed_action d atoms a sound = record { pre = listed_cases d (atoms + 1) a.pre sound.pre; add = listed_cases d atoms a.add sound.add; del = listed_cases d (atoms + 1) a.del sound.del }

-- the tests agree on each such condition
abbrev DoAgree : ℕ → (When → Bool) → (When → Bool) → Type 0
DoAgree d one two = (when : When) → IsListed d when → one when ≡ two when

task_agree : (helps hinders : When → Bool) (cost : CaseAction → Option ℕ) (helps' hinders' : When → Bool) (cost' : CaseAction → Option ℕ) (table : CaseTable) → DoAgree table.d helps helps' → DoAgree table.d hinders hinders'
    → ((a : CaseAction) → IsCaseAction table.d table.atoms a → cost a ≡ cost' a) → task_where helps hinders cost table ≡ task_where helps' hinders' cost' table
task_agree helps hinders cost helps' hinders' cost' table more less same =
    let start : set_of (atoms_where helps table.start) ≡ set_of (atoms_where helps' table.start) = ap set_of (where_agree (IsListed table.d) helps helps' table.start (listed_cases table.d table.atoms table.start table.sound.starts) more) in
    let goal : set_of (atoms_where hinders table.goal) ≡ set_of (atoms_where hinders' table.goal) = ap set_of (where_agree (IsListed table.d) hinders hinders' table.goal (listed_cases table.d (table.atoms + 1) table.goal table.sound.goals) less) in
    let actions : map (action_where helps hinders cost) table.actions ≡ map (action_where helps' hinders' cost') table.actions =
    map_agree (IsCaseAction table.d table.atoms) (action_where helps hinders cost) (action_where helps' hinders' cost') table.actions table.sound.each
    (λ a sound. action_agree (IsListed table.d) helps hinders cost helps' hinders' cost' a (listed_action table.d table.atoms a sound) more less (same a sound)) in
    λ i. record { atoms = table.atoms; start = start i; goal = goal i; actions = actions i }

-- ---- cubes that have decided every difference
-- the told numbers of the cube are those of the set, and the left ones are the others
pub record IsDecidedAs (d : ℕ) (cube : CubeMeaning) (s : Told) : Type 0 where
  pub told : (k : ℕ) → is_listed d k ≡ true → set.contains cube.told k ≡ set.contains s k
  pub left : (k : ℕ) → is_listed d k ≡ true → set.contains cube.left k ≡ not (set.contains s k)

twice : (b : Bool) → not (not b) ≡ b
twice true = refl
twice false = refl

module _ (d : ℕ) (cube : CubeMeaning) (s : Told) (is : IsDecidedAs d cube s) where
  may_is : DoAgree d (may_hold cube) (holds s)
  may_is Always listed = refl
  may_is (IfTold place) listed = ap not (is.left place listed) ∙ twice (set.contains s place)
  may_is (IfLeft place) listed = ap not (is.told place listed)

  must_is : DoAgree d (must_hold cube) (holds s)
  must_is Always listed = refl
  must_is (IfTold place) listed = is.told place listed
  must_is (IfLeft place) listed = is.left place listed

  counts_is : (way : Way) → DoAgree d (counts way cube) (holds s)
  counts_is Permissive = may_is
  counts_is Restrictive = must_is

  decided_is : (way : Way) (told left has : Bool) (x y : Option ℕ) → told ≡ has → left ≡ not has → decided way told left x y ≡ cond has x y
  decided_is way told left true x y et el = ap (λ b. decided way b left x y) et
  decided_is way told left false x y et el = λ i. decided way (et i) (el i) x y

  value_is : (way : Way) (value : CaseValue) → is_value_listed d value ≡ true → value_by way cube value ≡ value_after s value
  value_is way (values.One value) listed = refl
  value_is way (values.Two place told left) listed = decided_is way _ _ (set.contains s place) told left (is.told place listed) (is.left place listed)

  cost_is : (way : Way) (cost : CaseCost) → is_cost_listed d cost ≡ true → cost_by way cube cost ≡ cost_after s cost
  cost_is way (costs.One value) listed = value_is way value listed
  cost_is way (costs.Two place told left) listed =
      let parts = and_parts _ _ listed in
      let both = and_parts _ _ parts.1 in
      decided_is way _ _ (set.contains s place) (value_by way cube told) (value_by way cube left) (is.told place parts.0) (is.left place parts.0)
      ∙ (λ i. cond (set.contains s place) (value_is way told both.0 i) (value_is way left both.1 i))

  known_is : (way : Way) (atoms : ℕ) (a : CaseAction) → IsCaseAction d atoms a → known_cost_by way cube a ≡ known_cost_after s a
  known_is way atoms a sound = λ i. cond (counts_is way a.known sound.known i) (cost_is way a.cost sound.cost i) None

decided_task : (way : Way) (table : CaseTable) (cube : CubeMeaning) (s : Told) → IsDecidedAs table.d cube s → relaxed way table cube ≡ member table s
decided_task way table cube s is =
    task_agree (counts way cube) (counts (opposite way) cube) (known_cost_by way cube) (holds s) (holds s) (known_cost_after s) table (counts_is table.d cube s is way) (counts_is table.d cube s is (opposite way))
    (known_is table.d cube s is way table.atoms)

true_and : (a b : Bool) → a ≡ true → (a && b) ≡ b
true_and true b e = refl
true_and false b e = absurd (false≢true e)

single_is : (d : ℕ) (told s : Told) → ((k : ℕ) → is_listed d k ≡ true → set.contains told k ≡ set.contains s k) → IsDecidedAs d (single d told) s
single_is d told s agree =
    record {
      told = agree;
      left = λ k listed.
          contains-difference nat_cmp_total (all_to d) told k ∙ true_and _ _ (contains-all_to d k ∙ listed) ∙ ap not (agree k listed);
    }

-- the first or the second, where nothing is undecided
one_of_two : (w t l o : Bool) → w ≡ true → o ≡ false → is_one_of w t l o ≡ true → l ≡ not t
one_of_two w t l o listed none one = grind arith

nothing_is : (d : ℕ) (cube : CubeMeaning) → IsCube d cube → cube.undecided ≡ set.empty → IsDecidedAs d cube cube.told
nothing_is d cube whole none =
    record {
      told = λ k listed. refl;
      left = λ k listed. one_of_two (is_listed d k) (set.contains cube.told k) (set.contains cube.left k) (set.contains cube.undecided k) listed (ap (λ s. set.contains s k) none ∙ contains-empty nat_cmp k) (whole k);
    }

pub member_law : MemberLaw
member_law =
    record {
      agree = λ table told other same. sym (decided_task Permissive table (single table.d told) told (single_is table.d told told (λ k listed. refl))) ∙ decided_task Permissive table (single table.d told) other (single_is table.d told other same);
      permissive_single = λ table told. decided_task Permissive table (single table.d told) told (single_is table.d told told (λ k listed. refl));
      restrictive_single = λ table told. decided_task Restrictive table (single table.d told) told (single_is table.d told told (λ k listed. refl));
      permissive_decided = λ table cube whole none. decided_task Permissive table cube cube.told (nothing_is table.d cube whole none);
      restrictive_decided = λ table cube whole none. decided_task Restrictive table cube cube.told (nothing_is table.d cube whole none);
    }
