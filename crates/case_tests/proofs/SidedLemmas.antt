-- A table in which each difference is on one side has the facts of a case table.
use Rattle.std.proofs.Common.{◌≡◌, ℕ, ◌+◌, ◌≤◌, ◌<◌, true, ◌&&◌, nat_le, nat_lt, List, length, get_or, All, refl, subst, arith, inl, inr}
use Rattle.std.proofs.lemmas.Bool.Decides.{nat_tests}
use Rattle.std.proofs.lemmas.List.Elements.{All-contains}
use Rattle.cube_kit.specs.Cubes.{is_listed}
use Rattle.case_kit.specs.declared.cases.When.{When}
use Rattle.case_kit.specs.declared.cases.When.TheVariants.{Always, IfTold, IfLeft}
use Rattle.case_kit.specs.declared.cases.Case.{Case}
use Rattle.case_kit.specs.declared.action.CaseAction.{CaseAction}
use Rattle.case_kit.specs.Sound.{is_listed_in, IsCase, IsCaseAction, StandsAmong, StandsIn, Stands, IsCaseTable}
use Rattle.case_tests.specs.Sided.{is_sided, IsSided, IsSidedAction}

module _ (split d : ℕ) (le : split ≤ d) where
  told_listed : (place : ℕ) → is_sided split d (IfTold place) ≡ true → is_listed d place ≡ true
  told_listed place h = grind (arith, nat_tests)

  left_listed : (place : ℕ) → is_sided split d (IfLeft place) ≡ true → is_listed d place ≡ true
  left_listed place h = grind (arith, nat_tests)

  never_both : (place : ℕ) → is_sided split d (IfTold place) ≡ true → is_sided split d (IfLeft place) ≡ true → ⊥
  never_both place told left = absurd (apart place (le_split place told) (gt_split place left)) where
    le_split : (k : ℕ) → (nat_le 1 k && nat_le k split) ≡ true → k ≤ split
    le_split k h = grind (arith, nat_tests)

    gt_split : (k : ℕ) → (nat_lt split k && nat_le k d) ≡ true → split < k
    gt_split k h = grind (arith, nat_tests)

    apart : (k : ℕ) → k ≤ split → split < k → ⊥
    apart k below above = absurd (omega arith)

  when_listed : (when : When) → is_sided split d when ≡ true → is_listed_in d when ≡ true
  when_listed Always h = refl
  when_listed (IfTold place) h = told_listed place h
  when_listed (IfLeft place) h = left_listed place h

  cases_sound : (bound : ℕ) (cases : List Case) → All (IsSided split d bound) cases → All (IsCase d bound) cases
  cases_sound bound cases each k c lt = let one = each k c lt in record { below = one.below; listed = when_listed (get_or cases k c).when one.on_side }

  action_sound : (atoms : ℕ) (action : CaseAction) → IsSidedAction split d atoms action → IsCaseAction d atoms action
  action_sound atoms action sided =
      record {
        pre = cases_sound (atoms + 1) action.pre sided.pre;
        add = cases_sound atoms action.add sided.add;
        del = cases_sound (atoms + 1) action.del sided.del;
        cost = sided.cost;
        known = when_listed action.known sided.known;
        apart = sided.apart;
        beside = sided.beside;
      }

  among_sided : (bound : ℕ) (cases : List Case) (when : When) → All (IsSided split d bound) cases → StandsAmong cases when → is_sided split d when ≡ true
  among_sided bound cases when each (case, among, e) = subst (λ w. is_sided split d w ≡ true) e (All-contains (IsSided split d bound) cases case each among).on_side

  in_sided : (atoms : ℕ) (action : CaseAction) (when : When) → IsSidedAction split d atoms action → StandsIn action when → is_sided split d when ≡ true
  in_sided atoms action when sided (inl pre) = among_sided (atoms + 1) action.pre when sided.pre pre
  in_sided atoms action when sided (inr (inl add)) = among_sided atoms action.add when sided.add add
  in_sided atoms action when sided (inr (inr (inl del))) = among_sided (atoms + 1) action.del when sided.del del
  in_sided atoms action when sided (inr (inr (inr known))) = subst (λ w. is_sided split d w ≡ true) known sided.known

  module _ (atoms : ℕ) (start goal : List Case) (actions : List CaseAction) (starts : All (IsSided split d atoms) start) (goals : All (IsSided split d (atoms + 1)) goal) (each : All (IsSidedAction split d atoms) actions) where
    stands_sided : (when : When) → Stands start goal actions when → is_sided split d when ≡ true
    stands_sided when (inl there) = among_sided atoms start when starts there
    stands_sided when (inr (inl there)) = among_sided (atoms + 1) goal when goals there
    stands_sided when (inr (inr (action, among, there))) = in_sided atoms action when (All-contains (IsSidedAction split d atoms) actions action each among) there

    pub sided_sound : d ≤ 256 → atoms ≤ 4096 → length actions ≤ 50000 → IsCaseTable d atoms start goal actions
    sided_sound few_differences few_atoms few_actions =
        record {
          few_differences = few_differences;
          few_atoms = few_atoms;
          few_actions = few_actions;
          starts = cases_sound atoms start starts;
          goals = cases_sound (atoms + 1) goal goals;
          each = λ k a lt. action_sound atoms (get_or actions k a) (each k a lt);
          one_way = λ place told left. never_both place (stands_sided (IfTold place) told) (stands_sided (IfLeft place) left);
        }
