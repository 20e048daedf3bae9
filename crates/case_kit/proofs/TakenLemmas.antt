-- The atoms that a task of a cube takes from a list of cases are those that some member has, or that each member has.
use Rattle.std.proofs.Common.{◌≡◌, ℕ, Bool, true, List, refl, subst}
use Rattle.std.specs.Prelude.{Contains}
use Rattle.std.specs.FinSet as set
use Rattle.cube_kit.specs.Cubes.{CubeMeaning, is_member}
use Rattle.task_kit.specs.Tasks.{set_of}
use Rattle.case_kit.specs.declared.cases.When.{When}
use Rattle.case_kit.specs.declared.cases.Case.{Case}
use Rattle.case_kit.specs.Members.{holds}
use Rattle.case_kit.specs.Relaxed.{SomeMember, EveryMember, AreOfSome, AreOfEvery}
use Rattle.case_kit.specs.Evaluated.{atoms_where, may_hold, must_hold}
use Rattle.case_kit.proofs.CaseLists.{in_where, where_has}
use Rattle.case_kit.proofs.MemberLemmas.{must_holds, holds_may, may_somewhere, worst, IsOneWay, worst_member, worst_must}

module _ (cube : CubeMeaning) (cases : List Case) where
  -- an atom of a case that passes one test is an atom of a case that passes another
  given : (test : When → Bool) (case : Case) (k : ℕ) → Contains cases case → test case.when ≡ true → case.atom ≡ k → set.contains (set_of (atoms_where test cases)) k ≡ true
  given test case k among on is = subst (λ q. set.contains (set_of (atoms_where test cases)) q ≡ true) is (where_has test cases case among on)

  pub taken_of_some : is_member cube cube.told ≡ true → AreOfSome cube (λ told. set_of (atoms_where (holds told) cases)) (set_of (atoms_where (may_hold cube) cases))
  taken_of_some live k = (there, back) where
    there : set.contains (set_of (atoms_where (may_hold cube) cases)) k ≡ true → SomeMember cube (λ told. set.contains (set_of (atoms_where (holds told) cases)) k ≡ true)
    there has =
        let taken = in_where (may_hold cube) cases k has in
        let some = may_somewhere cube cube.told taken.0.when live taken.2 in
        (some.0, some.1, given (holds some.0) taken.0 k taken.1 some.2 taken.3)

    back : SomeMember cube (λ told. set.contains (set_of (atoms_where (holds told) cases)) k ≡ true) → set.contains (set_of (atoms_where (may_hold cube) cases)) k ≡ true
    back (told, member, has) =
        let taken = in_where (holds told) cases k has in
        given (may_hold cube) taken.0 k taken.1 (holds_may cube told taken.0.when member taken.2) taken.3

  pub taken_of_every : is_member cube cube.told ≡ true → IsOneWay cases → AreOfEvery cube (λ told. set_of (atoms_where (holds told) cases)) (set_of (atoms_where (must_hold cube) cases))
  taken_of_every live one_way k = (there, back) where
    there : set.contains (set_of (atoms_where (must_hold cube) cases)) k ≡ true → EveryMember cube (λ told. set.contains (set_of (atoms_where (holds told) cases)) k ≡ true)
    there has told member =
        let taken = in_where (must_hold cube) cases k has in
        given (holds told) taken.0 k taken.1 (must_holds cube told taken.0.when member taken.2) taken.3

    back : EveryMember cube (λ told. set.contains (set_of (atoms_where (holds told) cases)) k ≡ true) → set.contains (set_of (atoms_where (must_hold cube) cases)) k ≡ true
    back each =
        let taken = in_where (holds (worst cube cases)) cases k (each (worst cube cases) (worst_member cube cases live)) in
        given (must_hold cube) taken.0 k taken.1 (worst_must cube cases one_way taken.0.when (taken.0, taken.1, refl) taken.2) taken.3
