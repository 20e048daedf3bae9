-- The first disagreement of a group is the first of all where the groups before agree.
use Rattle.std.proofs.Common.{ℕ, ◌<◌, Result, Ok, Err, arith}
use Rattle.model_kit.specs.declared.vocabulary.Vocabulary.{Vocabulary}
use Rattle.joint_models.specs.declared.group.Group.{Group}
use Rattle.joint_models.specs.declared.group.Group.TheVariants.{Types, Objects, Actions, Predicates, Functions}
use Rattle.joint_models.specs.declared.stop.PairFault.{PairFault}
use Rattle.joint_models.specs.declared.stop.PairStop.{PairStop}
use Rattle.joint_models.specs.declared.stop.PairStop.TheVariants.{Differs, NoMemory}
use Rattle.joint_models.specs.Disagreements.{AgreeIn, place_of, IsFirstIn, IsFirstDisagreement, IfDiffers}

pub differs_then : (P Q : PairFault → Type 0) (stop : PairStop) → IfDiffers {X = Unit {0}} (Err stop) P → ((fault : PairFault) → P fault → Q fault) → IfDiffers {X = Unit {0}} (Err stop) Q
differs_then P Q (Differs fault) told then_so = then_so fault told
differs_then P Q NoMemory told then_so = tt

pub differs_weaker : {X : Type 0} (P Q : PairFault → Type 0) (result : Result X PairStop) → IfDiffers result P → ((fault : PairFault) → P fault → Q fault) → IfDiffers result Q
differs_weaker P Q (Ok x) told then_so = tt
differs_weaker P Q (Err (Differs fault)) told then_so = then_so fault told
differs_weaker P Q (Err NoMemory) told then_so = tt

module _ (planner user : Vocabulary) where
  -- what is known of the groups below a place
  before_place : (n : ℕ) → (0 < n → AgreeIn Types planner user) → (1 < n → AgreeIn Objects planner user) → (2 < n → AgreeIn Actions planner user) → (3 < n → AgreeIn Predicates planner user) → (4 < n → AgreeIn Functions planner user)
      → (before : Group) → place_of before < n → AgreeIn before planner user
  before_place n types objects actions predicates functions Types below = types below
  before_place n types objects actions predicates functions Objects below = objects below
  before_place n types objects actions predicates functions Actions below = actions below
  before_place n types objects actions predicates functions Predicates below = predicates below
  before_place n types objects actions predicates functions Functions below = functions below

  pub told_types : (fault : PairFault) → IsFirstIn Types planner user fault → IsFirstDisagreement planner user fault
  told_types fault first = record {
    group = Types;
    first = first;
    none_before = before_place 0 (λ lt. absurd (omega arith)) (λ lt. absurd (omega arith)) (λ lt. absurd (omega arith)) (λ lt. absurd (omega arith)) (λ lt. absurd (omega arith));
  }

  pub told_objects : AgreeIn Types planner user → (fault : PairFault) → IsFirstIn Objects planner user fault → IsFirstDisagreement planner user fault
  told_objects types fault first = record {
    group = Objects;
    first = first;
    none_before = before_place 1 (λ lt. types) (λ lt. absurd (omega arith)) (λ lt. absurd (omega arith)) (λ lt. absurd (omega arith)) (λ lt. absurd (omega arith));
  }

  pub told_actions : AgreeIn Types planner user → AgreeIn Objects planner user → (fault : PairFault) → IsFirstIn Actions planner user fault → IsFirstDisagreement planner user fault
  told_actions types objects fault first = record {
    group = Actions;
    first = first;
    none_before = before_place 2 (λ lt. types) (λ lt. objects) (λ lt. absurd (omega arith)) (λ lt. absurd (omega arith)) (λ lt. absurd (omega arith));
  }

  pub told_predicates : AgreeIn Types planner user → AgreeIn Objects planner user → AgreeIn Actions planner user → (fault : PairFault) → IsFirstIn Predicates planner user fault → IsFirstDisagreement planner user fault
  told_predicates types objects actions fault first = record {
    group = Predicates;
    first = first;
    none_before = before_place 3 (λ lt. types) (λ lt. objects) (λ lt. actions) (λ lt. absurd (omega arith)) (λ lt. absurd (omega arith));
  }

  pub told_functions : AgreeIn Types planner user → AgreeIn Objects planner user → AgreeIn Actions planner user → AgreeIn Predicates planner user → (fault : PairFault) → IsFirstIn Functions planner user fault → IsFirstDisagreement planner user fault
  told_functions types objects actions predicates fault first = record {
    group = Functions;
    first = first;
    none_before = before_place 4 (λ lt. types) (λ lt. objects) (λ lt. actions) (λ lt. predicates) (λ lt. absurd (omega arith));
  }
