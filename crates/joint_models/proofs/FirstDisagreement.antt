-- Two vocabularies agree, or have a first disagreement.
use Rattle.std.proofs.Common.{◌≡◌, ℕ, Bool, true, false, List, ◌++◌, Option, None, Some, refl, ap, sym, ⊎_elim, inl, inr}
use Rattle.std.specs.Prelude.{◌⊎◌, Contains}
use Rattle.std.specs.Cmp.Lexicographic.{pointwise, pointwise_decides}
use Rattle.model_kit.specs.declared.vocabulary.Vocabulary.{Vocabulary}
use Rattle.model_kit.specs.Same.{same_numbers}
use Rattle.model_kit.specs.Pairs.{Agree, names}
use Rattle.model_kit.specs.Differences.{IsPrintedBefore}
use Rattle.model_kit.proofs.Alike.{same_numbers-decides}
use Rattle.joint_models.specs.declared.group.Group.{Group}
use Rattle.joint_models.specs.declared.group.Group.TheVariants.{Types, Objects, Actions, Predicates, Functions}
use Rattle.joint_models.specs.declared.stop.PairFault.{PairFault}
use Rattle.joint_models.specs.Disagreements.{entries_in, has, AreAlike, is_shared, Disagree, AgreeIn, spelled, IsFirstIn, IsFirstDisagreement}
use Rattle.joint_models.proofs.Alikeness.{agree_from}
use Rattle.joint_models.proofs.Search.{found_all}
use Rattle.joint_models.proofs.Told.{told_types, told_objects, told_actions, told_predicates, told_functions}
use Rattle.joint_models.proofs.Sorting.{IsFirstOf, first_known, equal_known, texts_trans, texts_total}

lists_known : (one two : List (List ℕ)) → (one ≡ two) ⊎ ¬ (one ≡ two)
lists_known = equal_known (pointwise same_numbers) (pointwise_decides same_numbers-decides)

alike_known : (shared : Bool) (one two : Option (List (List ℕ))) → AreAlike shared one two ⊎ ¬ AreAlike shared one two
alike_known true None None = inl refl
alike_known true None (Some b) = inr (λ same. cc)
alike_known true (Some a) None = inr (λ same. cc)
alike_known true (Some a) (Some b) = ⊎_elim (λ is. inl (ap Some is)) (λ other. inr (λ same. other (cc))) (lists_known a b)
alike_known false None two = inl tt
alike_known false (Some a) None = inl tt
alike_known false (Some a) (Some b) = lists_known a b

module _ (group : Group) (planner user : Vocabulary) where
  disagree_known : (name : List ℕ) → Disagree group planner user name ⊎ ¬ Disagree group planner user name
  disagree_known name =
      ⊎_elim (λ alike. inr (λ other. other alike)) (λ other. inl other)
      (alike_known (is_shared group) (has group planner name) (has group user name))

  abbrev all_names : List (List ℕ)
  all_names = names (entries_in group planner) ++ names (entries_in group user)

  -- they agree in a group, or have a first disagreement there
  first_in : AgreeIn group planner user ⊎ ((fault : PairFault) × IsFirstIn group planner user fault)
  first_in =
      by (first_known IsPrintedBefore texts_trans (Disagree group planner user) (λ f g _ _. texts_total f g) disagree_known all_names)
    where
      by : ((name : List ℕ) → Contains all_names name → ¬ Disagree group planner user name)
          ⊎ ((name : List ℕ) × IsFirstOf IsPrintedBefore texts_trans (Disagree group planner user) (λ f g _ _. texts_total f g) all_names name)
          → AgreeIn group planner user ⊎ ((fault : PairFault) × IsFirstIn group planner user fault)
      by (inl none) = inl (found_all group planner user None (λ name seen. none name seen.0 seen.1))
      by (inr (name, is)) = inr (
        record { planner = spelled group name (has group planner name); user = spelled group name (has group user name) },
        record {
          name = name;
          earliest = found_all group planner user (Some name) (record {
            here = (is.listed, is.has);
            first = λ other seen apart. ⊎_elim (λ same. absurd (apart (sym same))) (λ before. before) (is.first other seen.0 seen.1);
          });
          planner_is = refl;
          user_is = refl;
        },
      )

abbrev In : Vocabulary → Vocabulary → Group → Type 0
In planner user group = AgreeIn group planner user ⊎ ((fault : PairFault) × IsFirstIn group planner user fault)

pub agree_or_not : (planner user : Vocabulary) → Agree planner user ⊎ ((fault : PairFault) × IsFirstDisagreement planner user fault)
agree_or_not planner user =
    by (first_in Types planner user) (first_in Objects planner user) (first_in Actions planner user) (first_in Predicates planner user) (first_in Functions planner user)
  where
    by : In planner user Types → In planner user Objects → In planner user Actions → In planner user Predicates → In planner user Functions → Agree planner user ⊎ ((fault : PairFault) × IsFirstDisagreement planner user fault)
    by (inr f) objects actions predicates functions = inr (f.0, told_types planner user f.0 f.1)
    by (inl types) (inr f) actions predicates functions = inr (f.0, told_objects planner user types f.0 f.1)
    by (inl types) (inl objects) (inr f) predicates functions = inr (f.0, told_actions planner user types objects f.0 f.1)
    by (inl types) (inl objects) (inl actions) (inr f) functions = inr (f.0, told_predicates planner user types objects actions f.0 f.1)
    by (inl types) (inl objects) (inl actions) (inl predicates) (inr f) = inr (f.0, told_functions planner user types objects actions predicates f.0 f.1)
    by (inl types) (inl objects) (inl actions) (inl predicates) (inl functions) = inl (agree_from planner user types objects actions predicates functions)
