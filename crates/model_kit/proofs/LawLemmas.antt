-- The laws of explanations, of two models in the numbers of one vocabulary.
use Rattle.std.proofs.Common.{◌≡◌, ℕ, ◌≤◌, true, List, length, sym, subst, ◌∙◌, arith, ⊎_elim, inl, inr}
use Rattle.std.specs.Prelude.{◌⊎◌, ◌≢◌, IsTrue, All}
use Rattle.std.specs.Ordering.{nat_cmp}
use Rattle.std.specs.Cmp.{nat_cmp_total}
use Rattle.std.specs.FinSet as set
use Rattle.std.proofs.lemmas.Bool.{true≢false, cases_Bool, false_from_ne_true}
use Rattle.mre_base.specs.Before.{is_before}
use Rattle.model_kit.specs.declared.vocabulary.Vocabulary.{Vocabulary}
use Rattle.model_kit.specs.declared.action.GroundAction.{GroundAction}
use Rattle.model_kit.specs.declared.model.Model.{Model}
use Rattle.model_kit.specs.Vocabulary.{IsGroundAction}
use Rattle.model_kit.specs.Places.{Place, meaning}
use Rattle.model_kit.specs.Differences.{patched}
use Rattle.model_kit.specs.Runs.{IsCheapest}
use Rattle.model_kit.specs.Explanations.{Task, IsPosed, IsWithin, IsComplete, IsMonotonic, IsFirst, IsMCE, IsMME}
use Rattle.model_kit.specs.Laws.{AtMostOne, MCELaw, MMELaw, OrderLaw, weight_of, task_of}
use Rattle.model_kit.proofs.OrderLemmas.{Within, before_one_way, before_no_heavier, before_total}
use Rattle.model_kit.proofs.FirstLemmas.{first_of_known, each_known}
use Rattle.model_kit.proofs.PlaceLemmas.{all_of, all_has, all_within, patched_all}
use Rattle.model_kit.proofs.FiniteLemmas.{cheapest_known}
use Rattle.model_kit.proofs.PatchedLemmas.{finite_after}

module _ (words : Vocabulary) (planner user : Model) (places : List Place) (weights : List ℕ) (plan : List GroundAction)
    (posed : IsPosed (task_of words planner user places weights plan)) (ground : All (IsGroundAction words) plan) where
  abbrev task : Task
  task = task_of words planner user places weights plan

  abbrev d : ℕ
  d = length places

  abbrev whole : set.FinSet nat_cmp
  whole = all_of d

  -- the numbers that have weights are those of the differences
  by_weights : (told : set.FinSet nat_cmp) → Within (length weights) told → IsWithin task told
  by_weights told = subst (λ n. Within n told) posed.weights.one_each

  to_weights : (told : set.FinSet nat_cmp) → IsWithin task told → Within (length weights) told
  to_weights told = subst (λ n. Within n told) (sym posed.weights.one_each)

  complete_known : (told : set.FinSet nat_cmp) → IsComplete task told ⊎ ¬ IsComplete task told
  complete_known told = cheapest_known words (patched (meaning planner) (meaning user) places told) (finite_after planner user places (set.contains told)) plan ground

  after_whole : patched (meaning planner) (meaning user) places whole ≡ meaning planner
  after_whole = patched_all (meaning planner) (meaning user) places posed.differences.agree

  whole_complete : IsCheapest words (meaning planner) plan → IsComplete task whole
  whole_complete cheapest = subst (λ m. IsCheapest words m plan) (sym after_whole) cheapest

  whole_cheapest : IsComplete task whole → IsCheapest words (meaning planner) plan
  whole_cheapest complete = subst (λ m. IsCheapest words m plan) after_whole complete

  -- each set is within the whole, and a set that has the whole is the whole
  inside_whole : (told : set.FinSet nat_cmp) → IsWithin task told → IsTrue (set.is_subset told whole)
  inside_whole told within = set.contains-is_subset nat_cmp_total told whole (λ q there. let bounds = within q there in all_has d q bounds.0 bounds.1)

  only_whole : (more : set.FinSet nat_cmp) → IsWithin task more → IsTrue (set.is_subset whole more) → more ≡ whole
  only_whole more within has =
      set.same_set nat_cmp_total set.nat_cmp-IsAntisymmetric more whole
      (λ q. ⊎_elim
      (λ there. let bounds = within q there in there ∙ sym (all_has d q bounds.0 bounds.1))
      (λ away. away ∙ sym (false_from_ne_true (set.contains whole q) (λ in_whole. true≢false (sym (set.is_subset-contains nat_cmp_total whole more has q in_whole) ∙ away))))
      (cases_Bool (set.contains more q)))

  whole_monotonic : IsCheapest words (meaning planner) plan → IsMonotonic task whole
  whole_monotonic cheapest more within has = subst (IsComplete task) (sym (only_whole more within has)) (whole_complete cheapest)

  monotonic_known : (told : set.FinSet nat_cmp) → IsMonotonic task told ⊎ ¬ IsMonotonic task told
  monotonic_known told =
      ⊎_elim
      (λ each. inl (λ more within has. each more within has))
      (λ not_each. inr (λ monotonic. not_each (λ more within has. monotonic more within has)))
      (each_known d (set.is_subset told) (IsComplete task) (λ more within. complete_known more))

  -- of two firsts neither is before the other, so they are equal
  first_once : (P : set.FinSet nat_cmp → Type 0) → AtMostOne (IsFirst task P)
  first_once P a b one two =
      ⊎_elim (λ same. same)
      (⊎_elim
      (λ before. absurd (before_one_way weights a b before (two.first a one.within one.has (apart a b before))))
      (λ before. absurd (before_one_way weights b a before (one.first b two.within two.has (apart b a before)))))
      (before_total weights a b (to_weights a one.within) (to_weights b two.within))
    where
      apart : (x y : set.FinSet nat_cmp) → is_before weights x y ≡ true → x ≢ y
      apart x y before same = before_one_way weights x y before (subst (λ z. is_before weights z x ≡ true) same (subst (λ z. is_before weights x z ≡ true) (sym same) before))

  -- where one set has a property that is known of each, one of them is first
  first_exists : (P : set.FinSet nat_cmp → Type 0) → ((told : set.FinSet nat_cmp) → P told ⊎ ¬ P told) → (some : set.FinSet nat_cmp) → IsWithin task some → P some → (first : set.FinSet nat_cmp) × IsFirst task P first
  first_exists P known some within has =
      let first = first_of_known weights P (λ told inside. known told) some (to_weights some within) has in
      (first.0, record { within = by_weights first.0 first.1; has = first.2; first = λ other inside p differs. first.3 other (to_weights other inside) p differs })

  mce_exists : IsCheapest words (meaning planner) plan → (mce : set.FinSet nat_cmp) × IsMCE task mce
  mce_exists cheapest = first_exists (IsComplete task) complete_known whole (all_within d) (whole_complete cheapest)

  mme_cheapest : (mme : set.FinSet nat_cmp) → IsMME task mme → IsCheapest words (meaning planner) plan
  mme_cheapest mme first = whole_cheapest (first.has whole (all_within d) (inside_whole mme first.within))

  pub mce_law : MCELaw task
  mce_law = record { exists = mce_exists; one = first_once (IsComplete task) }

  pub mme_law : MMELaw task
  mme_law = record {
    exists = λ cheapest. first_exists (IsMonotonic task) monotonic_known whole (all_within d) (whole_monotonic cheapest);
    only = mme_cheapest;
    one = first_once (IsMonotonic task);
  }

  -- a monotonic set is complete
  complete_itself : (told : set.FinSet nat_cmp) → IsWithin task told → IsMonotonic task told → IsComplete task told
  complete_itself told within monotonic = monotonic told within (set.contains-is_subset nat_cmp_total told told (λ q there. there))

  -- the MCE is the MME, or is before it
  mce_first : (mme mce : set.FinSet nat_cmp) → IsMME task mme → IsMCE task mce → (mme ≡ mce) ⊎ (is_before weights mce mme ≡ true)
  mce_first mme mce last first =
      ⊎_elim (λ same. inl same)
      (⊎_elim
      (λ before. inr (first.first mme last.within (complete_itself mme last.within last.has) (λ same. before_one_way weights mme mce before (subst (λ z. is_before weights z mme ≡ true) same (subst (λ z. is_before weights mme z ≡ true) (sym same) before)))))
      (λ before. inr before))
      (before_total weights mme mce (to_weights mme last.within) (to_weights mce first.within))

  pub order_law : OrderLaw task
  order_law = record {
    exists = λ mme last. mce_exists (mme_cheapest mme last);
    never_before = λ mme mce last first. false_from_ne_true (is_before weights mme mce) (λ before.
        ⊎_elim
        (λ same. before_one_way weights mme mce before (subst (λ z. is_before weights z mme ≡ true) same (subst (λ z. is_before weights mme z ≡ true) (sym same) before)))
        (λ other_way. before_one_way weights mme mce before other_way)
        (mce_first mme mce last first));
    no_lighter = λ mme mce last first.
        ⊎_elim
        (λ same. subst (λ z. weight_of task z ≤ weight_of task mme) same (omega arith))
        (λ before. before_no_heavier weights mce mme before)
        (mce_first mme mce last first);
  }
