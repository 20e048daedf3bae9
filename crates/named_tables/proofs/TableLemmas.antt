-- A table of two models that lists the reachable atoms and actions is, after each set of differences, the user's model in numbers.
use Rattle.std.proofs.Common.{◌≡◌, ℕ, ◌≤◌, ◌<◌, List, length, Some, None, unwrap_or, refl, sym, ap, ◌∙◌, arith, subst, inl, inr}
use Rattle.std.specs.Prelude.{Contains, slice_get}
use Rattle.std.specs.Option.{option_map}
use Rattle.std.proofs.lemmas.Bool.{cases_lt}
use Rattle.std.proofs.lemmas.Option.{slice_get_within, slice_get_past, slice_get-map, get_or_from_slice_get}
use Rattle.cube_kit.specs.Cubes.{Told}
use Rattle.model_kit.specs.declared.atom.GroundAtom.{GroundAtom}
use Rattle.model_kit.specs.declared.atom.SchemaAtom.{SchemaAtom}
use Rattle.model_kit.specs.declared.action.GroundAction.{GroundAction}
use Rattle.model_kit.specs.Places.{Init, Goal, Pre, Add, Del}
use Rattle.model_kit.specs.Runs.{Has, instance}
use Rattle.task_kit.specs.Tasks.{Numbers, no_action, action_at, cost_at}
use Rattle.task_kit.proofs.PlaceLemmas.{item_there}
use Rattle.case_kit.specs.declared.action.CaseAction.{CaseAction}
use Rattle.case_kit.specs.declared.table.CaseTable.{CaseTable}
use Rattle.case_kit.specs.Members.{action_after, member}
use Rattle.named_tables.specs.Models.{Models, after_told}
use Rattle.named_tables.specs.Reachable.{Reachable, Atom, Initial, Added}
use Rattle.named_tables.specs.Numbered.{ListsReachable}
use Rattle.named_tables.specs.Tables.{number_in, IsTableOf}
use Rattle.named_tables.proofs.CaseLemmas.{AreNumbered, either_has, case_numbers}
use Rattle.named_tables.proofs.NumberLemmas.{number_most, number_listed, number_there}
use Rattle.named_tables.proofs.PriceLemmas.{cost_is}
use Rattle.named_tables.proofs.StepLemmas.{IsActionIn, IsModelIn}
use Rattle.mre_base.proofs.Listed.{item_contained}
use Rattle.mre_base.proofs.Options.{same_some}

-- the atoms of facts are the facts
fact_numbers : (number : GroundAtom → ℕ) (IsSo : GroundAtom → Type 0) (numbers : Numbers) → AreNumbered number (λ a. (f : GroundAtom) × IsSo f × (f ≡ a)) numbers → AreNumbered number IsSo numbers
fact_numbers number IsSo numbers are i = (
  λ there. let (a, (f, so, is), at) = (are i).0 there in (a, subst IsSo is so, at),
  λ (a, so, at). (are i).1 (a, (a, so, refl), at),
)

module _ (models : Models) (atoms : List GroundAtom) (actions : List GroundAction) (table : CaseTable) (lists : ListsReachable models atoms actions) (is : IsTableOf models atoms actions table) (told : Told) where
  reached_below : (atom : GroundAtom) → Reachable models (Atom atom) → number_in atoms atom < length atoms
  reached_below atom reached = number_listed atoms atom ((lists.each_atom atom).1 reached)

  action_there : (k : ℕ) (cases : CaseAction) → slice_get table.actions k ≡ Some cases → action_at (member table told) k ≡ action_after told cases
  action_there k cases at = ap (λ o. unwrap_or o no_action) (slice_get-map (action_after told) table.actions k ∙ ap (option_map (action_after told)) at)

  made_of : (k : ℕ) (action : GroundAction) (cases : CaseAction) → slice_get actions k ≡ Some action → slice_get table.actions k ≡ Some cases
      → IsActionIn (length atoms) (number_in atoms) (after_told models told) action (action_after told cases)
  made_of k action cases at cases_at =
      let each = is.each k action cases at cases_at in
      record {
        pre = case_numbers models told (number_in atoms) SchemaAtom (Pre action.schema) (instance action.objects) cases.pre each.pre;
        add = case_numbers models told (number_in atoms) SchemaAtom (Add action.schema) (instance action.objects) cases.add each.add;
        del = case_numbers models told (number_in atoms) SchemaAtom (Del action.schema) (instance action.objects) cases.del each.del;
        cost = cost_is models told action cases.known cases.cost each.known each.cost;
        listed = λ atom (f, on, made). reached_below atom (subst (λ a. Reachable models (Atom a)) made
            (Added action f ((lists.each_action action).0 (item_contained actions k action at)) (either_has models told (Add action.schema f) on)));
      }

  none_is : (action : GroundAction) → None ≡ Some action → ⊥
  none_is action e = cc

  gone : (k : ℕ) → slice_get actions k ≡ None → length actions ≤ k
  gone k none = elim (cases_lt k (length actions)) [
    | inl lt ↦ let there = item_there actions k lt in absurd (none_is there.0 (sym none ∙ there.1))
    | inr beyond ↦ beyond
  ]

  past_actions : (k : ℕ) → slice_get actions k ≡ None → cost_at (member table told) k ≡ None
  past_actions k none =
      ap (λ o. (unwrap_or o no_action).cost) (slice_get-map (action_after told) table.actions k ∙ ap (option_map (action_after told)) (slice_get_past table.actions k (let beyond = gone k none in omega (arith, beyond, is.one_each))))

  pub model_in : IsModelIn (length atoms) (number_in atoms) actions (after_told models told) (member table told)
  model_in = record {
    most = number_most atoms;
    one = λ a b lt same. same_some a b (sym (number_there atoms a lt) ∙ ap (slice_get atoms) same ∙ number_there atoms b (subst (λ k. k < length atoms) same lt));
    start = fact_numbers (number_in atoms) (λ a. Has (after_told models told) (Init a)) _ (case_numbers models told (number_in atoms) GroundAtom Init (λ a. a) table.start is.start);
    goal = fact_numbers (number_in atoms) (λ a. Has (after_told models told) (Goal a)) _ (case_numbers models told (number_in atoms) GroundAtom Goal (λ a. a) table.goal is.goal);
    each = λ k action at.
        let lt : k < length table.actions = let within = slice_get_within actions k action at in omega (arith, within, is.one_each) in
        let (cases, cases_at) = item_there table.actions k lt in
        subst (IsActionIn (length atoms) (number_in atoms) (after_told models told) action) (sym (action_there k cases cases_at)) (made_of k action cases at cases_at);
    past = past_actions;
    listed = λ atom has. reached_below atom (Initial atom (either_has models told (Init atom) has));
  }
