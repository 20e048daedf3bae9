-- How the joint list of two lists of entries grows, and how the list of unknown actions does.
use Rattle.std.proofs.Common.{◌≡◌, ℕ, ◌+◌, true, false, cond, List, [], ◌∷◌, ◌++◌, take, map, Some, sym, ap, ◌∙◌, append_assoc}
use Rattle.std.specs.Prelude.{not, filter, slice_get}
use Rattle.std.specs.List.{range_with_len}
use Rattle.std.specs.Option.{option_map_or}
use Rattle.std.proofs.lemmas.Bool.{not_from_false, not_from_true}
use Rattle.std.proofs.lemmas.List.{map-append, append-nil}
use Rattle.std.proofs.lemmas.List.Elements.{filter-append}
use Rattle.model_kit.specs.declared.vocabulary.Signature.{Signature}
use Rattle.model_kit.specs.Pairs.{is_named}
use Rattle.model_kit.specs.Printed.{name_of}
use Rattle.mre_base.proofs.Loops.{take_item}
use Rattle.joint_models.specs.Renaming.{number_at, joined_by}
use Rattle.joint_models.proofs.Mapped.{range_more}

-- an entry whose types have new numbers
abbrev pub retyped : List ℕ → Signature → Signature
retyped types s = record { name = s.name; params = map (number_at types) s.params }

module _ (types : List ℕ) (planner user : List Signature) (i : ℕ) (s : Signature) (at : slice_get user i ≡ Some s) where
  further : filter (λ t. not (is_named planner t.name)) (take (i + 1) user) ≡ filter (λ t. not (is_named planner t.name)) (take i user) ++ cond (not (is_named planner s.name)) (s ∷ []) []
  further = ap (filter (λ t. not (is_named planner t.name))) (take_item user i s at) ∙ filter-append (λ t. not (is_named planner t.name)) (take i user) (s ∷ [])

  pub joined_miss : is_named planner s.name ≡ true → (made : List Signature) → made ≡ joined_by types planner (take i user) → made ≡ joined_by types planner (take (i + 1) user)
  joined_miss named made before =
      before
      ∙ ap (λ ts. planner ++ map (retyped types) ts)
      (sym (further ∙ ap (λ b. filter (λ t. not (is_named planner t.name)) (take i user) ++ cond b (s ∷ []) []) (not_from_true (is_named planner s.name) named) ∙ append-nil _))

  pub joined_hit : is_named planner s.name ≡ false → (old new : List Signature) (made : Signature) → old ≡ joined_by types planner (take i user) → new ≡ old ++ made ∷ [] → made ≡ retyped types s → new ≡ joined_by types planner (take (i + 1) user)
  joined_hit not_named old new made before pushed is =
      pushed ∙ (λ j. before j ++ is j ∷ [])
      ∙ append_assoc planner (map (retyped types) (filter (λ t. not (is_named planner t.name)) (take i user))) (retyped types s ∷ [])
      ∙ ap (λ ts. planner ++ ts)
      (sym (ap (map (retyped types)) (further ∙ ap (λ b. filter (λ t. not (is_named planner t.name)) (take i user) ++ cond b (s ∷ []) []) (not_from_false (is_named planner s.name) not_named))
      ∙ map-append (retyped types) (filter (λ t. not (is_named planner t.name)) (take i user)) (s ∷ [])))

module _ (known actions : List Signature) (i : ℕ) (s : Signature) (at : slice_get actions i ≡ Some s) where
  name_is : name_of actions i ≡ s.name
  name_is = ap (λ o. option_map_or (λ t. t.name) o []) at

  pub unknown_miss : is_named known s.name ≡ true → (made : List ℕ) → made ≡ filter (λ n. not (is_named known (name_of actions n))) (range_with_len 0 i)
      → made ≡ filter (λ n. not (is_named known (name_of actions n))) (range_with_len 0 (i + 1))
  unknown_miss named made before =
      before
      ∙ sym (range_more (λ n. not (is_named known (name_of actions n))) i
      ∙ ap (λ b. filter (λ n. not (is_named known (name_of actions n))) (range_with_len 0 i) ++ cond b (i ∷ []) []) (not_from_true (is_named known (name_of actions i)) (ap (is_named known) name_is ∙ named))
      ∙ append-nil _)

  pub unknown_hit : is_named known s.name ≡ false → (old new : List ℕ) → old ≡ filter (λ n. not (is_named known (name_of actions n))) (range_with_len 0 i) → new ≡ old ++ i ∷ []
      → new ≡ filter (λ n. not (is_named known (name_of actions n))) (range_with_len 0 (i + 1))
  unknown_hit not_named old new before pushed =
      pushed ∙ ap (λ ks. ks ++ i ∷ []) before
      ∙ sym (range_more (λ n. not (is_named known (name_of actions n))) i
      ∙ ap (λ b. filter (λ n. not (is_named known (name_of actions n))) (range_with_len 0 i) ++ cond b (i ∷ []) []) (not_from_false (is_named known (name_of actions i)) (ap (is_named known) name_is ∙ not_named)))
