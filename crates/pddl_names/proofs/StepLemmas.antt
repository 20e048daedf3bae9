-- A line that is a step is that step alone, and none of its words breaks a rule.
use Rattle.std.proofs.Common.{◌≡◌, ℕ, zero, suc, Bool, true, false, Some, Option, List, [], ◌∷◌, length, refl, sym, ap, subst, ◌∙◌}
use Rattle.std.specs.Prelude.{slice_get}
use Rattle.std.specs.Option.{option_map, option_map_or}
use Rattle.std.specs.Cmp.{first_so, second_so}
use Rattle.std.specs.Cmp.Lexicographic.{pointwise}
use Rattle.std.proofs.lemmas.Bool.{true≢false}
use Rattle.mre_base.specs.declared.text.Text.{Text}
use Rattle.mre_base.proofs.Options.{same_some}
use Rattle.pddl_text.specs.declared.fault.TextRule.{TextRule}
use Rattle.pddl_text.specs.declared.place.Place.{Place}
use Rattle.pddl_text.specs.Plans.{Words}
use Rattle.model_kit.specs.declared.action.GroundAction.{GroundAction}
use Rattle.model_kit.specs.declared.vocabulary.Signature.{Signature}
use Rattle.model_kit.specs.declared.vocabulary.Vocabulary.{Vocabulary}
use Rattle.model_kit.specs.Vocabulary.{IsGroundAction, is_object_of}
use Rattle.model_kit.proofs.FitLemmas.{pointwise_count}
use Rattle.model_kit.proofs.WordFacts.{facts_of_words, typed_named, signatures_named}
use Rattle.pddl_names.specs.Numbers.{IsNumberOf, entry_name, word_name}
use Rattle.pddl_names.specs.PlanNames.{AreObjects, none, more, IsStep, HasWord, BeginsWith, Breaks, action, object, arity, type, IsSound}
use Rattle.pddl_names.proofs.NumberLemmas.{named_entry, one_number}

-- the numbers of two lists that fit at a place
pub pointwise_at : {X Y : Type 0} (f : X → Y → Bool) (xs : List X) (ys : List Y) (place : ℕ) (x : X) (y : Y)
    → pointwise f xs ys ≡ true → slice_get xs place ≡ Some x → slice_get ys place ≡ Some y → f x y ≡ true
pointwise_at f [] ys zero x y fit at_x at_y = absurd (cc)
pointwise_at f [] ys (suc place) x y fit at_x at_y = absurd (cc)
pointwise_at f (a ∷ xs) [] zero x y fit at_x at_y = absurd (cc)
pointwise_at f (a ∷ xs) [] (suc place) x y fit at_x at_y = absurd (cc)
pointwise_at f (a ∷ xs) (b ∷ ys) zero x y fit at_x at_y =
    (λ i. f (sym (same_some a x at_x) i) (sym (same_some b y at_y) i)) ∙ first_so (f a b) (pointwise f xs ys) fit
pointwise_at f (a ∷ xs) (b ∷ ys) (suc place) x y fit at_x at_y = pointwise_at f xs ys place x y (second_so (f a b) (pointwise f xs ys) fit) at_x at_y

module _ (words : Vocabulary) where
  -- no two objects have one name, and no two actions
  pub one_object : (name : List ℕ) (one two : ℕ) → IsNumberOf entry_name words.objects name one → IsNumberOf entry_name words.objects name two → one ≡ two
  one_object name = one_number entry_name words.objects name (typed_named words.types words.objects (facts_of_words words).objects_kept).apart

  pub one_action : (name : List ℕ) (one two : ℕ) → IsNumberOf word_name words.actions name one → IsNumberOf word_name words.actions name two → one ≡ two
  one_action name = one_number word_name words.actions name (signatures_named words.types words.actions (facts_of_words words).actions_kept).apart

  -- ---- the objects of a line

  same_objects : {line : Words} {one two : List ℕ} → AreObjects words line one → AreObjects words line two → one ≡ two
  same_objects none none = refl
  same_objects (more {word = word} {object = a} is rest) (more {object = b} its others) = λ i. one_object word.0 a b is its i ∷ same_objects rest others i

  pub objects_count : {line : Words} {objects : List ℕ} → AreObjects words line objects → length line ≡ length objects
  objects_count none = refl
  objects_count (more is rest) = ap suc (objects_count rest)

  pub object_there : {line : Words} {objects : List ℕ} → AreObjects words line objects → (place : ℕ) (word : Text × Place) → slice_get line place ≡ Some word
      → (number : ℕ) × (slice_get objects place ≡ Some number) × IsNumberOf entry_name words.objects word.0 number
  object_there none zero word at = absurd (cc)
  object_there none (suc place) word at = absurd (cc)
  object_there (more {word = there} {object = number} is rest) zero word at =
      (number, refl, subst (λ (w : Text × Place). IsNumberOf entry_name words.objects w.0 number) (same_some there word at) is)
  object_there (more is rest) (suc place) word at = object_there rest place word at

  -- ---- the action of a line

  -- an action fits the signature that it has
  pub action_fits : (step : GroundAction) (signature : Signature) → IsGroundAction words step → slice_get words.actions step.schema ≡ Some signature
      → pointwise (is_object_of words) step.objects signature.params ≡ true
  action_fits step signature fits at = sym (ap (λ (o : Option Signature). option_map_or (λ s. pointwise (is_object_of words) step.objects s.params) o false) at) ∙ fits

  -- the action that a line begins with has the name of its first word
  pub begun_number : (head : Text × Place) (rest : Words) (signature : Signature) (begins : BeginsWith words (head ∷ rest) signature) → IsNumberOf word_name words.actions head.0 begins.number
  begun_number head rest signature begins = ap (option_map word_name) begins.declared ∙ sym begins.named

  pub begun_at : (head : Text × Place) (rest : Words) (signature : Signature) → BeginsWith words (head ∷ rest) signature → (number : ℕ) → IsNumberOf word_name words.actions head.0 number → slice_get words.actions number ≡ Some signature
  begun_at head rest signature begins number is =
      ap (slice_get words.actions) (one_action head.0 number begins.number is (begun_number head rest signature begins)) ∙ begins.declared

  -- a word of a line has this name
  pub word_there : (line : Words) (place : ℕ) (name : Text) → HasWord line place name → (word : Text × Place) × (slice_get line place ≡ Some word) × (word.0 ≡ name)
  word_there line place name stands = named_entry (λ (word : Text × Place). word.0) name (slice_get line place) stands

  module _ (head : Text × Place) (rest : Words) (step : GroundAction) (is : IsNumberOf word_name words.actions head.0 step.schema) (objects : AreObjects words rest step.objects) (fits : IsGroundAction words step) where
    object_named : (place : ℕ) (name : Text) → HasWord rest place name → (number : ℕ) × (slice_get step.objects place ≡ Some number) × IsNumberOf entry_name words.objects name number
    object_named place name stands =
        let word = word_there rest place name stands in
        let there = object_there objects place word.0 word.1 in
        (there.0, there.1, subst (λ (n : List ℕ). IsNumberOf entry_name words.objects n there.0) word.2 there.2)

    no_fault : {place : ℕ} {broken : TextRule} → Breaks words (head ∷ rest) place broken → ⊥
    no_fault (action name stands unknown) = unknown step.schema (is ∙ stands)
    no_fault (object place name stands unknown) = let there = object_named place name stands in unknown there.0 there.2
    no_fault (arity signature begins apart) =
        apart (ap suc (objects_count objects ∙ pointwise_count (is_object_of words) step.objects signature.params (action_fits step signature fits (begun_at head rest signature begins step.schema is))))
    no_fault (type signature place name number above begins at stands named wrong) =
        let there = object_named place name stands in
        let same = one_object name there.0 number there.2 named in
        true≢false (sym (pointwise_at (is_object_of words) step.objects signature.params place there.0 above (action_fits step signature fits (begun_at head rest signature begins step.schema is)) there.1 at)
        ∙ ap (λ n. is_object_of words n above) same ∙ wrong)

  pub step_sound : (line : Words) (step : GroundAction) → IsStep words line step → IsSound words line
  step_sound line step is = subst (IsSound words) (sym is.parts) (λ place broken. no_fault is.head is.rest step is.action is.objects is.fits {place = place} {broken = broken})

  -- ---- a line is one step at most

  abbrev rest_of : Words → Words
  rest_of [] = []
  rest_of (word ∷ rest) = rest

  pub same_step : (line : Words) (one two : GroundAction) → IsStep words line one → IsStep words line two → one ≡ two
  same_step line one two first second =
      let heads : first.head ≡ second.head = same_some first.head second.head (ap (λ (l : Words). slice_get l 0) (sym first.parts ∙ second.parts)) in
      let rests : first.rest ≡ second.rest = ap rest_of (sym first.parts ∙ second.parts) in
      let schemas = one_action second.head.0 one.schema two.schema (subst (λ (w : Text × Place). IsNumberOf word_name words.actions w.0 one.schema) heads first.action) second.action in
      let objects = same_objects (subst (λ (l : Words). AreObjects words l one.objects) rests first.objects) second.objects in
      λ i. record { schema = schemas i; objects = objects i }
