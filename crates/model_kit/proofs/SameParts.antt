-- Vocabularies and models with equal parts are equal, and two models have one pair in joint numbers.
use Rattle.std.proofs.Common.{◌≡◌, ℕ, zero, suc, List, [], ◌∷◌, None, Some, refl, sym, ◌∙◌, subst}
use Rattle.std.specs.Prelude.{IsTrue, slice_get}
use mathlib.Core.Bool.{Bool-set}
use Rattle.model_kit.specs.declared.vocabulary.Vocabulary.{Vocabulary}
use Rattle.model_kit.specs.declared.vocabulary.Signature.{Signature}
use Rattle.model_kit.specs.declared.atom.GroundAtom.{GroundAtom}
use Rattle.model_kit.specs.declared.model.Model.{Model}
use Rattle.model_kit.specs.declared.model.Schema.{Schema}
use Rattle.model_kit.specs.Words.{is_vocabulary}
use Rattle.model_kit.specs.Features.{is_model}
use Rattle.model_kit.specs.Pairs.{IsJoint, IsModelIn, ArePaired}

abbrev Words : Type 0
Words = List (List ℕ × ℕ) × List (List ℕ × ℕ) × List Signature × List Signature × List Signature

pub words_same : (a b : Vocabulary) → a.types ≡ b.types → a.objects ≡ b.objects → a.predicates ≡ b.predicates → a.functions ≡ b.functions → a.actions ≡ b.actions → a ≡ b
words_same a b types objects predicates functions actions =
    let F : Words → Type 0 = λ l. (s : IsTrue (is_vocabulary l.0 l.1 l.2 l.3 l.4))
    → a ≡ (let w : Vocabulary = record { types = l.0; objects = l.1; predicates = l.2; functions = l.3; actions = l.4; sound = s } in w) in
    let one : F (a.types, a.objects, a.predicates, a.functions, a.actions) =
    λ s. let prop : IsProp (IsTrue (is_vocabulary a.types a.objects a.predicates a.functions a.actions)) = hlevel Bool-set in
    λ i. record { types = a.types; objects = a.objects; predicates = a.predicates; functions = a.functions; actions = a.actions; sound = prop a.sound s i } in
    subst F (λ i. (types i, objects i, predicates i, functions i, actions i)) one b.sound

abbrev Lists : Type 0
Lists = Vocabulary × List GroundAtom × List GroundAtom × List Schema × List (ℕ × List ℕ × ℕ) × List ℕ

pub model_same : (a b : Model) → a.words ≡ b.words → a.init ≡ b.init → a.goal ≡ b.goal → a.schemas ≡ b.schemas → a.values ≡ b.values → a.unknown ≡ b.unknown → a ≡ b
model_same a b words init goal schemas values unknown =
    let F : Lists → Type 0 = λ l. (s : IsTrue (is_model l.0 l.1 l.2 l.3 l.4 l.5))
    → a ≡ (let m : Model = record { words = l.0; init = l.1; goal = l.2; schemas = l.3; values = l.4; unknown = l.5; sound = s } in m) in
    let one : F (a.words, a.init, a.goal, a.schemas, a.values, a.unknown) =
    λ s. let prop : IsProp (IsTrue (is_model a.words a.init a.goal a.schemas a.values a.unknown)) = hlevel Bool-set in
    λ i. record { words = a.words; init = a.init; goal = a.goal; schemas = a.schemas; values = a.values; unknown = a.unknown; sound = prop a.sound s i } in
    subst F (λ i. (words i, init i, goal i, schemas i, values i, unknown i)) one b.sound

-- there is only one joint vocabulary
pub one_joint : (planner user a b : Vocabulary) → IsJoint planner user a → IsJoint planner user b → a ≡ b
one_joint planner user a b one two =
    words_same a b (one.types ∙ sym two.types) (one.objects ∙ sym two.objects) (one.predicates ∙ sym two.predicates) (one.functions ∙ sym two.functions) (one.actions ∙ sym two.actions)

-- lists with the same items at all places are equal
pub same_items : {X : Type 0} (xs ys : List X) → ((n : ℕ) → slice_get xs n ≡ slice_get ys n) → xs ≡ ys
same_items [] [] same = refl
same_items [] (y ∷ ys) same = let none : None ≡ Some y = same 0 in absurd (cc)
same_items (x ∷ xs) [] same = let none : Some x ≡ None = same 0 in absurd (cc)
same_items (x ∷ xs) (y ∷ ys) same =
    let first : Some x ≡ Some y = same 0 in
    let here : x ≡ y = cc in
    let rest : xs ≡ ys = same_items xs ys (λ n. same (suc n)) in
    λ i. here i ∷ rest i

model_in_once : (words : Vocabulary) (own other a b : Model) → IsModelIn words own other a → IsModelIn words own other b → a ≡ b
model_in_once words own other a b one two =
    model_same a b (one.words_are ∙ sym two.words_are) (one.init ∙ sym two.init) (one.goal ∙ sym two.goal) (same_items a.schemas b.schemas (λ n. one.schemas n ∙ sym (two.schemas n)))
    (one.values ∙ sym two.values) (one.unknown ∙ sym two.unknown)

-- two models have one pair in the numbers of their joint vocabulary
pub paired_once : (planner user a_planner a_user b_planner b_user : Model) → ArePaired planner user a_planner.words a_planner a_user → ArePaired planner user b_planner.words b_planner b_user
    → (a_planner ≡ b_planner) × (a_user ≡ b_user)
paired_once planner user a_planner a_user b_planner b_user one two =
    let words = one_joint planner.words user.words a_planner.words b_planner.words one.joint two.joint in (
      model_in_once a_planner.words planner user a_planner b_planner one.planner_in (subst (λ w. IsModelIn w planner user b_planner) (sym words) two.planner_in),
      model_in_once a_planner.words user planner a_user b_user one.user_in (subst (λ w. IsModelIn w user planner b_user) (sym words) two.user_in),
    )
