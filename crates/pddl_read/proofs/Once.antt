-- Words say only one domain, and for each domain only one model.
use Rattle.std.proofs.Common.{◌≡◌, ℕ, List, sym, ◌∙◌, ap, subst}
use Rattle.std.specs.Prelude.{IsTrue, map}
use mathlib.Core.Bool.{Bool-set}
use Rattle.model_kit.specs.declared.vocabulary.Vocabulary.{Vocabulary}
use Rattle.model_kit.specs.declared.model.Model.{Model}
use Rattle.model_kit.proofs.SameParts.{words_same, model_same}
use Rattle.pddl_names.specs.declared.role.Word.{Word}
use Rattle.pddl_names.specs.declared.role.Says.TheVariants as says
use Rattle.pddl_names.specs.Listings.{values_in}
use Rattle.pddl_vocabulary.specs.Values.{SaysWords, SaysMore, firsts, actions_in}
use Rattle.pddl_models.specs.declared.body.Body.{Body}
use Rattle.pddl_models.specs.declared.domain.Domain.{Domain}
use Rattle.pddl_models.specs.Bodies.{are_bodies}
use Rattle.pddl_models.specs.Says.{SaysDomain, SaysModel, body_said, facts_said, value_said, same_given}

domain_same : (a b : Domain) → a.words ≡ b.words → a.bodies ≡ b.bodies → a ≡ b
domain_same a b words bodies =
    let F : Vocabulary × List Body → Type 0 = λ l. (s : IsTrue (are_bodies l.0 l.1)) → a ≡ (let d : Domain = record { words = l.0; bodies = l.1; sound = s } in d) in
    let one : F (a.words, a.bodies) =
    λ s. let prop : IsProp (IsTrue (are_bodies a.words a.bodies)) = hlevel Bool-set in λ i. record { words = a.words; bodies = a.bodies; sound = prop a.sound s i } in
    subst F (λ i. (words i, bodies i)) one b.sound

said_words_once : (said : List Word) (a b : Vocabulary) → SaysWords said a → SaysWords said b → a ≡ b
said_words_once said a b one two =
    words_same a b (one.types ∙ sym two.types) (one.objects ∙ sym two.objects) (one.predicates ∙ sym two.predicates) (one.functions ∙ sym two.functions) (one.actions ∙ sym two.actions)

more_words_once : (domain : Vocabulary) (said : List Word) (a b : Vocabulary) → SaysMore domain said a → SaysMore domain said b → a ≡ b
more_words_once domain said a b one two =
    words_same a b (one.types ∙ sym two.types) (one.objects ∙ sym two.objects) (one.predicates ∙ sym two.predicates) (one.functions ∙ sym two.functions) (one.actions ∙ sym two.actions)

-- words say only one domain
pub domain_once : (said : List Word) (a b : Domain) → SaysDomain said a → SaysDomain said b → a ≡ b
domain_once said a b one two =
    let words = said_words_once said a.words b.words one.words two.words in
    domain_same a b words (one.bodies ∙ ap (λ (w : Vocabulary). map (body_said w) (actions_in said)) words ∙ sym two.bodies)

-- for each domain, words say only one model
pub model_once : (domain : Domain) (said : List Word) (a b : Model) → SaysModel domain said a → SaysModel domain said b → a ≡ b
model_once domain said a b one two =
    let words = more_words_once domain.words said a.words b.words one.words two.words in
    model_same a b words
    (one.init ∙ ap (λ (w : Vocabulary). facts_said says.Initial w said) words ∙ sym two.init)
    (one.goal ∙ ap (λ (w : Vocabulary). facts_said says.Goal w said) words ∙ sym two.goal)
    (one.schemas ∙ sym two.schemas)
    (one.values ∙ ap (λ (w : Vocabulary). map (value_said w) (firsts same_given (values_in said))) words ∙ sym two.values)
    (one.unknown ∙ sym two.unknown)
