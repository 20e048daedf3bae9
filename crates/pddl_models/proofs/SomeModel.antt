-- Well-named words of a domain have a domain over their vocabulary, and after a domain those of a problem have a
-- model over the vocabulary of both.
use Rattle.std.proofs.Common.{ℕ, List, [], map, refl}
use Rattle.model_kit.specs.declared.atom.GroundAtom.{GroundAtom}
use Rattle.model_kit.specs.declared.model.Model.{Model}
use Rattle.model_kit.specs.declared.model.Schema.{Schema}
use Rattle.model_kit.specs.declared.vocabulary.Vocabulary.{Vocabulary}
use Rattle.pddl_names.specs.declared.role.Says.TheVariants as says
use Rattle.pddl_names.specs.declared.role.Word.{Word}
use Rattle.pddl_names.specs.Listings.{nothing, values_in}
use Rattle.pddl_names.specs.Naming.{IsNamed}
use Rattle.pddl_names.specs.Texts.{declared_by}
use Rattle.pddl_vocabulary.specs.Values.{firsts, actions_in, SaysWords, SaysMore}
use Rattle.pddl_models.specs.declared.body.Body.{Body}
use Rattle.pddl_models.specs.declared.domain.Domain.{Domain}
use Rattle.pddl_models.specs.Saying.{AreNoTotals, AreOfProblem}
use Rattle.pddl_models.specs.Says.{body_said, facts_said, same_given, value_said, has_metric, schema_said, SaysDomain, SaysModel}
use Rattle.pddl_models.proofs.BodyLemmas.{said_bodies}
use Rattle.pddl_models.proofs.FactLemmas.{said_facts, said_values, values_fit}
use Rattle.pddl_models.proofs.ModelLemmas.{all_fit}
use Rattle.pddl_models.proofs.SchemaLemmas.{said_schemas}

-- the words of a domain say a domain
pub some_domain : (said : List Word) (words : Vocabulary) → SaysWords said words → IsNamed nothing said → AreNoTotals said → (domain : Domain) × SaysDomain said domain
some_domain said words is named calls =
    let bodies : List Body = map (body_said words) (actions_in said) in
    let domain : Domain = record { words = words; bodies = bodies; sound = said_bodies said words is named calls bodies refl } in
    (domain, record { words = is; bodies = refl })

-- after a domain, the words of a problem have a model
pub some_model : (domain : Domain) (said : List Word) (words : Vocabulary) → SaysMore domain.words said words → IsNamed (declared_by domain.words) said → AreNoTotals said → AreOfProblem said
    → (model : Model) × SaysModel domain said model
some_model domain said words more named calls problem =
    let init : List GroundAtom = facts_said says.Initial words said in
    let goal : List GroundAtom = facts_said says.Goal words said in
    let schemas : List Schema = map (schema_said (has_metric said)) domain.bodies in
    let values : List (ℕ × List ℕ × ℕ) = map (value_said words) (firsts same_given (values_in said)) in
    let model : Model = record {
      words = words;
      init = init;
      goal = goal;
      schemas = schemas;
      values = values;
      unknown = [];
      sound = all_fit words init goal schemas values []
          (said_facts domain.words said words more problem calls named says.Initial init refl)
          (said_facts domain.words said words more problem calls named says.Goal goal refl)
          (said_schemas domain.words said words more (has_metric said) domain.bodies schemas domain.sound refl)
          (values_fit domain.words said words more problem calls named values (said_values domain.words said words more problem calls named))
          refl;
    } in
    (model, record { words = more; init = refl; goal = refl; schemas = refl; values = refl; unknown = refl })
