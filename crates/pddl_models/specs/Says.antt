-- The domain and the model that the words of a text say, over its vocabulary.
use Rattle.std.specs.Prelude.{ℕ, ◌≡◌, not, Bool, true, false, List, [], ◌∷◌, ◌++◌, map, filter}
use Rattle.std.specs.Prelude.{codes, take_while, Option, None, Some, unwrap_or, if◌then◌else◌}
use Rattle.std.specs.List.{list_any, position_from}
use Rattle.std.specs.Option.{option_map}
use Rattle.std.specs.Str.{bytes_eq}
use Rattle.mre_base.specs.declared.text.Text.{Text}
use Rattle.model_kit.specs.declared.atom.GroundAtom.{GroundAtom}
use Rattle.model_kit.specs.declared.atom.SchemaAtom.{SchemaAtom}
use Rattle.model_kit.specs.declared.atom.Term.{Term}
use Rattle.model_kit.specs.declared.atom.Term.TheVariants.{Param, Object}
use Rattle.model_kit.specs.declared.model.CostExpr.{CostExpr}
use Rattle.model_kit.specs.declared.model.CostExpr.TheVariants.{Number, Call}
use Rattle.model_kit.specs.declared.model.Model.{Model}
use Rattle.model_kit.specs.declared.model.Schema.{Schema}
use Rattle.model_kit.specs.declared.vocabulary.Signature.{Signature}
use Rattle.model_kit.specs.declared.vocabulary.Vocabulary.{Vocabulary}
use Rattle.model_kit.specs.Same.{same_atom, same_schema_atom}
use Rattle.pddl_form.specs.Numbers.{number}
use Rattle.pddl_models.specs.declared.body.Body.{Body}
use Rattle.pddl_models.specs.declared.domain.Domain.{Domain}
use Rattle.pddl_names.specs.declared.role.Role.{Role}
use Rattle.pddl_names.specs.declared.role.Role.TheVariants as role
use Rattle.pddl_names.specs.declared.role.Says.{Says}
use Rattle.pddl_names.specs.declared.role.Says.TheVariants as says
use Rattle.pddl_names.specs.declared.role.Word.{Word}
use Rattle.pddl_names.specs.Listings.{Typed, Signed, Given, types_listed, objects_listed}
use Rattle.pddl_names.specs.Listings.{predicates_in, functions_in, parent_of, terms_behind}
use Rattle.pddl_names.specs.Listings.{values_in, action_params, types_of}
use Rattle.pddl_names.specs.Naming.{is_action, is_variable, same_call}
use Rattle.pddl_names.specs.Numbers.{entry_name, word_name}
use Rattle.pddl_vocabulary.specs.Values.{ActionWords, SaysMore, SaysWords, action_said, actions_in}
use Rattle.pddl_vocabulary.specs.Values.{firsts, is_total, names_of, objects_said, place_in}
use Rattle.pddl_vocabulary.specs.Values.{same_entry, signature_said, type_names, type_words}
use Rattle.pddl_vocabulary.specs.Values.{types_said, with_action, with_type_name, words_named}

-- ---- atoms, costs and bodies

abbrev pub same_says : Says → Says → Bool
same_says says.Needed says.Needed = true
same_says says.Added says.Added = true
same_says says.Deleted says.Deleted = true
same_says says.Initial says.Initial = true
same_says says.Goal says.Goal = true
same_says s t = false

abbrev pub with_atom : Says → Role → Signed → List Signed → List Signed
with_atom due (role.Head says) atom more = if same_says due says then atom ∷ more else more
with_atom due r atom more = more

-- the atoms that say this, each as its predicate and its terms
abbrev pub atoms_in : Says → List Word → List Signed
atoms_in due [] = []
atoms_in due (w ∷ rest) = with_atom due w.role (w.text, terms_behind rest) (atoms_in due rest)

-- a parameter by its place, and an object by its number
abbrev pub term_said : List Text → List Text → Text → Term
term_said objects params text =
    if is_variable text then Param (place_in params text) else Object (place_in objects text)

abbrev pub schema_atom_said : List Text → List Text → List Text → Signed → SchemaAtom
schema_atom_said predicates objects params atom =
    record { predicate = place_in predicates atom.0; args = map (term_said objects params) atom.1 }

abbrev pub cost_at : List Text → List Text → List Text → Word → List Word → Option CostExpr
    → Option CostExpr
cost_at functions objects params w rest more = by w.role
  where
    by : Role → Option CostExpr
    by role.Numeral = option_map Number (number w.text)
    by role.Cost =
        Some (Call (place_in functions w.text) (map (term_said objects params) (terms_behind rest)))
    by r = more

-- the first cost among the words of an action
abbrev pub increase_in : List Text → List Text → List Text → List Word → Option CostExpr
increase_in functions objects params [] = None
increase_in functions objects params (w ∷ rest) =
    cost_at functions objects params w rest (increase_in functions objects params rest)

abbrev pub param_names : List Word → List Text
param_names behind = map (λ (p : Typed). p.0) (action_params behind)

-- only the words of an action
abbrev pub own_words : List Word → List Word
own_words behind = take_while (λ w. not (is_action w)) behind

-- the atoms of an action that say this, without repeats
abbrev pub said_atoms : Says → Vocabulary → List Word → List SchemaAtom
said_atoms due words behind =
    firsts same_schema_atom (map (schema_atom_said (words_named words.predicates)
    (names_of words.objects) (param_names behind)) (atoms_in due (own_words behind)))

-- the body of an action, by the words after its name
abbrev pub body_said : Vocabulary → ActionWords → Body
body_said words action = record {
  pre = said_atoms says.Needed words action.1;
  add = said_atoms says.Added words action.1;
  del = said_atoms says.Deleted words action.1;
  increase =
      increase_in (words_named words.functions) (names_of words.objects) (param_names action.1)
      (own_words action.1);
}

-- ---- a domain

-- the words say the domain
pub record SaysDomain (said : List Word) (domain : Domain) : Type 0 where
  pub words : SaysWords said domain.words
  pub bodies : domain.bodies ≡ map (body_said domain.words) (actions_in said)

-- ---- a problem

abbrev pub ground_atom_said : Vocabulary → Signed → GroundAtom
ground_atom_said words atom =
    record {
      predicate = place_in (words_named words.predicates) atom.0;
      objects = map
          (place_in (names_of words.objects)) atom.1;
    }

-- the facts that say this, without repeats
abbrev pub facts_said : Says → Vocabulary → List Word → List GroundAtom
facts_said due words said = firsts same_atom (map (ground_atom_said words) (atoms_in due said))

abbrev pub same_given : Given → Given → Bool
same_given v w = same_call v.0 w.0

-- a value by the numbers of its function and its objects
abbrev pub value_said : Vocabulary → Given → ℕ × List ℕ × ℕ
value_said words v = (
  place_in (words_named words.functions) v.0.0,
  map (place_in (names_of words.objects)) v.0.1,
  v.1,
)

abbrev pub minimizes : Role → Bool
minimizes role.Metric = true
minimizes r = false

-- the problem has the metric
abbrev pub has_metric : List Word → Bool
has_metric said = list_any (λ (w : Word). minimizes w.role) said

-- without the metric an action costs 1; with it, what its increase says, and 0 where it has none
abbrev pub cost_said : Bool → Option CostExpr → CostExpr
cost_said true increase = unwrap_or increase (Number 0)
cost_said false increase = Number 1

abbrev pub schema_said : Bool → Body → Schema
schema_said metric body =
    record { pre = body.pre; add = body.add; del = body.del; cost = cost_said metric body.increase }

-- after the domain, the words give the model
pub record SaysModel (domain : Domain) (said : List Word) (model : Model) : Type 0 where
  pub words : SaysMore domain.words said model.words
  pub init : model.init ≡ facts_said says.Initial model.words said
  pub goal : model.goal ≡ facts_said says.Goal model.words said
  pub schemas : model.schemas ≡ map (schema_said (has_metric said)) domain.bodies
  pub values : model.values ≡ map (value_said model.words) (firsts same_given (values_in said))
  pub unknown : model.unknown ≡ []
