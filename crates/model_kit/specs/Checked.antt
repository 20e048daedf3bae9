-- What a checked vocabulary or model is made of.
use Rattle.std.specs.Prelude.{ℕ, ◌≡◌, List}
use Rattle.model_kit.specs.declared.vocabulary.Vocabulary.{Vocabulary}
use Rattle.model_kit.specs.declared.vocabulary.Signature.{Signature}
use Rattle.model_kit.specs.declared.atom.GroundAtom.{GroundAtom}
use Rattle.model_kit.specs.declared.model.Model.{Model}
use Rattle.model_kit.specs.declared.model.Schema.{Schema}

-- the vocabulary has these lists
pub record HasWords (types objects : List (List ℕ × ℕ))
    (predicates functions actions : List Signature) (words : Vocabulary) : Type 0 where
  pub types_are : words.types ≡ types
  pub objects_are : words.objects ≡ objects
  pub predicates_are : words.predicates ≡ predicates
  pub functions_are : words.functions ≡ functions
  pub actions_are : words.actions ≡ actions

-- the model has this vocabulary and these lists
pub record HasFeatures (words : Vocabulary) (init goal : List GroundAtom) (schemas : List Schema)
    (values : List (ℕ × List ℕ × ℕ)) (unknown : List ℕ) (model : Model) : Type 0 where
  pub words_are : model.words ≡ words
  pub init_is : model.init ≡ init
  pub goal_is : model.goal ≡ goal
  pub schemas_are : model.schemas ≡ schemas
  pub values_are : model.values ≡ values
  pub unknown_is : model.unknown ≡ unknown
