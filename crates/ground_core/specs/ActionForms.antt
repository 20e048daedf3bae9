-- Different actions have different printed forms: an action is printed as an atom is, in a
-- vocabulary whose predicates are the actions.
use Rattle.std.proofs.Common.{◌≡◌, true, ap}
use Rattle.model_kit.specs.declared.vocabulary.Vocabulary.{Vocabulary}
use Rattle.model_kit.specs.declared.atom.GroundAtom.{GroundAtom}
use Rattle.model_kit.specs.declared.action.GroundAction.{GroundAction}
use Rattle.model_kit.specs.Printed.{action_form}
use Rattle.model_kit.specs.Vocabulary.{IsGroundAction}
use Rattle.model_kit.specs.Words.{is_vocabulary}
use Rattle.model_kit.proofs.FormLemmas.{atom_form-injective}
use Rattle.model_kit.proofs.WordFacts.{facts_of_words, words_sound}

-- the words with the actions in the predicates' place
of_actions : (words : Vocabulary) → Vocabulary
of_actions words = record {
  types = words.types;
  objects = words.objects;
  predicates = words.actions;
  functions = words.functions;
  actions = words.actions;
  sound = sound;
}
  where
    sound : is_vocabulary words.types words.objects words.actions words.functions words.actions
        ≡ true
    sound =
        let facts =
        facts_of_words words in words_sound words.types words.objects words.actions words.functions
        words.actions (record {
          types_kept = facts.types_kept;
          objects_kept = facts.objects_kept;
          predicates_kept = facts.actions_kept;
          functions_kept = facts.functions_kept;
          no_total_cost = facts.no_total_cost;
          actions_kept = facts.actions_kept;
        })

abbrev as_atom : GroundAction → GroundAtom
as_atom action = record { predicate = action.schema; objects = action.objects }

pub action_form-injective : (words : Vocabulary) (one other : GroundAction)
    → IsGroundAction words one → IsGroundAction words other
    → action_form words one ≡ action_form words other → one ≡ other
unfolding of_actions
action_form-injective words one other fit other_fit same =
    ap (λ (atom : GroundAtom). let action : GroundAction = record {
      schema = atom.predicate;
      objects = atom.objects;
    } in action)
    (atom_form-injective (of_actions words) (as_atom one) (as_atom other) fit other_fit same)
