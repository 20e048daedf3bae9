-- Well-named words of a domain have a vocabulary, and formed words of a problem have one after that of a domain:
-- the lists that they declare are those of a vocabulary.
use Rattle.std.proofs.Common.{◌≡◌, ℕ, true, List, ◌++◌, map, refl, sym, ◌∙◌}
use Rattle.std.specs.Prelude.{not, filter}
use Rattle.mre_base.specs.declared.text.Text.{Text}
use Rattle.model_kit.specs.declared.vocabulary.Vocabulary.{Vocabulary}
use Rattle.model_kit.specs.Words.{is_vocabulary}
use Rattle.pddl_names.specs.declared.role.Word.{Word}
use Rattle.pddl_names.specs.Listings.{nothing, predicates_in, functions_in}
use Rattle.pddl_names.specs.Naming.{IsNamed}
use Rattle.pddl_vocabulary.specs.Formed.{AreFormed}
use Rattle.pddl_vocabulary.specs.Values.{place_in, type_names, types_said, objects_said, signature_said, is_total, actions_in, action_said, names_of, SaysWords, SaysMore}
use Rattle.pddl_vocabulary.specs.VocabularyFirsts.{is_no_entry}
use Rattle.pddl_vocabulary.proofs.ObjectLemmas.{objects_are, more_sound}
use Rattle.pddl_vocabulary.proofs.SignatureLemmas.{predicates_are, functions_are, actions_are}
use Rattle.pddl_vocabulary.proofs.TypeSound.{words_sound}

module _ (said : List Word) (formed : AreFormed said) (named : IsNamed nothing said) where
  abbrev names : List Text
  names = type_names said

  abbrev number : Text → ℕ
  number = place_in names

  same : (name : Text) → number name ≡ place_in names name
  same name = refl

  words_fit : is_vocabulary (types_said said) (objects_said names said) (map (signature_said names) (predicates_in said)) (map (signature_said names) (filter (λ s. not (is_total s)) (functions_in said))) (map (action_said names) (actions_in said)) ≡ true
  words_fit =
      (λ i. is_vocabulary (types_said said) (sym (objects_are number names same said) i) (sym (predicates_are number names same said) i) (sym (functions_are number names same said) i) (sym (actions_are number names same said) i))
      ∙ words_sound said number same formed named

  -- the words of a domain say a vocabulary
  pub some_words : (words : Vocabulary) × SaysWords said words
  some_words =
      let words : Vocabulary = record {
        types = types_said said;
        objects = objects_said names said;
        predicates = map (signature_said names) (predicates_in said);
        functions = map (signature_said names) (filter (λ s. not (is_total s)) (functions_in said));
        actions = map (action_said names) (actions_in said);
        sound = words_fit;
      } in
      (words, record { types = refl; objects = refl; predicates = refl; functions = refl; actions = refl })

module _ (domain : Vocabulary) (said : List Word) (formed : AreFormed said) where
  abbrev domain_names : List Text
  domain_names = names_of domain.types

  more_fit : is_vocabulary domain.types (domain.objects ++ filter (is_no_entry domain.objects) (objects_said domain_names said)) domain.predicates domain.functions domain.actions ≡ true
  more_fit =
      (λ i. is_vocabulary domain.types (domain.objects ++ filter (is_no_entry domain.objects) (sym (objects_are (place_in domain_names) domain_names (λ name. refl) said) i)) domain.predicates domain.functions domain.actions)
      ∙ more_sound domain (place_in domain_names) (λ name. refl) said formed

  -- after the vocabulary of a domain, the words of a problem have the vocabulary of both
  pub some_more : (words : Vocabulary) × SaysMore domain said words
  some_more =
      let words : Vocabulary = record {
        types = domain.types;
        objects = domain.objects ++ filter (is_no_entry domain.objects) (objects_said domain_names said);
        predicates = domain.predicates;
        functions = domain.functions;
        actions = domain.actions;
        sound = more_fit;
      } in
      (words, record { types = refl; objects = refl; predicates = refl; functions = refl; actions = refl })
