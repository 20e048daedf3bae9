use Rattle.std.proofs.Common.{◌∷◌, length, map, ap, ◌∙◌, arith}
use Rattle.std.specs.Prelude.{codes}
use Rattle.std.specs.Str.{bytes_eq}
use Rattle.model_kit.specs.Words.{is_vocabulary}
use Rattle.pddl_vocabulary.specs.declared.vocabulary_types.TypeNumbers.{TypeNumbers}
use Rattle.pddl_names.specs.Numbers.{entry_name}
use Rattle.pddl_vocabulary.specs.Values.{firsts, type_words, type_names}
use Rattle.pddl_vocabulary.specs.VocabularyFirsts.{same_by}
use Rattle.pddl_vocabulary.specs.VocabularyTypes.{type_number}
use Rattle.pddl_vocabulary.specs.VocabularyLists.{type_said}
use Rattle.pddl_vocabulary.proofs.ObjectLemmas.{objects_few, objects_are}
use Rattle.pddl_vocabulary.proofs.SignatureLemmas.{predicates_are, functions_are, actions_are}
use Rattle.pddl_vocabulary.proofs.FewLemmas.{type_words_few, firsts_few, few_types, few_objects, few_actions}
use Rattle.pddl_vocabulary.proofs.TypeSound.{types_are, types_of_are, words_sound, table_numbers}
use Rattle.pddl_vocabulary.proofs.vocabularies.vocabulary_of.Goals as goal

pub firsts_of-requires : goal.firsts_of-requires
firsts_of-requires c =
    let same = ap length c.in_ok-type_words.ensures.ok in
    let few = type_words_few c.args.said.now in
    record { few = omega (arith, same, few, c.requires.few) }

pub of-requires : goal.of-requires
of-requires c =
    let same = ap length (c.in_ok-names.ensures.ok ∙ ap (firsts bytes_eq) c.in_ok-type_words.ensures.ok) in
    let fewer = firsts_few bytes_eq (codes "object" ∷ type_words c.args.said.now) in
    let few = type_words_few c.args.said.now in
    record { few = omega (arith, same, fewer, few, c.requires.few) }

pub firsts_of-requires-2 : goal.firsts_of-requires-2
firsts_of-requires-2 c =
    let types : TypeNumbers = record { numbers = c.in_ok-of.field-0; places = c.in_ok-type_places.field-0 } in
    let same = ap length c.in_ok-objects_listed.ensures.ok in
    let few = objects_few (type_number types) c.args.said.now in
    record { few = omega (arith, same, few, c.requires.few) }

pub types_of-requires : goal.types_of-requires
types_of-requires c =
    let said = c.args.said.now in
    let types : TypeNumbers = record { numbers = c.in_ok-of.field-0; places = c.in_ok-type_places.field-0 } in
    let names = c.in_ok-names.ensures.ok ∙ ap (firsts bytes_eq) c.in_ok-type_words.ensures.ok in
    let numbers = table_numbers said types c.in_ok-names.names names c.in_ok-of.ensures.ok in
    record { few = omega (arith, c.requires.few); types = types_of_are said types numbers c.in_ok-type_places.ensures.ok }

pub invariant_of-result : goal.invariant_of-result
invariant_of-result c =
    let said = c.args.said.now in
    let types : TypeNumbers = record { numbers = c.in_ok-of.field-0; places = c.in_ok-type_places.field-0 } in
    let names = c.in_ok-names.ensures.ok ∙ ap (firsts bytes_eq) c.in_ok-type_words.ensures.ok in
    let numbers = table_numbers said types c.in_ok-names.names names c.in_ok-of.ensures.ok in
    let listed = c.in_ok-types_of.ensures.ok ∙ ap (map (type_said (type_number types) said)) names ∙ types_are said (type_number types) numbers in
    let objects = c.in_ok-firsts_of.ensures.ok ∙ ap (firsts (same_by entry_name)) c.in_ok-objects_listed.ensures.ok in
    record {
      sound = (λ i. is_vocabulary (listed i) (objects i) (c.in_ok-entries_of.ensures.ok i) (c.in_ok-entries_of-2.ensures.ok i) (c.in_ok-entries_of-3.ensures.ok i))
          ∙ words_sound said (type_number types) numbers c.requires.formed c.requires.named;
    }

pub returns : goal.returns
returns c =
    let said = c.args.said.now in
    let types : TypeNumbers = record { numbers = c.in_ok-of.field-0; places = c.in_ok-type_places.field-0 } in
    let names = c.in_ok-names.ensures.ok ∙ ap (firsts bytes_eq) c.in_ok-type_words.ensures.ok in
    let numbers = table_numbers said types c.in_ok-names.names names c.in_ok-of.ensures.ok in
    let listed = c.in_ok-types_of.ensures.ok ∙ ap (map (type_said (type_number types) said)) names ∙ types_are said (type_number types) numbers in
    let objects = c.in_ok-firsts_of.ensures.ok ∙ ap (firsts (same_by entry_name)) c.in_ok-objects_listed.ensures.ok ∙ objects_are (type_number types) (type_names said) numbers said in
    let actions = c.in_ok-entries_of-3.ensures.ok ∙ actions_are (type_number types) (type_names said) numbers said in
    record {
      ok = record {
        types = listed;
        objects = objects;
        predicates = c.in_ok-entries_of.ensures.ok ∙ predicates_are (type_number types) (type_names said) numbers said;
        functions = c.in_ok-entries_of-2.ensures.ok ∙ functions_are (type_number types) (type_names said) numbers said;
        actions = actions;
      };
      few_types = few_types said c.in_ok-types_of.field-0 listed;
      few_objects = few_objects said c.in_ok-firsts_of.field-0 objects;
      few_actions = few_actions said c.in_ok-entries_of-3.field-0 actions;
    }
