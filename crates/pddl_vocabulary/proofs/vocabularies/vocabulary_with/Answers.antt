use Rattle.std.proofs.Common.{◌++◌, length, ap, ◌∙◌, arith}
use Rattle.std.specs.Prelude.{filter}
use Rattle.model_kit.specs.Words.{is_vocabulary}
use Rattle.pddl_vocabulary.specs.declared.vocabulary_types.TypeNumbers.{TypeNumbers}
use Rattle.pddl_names.specs.Numbers.{entry_name}
use Rattle.pddl_vocabulary.specs.Values.{firsts, names_of}
use Rattle.pddl_vocabulary.specs.VocabularyFirsts.{same_by, is_no_entry}
use Rattle.pddl_vocabulary.specs.VocabularyTypes.{type_number}
use Rattle.pddl_vocabulary.proofs.FewLemmas.{few_more}
use Rattle.pddl_vocabulary.proofs.ObjectLemmas.{objects_few, objects_are, numbers_are, types_are, more_sound}
use Rattle.pddl_vocabulary.proofs.vocabularies.vocabulary_with.Goals as goal

pub objects_listed-requires : goal.objects_listed-requires
objects_listed-requires c =
    let types : TypeNumbers = record { numbers = c.in_ok-of.field-0; places = c.in_ok-type_places.field-0 } in
    record { types = types_are c.args.domain.now types c.in_ok-of.ensures.ok c.args.said.now c.in_ok-type_places.ensures.ok }

pub firsts_of-requires : goal.firsts_of-requires
firsts_of-requires c =
    let types : TypeNumbers = record { numbers = c.in_ok-of.field-0; places = c.in_ok-type_places.field-0 } in
    let same = ap length c.in_ok-objects_listed.ensures.ok in
    let few = objects_few (type_number types) c.args.said.now in
    record { few = omega (arith, same, few, c.requires.few) }

pub invariant_of-result : goal.invariant_of-result
invariant_of-result c =
    let domain = c.args.domain.now in
    let types : TypeNumbers = record { numbers = c.in_ok-of.field-0; places = c.in_ok-type_places.field-0 } in
    let objects = c.in_ok-with_further.ensures.ok ∙ (λ i. domain.objects ++ filter (is_no_entry domain.objects) ((c.in_ok-listed.ensures.ok ∙ ap (firsts (same_by entry_name)) c.in_ok-objects_listed.ensures.ok) i)) in
    record {
      sound = (λ i. is_vocabulary (c.in_ok-copied.ensures.ok i) (objects i) (c.in_ok-copied-2.ensures.ok i) (c.in_ok-copied-3.ensures.ok i) (c.in_ok-copied-4.ensures.ok i))
          ∙ more_sound domain (type_number types) (numbers_are domain types c.in_ok-of.ensures.ok) c.args.said.now c.requires.formed;
    }

pub returns : goal.returns
returns c =
    let domain = c.args.domain.now in
    let types : TypeNumbers = record { numbers = c.in_ok-of.field-0; places = c.in_ok-type_places.field-0 } in
    let listed =
    c.in_ok-listed.ensures.ok ∙ ap (firsts (same_by entry_name)) c.in_ok-objects_listed.ensures.ok
    ∙ objects_are (type_number types) (names_of domain.types) (numbers_are domain types c.in_ok-of.ensures.ok) c.args.said.now in
    let objects = c.in_ok-with_further.ensures.ok ∙ (λ i. domain.objects ++ filter (is_no_entry domain.objects) (listed i)) in
    record {
      ok = record {
        types = c.in_ok-copied.ensures.ok;
        objects = objects;
        predicates = c.in_ok-copied-2.ensures.ok;
        functions = c.in_ok-copied-3.ensures.ok;
        actions = c.in_ok-copied-4.ensures.ok;
      };
      few_objects = few_more domain.objects c.in_ok-with_further.field-0 (names_of domain.types) c.args.said.now objects;
    }
