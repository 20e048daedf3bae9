use Rattle.pddl_names.specs.Numbers.{entry_name, word_name}
use Rattle.pddl_models.proofs.SayingLemmas.{table_places}
use Rattle.pddl_models.proofs.word_tables.WordTables.of.Goals as goal

pub returns : goal.returns
returns c = record {
  ok = record {
    predicates = table_places word_name c.args.words.now.predicates c.in_ok-of.field-0 c.in_ok-of.ensures.ok;
    functions = table_places word_name c.args.words.now.functions c.in_ok-of-2.field-0 c.in_ok-of-2.ensures.ok;
    objects = table_places entry_name c.args.words.now.objects c.in_ok-of-3.field-0 c.in_ok-of-3.ensures.ok;
  };
}
