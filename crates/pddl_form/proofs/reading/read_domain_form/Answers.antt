use Rattle.pddl_text.specs.Forests.{tokens_of_all}
use Rattle.pddl_text.proofs.ExactLemmas.{gives_ok, gives_fault, gives_spelled, gives_broken, gives_also}
use Rattle.pddl_form.specs.declared.parts.Part.TheVariants as part
use Rattle.pddl_form.specs.First.{HasForm, LeavesForm}
use Rattle.pddl_form.specs.Runs.{form_of}
use Rattle.pddl_form.proofs.FirstLemmas.{form_exact}
use Rattle.pddl_form.proofs.MetLemmas.{form_words, form_taken}
use Rattle.pddl_form.proofs.reading.read_domain_form.Goals as goal

pub returns : goal.returns
returns c =
    let forest = c.args.forest.now in
    let read = form_of part.Domain forest in
    let spells = HasForm part.Domain (tokens_of_all forest.trees) in
    let leaves = LeavesForm part.Domain forest in
    let exact = form_exact part.Domain tt forest in
    let result = c.read_form.result in
    let gives = c.read_form.ensures in
    record {
      ok = gives_ok read spells leaves exact result gives;
      fault = gives_fault read spells leaves exact result gives;
      succeeds = gives_spelled read spells leaves exact result gives;
      refuses = gives_broken read spells leaves exact result gives;
      reads = gives;
      words = gives_also read spells leaves exact _ (form_words part.Domain (tokens_of_all forest.trees)) result gives;
      taken = gives_also read spells leaves exact _ (form_taken part.Domain (tokens_of_all forest.trees)) result gives;
    }
