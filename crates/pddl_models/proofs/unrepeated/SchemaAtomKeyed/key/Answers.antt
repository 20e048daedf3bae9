use Rattle.pddl_models.proofs.KeptLemmas.{terms_key-more}
use Rattle.pddl_models.proofs.unrepeated.SchemaAtomKeyed.key.Goals as goal

pub loop-place-preserved : goal.loop-place-preserved
loop-place-preserved c =
    terms_key-more c.loop-place.numbers.items c.push_term.new.numbers.items c.item.result.now c.args.self.now.args c.loop-place.place _ c.item.ensures c.in_ok-push_term.ensures.ok c.loop-place.invariant
