use Rattle.mre_base.proofs.Loops.{map_item}
use Rattle.pddl_names.specs.Roles.{word_of}
use Rattle.pddl_names.proofs.words.words_of.Goals as goal

pub loop-place-preserved : goal.loop-place-preserved
loop-place-preserved c =
    map_item c.args.met.now c.loop-place.place c.item.result.now c.item.ensures word_of c.loop-place.made c.push.new.self _ c.loop-place.invariant c.in_ok-push.ensures.ok c.in_ok-word_of.ensures.ok
