use Rattle.std.proofs.Common.{◌+◌, [], ◌∷◌, ◌++◌, drop, refl, sym, ◌∙◌}
use Rattle.pddl_vocabulary.proofs.GatherLemmas.{action_numbers, gathered_pass, gathered_more, gathered_stop, action_stop, action_param, action_pass}
use Rattle.pddl_vocabulary.proofs.vocabulary_lists.action_types.Goals as goal
use Rattle.pddl_vocabulary.proofs.vocabulary_lists.action_types.Goals.{then-is_param+in_ok-push, else-is_param}

pub returns-then-is_action : goal.returns-then-is_action
returns-then-is_action c =
    let words = c.args.words.now in
    let types = c.args.types.now in
    let place = c.loop-place.place in
    let w = c.item.result.now in
    let made = c.loop-place.made in
    record {
      ok = gathered_stop (action_numbers types) refl words (action_numbers types (drop c.args.start words)) place w c.item.ensures made made
          (action_stop types w (drop (place + 1) words) (sym c.is_action.ensures ∙ c.if-is_action.true)) c.loop-place.invariant refl;
    }

pub loop-place-preserved : goal.loop-place-preserved
loop-place-preserved c =
    let words = c.args.words.now in
    let types = c.args.types.now in
    let place = c.loop-place.place in
    let w = c.item.result.now in
    let behind = drop (place + 1) words in
    let made = c.loop-place.made in
    let whole = action_numbers types (drop c.args.start words) in
    let apart = sym c.is_action.ensures ∙ c.if-is_action.false in
    elim c.if-is_param.branch [
      | then-is_param+in_ok-push v ↦
          gathered_more (action_numbers types) refl words whole place w c.item.ensures made c.if-is_param.made _
          (action_param types w behind apart (sym c.is_param.ensures ∙ v.if-is_param.true)) c.loop-place.invariant
          (v.made-is ∙ v.in_ok-push.ensures.ok ∙ (λ i. made ++ v.behind.ensures i ∷ []))
      | else-is_param v ↦
          gathered_pass (action_numbers types) refl words whole place w c.item.ensures made c.if-is_param.made
          (action_pass types w behind apart (sym c.is_param.ensures ∙ v.if-is_param.false)) c.loop-place.invariant v.made-is
    ]
