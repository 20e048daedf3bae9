use Rattle.std.proofs.Common.{◌+◌, [], ◌∷◌, ◌++◌, drop, refl, ⊎_elim, ◌∙◌}
use Rattle.pddl_vocabulary.proofs.GatherLemmas.{own_numbers, gathered_pass, gathered_more, gathered_stop, own_stop, own_param, own_dash, own_type}
use Rattle.pddl_vocabulary.proofs.vocabulary_lists.own_types.Goals as goal

pub loop-place-preserved-in-Dash : goal.loop-place-preserved-in-Dash
loop-place-preserved-in-Dash c =
    let words = c.args.words.now in
    let types = c.args.types.now in
    let place = c.loop-place.place in
    let w = c.item.result.now in
    let behind = drop (place + 1) words in
    let made = c.loop-place.made in
    gathered_pass (own_numbers types) refl words (own_numbers types (drop c.args.start words)) place w c.item.ensures made made
    (⊎_elim (λ dash. own_dash types w behind dash) (λ type. own_type types w behind type) c.in-Dash.is) c.loop-place.invariant refl

pub returns-in_default : goal.returns-in_default
returns-in_default c =
    let words = c.args.words.now in
    let types = c.args.types.now in
    let place = c.loop-place.place in
    let w = c.item.result.now in
    let made = c.loop-place.made in
    record {
      ok = gathered_stop (own_numbers types) refl words (own_numbers types (drop c.args.start words)) place w c.item.ensures made made
          (own_stop types w (drop (place + 1) words) c.in_default.not-Variable c.in_default.not-Dash c.in_default.not-VariableType) c.loop-place.invariant refl;
    }

pub loop-place-preserved : goal.loop-place-preserved
loop-place-preserved c =
    let words = c.args.words.now in
    let types = c.args.types.now in
    let place = c.loop-place.place in
    let w = c.item.result.now in
    let behind = drop (place + 1) words in
    let made = c.loop-place.made in
    gathered_more (own_numbers types) refl words (own_numbers types (drop c.args.start words)) place w c.item.ensures made c.push.new.self _
    (own_param types w behind c.in-Variable.owner c.in-Variable.is) c.loop-place.invariant
    (c.in_ok-push-in-Variable.ensures.ok ∙ (λ i. made ++ c.behind.ensures i ∷ []))
