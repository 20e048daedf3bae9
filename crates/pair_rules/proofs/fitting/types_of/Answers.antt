use Rattle.std.proofs.Common.{◌+◌, ◌∙◌, ap, refl, sym, inl, inr, subst, arith}
use Rattle.pair_rules.specs.Fitting.{AreTypesOf}
use Rattle.model_kit.proofs.WordFacts.{facts_of_words}
use Rattle.pair_rules.proofs.TypeLemmas.{above_none, above_more, above_all, type_below, parent_below, next_above, types_are}
use Rattle.pair_rules.proofs.fitting.types_of.Goals.{else-loop-step-test, then-loop-step-test+then-current-eq0}
use Rattle.pair_rules.proofs.fitting.types_of.Goals as goal

pub loop-step-init : goal.loop-step-init
loop-step-init c = record {
  above = above_none c.args.words.now.types c.item.result.now.1 c.in_ok-types.types (c.in_ok-types.ensures.ok ∙ ap (λ n. record { width = n; members = _ }) c.requires.count);
  current = refl;
  listed = type_below c.args.words.now c.args.object c.item.result.now.1 c.item.result.now.0 c.item.ensures;
}

pub loop-step-preserved : goal.loop-step-preserved
loop-step-preserved c = record {
  above = above_more c.args.words.now.types c.item.result.now.1 c.loop-step._step c.loop-step.current c.loop-step.types c.put.new.self c.loop-step.invariant.above c.loop-step.invariant.current c.put.ensures;
  current = next_above c.args.words.now c.item.result.now.1 c.loop-step.current c.item-in-loop-step.result.now.1 c.loop-step._step c.item-in-loop-step.result.now.0 c.loop-step.invariant.current c.item-in-loop-step.ensures;
  listed = parent_below c.args.words.now c.loop-step.current c.item-in-loop-step.result.now.1 c.item-in-loop-step.result.now.0 c.item-in-loop-step.ensures;
}

pub returns : goal.returns
returns c =
    let words = c.args.words.now in
    let kind = c.item.result.now.1 in
    let facts = (facts_of_words words).types_kept in
    elim c.loop-step-test.branch [
      | else-loop-step-test w ↦
          let all = above_all words.types kind facts c.loop-step._step c.loop-step.types c.loop-step.invariant.above (omega (arith, c.requires.count, c.from-step-end.ensures, c.loop-step.auto._step-end)) (inl (omega (arith, c.requires.count, c.from-step-end.ensures, w.loop-step-test.false))) in
          subst (AreTypesOf words c.args.object) (sym w.types-is) (types_are words c.args.object kind c.item.result.now.0 c.item.ensures c.loop-step.types c.loop-step.invariant.above.width all)
      | then-loop-step-test+then-current-eq0 w ↦
          let more = above_more words.types kind c.loop-step._step c.loop-step.current c.loop-step.types w.put.new.self c.loop-step.invariant.above c.loop-step.invariant.current w.put.ensures in
          let all = above_all words.types kind facts (c.loop-step._step + 1) w.put.new.self more (omega (arith, c.requires.count, c.from-step-end.ensures, w.loop-step-test.true)) (inr (c.loop-step._step, refl, sym c.loop-step.invariant.current ∙ w.if-current-eq0.true)) in
          subst (AreTypesOf words c.args.object) (sym w.types-is) (types_are words c.args.object kind c.item.result.now.0 c.item.ensures w.put.new.self more.width all)
    ]
