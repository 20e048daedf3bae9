use Rattle.std.proofs.Common.{refl}
use Rattle.joint_models.proofs.Built.{built_sound, built_is}
use Rattle.joint_models.proofs.models.model_in.Goals as goal

pub invariant_of-result : goal.invariant_of-result
invariant_of-result c = record {
  sound = built_sound c.args.words c.args.own.model.now c.args.own.lists.now c.args.own.numbers.now c.requires.own_is c.args.other.model.now c.args.other.lists.now c.args.other.numbers.now c.requires.other_is
      c.in_ok-init.init c.in_ok-goal.goal c.in_ok-schemas.schemas c.in_ok-values.values c.in_ok-unknown.unknown
      c.in_ok-init.ensures.ok c.in_ok-goal.ensures.ok c.in_ok-schemas.ensures.ok c.in_ok-values.ensures.ok c.in_ok-unknown.ensures.ok;
}

pub returns : goal.returns
returns c = record {
  ok = built_is c.args.words c.args.own.model.now c.args.own.lists.now c.args.own.numbers.now c.requires.own_is c.args.other.model.now c.args.other.lists.now c.args.other.numbers.now c.requires.other_is
      c.in_ok-init.init c.in_ok-goal.goal c.in_ok-schemas.schemas c.in_ok-values.values c.in_ok-unknown.unknown
      c.in_ok-init.ensures.ok c.in_ok-goal.ensures.ok c.in_ok-schemas.ensures.ok c.in_ok-values.ensures.ok c.in_ok-unknown.ensures.ok
      _ refl refl refl refl refl refl;
}
