use Rattle.std.proofs.Common.{◌≡◌, ◌++◌, ap, ◌∙◌, arith}
use Rattle.std.specs.String.{string_bytes}
use Rattle.model_kit.specs.Pairs.{type_name}
use Rattle.joint_models.proofs.Spelled.{joined_first, joined_next}
use Rattle.joint_models.proofs.spelling.push_types.Goals as goal
use Rattle.joint_models.proofs.spelling.push_types.Goals.{then-place-gt0+in_ok-push_str, else-place-gt0}

pub loop-place-preserved : goal.loop-place-preserved
loop-place-preserved c =
    let pushed : string_bytes c.push_str-in-loop-place.new.self ≡ string_bytes c.if-place-gt0.text ++ type_name c.args.words.now c.item.result.now =
    c.in_ok-push_str-2.ensures.bytes ∙ ap (λ name. string_bytes c.if-place-gt0.text ++ name) c.type_name.ensures in
    elim c.if-place-gt0.branch [
      | then-place-gt0+in_ok-push_str w ↦
          joined_next (type_name c.args.words.now) c.args.types.now c.loop-place.place c.item.result.now c.item.ensures (string_bytes c.args.text.now) (string_bytes c.loop-place.text) (string_bytes c.if-place-gt0.text) (string_bytes c.push_str-in-loop-place.new.self)
          w.if-place-gt0.true c.loop-place.invariant (ap string_bytes w.text-is ∙ w.in_ok-push_str.ensures.bytes) pushed
      | else-place-gt0 w ↦
          joined_first (type_name c.args.words.now) c.args.types.now c.loop-place.place c.item.result.now c.item.ensures (string_bytes c.args.text.now) (string_bytes c.loop-place.text) (string_bytes c.push_str-in-loop-place.new.self)
          (omega (arith, w.if-place-gt0.false)) c.loop-place.invariant (pushed ∙ ap (λ text. string_bytes text ++ type_name c.args.words.now c.item.result.now) w.text-is)
    ]
