use Rattle.std.proofs.Common.{◌≡◌, true, false, ◌∙◌, arith, get_or, length, ◌<◌}
use Rattle.pddl_text.specs.Bytes.{is_blank}
use Rattle.pddl_text.proofs.KeptLemmas.{kept_start, kept_blank, kept_solid}
use Rattle.pddl_text.proofs.plan.kept.Goals as goal
use Rattle.pddl_text.proofs.plan.kept.Goals.{then-not-is_blank, else-not-is_blank}

pub loop-place-init : goal.loop-place-init
loop-place-init c = record { within = omega arith; so_far = kept_start c.args.row.now }

pub loop-place-preserved : goal.loop-place-preserved
loop-place-preserved c =
    let row = c.args.row.now in
    let place = c.loop-place.place in
    let so_far = c.loop-place.invariant.so_far in
    let inside : place < length row = omega arith in
    elim c.if-not-is_blank.branch [
      | then-not-is_blank w ↦
          (let solid : is_blank (get_or row place 0) ≡ false = cc in
          rw w.end-is (record { within = omega arith; so_far = so_far ∙ kept_solid row place inside c.if-byte-eq59.false c.loop-place.end solid }))
      | else-not-is_blank w ↦
          (let blank : is_blank (get_or row place 0) ≡ true = cc in
          rw w.end-is (record { within = omega arith; so_far = so_far ∙ kept_blank row place inside c.if-byte-eq59.false c.loop-place.end blank }))
    ]
