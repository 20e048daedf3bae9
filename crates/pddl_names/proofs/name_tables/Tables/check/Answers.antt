use Rattle.std.proofs.Common.{◌≡◌, ◌+◌, take, drop, sym, ◌∙◌, arith}
use Rattle.std.specs.Prelude.{slice_get}
use Rattle.mre_base.proofs.Options.{of_some}
use Rattle.pddl_names.specs.declared.role.Word.{Word}
use Rattle.pddl_names.specs.Checks.{first_rule_of, names_read}
use Rattle.pddl_names.specs.Listings.{declared}
use Rattle.pddl_names.proofs.CheckLemmas.{read_on, read_stop, read_end, from_next, gives_fault}
use Rattle.pddl_names.proofs.name_tables.Tables.check.Goals as goal

pub returns-in-Some : goal.returns-in-Some
returns-in-Some c = λ base are.
    let words = c.args.words.now in
    let place = c.loop-place.place in
    let w = c.item-word.result.now in
    let told = of_some (slice_get words place) w (λ (v : Word). c.broken_rule.result ≡ first_rule_of (declared base words) (take place words) v (drop (place + 1) words)) c.item-word.ensures
    (c.broken_rule.ensures (declared base words) are) in
    gives_fault c.fault_at.result _ (names_read base words) c.fault_at.ensures
    (read_stop base words place w c.item-word.ensures (c.loop-place.invariant.read base are) c.in-Some.rule (sym c.in-Some.is ∙ told))

pub loop-place-preserved : goal.loop-place-preserved
loop-place-preserved c =
    let words = c.args.words.now in
    let place = c.loop-place.place in
    let w = c.item-word.result.now in
    record {
      read = λ base are.
          let told = of_some (slice_get words place) w (λ (v : Word). c.broken_rule.result ≡ first_rule_of (declared base words) (take place words) v (drop (place + 1) words)) c.item-word.ensures
          (c.broken_rule.ensures (declared base words) are) in
          read_on base words place w c.item-word.ensures (c.loop-place.invariant.read base are) (sym c.in-None.is ∙ told);
      action = c.in_ok-action-2.ensures.ok;
      from = from_next words place w c.item-word.ensures c.loop-place.from c.terms_from-from.result c.loop-place.invariant.from c.terms_from-from.ensures;
    }

pub returns : goal.returns
returns c = λ base are. read_end base c.args.words.now c.loop-place.place (omega arith) (c.loop-place.invariant.read base are)
