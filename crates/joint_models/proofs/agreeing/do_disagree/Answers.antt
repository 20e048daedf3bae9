use Rattle.std.proofs.Common.{◌≡◌, Some, map, subst, sym}
use Rattle.std.specs.Prelude.{None}
use Rattle.std.specs.Bool.{Decides}
use Rattle.model_kit.specs.Pairs.{type_name}
use Rattle.std.proofs.lemmas.Option.{MatchOption-at_some}
use Rattle.joint_models.specs.Listed.{entry_named}
use Rattle.joint_models.specs.Disagreements.{entries_in, has, is_shared}
use Rattle.joint_models.proofs.Alikeness.{both_disagree, same_types-decides, has_from}
use Rattle.joint_models.proofs.Lent.{lent_entry}
use Rattle.joint_models.proofs.agreeing.do_disagree.Goals as goal

pub returns-in-Some-Some : goal.returns-in-Some-Some
returns-in-Some-Some c =
    let one = MatchOption-at_some (entry_named c.group.result.now.entries c.args.name.now ≡ None) (λ s. entry_named c.group.result.now.entries c.args.name.now ≡ Some s.now) c.in-Some-Some.one c.in-Some-Some.is-0 c.entry-planner_entry.ensures in
    let two = MatchOption-at_some (entry_named c.group-2.result.now.entries c.args.name.now ≡ None) (λ s. entry_named c.group-2.result.now.entries c.args.name.now ≡ Some s.now) c.in-Some-Some.two c.in-Some-Some.is-1 c.entry-user_entry.ensures in
    let decides = subst (λ b. Decides b (map (type_name c.args.planner.words.now) c.in-Some-Some.one.now.params ≡ map (type_name c.args.user.words.now) c.in-Some-Some.two.now.params)) (sym c.have_same_types.ensures)
    (same_types-decides c.args.planner.words.now c.args.user.words.now c.in-Some-Some.one.now.params c.in-Some-Some.two.now.params) in
    both_disagree (is_shared c.args.group) (has c.args.group c.args.planner.words.now c.args.name.now) (has c.args.group c.args.user.words.now c.args.name.now) _ _ c.have_same_types.result
    (has_from c.args.planner.words.now (entries_in c.args.group c.args.planner.words.now) c.args.name.now c.in-Some-Some.one.now
    (lent_entry c.args.planner.words.now c.args.planner.lists.now c.requires.planner_are c.args.group c.group.result.now c.args.name.now c.in-Some-Some.one.now c.group.ensures one))
    (has_from c.args.user.words.now (entries_in c.args.group c.args.user.words.now) c.args.name.now c.in-Some-Some.two.now
    (lent_entry c.args.user.words.now c.args.user.lists.now c.requires.user_are c.args.group c.group-2.result.now c.args.name.now c.in-Some-Some.two.now c.group-2.ensures two))
    decides
