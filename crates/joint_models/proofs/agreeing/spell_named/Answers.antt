use Rattle.std.proofs.Common.{◌≡◌, Some, map, ap, sym, ◌∙◌}
use Rattle.std.proofs.lemmas.Result.{IfOk-weaker}
use Rattle.model_kit.specs.Pairs.{type_name}
use Rattle.joint_models.specs.Disagreements.{entries_in, has, spelled}
use Rattle.joint_models.proofs.Entries.{entry_has_name}
use Rattle.joint_models.proofs.Alikeness.{has_from}
use Rattle.joint_models.proofs.Lent.{lent_entry}
use Rattle.joint_models.proofs.agreeing.spell_named.Goals as goal

pub returns-in-Some : goal.returns-in-Some
returns-in-Some c =
    let words = c.args.side.words.now in
    let entries = entries_in c.args.group words in
    let entry = c.in-Some.entry.now in
    let at = lent_entry words c.args.side.lists.now c.requires c.args.group c.group.result.now c.args.name.now entry c.group.ensures c.in-Some.ensures in
    record {
      ok = IfOk-weaker c.spell.result (λ text. text ≡ spelled c.args.group entry.name (Some (map (type_name words) entry.params))) (λ text. text ≡ spelled c.args.group c.args.name.now (has c.args.group words c.args.name.now)) (λ text is.
          is ∙ ap (λ name. spelled c.args.group name (Some (map (type_name words) entry.params))) (entry_has_name entries c.args.name.now entry at)
          ∙ ap (spelled c.args.group c.args.name.now) (sym (has_from words entries c.args.name.now entry at)))
          c.spell.ensures.ok;
    }
