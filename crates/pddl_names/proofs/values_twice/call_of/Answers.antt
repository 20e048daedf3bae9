use Rattle.std.proofs.Common.{◌≡◌, [], ◌∷◌, ◌++◌, map, sym, ap, ◌∙◌, rules}
use Rattle.std.specs.List.{between}
use Rattle.std.proofs.lemmas.List.{map-append}
use Rattle.pddl_names.specs.declared.role.Word.{Word}
use Rattle.pddl_names.proofs.RoundLemmas.{between_item}
use Rattle.pddl_names.proofs.values_twice.call_of.Goals as goal

pub loop-at-preserved : goal.loop-at-preserved
loop-at-preserved c =
    let words = c.args.words.now in
    let w = c.item.result.now in
    let so_far = between c.args.place c.loop-at.at words in
    let pushed : c.push.new.self.items ≡ c.loop-at.names.items ++ c.in_ok-copy.field-0 ∷ [] = search rules in
    pushed
    ∙ (λ i. c.loop-at.invariant i ++ c.in_ok-copy.ensures.ok i ∷ [])
    ∙ sym (map-append (λ (v : Word). v.text) so_far (w ∷ []))
    ∙ ap (map (λ (v : Word). v.text)) (sym (between_item words c.args.place c.loop-at.at w c.loop-at.auto.at c.item.ensures))
