use Rattle.std.proofs.Common.{zero, [], ◌∷◌, refl, sym, ap, arith}
use Rattle.std.proofs.lemmas.Bool.{true≢false}
use Rattle.model_kit.specs.Places.{Init, Pre, Cost, Price}
use Rattle.model_kit.specs.declared.model.CostExpr.TheVariants.{Number}
use Rattle.model_kit.proofs.PlaceLemmas.{unlisted_place}
use Rattle.model_examples.specs.Build.{fact, bare, step}
use Rattle.model_examples.specs.Jump as jump
use Rattle.model_examples.specs.Kinds as kinds
use Rattle.model_examples.proofs.Posed.{posed_by, differences_by, same_content}
use Rattle.model_examples.proofs.differences.lists_of_differences.Goals as goal

pub returns-clause-each_kind : goal.returns-clause-each_kind
returns-clause-each_kind c = posed_by kinds.words kinds.planner kinds.user kinds.places kinds.ones (step 1 ∷ []) refl refl refl

pub returns-clause-three : goal.returns-clause-three
returns-clause-three c = differences_by jump.words jump.planner jump.user jump.places refl

pub returns-clause-one_missing : goal.returns-clause-one_missing
returns-clause-one_missing c listed =
    let same = listed.agree (Cost 1) (unlisted_place (Cost 1) (Init (fact 1 []) ∷ Pre 1 (bare 1) ∷ []) refl) in
    true≢false (sym (ap (λ content. same_content content (Price (Number 1))) same))

pub returns-clause-one_too_many : goal.returns-clause-one_too_many
returns-clause-one_too_many c listed = listed.differ (Init (fact 0 [])) (zero, omega arith, refl) refl
