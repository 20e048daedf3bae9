use Rattle.std.proofs.Common.{◌≡◌, [], ◌∷◌, refl, sym, ap, ◌∙◌}
use Rattle.std.proofs.lemmas.Bool.{true≢false}
use Rattle.model_kit.specs.Places.{Init, Pre, meaning}
use Rattle.model_kit.specs.Runs.{is_on}
use Rattle.model_kit.proofs.PlaceLemmas.{patched_all}
use Rattle.model_examples.specs.Build.{fact, bare}
use Rattle.model_examples.specs.Jump as jump
use Rattle.model_examples.proofs.Posed.{differences_by}
use Rattle.model_examples.proofs.Patched.{patched_of, patched_none}
use Rattle.model_examples.proofs.differences.told_differences.Goals as goal

all_told : jump.after (1 ∷ 2 ∷ 3 ∷ []) ≡ meaning jump.planner
all_told = patched_all (meaning jump.planner) (meaning jump.user) jump.places (let posed = differences_by jump.words jump.planner jump.user jump.places refl in posed.agree)

pub returns-clause-told : goal.returns-clause-told
returns-clause-told c = ap (λ m. is_on (m (Pre 1 (bare 1)))) (patched_of jump.planner jump.user jump.places (2 ∷ []))

pub returns-clause-not_told : goal.returns-clause-not_told
returns-clause-not_told c on = true≢false (sym on ∙ ap (λ m. is_on (m (Init (fact 1 [])))) (patched_of jump.planner jump.user jump.places (2 ∷ [])))

pub returns-clause-no_difference : goal.returns-clause-no_difference
returns-clause-no_difference c = refl

pub returns-clause-nothing_told : goal.returns-clause-nothing_told
returns-clause-nothing_told c = patched_none jump.planner jump.user jump.places

pub returns-clause-all_told : goal.returns-clause-all_told
returns-clause-all_told c = all_told
