use Rattle.std.proofs.Common.{refl}
use Rattle.std.specs.Fmt.{digits}
use Rattle.model_examples.proofs.texts.sentences.Goals as goals

pub returns-clause-fact : goals.returns-clause-fact
unfolding digits
returns-clause-fact c = refl

pub returns-clause-no_fact : goals.returns-clause-no_fact
unfolding digits
returns-clause-no_fact c = refl

pub returns-clause-goal : goals.returns-clause-goal
unfolding digits
returns-clause-goal c = refl

pub returns-clause-no_goal : goals.returns-clause-no_goal
unfolding digits
returns-clause-no_goal c = refl

pub returns-clause-pre : goals.returns-clause-pre
unfolding digits
returns-clause-pre c = refl

pub returns-clause-no_pre : goals.returns-clause-no_pre
unfolding digits
returns-clause-no_pre c = refl

pub returns-clause-add : goals.returns-clause-add
unfolding digits
returns-clause-add c = refl

pub returns-clause-no_add : goals.returns-clause-no_add
unfolding digits
returns-clause-no_add c = refl

pub returns-clause-del : goals.returns-clause-del
unfolding digits
returns-clause-del c = refl

pub returns-clause-no_del : goals.returns-clause-no_del
unfolding digits
returns-clause-no_del c = refl

pub returns-clause-cost : goals.returns-clause-cost
unfolding digits
returns-clause-cost c = refl

pub returns-clause-exists : goals.returns-clause-exists
unfolding digits
returns-clause-exists c = refl

pub returns-clause-no_action : goals.returns-clause-no_action
unfolding digits
returns-clause-no_action c = refl

pub returns-clause-value : goals.returns-clause-value
unfolding digits
returns-clause-value c = refl

pub returns-clause-no_value : goals.returns-clause-no_value
unfolding digits
returns-clause-no_value c = refl
