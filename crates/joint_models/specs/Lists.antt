-- All that a vocabulary lists, group by group.
use Rattle.std.specs.Prelude.{◌≡◌}
use Rattle.model_kit.specs.declared.vocabulary.Vocabulary.{Vocabulary}
use Rattle.joint_models.specs.declared.group.Group.{Group}
use Rattle.joint_models.specs.declared.group.Group.TheVariants.{Types, Objects, Actions, Predicates}
use Rattle.joint_models.specs.declared.group.Group.TheVariants.{Functions}
use Rattle.joint_models.specs.declared.listed.Listed.{Listed}
use Rattle.joint_models.specs.declared.lists.Lists.{Lists}
use Rattle.joint_models.specs.Disagreements.{entries_in}

-- the list of a group
abbrev pub listed_in : Group → Lists → Listed
listed_in Types lists = lists.types
listed_in Objects lists = lists.objects
listed_in Actions lists = lists.actions
listed_in Predicates lists = lists.predicates
listed_in Functions lists = lists.functions

-- in each group the entries of the vocabulary
pub record AreListsOf (words : Vocabulary) (lists : Lists) : Type 0 where
  pub types : lists.types.entries ≡ entries_in Types words
  pub objects : lists.objects.entries ≡ entries_in Objects words
  pub actions : lists.actions.entries ≡ entries_in Actions words
  pub predicates : lists.predicates.entries ≡ entries_in Predicates words
  pub functions : lists.functions.entries ≡ entries_in Functions words
