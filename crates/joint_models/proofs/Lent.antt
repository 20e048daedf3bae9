-- The list of a group has the entries of the vocabulary.
use Rattle.std.proofs.Common.{◌≡◌, List, ℕ, Some, ap, subst, ◌∙◌}
use Rattle.model_kit.specs.declared.vocabulary.Vocabulary.{Vocabulary}
use Rattle.model_kit.specs.declared.vocabulary.Signature.{Signature}
use Rattle.joint_models.specs.declared.group.Group.{Group}
use Rattle.joint_models.specs.declared.group.Group.TheVariants.{Types, Objects, Actions, Predicates, Functions}
use Rattle.joint_models.specs.declared.listed.Listed.{Listed}
use Rattle.joint_models.specs.declared.lists.Lists.{Lists}
use Rattle.joint_models.specs.Listed.{entry_named}
use Rattle.joint_models.specs.Disagreements.{entries_in}
use Rattle.joint_models.specs.Lists.{listed_in, AreListsOf}

module _ (words : Vocabulary) (lists : Lists) (are : AreListsOf words lists) where
  listed_entries : (group : Group) → (listed_in group lists).entries ≡ entries_in group words
  listed_entries Types = are.types
  listed_entries Objects = are.objects
  listed_entries Actions = are.actions
  listed_entries Predicates = are.predicates
  listed_entries Functions = are.functions

  pub lent_entries : (group : Group) (listed : Listed) → listed ≡ listed_in group lists → listed.entries ≡ entries_in group words
  lent_entries group listed is = ap (λ l. l.entries) is ∙ listed_entries group

  pub lent_entry : (group : Group) (listed : Listed) (name : List ℕ) (s : Signature) → listed ≡ listed_in group lists → entry_named listed.entries name ≡ Some s → entry_named (entries_in group words) name ≡ Some s
  lent_entry group listed name s is at = subst (λ es. entry_named es name ≡ Some s) (lent_entries group listed is) at
