use Rattle.std.proofs.Common.{◌≡◌, List, [], Option, None, Some, refl, inl, inr}
use Rattle.std.specs.Prelude.{◌⊎◌}
use Rattle.pddl_text.specs.declared.fault.TextFault.{TextFault}
use Rattle.pddl_names.specs.declared.role.Word.{Word}
use Rattle.pddl_names.specs.FirstNames.{first_broken}
use Rattle.pddl_names.specs.Listings.{Declared}
use Rattle.pddl_names.specs.Naming.{IsNamed, IsMisnamed}
use Rattle.pddl_names.proofs.NamingLemmas.{named_of, misnamed_of, not_both, one_fault}
use Rattle.pddl_names.proofs.laws.law_names.Goals as goal

either_by : (base : Declared) (words : List Word) (o : Option TextFault) → first_broken base [] words ≡ o → IsNamed base words ⊎ ((fault : TextFault) × IsMisnamed base words fault)
either_by base words None e = inl (named_of base words e)
either_by base words (Some fault) e = inr (fault, misnamed_of base words fault e)

pub returns : goal.returns
returns c = record {
  either = λ base words. either_by base words (first_broken base [] words) refl;
  never_both = not_both;
  one_fault = one_fault;
}
