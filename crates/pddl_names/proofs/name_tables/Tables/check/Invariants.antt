use Rattle.pddl_names.proofs.CheckLemmas.{ReadTo}
use Rattle.pddl_names.specs.Listings.{Declared, declared}
use Rattle.pddl_names.specs.Tables.{AreTables, AreTermsFrom, IsCurrentAction}
use Rattle.pddl_names.proofs.name_tables.Tables.check.Given as goal

abbrev pub invariant-loop-place : goal.invariant-loop-place
invariant-loop-place l = record {
  read : (base : Declared) → AreTables (declared base l.words) l.words l.self → ReadTo base l.words l.place;
  action : IsCurrentAction l.words l.place l.action;
  from : AreTermsFrom l.words l.place l.from;
}
