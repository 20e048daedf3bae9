-- A model after some differences has finitely many features.
use Rattle.std.proofs.Common.{◌≡◌, ℕ, Bool, true, false, cond, List, [], ◌++◌, Option, Some, None, sym, ⊎_elim, inl, inr}
use Rattle.std.specs.Prelude.{◌⊎◌, IsTrue, Contains, slice_get}
use Rattle.std.specs.List.{list_any}
use Rattle.std.specs.Option.{option_map_or}
use Rattle.std.proofs.lemmas.Bool.{true≢false}
use Rattle.std.proofs.lemmas.List.Elements.{Contains-append_left, Contains-append_right}
use Rattle.model_kit.specs.declared.atom.SchemaAtom.{SchemaAtom}
use Rattle.model_kit.specs.declared.model.Model.{Model}
use Rattle.model_kit.specs.declared.model.Schema.{Schema}
use Rattle.model_kit.specs.Same.{same_atom, same_schema_atom}
use Rattle.model_kit.specs.Places.{Place, Init, Goal, Pre, Add, Del, Meaning, meaning, schema_has}
use Rattle.model_kit.specs.Differences.{is_told}
use Rattle.model_kit.specs.Runs.{Has, is_on}
use Rattle.model_kit.proofs.Alike.{same_atom-decides, same_schema_atom-decides}
use Rattle.model_kit.proofs.StepLemmas.{listed_from_any}
use Rattle.model_kit.proofs.FiniteLemmas.{IsFinite}

-- the atoms in one list of a schema
abbrev pub listed_atoms : (Schema → List SchemaAtom) → Model → ℕ → List SchemaAtom
listed_atoms part model i = option_map_or part (slice_get model.schemas i) []

pub has_listed : (part : Schema → List SchemaAtom) (model : Model) (i : ℕ) (f : SchemaAtom) → schema_has part model i f ≡ true → Contains (listed_atoms part model i) f
has_listed part model i f e = by (slice_get model.schemas i) e
  where
    by : (o : Option Schema) → option_map_or (λ schema. list_any (same_schema_atom f) (part schema)) o false ≡ true → Contains (option_map_or part o []) f
    by None on = absurd (true≢false (sym on))
    by (Some schema) on = listed_from_any same_schema_atom same_schema_atom-decides f (part schema) on

module _ (planner user : Model) (places : List Place) (passes : ℕ → Bool) where
  -- the user's model after the differences whose numbers pass
  abbrev pub after_some : Meaning
  after_some p = cond (is_told 1 places passes p) (meaning planner p) (meaning user p)

  -- what is on after the differences is on in one of the models
  pub on_in_one : (p : Place) → Has after_some p → Has (meaning planner) p ⊎ Has (meaning user) p
  on_in_one p on = by (is_told 1 places passes p) on
    where
      by : (b : Bool) → IsTrue (is_on (cond b (meaning planner p) (meaning user p))) → Has (meaning planner) p ⊎ Has (meaning user) p
      by true e = inl e
      by false e = inr e

  pub in_one : {X : Type 0} (p : Place) (x : X) (xs ys : List X) → (Has (meaning planner) p → Contains xs x) → (Has (meaning user) p → Contains ys x) → Has after_some p → Contains (xs ++ ys) x
  in_one p x xs ys first second on = ⊎_elim (λ e. Contains-append_left xs ys x (first e)) (λ e. Contains-append_right xs ys x (second e)) (on_in_one p on)

  abbrev pub finite_after : IsFinite after_some
  finite_after = record {
    facts = planner.init ++ user.init;
    goals = planner.goal ++ user.goal;
    pres = λ i. listed_atoms (λ s. s.pre) planner i ++ listed_atoms (λ s. s.pre) user i;
    adds = λ i. listed_atoms (λ s. s.add) planner i ++ listed_atoms (λ s. s.add) user i;
    dels = λ i. listed_atoms (λ s. s.del) planner i ++ listed_atoms (λ s. s.del) user i;
    init_listed = λ a. in_one (Init a) a planner.init user.init (listed_from_any same_atom same_atom-decides a planner.init) (listed_from_any same_atom same_atom-decides a user.init);
    goal_listed = λ a. in_one (Goal a) a planner.goal user.goal (listed_from_any same_atom same_atom-decides a planner.goal) (listed_from_any same_atom same_atom-decides a user.goal);
    pre_listed = λ i f. in_one (Pre i f) f (listed_atoms (λ s. s.pre) planner i) (listed_atoms (λ s. s.pre) user i) (has_listed (λ s. s.pre) planner i f) (has_listed (λ s. s.pre) user i f);
    add_listed = λ i f. in_one (Add i f) f (listed_atoms (λ s. s.add) planner i) (listed_atoms (λ s. s.add) user i) (has_listed (λ s. s.add) planner i f) (has_listed (λ s. s.add) user i f);
    del_listed = λ i f. in_one (Del i f) f (listed_atoms (λ s. s.del) planner i) (listed_atoms (λ s. s.del) user i) (has_listed (λ s. s.del) planner i f) (has_listed (λ s. s.del) user i f);
  }
