-- One step by the definitions, from what the code knows of it: the lists of a schema say what an action needs, adds and deletes.
use Rattle.std.proofs.Common.{◌≡◌, ◌&&◌, zero, suc, Bool, true, false, List, [], ◌∷◌, map, Some, refl, sym, ap, subst, ◌∙◌, arith, ⊎_elim, inl, inr}
use Rattle.std.specs.Prelude.{◌↔◌, not, All, Contains, slice_get}
use Rattle.std.specs.Bool.{Decides}
use Rattle.std.specs.List.{list_any}
use Rattle.std.specs.Option.{option_map_or}
use Rattle.std.proofs.lemmas.Bool.{true≢false, or_cases, or_left, or_right, and_parts, and_from, not-true, not_from_false}
use Rattle.std.proofs.lemmas.List.Elements.{All-contains}
use Rattle.std.specs.BTreeSet.{BTreeSet}
use Rattle.model_kit.specs.declared.vocabulary.Vocabulary.{Vocabulary}
use Rattle.model_kit.specs.declared.atom.GroundAtom.{GroundAtom}
use Rattle.model_kit.specs.declared.atom.SchemaAtom.{SchemaAtom}
use Rattle.model_kit.specs.declared.action.GroundAction.{GroundAction}
use Rattle.model_kit.specs.declared.model.Model.{Model}
use Rattle.model_kit.specs.declared.model.Schema.{Schema}
use Rattle.model_kit.specs.Same.{same_atom, same_schema_atom}
use Rattle.model_kit.specs.Places.{meaning, schema_has}
use Rattle.model_kit.specs.Runs.{instance, Needs, Adds, Deletes, After}
use Rattle.model_kit.specs.Judgement.{IsFirstPrinted, Lacks}
use Rattle.model_kit.specs.Judging.{has, StateOf, IsMissing, Changes}
use Rattle.model_kit.proofs.Alike.{same_atom-decides, same_schema_atom-decides}
use Rattle.mre_base.proofs.Listed.{map-contains, contains-map}

-- a test of equality finds what is listed
module _ {X : Type 0} (same : X → X → Bool) (decides : (a b : X) → Decides (same a b) (a ≡ b)) where
  pub listed_from_any : (x : X) (xs : List X) → list_any (same x) xs ≡ true → Contains xs x
  listed_from_any x [] e = absurd (true≢false (sym e))
  listed_from_any x (y ∷ ys) e =
      ⊎_elim (λ here. (zero, omega arith, sym ((decides x y).0 here)))
      (λ later. let at = listed_from_any x ys later in (suc at.0, omega (arith, at.1), at.2))
      (or_cases (same x y) (list_any (same x) ys) e)

  pub any_from_listed : (x : X) (xs : List X) → Contains xs x → list_any (same x) xs ≡ true
  any_from_listed x [] at = absurd (omega (arith, at.1))
  any_from_listed x (y ∷ ys) (zero, lt, is) = or_left (same x y) (list_any (same x) ys) ((decides x y).1 (sym is))
  any_from_listed x (y ∷ ys) (suc k, lt, is) = or_right (same x y) (list_any (same x) ys) (any_from_listed x ys (k, omega arith, is))

module _ (model : Model) (action : GroundAction) (schema : Schema) (at : slice_get model.schemas action.schema ≡ Some schema) where
  -- a list of the schema, as the places of the model have it
  schema_list : (part : Schema → List SchemaAtom) (f : SchemaAtom) → Decides (schema_has part model action.schema f) (Contains (part schema) f)
  schema_list part f =
      let is : schema_has part model action.schema f ≡ list_any (same_schema_atom f) (part schema) = ap (λ o. option_map_or (λ s. list_any (same_schema_atom f) (part s)) o false) at in (
        λ e. listed_from_any same_schema_atom same_schema_atom-decides f (part schema) (sym is ∙ e),
        λ listed. is ∙ any_from_listed same_schema_atom same_schema_atom-decides f (part schema) listed,
      )

  abbrev instances : List SchemaAtom → List GroundAtom
  instances fs = map (instance action.objects) fs

  -- what the action needs, adds or deletes are the instances of the list
  from_list : (part : Schema → List SchemaAtom) (atom : GroundAtom) → Contains (instances (part schema)) atom → (f : SchemaAtom) × (schema_has part model action.schema f ≡ true) × (instance action.objects f ≡ atom)
  from_list part atom listed =
      let f = contains-map (instance action.objects) (part schema) atom listed in (f.0, (schema_list part f.0).1 f.1, f.2)

  to_list : (part : Schema → List SchemaAtom) (atom : GroundAtom) → (f : SchemaAtom) × (schema_has part model action.schema f ≡ true) × (instance action.objects f ≡ atom) → Contains (instances (part schema)) atom
  to_list part atom (f, on, is) = subst (Contains (instances (part schema))) is (map-contains (instance action.objects) (part schema) f ((schema_list part f).0 on))

  pub needs_from : (atom : GroundAtom) → Contains (instances schema.pre) atom → Needs (meaning model) action atom
  needs_from = from_list (λ s. s.pre)

  pub needs_to : (atom : GroundAtom) → Needs (meaning model) action atom → Contains (instances schema.pre) atom
  needs_to = to_list (λ s. s.pre)

  adds_decided : (atom : GroundAtom) → Decides (list_any (same_atom atom) (instances schema.add)) (Adds (meaning model) action atom)
  adds_decided atom = (
    λ e. from_list (λ s. s.add) atom (listed_from_any same_atom same_atom-decides atom (instances schema.add) e),
    λ adds. any_from_listed same_atom same_atom-decides atom (instances schema.add) (to_list (λ s. s.add) atom adds),
  )

  deletes_decided : (atom : GroundAtom) → Decides (list_any (same_atom atom) (instances schema.del)) (Deletes (meaning model) action atom)
  deletes_decided atom = (
    λ e. from_list (λ s. s.del) atom (listed_from_any same_atom same_atom-decides atom (instances schema.del) e),
    λ deletes. any_from_listed same_atom same_atom-decides atom (instances schema.del) (to_list (λ s. s.del) atom deletes),
  )

  -- the changed set keeps the successor
  pub changed : (old new : BTreeSet GroundAtom) → Changes action.objects schema.del schema.add old new → (atom : GroundAtom) → StateOf new atom ↔ After (meaning model) (StateOf old) action atom
  changed old new changes atom = (
    λ there.
        ⊎_elim
        (λ kept. let parts = and_parts (has old atom) (not (list_any (same_atom atom) (instances schema.del))) kept in
        inl (parts.0, λ deletes. true≢false (sym ((deletes_decided atom).1 deletes) ∙ not-true (list_any (same_atom atom) (instances schema.del)) parts.1)))
        (λ added. inr ((adds_decided atom).0 added))
        (or_cases (has old atom && not (list_any (same_atom atom) (instances schema.del))) (list_any (same_atom atom) (instances schema.add)) (sym (changes atom) ∙ there)),
    λ after. changes atom ∙ ⊎_elim
        (λ kept. or_left (has old atom && not (list_any (same_atom atom) (instances schema.del))) (list_any (same_atom atom) (instances schema.add))
        (and_from (has old atom) (not (list_any (same_atom atom) (instances schema.del))) kept.0
        (not_from_false (list_any (same_atom atom) (instances schema.del)) (off (list_any (same_atom atom) (instances schema.del)) (λ e. kept.1 ((deletes_decided atom).0 e))))))
        (λ adds. or_right (has old atom && not (list_any (same_atom atom) (instances schema.del))) (list_any (same_atom atom) (instances schema.add)) ((adds_decided atom).1 adds))
        after,
  )
    where
      off : (b : Bool) → ¬ (b ≡ true) → b ≡ false
      off true no_way = absurd (no_way refl)
      off false no_way = refl

  module _ (needed : List GroundAtom) (is : needed ≡ instances schema.pre) (state : BTreeSet GroundAtom) where
    -- all preconditions are in the state
    pub all_met : All (StateOf state) needed → (atom : GroundAtom) → Needs (meaning model) action atom → StateOf state atom
    all_met all atom needs = All-contains (StateOf state) needed atom all (subst (λ xs. Contains xs atom) (sym is) (needs_to atom needs))

    -- the missing atom of the list is that of the action
    pub first_lacked : (words : Vocabulary) (atom : GroundAtom) → IsFirstPrinted words (IsMissing needed state) atom → IsFirstPrinted words (Lacks (meaning model) action (StateOf state)) atom
    first_lacked words atom first = record {
      has = (needs_from atom (subst (λ xs. Contains xs atom) is first.has.0), first.has.1);
      first = λ other lacks differs. first.first other (subst (λ xs. Contains xs other) (sym is) (needs_to other lacks.0), lacks.1) differs;
    }
