use Rattle.std.proofs.Common.{◌≡◌, ℕ, Option, length, refl, sym, ap, ◌∙◌, arith, ⊎_elim}
use Rattle.std.specs.Prelude.{◌⊎◌, codes, slice_get}
use Rattle.std.specs.Option.{option_map_or}
use Rattle.std.proofs.lemmas.Option.{slice_get_past}
use Rattle.mre_base.specs.declared.text.Text.{Text}
use Rattle.mre_base.proofs.Options.{at_some}
use Rattle.pddl_form.specs.declared.parts.Owner.{Owner}
use Rattle.pddl_names.specs.declared.role.Role.{Role}
use Rattle.pddl_names.specs.declared.role.Role.TheVariants as role
use Rattle.pddl_names.specs.declared.role.Word.{Word}
use Rattle.pddl_names.specs.Groups.{text_at}
use Rattle.pddl_names.specs.Listings.{type_at}
use Rattle.pddl_names.proofs.groups.group_place.Goals as goal

module _ (r : Role) (text behind : Text) where
  role_is : (q : Role) → r ≡ q → type_at q text behind ≡ type_at r text behind
  role_is q is = sym (ap (λ s. type_at s text behind) is)

  goes_on : (r ≡ role.ListedType) ⊎ ((r ≡ role.ListedObject) ⊎ (((o : Owner) × (r ≡ role.Variable o)) ⊎ (r ≡ role.Dash))) → behind ≡ type_at r text behind
  goes_on is =
      ⊎_elim (role_is role.ListedType)
      (λ more. ⊎_elim (role_is role.ListedObject) (λ last. ⊎_elim (λ v. role_is (role.Variable v.0) v.1) (role_is role.Dash) last) more) is

  is_type : (r ≡ role.ParentType) ⊎ ((r ≡ role.ObjectType) ⊎ (r ≡ role.VariableType)) → text ≡ type_at r text behind
  is_type is = ⊎_elim (role_is role.ParentType) (λ more. ⊎_elim (role_is role.ObjectType) (role_is role.VariableType) more) is

ends : (r : Role) (text behind : Text) → (r ≡ role.ListedType → ⊥) → (r ≡ role.ListedObject → ⊥) → ((o : Owner) → r ≡ role.Variable o → ⊥) → (r ≡ role.Dash → ⊥)
    → (r ≡ role.ParentType → ⊥) → (r ≡ role.ObjectType → ⊥) → (r ≡ role.VariableType → ⊥) → codes "object" ≡ type_at r text behind
ends role.ListedType text behind type object variable dash parent above kind = absurd (type refl)
ends role.ListedObject text behind type object variable dash parent above kind = absurd (object refl)
ends (role.Variable o) text behind type object variable dash parent above kind = absurd (variable o refl)
ends role.Dash text behind type object variable dash parent above kind = absurd (dash refl)
ends role.ParentType text behind type object variable dash parent above kind = absurd (parent refl)
ends role.ObjectType text behind type object variable dash parent above kind = absurd (above refl)
ends role.VariableType text behind type object variable dash parent above kind = absurd (kind refl)
ends _ text behind type object variable dash parent above kind = refl

pub returns-in-ListedType : goal.returns-in-ListedType
returns-in-ListedType c =
    let words = c.args.words.now in
    let w = c.item.result.now in
    let next = text_at words c.args.behind in
    at_some (slice_get words c.args.place) w (λ v. next ≡ type_at v.role v.text next) c.item.ensures (goes_on w.role w.text next c.in-ListedType.is)

pub returns-in-ParentType : goal.returns-in-ParentType
returns-in-ParentType c =
    let words = c.args.words.now in
    let w = c.item.result.now in
    let next = text_at words c.args.behind in
    at_some (slice_get words c.args.place) w (λ v. text_at words c.args.place ≡ type_at v.role v.text next) c.item.ensures
    (ap (λ (o : Option Word). option_map_or (λ v. v.text) o (codes "object")) c.item.ensures ∙ is_type w.role w.text next c.in-ParentType.is)

pub returns-in_default : goal.returns-in_default
returns-in_default c =
    let words = c.args.words.now in
    let w = c.item.result.now in
    let next = text_at words c.args.behind in
    at_some (slice_get words c.args.place) w (λ v. text_at words c.len.result ≡ type_at v.role v.text next) c.item.ensures
    (ap (λ (o : Option Word). option_map_or (λ v. v.text) o (codes "object")) (slice_get_past words c.len.result (omega (arith, c.len.ensures)))
    ∙ ends w.role w.text next c.in_default.not-ListedType c.in_default.not-ListedObject c.in_default.not-Variable c.in_default.not-Dash c.in_default.not-ParentType c.in_default.not-ObjectType c.in_default.not-VariableType)
