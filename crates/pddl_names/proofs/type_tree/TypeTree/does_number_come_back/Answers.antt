use Rattle.std.proofs.Common.{List, ℕ, ◌+◌, ◌<◌, ◌≤◌, length, arith, sym, ap, ◌∙◌, subst}
use Rattle.std.specs.Prelude.{codes, slice_get, slice_index, not}
use Rattle.std.specs.Str.{bytes_eq}
use Rattle.model_kit.proofs.Alike.{same_numbers-decides}
use Rattle.pddl_names.specs.Firsts.{typed_name}
use Rattle.pddl_names.specs.Listings.{Typed}
use Rattle.pddl_names.specs.Numbers.{number_of}
use Rattle.std.specs.Bool.{Decides}
use Rattle.pddl_names.specs.Forests.{AreUps, Reaches}
use Rattle.pddl_names.proofs.NumberLemmas.{number_below}
use Rattle.pddl_names.proofs.TreeLemmas.{ups, back_object, back_known, parent_known, reach_bound}
use Rattle.pddl_names.proofs.type_tree.TypeTree.does_number_come_back.Goals as goal

pub item-requires : goal.item-requires
item-requires c = number_below typed_name c.args.self.now.names.entries c.args.name.now c.args.number c.requires.number

pub returns-then-is_object : goal.returns-then-is_object
returns-then-is_object c = λ types are.
    let name = c.args.name.now in
    let is = sym c.is_object.ensures ∙ c.if-is_object.true in
    let named = ap (λ es. number_of typed_name es name) (sym are.names) ∙ c.requires.number in
    let at = ap (λ (es : List Typed). slice_get es c.args.number) (sym are.names) ∙ c.item.ensures in
    let p = parent_known types name c.args.number c.item.result.now named at in
    let same = (same_numbers-decides name (codes "object")).0 is in
    ap not (c.is_object-then-is_object.ensures ∙ (λ i. bytes_eq (p i) (sym same i))) ∙ sym (back_object types name is)

pub does_reach-requires : goal.does_reach-requires
does_reach-requires c =
    let self = c.args.self.now in
    let low = number_below typed_name self.names.entries c.args.name.now c.args.number c.requires.number in
    record { forest = c.requires.sound.forest; from = subst (λ n. n < length self.ups.items) (sym c.up.ensures) (c.requires.sound.forest.ups_within c.args.number (omega (arith, low, c.requires.sound.sized))) }

pub returns : goal.returns
returns c = λ types are.
    let self = c.args.self.now in
    let number = c.args.number in
    let named = ap (λ es. number_of typed_name es c.args.name.now) (sym are.names) ∙ c.requires.number in
    let low = number_below typed_name self.names.entries c.args.name.now number c.requires.number in
    let there = c.up.ensures ∙ ap (λ us. slice_index us number) are.ups in
    let low_ups = subst AreUps are.ups c.requires.sound.forest.ups_within in
    let inside = subst (λ (us : List ℕ). number < length us) are.ups (omega (arith, low, c.requires.sound.sized)) in
    let enough : length types + 2 ≤ length types + 2 = omega arith in
    reach_bound types low_ups (slice_index (ups types) number) number (length types + 2) (low_ups number inside) enough c.does_reach.result
    (subst (λ f. Decides c.does_reach.result (Reaches (ups types) f number)) there
    (subst (λ (us : List ℕ). Decides c.does_reach.result (Reaches us c.up.result number)) are.ups c.does_reach.ensures))
    ∙ sym (back_known types c.args.name.now number (sym c.is_object.ensures ∙ c.if-is_object.false) named)
