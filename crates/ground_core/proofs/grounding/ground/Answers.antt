use Rattle.std.proofs.Common.{map, ◌∙◌, refl, sym, ap, subst}
use Rattle.std.specs.Prelude.{All, IsTrue}
use Rattle.model_kit.specs.Printed.{atom_form, action_form}
use Rattle.model_kit.specs.Vocabulary.{IsGroundAction, is_ground_atom}
use Rattle.named_tables.specs.Models.{Models}
use Rattle.named_tables.proofs.WorldLemmas.{reach_law}
use Rattle.pair_rules.specs.Ruled.{models_of}
use Rattle.ground_core.specs.Stops.{Exceeds}
use Rattle.ground_core.proofs.GroundLemmas.{listed_again, atoms_fit, actions_fit, not_full, exceeded, told_on}
use Rattle.ground_core.proofs.grounding.ground.Goals as goal

pub returns-in_err-reached-clause-err : goal.returns-in_err-reached-clause-err
returns-in_err-reached-clause-err c =
    let planner = c.args.pair.now.planner in
    let user = c.args.pair.now.user in
    told_on (Exceeds planner user c.args.differences.now) c.in_err-reached.field-0.0 c.from_residual-in_err-reached.result c.from_residual-in_err-reached.ensures.1
    (exceeded planner user c.args.differences.now c.in_ok-world.world c.in_ok-world.ensures.ok _ refl refl c.in_err-reached.field-0.0 c.in_err-reached.ensures.err)

pub in_order-requires : goal.in_order-requires
in_order-requires c =
    let pair = c.args.pair.now in
    let lists = reach_law (models_of pair.planner pair.user c.args.differences.now) c.in_ok-world.world _ c.in_ok-reached.reached c.in_ok-world.ensures.ok c.in_ok-reached.ensures.ok in
    subst (λ w. All (λ atom. IsTrue (is_ground_atom w atom)) c.in_ok-reached.reached.atoms) (sym c.words.ensures)
    (atoms_fit pair.planner pair.user pair.joint c.args.differences.now c.in_ok-reached.reached.atoms c.in_ok-reached.reached.actions lists)

pub in_order-requires-2 : goal.in_order-requires-2
in_order-requires-2 c =
    let pair = c.args.pair.now in
    let lists = reach_law (models_of pair.planner pair.user c.args.differences.now) c.in_ok-world.world _ c.in_ok-reached.reached c.in_ok-world.ensures.ok c.in_ok-reached.ensures.ok in
    subst (λ w. All (IsGroundAction w) c.in_ok-reached.reached.actions) (sym c.words-2.ensures)
    (actions_fit (models_of pair.planner pair.user c.args.differences.now) c.in_ok-reached.reached.atoms c.in_ok-reached.reached.actions lists)

pub table_of-requires-clause-reachable : goal.table_of-requires-clause-reachable
table_of-requires-clause-reachable c =
    let models : Models = models_of c.args.pair.now.planner c.args.pair.now.user c.args.differences.now in
    let lists = reach_law models c.in_ok-world.world _ c.in_ok-reached.reached c.in_ok-world.ensures.ok c.in_ok-reached.ensures.ok in
    listed_again models c.in_ok-reached.reached.atoms c.in_ok-atoms.atoms.things c.in_ok-reached.reached.actions c.in_ok-actions.actions.things lists c.in_ok-atoms.ensures.same c.in_ok-actions.ensures.same

pub returns-clause-ok : goal.returns-clause-ok
returns-clause-ok c =
    let models : Models = models_of c.args.pair.now.planner c.args.pair.now.user c.args.differences.now in
    let lists = reach_law models c.in_ok-world.world _ c.in_ok-reached.reached c.in_ok-world.ensures.ok c.in_ok-reached.ensures.ok in
    record {
      atoms = c.in_ok-atoms.atoms.things;
      actions = c.in_ok-actions.actions.things;
      reachable = listed_again models c.in_ok-reached.reached.atoms c.in_ok-atoms.atoms.things c.in_ok-reached.reached.actions c.in_ok-actions.actions.things lists c.in_ok-atoms.ensures.same c.in_ok-actions.ensures.same;
      table = c.in_ok-table_of.ensures.table;
      counted = c.in_ok-table_of.ensures.differences;
      atoms_named = c.in_ok-atoms.ensures.named ∙ ap (λ w. map (atom_form w) c.in_ok-atoms.atoms.things) c.words.ensures;
      actions_named = c.in_ok-actions.ensures.named ∙ ap (λ w. map (action_form w) c.in_ok-actions.actions.things) c.words-2.ensures;
    }

pub returns-clause-within : goal.returns-clause-within
returns-clause-within c =
    let planner = c.args.pair.now.planner in
    let user = c.args.pair.now.user in
    let lists = reach_law (models_of planner user c.args.differences.now) c.in_ok-world.world _ c.in_ok-reached.reached c.in_ok-world.ensures.ok c.in_ok-reached.ensures.ok in
    not_full planner user c.args.differences.now c.in_ok-reached.reached.atoms c.in_ok-reached.reached.actions lists c.in_ok-reached.ensures.ok.few_atoms c.in_ok-reached.ensures.ok.few_actions
