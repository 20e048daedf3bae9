use Rattle.std.proofs.Common.{◌≡◌, ◌≤◌, Some, length, ap, sym, ◌∙◌, arith}
use Rattle.std.specs.Prelude.{slice_get}
use Rattle.std.proofs.lemmas.Result.{IfOk-weaker}
use Rattle.model_kit.specs.Pairs.{names, number_of}
use Rattle.joint_models.specs.Renaming.{schema_by, IsSchemaFor}
use Rattle.joint_models.proofs.Schemas.{other_has, other_schema}
use Rattle.joint_models.proofs.models.schema_for.Goals as goal

pub item-requires-2 : goal.item-requires-2
item-requires-2 c =
    let own = c.args.own.model.now in
    let other = c.args.other.model.now in
    let name = c.args.name.now in
    let first = c.number-number.ensures ∙ ap (λ as'. number_of (names as') name) c.requires.own_are in
    let second = c.number-number-2.ensures ∙ ap (λ as'. number_of (names as') name) c.requires.other_are in
    let past : length own.schemas ≤ number_of (names own.words.actions) name = omega (arith, first, c.if-number-len.false, c.len.ensures) in
    let there = other_has own c.args.own.numbers.now other c.args.other.numbers.now name past c.requires.known in
    omega (arith, there, second)

pub returns : goal.returns
returns c =
    let own = c.args.own.model.now in
    let other = c.args.other.model.now in
    let name = c.args.name.now in
    let first = c.number-number.ensures ∙ ap (λ as'. number_of (names as') name) c.requires.own_are in
    let second = c.number-number-2.ensures ∙ ap (λ as'. number_of (names as') name) c.requires.other_are in
    let past : length own.schemas ≤ number_of (names own.words.actions) name = omega (arith, first, c.if-number-len.false, c.len.ensures) in
    let at : slice_get other.schemas (number_of (names other.words.actions) name) ≡ Some c.item-2.result.now = ap (slice_get other.schemas) (sym second) ∙ c.item-2.ensures in
    record {
      ok = IfOk-weaker c.rename_schema-2.result (λ made. made ≡ schema_by c.args.other.numbers.now c.item-2.result.now) (IsSchemaFor own c.args.own.numbers.now other c.args.other.numbers.now name)
          (λ made is. other_schema own c.args.own.numbers.now other c.args.other.numbers.now name past c.item-2.result.now made at is)
          c.rename_schema-2.ensures.ok;
    }
