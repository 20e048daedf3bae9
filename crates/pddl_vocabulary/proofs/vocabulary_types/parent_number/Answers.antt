use Rattle.std.proofs.Common.{sym, ◌∙◌, arith}
use Rattle.pddl_names.specs.declared.kind.Kind.TheVariants as kind
use Rattle.pddl_names.specs.Kinds.{declares}
use Rattle.pddl_vocabulary.proofs.GatherLemmas.{position_within, parent_some, parent_none}
use Rattle.pddl_vocabulary.proofs.vocabulary_types.parent_number.Goals as goal

pub behind-requires-clause-place : goal.behind-requires-clause-place
behind-requires-clause-place c =
    let words = c.args.words.now in
    let name = c.args.name.now in
    let lt = position_within (declares kind.Types name) 0 words c.in-Some.place (sym (c.requires.listed name) ∙ sym c.number.ensures ∙ c.in-Some.is) in
    omega (arith, lt)

pub returns-in-Some : goal.returns-in-Some
returns-in-Some c =
    let name = c.args.name.now in
    c.behind.ensures
    ∙ parent_some c.args.types.now c.args.words.now c.requires.types name c.in-Some.place (sym (c.requires.listed name) ∙ sym c.number.ensures ∙ c.in-Some.is)

pub returns-in-None : goal.returns-in-None
returns-in-None c =
    let name = c.args.name.now in
    parent_none c.args.types.now c.args.words.now c.requires.types name (sym (c.requires.listed name) ∙ sym c.number.ensures ∙ c.in-None.is)
