-- The lists of a vocabulary that words say are short if the words are few.
use Rattle.std.proofs.Common.{ℕ, ◌+◌, ◌<◌, ◌≤◌, List, length, ap, arith}
use Rattle.model_kit.specs.declared.vocabulary.Vocabulary.{Vocabulary}
use Rattle.pddl_names.specs.declared.role.Word.{Word}
use Rattle.pddl_vocabulary.specs.Values.{SaysWords, SaysMore, names_of}
use Rattle.pddl_vocabulary.proofs.FewLemmas.{few_types, few_objects, few_actions, few_more}
use Rattle.pddl_models.proofs.CountedLemmas.{few_predicates, few_functions}
use Rattle.pddl_read.specs.Texts.{AreFew}

pub words_few : (said : List Word) (words : Vocabulary) (bound : ℕ) → SaysWords said words → length said + 1 < bound → AreFew words bound
words_few said words bound says few =
    let types = few_types said words.types says.types in
    let objects = few_objects said words.objects says.objects in
    let predicates = few_predicates said words says in
    let functions = few_functions said words says in
    let actions = few_actions said words.actions says.actions in
    record { types = omega (arith, types, few); objects = omega (arith, objects, few); predicates = omega (arith, predicates, few); functions = omega (arith, functions, few); actions = omega (arith, actions, few) }

pub more_few : (domain : Vocabulary) (said : List Word) (words : Vocabulary) (bound more : ℕ) → SaysMore domain said words → AreFew domain bound → length said < more → AreFew words (bound + more)
more_few domain said words bound more says few short =
    let types = ap length says.types in
    let objects = few_more domain.objects words.objects (names_of domain.types) said says.objects in
    let predicates = ap length says.predicates in
    let functions = ap length says.functions in
    let actions = ap length says.actions in
    let t = few.types in let o = few.objects in let p = few.predicates in let f = few.functions in let a = few.actions in
    record { types = omega (arith, types, t); objects = omega (arith, objects, o, short); predicates = omega (arith, predicates, p); functions = omega (arith, functions, f); actions = omega (arith, actions, a) }
