-- The tokens of trees, from the first tree on.
use Rattle.std.proofs.Common.{◌≡◌, ℕ, ◌+◌, suc, zero, add-one, List, [], ◌∷◌, ◌++◌, Some, drop, ap, ◌∙◌, append_assoc}
use Rattle.std.specs.Prelude.{slice_get}
use Rattle.pddl_text.specs.declared.place.Place.{Place}
use Rattle.pddl_text.specs.declared.tree.Tree.{Tree}
use Rattle.pddl_text.specs.declared.tree.Tree.TheVariants as tree
use Rattle.pddl_text.specs.Forests.{tokens_of, tokens_of_all}
use Rattle.pddl_text.specs.Tokens.{Token, Word, Open, Close}
use Rattle.pddl_text.proofs.TreeLemmas.{tokens-Word, tokens-Items}

pub word_tokens : (text : List ℕ) (at : Place) (from past : ℕ) (tokens : List Token) → tokens_of (tree.Word text at from past) ++ tokens ≡ Word text at from past ∷ tokens
word_tokens text at from past tokens = ap (λ (ts : List Token). ts ++ tokens) (tokens-Word text at from past)

pub items_tokens : (list : List Tree) (at close : Place) (tokens : List Token) → tokens_of (tree.Items list at close) ++ tokens ≡ Open at ∷ (tokens_of_all list ++ (Close close ∷ tokens))
items_tokens list at close tokens =
    ap (λ (ts : List Token). ts ++ tokens) (tokens-Items list at close)
    ∙ ap (λ (ts : List Token). Open at ∷ ts) (append_assoc (tokens_of_all list) (Close close ∷ []) tokens)

pub first_tree : (list : List Tree) (t : Tree) (tokens : List Token) → slice_get list 0 ≡ Some t → tokens_of_all list ++ tokens ≡ tokens_of t ++ (tokens_of_all (drop 1 list) ++ tokens)
first_tree [] t tokens is = absurd cc
first_tree (u ∷ list) t tokens is =
    let same : u ≡ t = cc in
    append_assoc (tokens_of u) (tokens_of_all list) tokens ∙ ap (λ (v : Tree). tokens_of v ++ (tokens_of_all list ++ tokens)) same

drop_item : (list : List Tree) (i : ℕ) (t : Tree) → slice_get list i ≡ Some t → drop i list ≡ t ∷ drop (suc i) list
drop_item [] i t is = absurd cc
drop_item (u ∷ list) zero t is = let same : u ≡ t = cc in ap (λ (v : Tree). v ∷ list) same
drop_item (u ∷ list) (suc i) t is = drop_item list i t is

pub next_tree : (list : List Tree) (i : ℕ) (t : Tree) (tokens : List Token) → slice_get list i ≡ Some t → tokens_of_all (drop i list) ++ tokens ≡ tokens_of t ++ (tokens_of_all (drop (i + 1) list) ++ tokens)
next_tree list i t tokens is =
    rw add-one
    (ap (λ (trees : List Tree). tokens_of_all trees ++ tokens) (drop_item list i t is)
    ∙ append_assoc (tokens_of t) (tokens_of_all (drop (suc i) list)) tokens)
