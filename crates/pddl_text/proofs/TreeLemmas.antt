-- What the tokens of trees are read as, and what trees that were read have as tokens.
use Rattle.std.proofs.Common.{◌≡◌, ℕ, ◌+◌, ◌≤◌, suc, max, Bool, true, false, cond, ltb, List, [], ◌∷◌, ◌++◌, length, map, Option, Some, None, Result, Ok, Err, sym, ap, subst, ◌∙◌, refl, arith, append_assoc}
use Rattle.std.proofs.lemmas.List.{append-nil}
use borrow.Author.Tests.{ltb-true, lt-ltb}
use Rattle.pddl_text.specs.declared.fault.TextFault.{TextFault}
use Rattle.pddl_text.specs.declared.fault.TextRule.TheVariants as rule
use Rattle.pddl_text.specs.declared.grove.Frame.{Frame}
use Rattle.pddl_text.specs.declared.place.Place.{Place}
use Rattle.pddl_text.specs.declared.tree.Tree.{Tree, roll-Tree}
use Rattle.pddl_text.specs.declared.tree.Tree.TheVariants as tree
use Rattle.pddl_text.specs.declared.tree.Tree.TheOpen.{Tree-F}
use Rattle.pddl_text.specs.declared.tree.Tree.TheFolds.{fold-roll-Tree, ind-Tree}
use Rattle.pddl_text.specs.declared.tree.Tree.{map-Tree}
use Rattle.pddl_text.specs.Faults.{fault_at}
use Rattle.pddl_text.specs.Forests.{tokens_step, tokens_of, tokens_of_all, height_step, height, height_of_all, first_fault}
use Rattle.pddl_text.specs.Reading.{trees_from}
use Rattle.pddl_text.specs.Tokens.{Token, Word, Open, Close, Stray}

pub tokens-Word : (text : List ℕ) (at : Place) (first past : ℕ) → tokens_of (tree.Word text at first past) ≡ Word text at first past ∷ []
tokens-Word text at first past = ap tokens_of (sym (tree.rolls-Word text at first past)) ∙ fold-roll-Tree (List Token) tokens_step (Tree-F.Word text at first past)

pub tokens-Items : (list : List Tree) (at close : Place) → tokens_of (tree.Items list at close) ≡ Open at ∷ (tokens_of_all list ++ Close close ∷ [])
tokens-Items list at close = ap tokens_of (sym (tree.rolls-Items list at close)) ∙ fold-roll-Tree (List Token) tokens_step (Tree-F.Items list at close)

pub height-Word : (text : List ℕ) (at : Place) (first past : ℕ) → height (tree.Word text at first past) ≡ 0
height-Word text at first past = ap height (sym (tree.rolls-Word text at first past)) ∙ fold-roll-Tree ℕ height_step (Tree-F.Word text at first past)

pub height-Items : (list : List Tree) (at close : Place) → height (tree.Items list at close) ≡ 1 + height_of_all list
height-Items list at close = ap height (sym (tree.rolls-Items list at close)) ∙ fold-roll-Tree ℕ height_step (Tree-F.Items list at close)

abbrev pub made : List Tree → Result (List Tree) TextFault
made trees = Ok trees

abbrev pub failed : TextFault → Result (List Tree) TextFault
failed fault = Err fault

pub made-inj : (us vs : List Tree) → made us ≡ made vs → us ≡ vs
made-inj us vs e = cc

-- ---- what the tokens of trees are read as

-- the tree's tokens are read as the tree, if its lists can be opened
abbrev IsReadBack : Tree → Type 0
IsReadBack t = (frames : List Frame) (trees : List Tree) (end : Place) (tokens : List Token) → length frames + height t ≤ 64
    → trees_from frames trees end (tokens_of t ++ tokens) ≡ trees_from frames (trees ++ t ∷ []) end tokens

back_all : (ys : List ((t : Tree) × IsReadBack t)) (frames : List Frame) (trees : List Tree) (end : Place) (tokens : List Token) → length frames + height_of_all (map (λ y. y.0) ys) ≤ 64
    → trees_from frames trees end (tokens_of_all (map (λ y. y.0) ys) ++ tokens) ≡ trees_from frames (trees ++ map (λ y. y.0) ys) end tokens
back_all [] frames trees end tokens fits = ap (λ (us : List Tree). trees_from frames us end tokens) (sym (append-nil trees))
back_all (y ∷ ys) frames trees end tokens fits =
    ap (trees_from frames trees end) (append_assoc (tokens_of y.0) (tokens_of_all (map (λ z. z.0) ys)) tokens)
    ∙ y.1 frames trees end (tokens_of_all (map (λ z. z.0) ys) ++ tokens) (omega arith)
    ∙ back_all ys frames (trees ++ y.0 ∷ []) end tokens (omega arith)
    ∙ ap (λ (us : List Tree). trees_from frames us end tokens) (append_assoc trees (y.0 ∷ []) (map (λ z. z.0) ys))

back_word : (text : List ℕ) (at : Place) (first past : ℕ) → IsReadBack (tree.Word text at first past)
back_word text at first past frames trees end tokens fits = rw (tokens-Word text at first past) refl

back_items : (ys : List ((t : Tree) × IsReadBack t)) (at close : Place) → IsReadBack (tree.Items (map (λ y. y.0) ys) at close)
back_items ys at close frames trees end tokens fits =
    let us = map (λ (y : (t : Tree) × IsReadBack t). y.0) ys in
    let high = height-Items us at close in
    let frame : Frame = record { at = at; before = trees } in
    let few : ltb (length frames) 64 ≡ true = lt-ltb _ _ (omega (arith, high, fits)) in
    let opened : trees_from frames trees end (Open at ∷ ((tokens_of_all us ++ Close close ∷ []) ++ tokens)) ≡ trees_from (frame ∷ frames) [] end ((tokens_of_all us ++ Close close ∷ []) ++ tokens) = rw few refl in
    ap (λ (ts : List Token). trees_from frames trees end (ts ++ tokens)) (tokens-Items us at close)
    ∙ opened
    ∙ ap (trees_from (frame ∷ frames) [] end) (append_assoc (tokens_of_all us) (Close close ∷ []) tokens)
    ∙ back_all ys (frame ∷ frames) [] end (Close close ∷ tokens) (omega (arith, high, fits))

back_layer : (y : Tree-F ((t : Tree) × IsReadBack t)) → IsReadBack (roll-Tree (map-Tree ((t : Tree) × IsReadBack t) Tree (λ e. e.0) y))
back_layer (Tree-F.Word text at first past) = subst IsReadBack (sym (tree.rolls-Word text at first past)) (back_word text at first past)
back_layer (Tree-F.Items ys at close) = subst IsReadBack (sym (tree.rolls-Items (map (λ y. y.0) ys) at close)) (back_items ys at close)

back : (t : Tree) → IsReadBack t
back = ind-Tree IsReadBack (λ x y is. subst (λ z. IsReadBack (roll-Tree z)) is (back_layer y))

with_back : (ts : List Tree) → map (λ (y : (t : Tree) × IsReadBack t). y.0) (map (λ t. (t, back t)) ts) ≡ ts
with_back [] = refl
with_back (t ∷ ts) = ap (λ (us : List Tree). t ∷ us) (with_back ts)

-- the tokens of trees that are shallow enough are read as these trees
pub read_back : (us : List Tree) (end : Place) → height_of_all us ≤ 64 → trees_from [] [] end (tokens_of_all us) ≡ made us
read_back us end shallow =
    let ys : List ((t : Tree) × IsReadBack t) = map (λ t. (t, back t)) us in
    let low : 0 + height_of_all (map (λ y. y.0) ys) ≤ 64 = rw (with_back us) (omega arith) in
    let all = back_all ys [] [] end [] low in
    let these : trees_from [] [] end (tokens_of_all us ++ []) ≡ trees_from [] us end [] = subst (λ (vs : List Tree). trees_from [] [] end (tokens_of_all vs ++ []) ≡ trees_from [] vs end []) (with_back us) all in
    ap (trees_from [] [] end) (sym (append-nil (tokens_of_all us))) ∙ these

-- ---- what trees that were read have as tokens

tokens_pushed : (trees : List Tree) (t : Tree) (tokens : List Token) → tokens_of_all (trees ++ t ∷ []) ++ tokens ≡ tokens_of_all trees ++ (tokens_of t ++ tokens)
tokens_pushed [] t tokens = append_assoc (tokens_of t) [] tokens
tokens_pushed (u ∷ trees) t tokens =
    append_assoc (tokens_of u) (tokens_of_all (trees ++ t ∷ [])) tokens
    ∙ ap (λ (ts : List Token). tokens_of u ++ ts) (tokens_pushed trees t tokens)
    ∙ sym (append_assoc (tokens_of u) (tokens_of_all trees) (tokens_of t ++ tokens))

-- the tokens before the innermost list's first tree
abbrev before : List Frame → List Token
before [] = []
before (frame ∷ frames) = before frames ++ (tokens_of_all frame.before ++ Open frame.at ∷ [])

closes : (frame : Frame) (frames : List Frame) (trees : List Tree) (at : Place) (tokens : List Token)
    → before (frame ∷ frames) ++ (tokens_of_all trees ++ Close at ∷ tokens) ≡ before frames ++ (tokens_of_all (frame.before ++ tree.Items trees frame.at at ∷ []) ++ tokens)
closes frame frames trees at tokens =
    append_assoc (before frames) (tokens_of_all frame.before ++ Open frame.at ∷ []) (tokens_of_all trees ++ Close at ∷ tokens)
    ∙ ap (λ (ts : List Token). before frames ++ ts)
    (append_assoc (tokens_of_all frame.before) (Open frame.at ∷ []) (tokens_of_all trees ++ Close at ∷ tokens)
    ∙ ap (λ (ts : List Token). tokens_of_all frame.before ++ (Open frame.at ∷ ts)) (sym (append_assoc (tokens_of_all trees) (Close at ∷ []) tokens))
    ∙ ap (λ (ts : List Token). tokens_of_all frame.before ++ (ts ++ tokens)) (sym (tokens-Items trees frame.at at))
    ∙ sym (tokens_pushed frame.before (tree.Items trees frame.at at) tokens))

opens : (frames : List Frame) (trees : List Tree) (at : Place) (tokens : List Token)
    → before frames ++ (tokens_of_all trees ++ Open at ∷ tokens) ≡ before (record { at = at; before = trees } ∷ frames) ++ tokens
opens frames trees at tokens =
    ap (λ (ts : List Token). before frames ++ ts) (sym (append_assoc (tokens_of_all trees) (Open at ∷ []) tokens))
    ∙ sym (append_assoc (before frames) (tokens_of_all trees ++ Open at ∷ []) tokens)

words : (frames : List Frame) (trees : List Tree) (text : List ℕ) (at : Place) (first past : ℕ) (tokens : List Token)
    → before frames ++ (tokens_of_all trees ++ Word text at first past ∷ tokens) ≡ before frames ++ (tokens_of_all (trees ++ tree.Word text at first past ∷ []) ++ tokens)
words frames trees text at first past tokens =
    ap (λ (ts : List Token). before frames ++ ts)
    (ap (λ (ts : List Token). tokens_of_all trees ++ (ts ++ tokens)) (sym (tokens-Word text at first past))
    ∙ sym (tokens_pushed trees (tree.Word text at first past) tokens))

if_made : (b : Bool) (x : Result (List Tree) TextFault) (fault : TextFault) (us : List Tree) → cond b x (failed fault) ≡ made us → (b ≡ true) × (x ≡ made us)
if_made true x fault us e = (refl, e)
if_made false x fault us e = absurd cc

-- trees that were read have the tokens that they were read from
pub read_tokens : (frames : List Frame) (trees : List Tree) (end : Place) (tokens : List Token) (us : List Tree) → trees_from frames trees end tokens ≡ made us → before frames ++ (tokens_of_all trees ++ tokens) ≡ tokens_of_all us
read_tokens [] trees end [] us e = append-nil (tokens_of_all trees) ∙ ap tokens_of_all (made-inj trees us e)
read_tokens (frame ∷ frames) trees end [] us e = absurd cc
read_tokens frames trees end (Word text at first past ∷ tokens) us e = words frames trees text at first past tokens ∙ read_tokens frames (trees ++ tree.Word text at first past ∷ []) end tokens us e
read_tokens frames trees end (Open at ∷ tokens) us e =
    let way = if_made (ltb (length frames) 64) (trees_from (record { at = at; before = trees } ∷ frames) [] end tokens) (fault_at at rule.Deep) us e in
    opens frames trees at tokens ∙ read_tokens (record { at = at; before = trees } ∷ frames) [] end tokens us way.1
read_tokens [] trees end (Close at ∷ tokens) us e = absurd cc
read_tokens (frame ∷ frames) trees end (Close at ∷ tokens) us e = closes frame frames trees at tokens ∙ read_tokens frames (frame.before ++ tree.Items trees frame.at at ∷ []) end tokens us e
read_tokens frames trees end (Stray at ∷ tokens) us e = absurd cc

-- ---- trees that were read are shallow

abbrev Fit : List Frame → List Tree → Type 0
Fit [] trees = height_of_all trees ≤ 64
Fit (frame ∷ frames) trees = (suc (length frames) + height_of_all trees ≤ 64) × Fit frames frame.before

height_pushed : (trees : List Tree) (t : Tree) → height_of_all (trees ++ t ∷ []) ≡ max (height_of_all trees) (height t)
height_pushed [] t = omega arith
height_pushed (u ∷ trees) t = omega (arith, height_pushed trees t)

fit_pushed : (frames : List Frame) (trees : List Tree) (t : Tree) → Fit frames trees → length frames + height t ≤ 64 → Fit frames (trees ++ t ∷ [])
fit_pushed [] trees t fit low = omega (arith, height_pushed trees t)
fit_pushed (frame ∷ frames) trees t fit low = (omega (arith, height_pushed trees t, fit.0), fit.1)

fit_low : (frames : List Frame) (trees : List Tree) → Fit frames trees → length frames + height_of_all trees ≤ 64
fit_low [] trees fit = omega arith
fit_low (frame ∷ frames) trees fit = fit.0

pub read_low : (frames : List Frame) (trees : List Tree) (end : Place) (tokens : List Token) (us : List Tree) → trees_from frames trees end tokens ≡ made us → Fit frames trees → height_of_all us ≤ 64
read_low [] trees end [] us e fit = rw (← made-inj trees us e) fit
read_low (frame ∷ frames) trees end [] us e fit = absurd cc
read_low frames trees end (Word text at first past ∷ tokens) us e fit =
    read_low frames (trees ++ tree.Word text at first past ∷ []) end tokens us e (fit_pushed frames trees (tree.Word text at first past) fit (omega (arith, height-Word text at first past, fit_low frames trees fit)))
read_low frames trees end (Open at ∷ tokens) us e fit =
    let way = if_made (ltb (length frames) 64) (trees_from (record { at = at; before = trees } ∷ frames) [] end tokens) (fault_at at rule.Deep) us e in
    read_low (record { at = at; before = trees } ∷ frames) [] end tokens us way.1 (omega (arith, ltb-true _ _ way.0), fit)
read_low [] trees end (Close at ∷ tokens) us e fit = absurd cc
read_low (frame ∷ frames) trees end (Close at ∷ tokens) us e fit =
    read_low frames (frame.before ++ tree.Items trees frame.at at ∷ []) end tokens us e (fit_pushed frames frame.before (tree.Items trees frame.at at) fit.1 (omega (arith, height-Items trees frame.at at, fit.0)))
read_low frames trees end (Stray at ∷ tokens) us e fit = absurd cc

-- ---- the fault is the first

abbrev pub fault_in : Result (List Tree) TextFault → Option TextFault
fault_in (Ok us) = None
fault_in (Err fault) = Some fault

if_fault : (b : Bool) (x : Result (List Tree) TextFault) (o : Option TextFault) (fault : TextFault) → o ≡ fault_in x → cond b o (Some fault) ≡ fault_in (cond b x (failed fault))
if_fault true x o fault e = e
if_fault false x o fault e = refl

-- reading fails by the first fault
pub reads_fault : (frames : List Frame) (trees : List Tree) (end : Place) (tokens : List Token) → first_fault (length frames) end tokens ≡ fault_in (trees_from frames trees end tokens)
reads_fault [] trees end [] = refl
reads_fault (frame ∷ frames) trees end [] = refl
reads_fault frames trees end (Word text at first past ∷ tokens) = reads_fault frames (trees ++ tree.Word text at first past ∷ []) end tokens
reads_fault frames trees end (Open at ∷ tokens) =
    if_fault (ltb (length frames) 64) (trees_from (record { at = at; before = trees } ∷ frames) [] end tokens) (first_fault (suc (length frames)) end tokens) (fault_at at rule.Deep)
    (reads_fault (record { at = at; before = trees } ∷ frames) [] end tokens)
reads_fault [] trees end (Close at ∷ tokens) = refl
reads_fault (frame ∷ frames) trees end (Close at ∷ tokens) = reads_fault frames (frame.before ++ tree.Items trees frame.at at ∷ []) end tokens
reads_fault frames trees end (Stray at ∷ tokens) = refl
