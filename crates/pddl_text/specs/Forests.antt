-- The forest that the bytes of a text spell, or the first place where they break a rule.
use Rattle.std.specs.Prelude.{ℕ, ◌+◌, ◌≤◌, ◌≡◌, zero, suc, max, List, [], ◌∷◌, ◌++◌, map, nat_lt}
use Rattle.std.specs.Prelude.{Option, Some, None, if◌then◌else◌}
use Rattle.pddl_text.specs.declared.place.Place.{Place}
use Rattle.pddl_text.specs.declared.tree.Forest.{Forest}
use Rattle.pddl_text.specs.declared.tree.Tree.{Tree}
use Rattle.pddl_text.specs.declared.tree.Tree.TheOpen.{Tree-F}
use Rattle.pddl_text.specs.declared.tree.Tree.TheFolds.{fold-Tree}
use Rattle.pddl_text.specs.declared.fault.TextFault.{TextFault}
use Rattle.pddl_text.specs.declared.fault.TextRule.TheVariants as rule
use Rattle.pddl_text.specs.Faults.{fault_at}
use Rattle.pddl_text.specs.Places.{start, past_of}
use Rattle.pddl_text.specs.Tokens.{Token, HasTokens, Word, Open, Close, Stray}

-- the lists of tokens, joined in order
abbrev pub joined : List (List Token) → List Token
joined [] = []
joined (tokens ∷ lists) = tokens ++ joined lists

-- the tokens of one tree, from those of its inner trees
abbrev pub tokens_step : Tree-F (List Token) → List Token
tokens_step (Tree-F.Word text at first past) = Word text at first past ∷ []
tokens_step (Tree-F.Items list at close) = Open at ∷ (joined list ++ Close close ∷ [])

-- a word is one token; a list is a `(`, the tokens of its trees, and a `)`
abbrev pub tokens_of : Tree → List Token
tokens_of = fold-Tree (List Token) tokens_step

-- the tokens of the trees, in order
abbrev pub tokens_of_all : List Tree → List Token
tokens_of_all trees = joined (map tokens_of trees)

-- the greatest of the numbers, or 0
abbrev pub greatest : List ℕ → ℕ
greatest [] = 0
greatest (n ∷ ns) = max n (greatest ns)

-- the height of one tree, from those of its inner trees
abbrev pub height_step : Tree-F ℕ → ℕ
height_step (Tree-F.Word text at first past) = 0
height_step (Tree-F.Items list at close) = 1 + greatest list

-- how deep the lists of a tree are nested
abbrev pub height : Tree → ℕ
height = fold-Tree ℕ height_step

-- how deep the lists of the trees are nested
abbrev pub height_of_all : List Tree → ℕ
height_of_all trees = greatest (map height trees)

-- the bytes spell the forest: they have its tokens and its end, and at most 64 lists are open at
-- once
pub record Spells (bytes : List ℕ) (forest : Forest) : Type 0 where
  pub tokens : HasTokens start bytes (tokens_of_all forest.trees)
  pub shallow : height_of_all forest.trees ≤ 64
  pub past : forest.past ≡ past_of bytes

-- the first fault of tokens that follow this number of open lists, in a text that ends at this
-- place
abbrev pub first_fault : ℕ → Place → List Token → Option TextFault
first_fault zero end [] = None
first_fault (suc lists) end [] = Some (fault_at end rule.Open)
first_fault lists end (Word text at first past ∷ tokens) = first_fault lists end tokens
first_fault lists end (Open at ∷ tokens) =
    if nat_lt lists 64 then first_fault (suc lists) end tokens else Some (fault_at at rule.Deep)
first_fault zero end (Close at ∷ tokens) = Some (fault_at at rule.Close)
first_fault (suc lists) end (Close at ∷ tokens) = first_fault lists end tokens
first_fault lists end (Stray at ∷ tokens) = Some (fault_at at rule.Byte)

-- the bytes break a rule, and this is their first fault
pub record IsFirstFault (bytes : List ℕ) (fault : TextFault) : Type 0 where
  pub tokens : List Token
  pub has : HasTokens start bytes tokens
  pub first : first_fault 0 (past_of bytes) tokens ≡ Some fault
