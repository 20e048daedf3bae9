-- The grammars of domains and problems, in the words of a text and its parentheses. `Row`, `Typed`
-- and the forms `Has..` go from after the first words of a list up to its `)`.
use Rattle.std.specs.Prelude.{ℕ, ◌≡◌, ◌≢◌, ◌||◌, Bool, true, false, List, [], ◌∷◌, ◌++◌, codes}
use Rattle.std.specs.List.{AllByRecursion}
use Rattle.std.specs.Option.{is_some}
use Rattle.pddl_text.specs.Tokens.{Token}
use Rattle.pddl_text.specs.Tokens as token
use Rattle.pddl_form.specs.declared.parts.KeysSeen.{KeysSeen}
use Rattle.pddl_form.specs.declared.parts.SectionsSeen.{SectionsSeen}
use Rattle.pddl_form.specs.declared.parts.StatementsSeen.{StatementsSeen}
use Rattle.pddl_form.specs.Numbers.{number}
use Rattle.pddl_form.specs.Rows.{no_keys, no_sections, no_statements}
use Rattle.pddl_form.specs.Words.{is_name, is_variable}

-- a token without its place
pub data Sign : Type 0 where
  Says : List ℕ → Sign
  Opens : Sign
  Closes : Sign
  Strays : Sign

-- what a token says
abbrev pub sign : Token → Sign
sign (token.Word text at from past) = Says text
sign (token.Open at) = Opens
sign (token.Close at) = Closes
sign (token.Stray at) = Strays

-- ---- words

-- a name: its first byte is a letter, a digit or `_`
abbrev pub IsName : List ℕ → Type 0
IsName text = is_name text ≡ true

-- a variable: two bytes at least, the first a `?`
abbrev pub IsVariable : List ℕ → Type 0
IsVariable text = is_variable text ≡ true

-- a name or a variable
abbrev pub IsTerm : List ℕ → Type 0
IsTerm text = (is_name text || is_variable text) ≡ true

-- a number: digits, perhaps with a point and any zeros after them
abbrev pub IsNumber : List ℕ → Type 0
IsNumber text = is_some (number text) ≡ true

-- the names that no action, predicate or function may have, and no atom may begin with
abbrev pub reserved_words : List (List ℕ)
reserved_words =
    codes "and" ∷ codes "or" ∷ codes "not" ∷ codes "imply" ∷ codes "forall" ∷ codes "exists"
    ∷ codes "when" ∷ codes "increase" ∷ codes "decrease" ∷ codes "assign" ∷ codes "scale-up"
    ∷ codes "scale-down" ∷ codes "preference" ∷ []

-- a name that is not reserved
abbrev pub IsFree : List ℕ → Type 0
IsFree text = IsName text × AllByRecursion (λ word. text ≢ word) reserved_words

-- any word
abbrev pub IsAny : List ℕ → Type 0
IsAny text = Unit {0}

-- a name other than `total-cost`
abbrev pub IsCostName : List ℕ → Type 0
IsCostName text = IsName text × (text ≢ codes "total-cost")

-- ---- lists of words

-- words up to the end of their list
pub data Row (IsWord : List ℕ → Type 0) : List Sign → Type 0 where
  end : Row IsWord (Closes ∷ [])
  word : {text : List ℕ} {rest : List Sign} → IsWord text → Row IsWord rest
      → Row IsWord (Says text ∷ rest)

-- a typed list up to its `)`: a dash and a type may follow the things of a group; the test says
-- whether things of a group come just before
pub data Typed (IsThing : List ℕ → Type 0) : Bool → List Sign → Type 0 where
  end : {group : Bool} → Typed IsThing group (Closes ∷ [])
  thing : {group : Bool} {text : List ℕ} {rest : List Sign} → IsThing text
      → Typed IsThing true rest
      → Typed IsThing group (Says text ∷ rest)
  type : {text : List ℕ} {rest : List Sign} → IsName text → Typed IsThing false rest
      → Typed IsThing true (Says (codes "-") ∷ Says text ∷ rest)

-- ---- actions

-- `(NAME TERM*)`
pub data IsAtom (IsWord : List ℕ → Type 0) : List Sign → Type 0 where
  atom : {name : List ℕ} {rest : List Sign} → IsFree name → Row IsWord rest
      → IsAtom IsWord (Opens ∷ Says name ∷ rest)

-- one condition, or conditions up to the end of their list
pub data Count : Type 0 where
  One : Count
  Many : Count

-- `()`, `(and COND*)` or an atom; the atoms' terms pass the test
pub data IsCondition (IsWord : List ℕ → Type 0) : Count → List Sign → Type 0 where
  empty : IsCondition IsWord One (Opens ∷ Closes ∷ [])
  all : {rest : List Sign} → IsCondition IsWord Many rest
      → IsCondition IsWord One (Opens ∷ Says (codes "and") ∷ rest)
  holds : {signs : List Sign} → IsAtom IsWord signs → IsCondition IsWord One signs
  end : IsCondition IsWord Many (Closes ∷ [])
  more : {first rest : List Sign} → IsCondition IsWord One first → IsCondition IsWord Many rest
      → IsCondition IsWord Many (first ++ rest)

-- a number, or `(NAME TERM*)` with a name other than `total-cost`
pub data IsCost : List Sign → Type 0 where
  plain : {text : List ℕ} → IsNumber text → IsCost (Says text ∷ [])
  term : {name : List ℕ} {rest : List Sign} → IsCostName name → Row IsTerm rest
      → IsCost (Opens ∷ Says name ∷ rest)

-- `(total-cost)`
abbrev pub total : List Sign → List Sign
total rest = Opens ∷ Says (codes "total-cost") ∷ Closes ∷ rest

-- `()`, `(and EFF*)`, an atom, `(not ATOM)` or `(increase (total-cost) COST)`
pub data IsEffect : Count → List Sign → Type 0 where
  empty : IsEffect One (Opens ∷ Closes ∷ [])
  all : {rest : List Sign} → IsEffect Many rest
      → IsEffect One (Opens ∷ Says (codes "and") ∷ rest)
  adds : {signs : List Sign} → IsAtom IsTerm signs → IsEffect One signs
  deletes : {inner : List Sign} → IsAtom IsTerm inner
      → IsEffect One (Opens ∷ Says (codes "not") ∷ inner ++ Closes ∷ [])
  increases : {cost : List Sign} → IsCost cost
      → IsEffect One (Opens ∷ Says (codes "increase") ∷ total (cost ++ Closes ∷ []))
  end : IsEffect Many (Closes ∷ [])
  more : {first rest : List Sign} → IsEffect One first → IsEffect Many rest
      → IsEffect Many (first ++ rest)

-- the keys of an action, each at most once, in any order
pub data HasKeys : KeysSeen → List Sign → Type 0 where
  end : {seen : KeysSeen} → HasKeys seen (Closes ∷ [])
  parameters : {seen : KeysSeen} {first rest : List Sign} → seen.parameters ≡ false
      → Typed IsVariable false first → HasKeys (record seen { parameters = true }) rest
      → HasKeys seen (Says (codes ":parameters") ∷ Opens ∷ first ++ rest)
  precondition : {seen : KeysSeen} {first rest : List Sign} → seen.precondition ≡ false
      → IsCondition IsTerm One first → HasKeys (record seen { precondition = true }) rest
      → HasKeys seen (Says (codes ":precondition") ∷ first ++ rest)
  effect : {seen : KeysSeen} {first rest : List Sign} → seen.effect ≡ false
      → IsEffect One first → HasKeys (record seen { effect = true }) rest
      → HasKeys seen (Says (codes ":effect") ∷ first ++ rest)

-- ---- domains

-- `(NAME typed list of variables)*`
pub data HasPredicates : List Sign → Type 0 where
  end : HasPredicates (Closes ∷ [])
  predicate : {name : List ℕ} {first rest : List Sign} → IsFree name → Typed IsVariable false first
      → HasPredicates rest → HasPredicates (Opens ∷ Says name ∷ first ++ rest)

-- `(NAME typed list of variables)`, perhaps with `- number` after it, any number of times
pub data HasFunctions : List Sign → Type 0 where
  end : HasFunctions (Closes ∷ [])
  function : {name : List ℕ} {first rest : List Sign} → IsFree name → Typed IsVariable false first
      → HasFunctions rest → HasFunctions (Opens ∷ Says name ∷ first ++ rest)
  number_function : {name : List ℕ} {first rest : List Sign} → IsFree name
      → Typed IsVariable false first → HasFunctions rest
      → HasFunctions (Opens ∷ Says name ∷ first
      ++ Says (codes "-") ∷ Says (codes "number") ∷ rest)

-- the sections of a domain in any order, each except the actions at most once, and the domain's `)`
pub data HasSections : SectionsSeen → List Sign → Type 0 where
  end : {seen : SectionsSeen} → HasSections seen (Closes ∷ [])
  requirements : {seen : SectionsSeen} {first rest : List Sign} → seen.requirements ≡ false
      → Row IsAny first → HasSections (record seen { requirements = true }) rest
      → HasSections seen (Opens ∷ Says (codes ":requirements") ∷ first ++ rest)
  types : {seen : SectionsSeen} {first rest : List Sign} → seen.types ≡ false
      → Typed IsName false first → HasSections (record seen { types = true }) rest
      → HasSections seen (Opens ∷ Says (codes ":types") ∷ first ++ rest)
  constants : {seen : SectionsSeen} {first rest : List Sign} → seen.constants ≡ false
      → Typed IsName false first → HasSections (record seen { constants = true }) rest
      → HasSections seen (Opens ∷ Says (codes ":constants") ∷ first ++ rest)
  predicates : {seen : SectionsSeen} {first rest : List Sign} → seen.predicates ≡ false
      → HasPredicates first → HasSections (record seen { predicates = true }) rest
      → HasSections seen (Opens ∷ Says (codes ":predicates") ∷ first ++ rest)
  functions : {seen : SectionsSeen} {first rest : List Sign} → seen.functions ≡ false
      → HasFunctions first → HasSections (record seen { functions = true }) rest
      → HasSections seen (Opens ∷ Says (codes ":functions") ∷ first ++ rest)
  action : {seen : SectionsSeen} {name : List ℕ} {first rest : List Sign} → IsFree name
      → HasKeys no_keys first → HasSections seen rest
      → HasSections seen (Opens ∷ Says (codes ":action") ∷ Says name ∷ first ++ rest)

-- `(define (domain NAME) SECTION*)`
pub data IsDomain : List Sign → Type 0 where
  domain : {name : List ℕ} {rest : List Sign} → IsName name → HasSections no_sections rest
      → IsDomain (Opens ∷ Says (codes "define")
      ∷ Opens ∷ Says (codes "domain") ∷ Says name ∷ Closes ∷ rest)

-- ---- problems

-- the items of `:init`: atoms without variables, values of functions, and the value of `total-cost`
pub data HasFacts : List Sign → Type 0 where
  end : HasFacts (Closes ∷ [])
  fact : {first rest : List Sign} → IsAtom IsName first → HasFacts rest → HasFacts (first ++ rest)
  value : {name : List ℕ} {first rest : List Sign} (text : List ℕ) → IsCostName name
      → Row IsName first → IsNumber text → HasFacts rest
      → HasFacts (Opens ∷ Says (codes "=")
      ∷ Opens ∷ Says name ∷ first ++ Says text ∷ Closes ∷ rest)
  total_value : {text : List ℕ} {rest : List Sign} → IsNumber text → HasFacts rest
      → HasFacts (Opens ∷ Says (codes "=")
      ∷ Opens ∷ Says (codes "total-cost") ∷ Closes ∷ Says text ∷ Closes ∷ rest)

-- the sections of a problem in any order, each at most once, `:init` and `:goal` once, and its `)`
pub data HasStatements : StatementsSeen → List Sign → Type 0 where
  end : {seen : StatementsSeen} → seen.init ≡ true → seen.goal ≡ true
      → HasStatements seen (Closes ∷ [])
  requirements : {seen : StatementsSeen} {first rest : List Sign} → seen.requirements ≡ false
      → Row IsAny first → HasStatements (record seen { requirements = true }) rest
      → HasStatements seen (Opens ∷ Says (codes ":requirements") ∷ first ++ rest)
  objects : {seen : StatementsSeen} {first rest : List Sign} → seen.objects ≡ false
      → Typed IsName false first → HasStatements (record seen { objects = true }) rest
      → HasStatements seen (Opens ∷ Says (codes ":objects") ∷ first ++ rest)
  init : {seen : StatementsSeen} {first rest : List Sign} → seen.init ≡ false
      → HasFacts first → HasStatements (record seen { init = true }) rest
      → HasStatements seen (Opens ∷ Says (codes ":init") ∷ first ++ rest)
  goal : {seen : StatementsSeen} {first rest : List Sign} → seen.goal ≡ false
      → IsCondition IsName One first → HasStatements (record seen { goal = true }) rest
      → HasStatements seen (Opens ∷ Says (codes ":goal") ∷ first ++ Closes ∷ rest)
  metric : {seen : StatementsSeen} {rest : List Sign} → seen.metric ≡ false
      → HasStatements (record seen { metric = true }) rest
      → HasStatements seen (Opens ∷ Says (codes ":metric")
      ∷ Says (codes "minimize") ∷ total (Closes ∷ rest))

-- `(define (problem NAME) (:domain NAME) SECTION*)`
pub data IsProblem : List Sign → Type 0 where
  problem : {name of : List ℕ} {rest : List Sign} → IsName name → IsName of
      → HasStatements no_statements rest
      → IsProblem (Opens ∷ Says (codes "define")
      ∷ Opens ∷ Says (codes "problem") ∷ Says name ∷ Closes
      ∷ Opens ∷ Says (codes ":domain") ∷ Says of ∷ Closes ∷ rest)
