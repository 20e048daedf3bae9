-- What a word is to the grammar: one of the grammar's own words, or what its bytes make it.
use Rattle.std.specs.Prelude.{ℕ, ◌==◌, Bool, false, List, [], ◌∷◌, codes, Option, None, Some}
use Rattle.std.specs.Prelude.{if◌then◌else◌}
use Rattle.std.specs.Option.{unwrap_or, is_some}
use Rattle.std.specs.Str.{bytes_eq}
use Rattle.pddl_text.specs.Bytes.{is_name_start}
use Rattle.pddl_form.specs.declared.sort.Sort.{Sort}
use Rattle.pddl_form.specs.declared.sort.Sort.TheVariants as word
use Rattle.pddl_form.specs.Numbers.{number}

-- how each of the grammar's own words is written
abbrev pub spelling : Sort → List ℕ
spelling word.And = codes "and"
spelling word.Or = codes "or"
spelling word.Not = codes "not"
spelling word.Imply = codes "imply"
spelling word.Forall = codes "forall"
spelling word.Exists = codes "exists"
spelling word.When = codes "when"
spelling word.Increase = codes "increase"
spelling word.Decrease = codes "decrease"
spelling word.Assign = codes "assign"
spelling word.ScaleUp = codes "scale-up"
spelling word.ScaleDown = codes "scale-down"
spelling word.Preference = codes "preference"
spelling word.Equal = codes "="
spelling word.Less = codes "<"
spelling word.Greater = codes ">"
spelling word.AtMost = codes "<="
spelling word.AtLeast = codes ">="
spelling word.Dash = codes "-"
spelling word.Either = codes "either"
spelling word.Define = codes "define"
spelling word.Domain = codes "domain"
spelling word.Problem = codes "problem"
spelling word.Minimize = codes "minimize"
spelling word.TotalCost = codes "total-cost"
spelling word.NumberType = codes "number"
spelling word.Requirements = codes ":requirements"
spelling word.Types = codes ":types"
spelling word.Constants = codes ":constants"
spelling word.Predicates = codes ":predicates"
spelling word.Functions = codes ":functions"
spelling word.Action = codes ":action"
spelling word.Parameters = codes ":parameters"
spelling word.Precondition = codes ":precondition"
spelling word.Effect = codes ":effect"
spelling word.OfDomain = codes ":domain"
spelling word.Objects = codes ":objects"
spelling word.Init = codes ":init"
spelling word.Goal = codes ":goal"
spelling word.Metric = codes ":metric"
spelling word.DurativeAction = codes ":durative-action"
spelling word.Derived = codes ":derived"
spelling word.Axiom = codes ":axiom"
spelling word.Process = codes ":process"
spelling word.Event = codes ":event"
spelling word.Constraints = codes ":constraints"
spelling word.Length = codes ":length"
spelling word.Numeral = []
spelling word.Name = []
spelling word.Variable = []
spelling word.Other = []

-- the words that join conditions and effects
abbrev pub joining : List Sort
joining = word.And ∷ word.Or ∷ word.Not ∷ word.Imply ∷ word.Forall ∷ word.Exists ∷ word.When ∷ []

-- the words that change a number, and the one that begins a preference
abbrev pub changing : List Sort
changing =
    word.Increase ∷ word.Decrease ∷ word.Assign ∷ word.ScaleUp ∷ word.ScaleDown ∷
    word.Preference ∷ []

-- the words that compare, the dash before a type, and the word before several types
abbrev pub comparing : List Sort
comparing =
    word.Equal ∷ word.Less ∷ word.Greater ∷ word.AtMost ∷ word.AtLeast ∷ word.Dash ∷ word.Either ∷
    []

-- the words of a definition, of the metric, and of costs
abbrev pub naming : List Sort
naming =
    word.Define ∷ word.Domain ∷ word.Problem ∷ word.Minimize ∷ word.TotalCost ∷ word.NumberType ∷
    []

-- the words that begin a section of a domain or a key of an action
abbrev pub dividing_domains : List Sort
dividing_domains =
    word.Requirements ∷ word.Types ∷ word.Constants ∷ word.Predicates ∷ word.Functions ∷
    word.Action ∷ word.Parameters ∷ word.Precondition ∷ word.Effect ∷ []

-- the words that begin a section of a problem
abbrev pub dividing_problems : List Sort
dividing_problems = word.OfDomain ∷ word.Objects ∷ word.Init ∷ word.Goal ∷ word.Metric ∷ []

-- the words that begin a section out of scope
abbrev pub dividing_others : List Sort
dividing_others =
    word.DurativeAction ∷ word.Derived ∷ word.Axiom ∷ word.Process ∷ word.Event ∷
    word.Constraints ∷ word.Length ∷ []

-- the one of these words that has the text
abbrev pub meaning : List Sort → List ℕ → Option Sort
meaning [] text = None
meaning (sort ∷ sorts) text =
    if bytes_eq text (spelling sort) then Some sort else meaning sorts text

-- the first byte is a letter, a digit or `_`
abbrev pub is_name : List ℕ → Bool
is_name [] = false
is_name (b ∷ bytes) = is_name_start b

-- at least two bytes, the first a `?`
abbrev pub is_variable : List ℕ → Bool
is_variable [] = false
is_variable (b ∷ []) = false
is_variable (b ∷ c ∷ bytes) = b == 63

-- what a word is by its bytes
abbrev pub shape : List ℕ → Sort
shape text =
    if is_some (number text) then word.Numeral
    else (if is_name text then word.Name
    else (if is_variable text then word.Variable else word.Other))

-- the one of the words in these lists that has the text, or else what it is by its bytes
abbrev pub meaning_among : List (List Sort) → List ℕ → Sort
meaning_among [] text = shape text
meaning_among (sorts ∷ lists) text = unwrap_or (meaning sorts text) (meaning_among lists text)

-- all of the grammar's own words
abbrev pub own_words : List (List Sort)
own_words =
    joining ∷ changing ∷ comparing ∷ naming ∷ dividing_domains ∷ dividing_problems
    ∷ dividing_others ∷ []

-- what a word with this text is
abbrev pub sort : List ℕ → Sort
sort text = meaning_among own_words text
