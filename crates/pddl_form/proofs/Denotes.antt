-- What each part of the table is in the grammar.
use Rattle.std.proofs.Common.{◌≡◌, ℕ, Bool, true, false, List, [], ◌∷◌, ◌++◌, refl, sym, subst}
use Rattle.std.specs.Prelude.{◌⊎◌, codes}
use Rattle.pddl_form.specs.declared.next.Next.{Next}
use Rattle.pddl_form.specs.declared.next.Next.TheVariants as next
use Rattle.pddl_form.specs.declared.parts.Part.{Part}
use Rattle.pddl_form.specs.declared.parts.Part.TheVariants as part
use Rattle.pddl_form.specs.Grammar.{Sign, Says, Opens, Closes, IsName, IsVariable, IsTerm, IsNumber, IsFree, IsAny, IsCostName, Row, Typed, IsAtom, IsCondition, One, Many, IsCost, total, IsEffect, HasKeys, HasPredicates, HasFunctions, HasSections, IsDomain, HasFacts, HasStatements, IsProblem}
use Rattle.pddl_form.specs.Rows.{only_if, no_keys, no_statements}

-- a name and the end of its list; only a name
abbrev pub ThenName : List Sign → Type 0
ThenName t = (name : List ℕ) × IsName name × (t ≡ Says name ∷ Closes ∷ [])

abbrev pub OneName : List Sign → Type 0
OneName t = (name : List ℕ) × IsName name × (t ≡ Says name ∷ [])

-- a predicate or a function from its name on
abbrev pub IsEntry : List Sign → Type 0
IsEntry t = (name : List ℕ) × (rest : List Sign) × IsFree name × Typed IsVariable false rest × (t ≡ Says name ∷ rest)

-- functions after a function: its type may come first
abbrev pub IsTail : List Sign → Type 0
IsTail t = (rest : List Sign) × HasFunctions rest × ((t ≡ rest) ⊎ (t ≡ Says (codes "-") ∷ Says (codes "number") ∷ rest))

-- a function with a value other than `total-cost`, from its name on
abbrev pub IsValued : (List Sign → Type 0) → Type 0
IsValued Is = (name : List ℕ) × (rest : List Sign) × IsCostName name × Row IsName rest × Is (Says name ∷ rest)

-- what each part is in the grammar
abbrev pub Denotes : Part → List Sign → Type 0
Denotes part.DomainHead t = (name : List ℕ) × IsName name × (t ≡ Opens ∷ Says (codes "domain") ∷ Says name ∷ Closes ∷ [])
Denotes part.Domain t = IsDomain t
Denotes part.DomainDefine t = IsDomain (Opens ∷ t)
Denotes part.DomainWord t = (name : List ℕ) × IsName name × (t ≡ Says (codes "domain") ∷ Says name ∷ Closes ∷ [])
Denotes part.DomainName t = ThenName t
Denotes part.Close t = t ≡ Closes ∷ []
Denotes (part.Sections seen) t = HasSections seen t
Denotes (part.Section seen) t = HasSections seen (Opens ∷ t)
Denotes part.Words t = Row IsAny t
Denotes (part.Names listing) t = Typed IsName false t
Denotes (part.NamesMore listing) t = Typed IsName true t
Denotes (part.NameType listing) t = OneName t
Denotes part.Predicates t = HasPredicates t
Denotes part.PredicateName t = IsEntry t
Denotes (part.Variables owner) t = Typed IsVariable false t
Denotes (part.VariablesMore owner) t = Typed IsVariable true t
Denotes (part.VariableType owner) t = OneName t
Denotes part.Functions t = HasFunctions t
Denotes part.FunctionName t = IsEntry t
Denotes part.FunctionTail t = IsTail t
Denotes part.FunctionType t = t ≡ Says (codes "number") ∷ []
Denotes part.ActionName t = (name : List ℕ) × (rest : List Sign) × IsFree name × HasKeys no_keys rest × (t ≡ Says name ∷ rest)
Denotes (part.Keys seen) t = HasKeys seen t
Denotes part.ParameterList t = (rest : List Sign) × Typed IsVariable false rest × (t ≡ Opens ∷ rest)
Denotes part.Condition t = IsCondition IsTerm One t
Denotes part.ConditionHead t = IsCondition IsTerm One (Opens ∷ t)
Denotes part.Conditions t = IsCondition IsTerm Many t
Denotes part.Terms t = Row IsTerm t
Denotes part.Effect t = IsEffect One t
Denotes part.EffectHead t = IsEffect One (Opens ∷ t)
Denotes part.Effects t = IsEffect Many t
Denotes part.Negated t = (inner : List Sign) × IsAtom IsTerm inner × (t ≡ inner ++ Closes ∷ [])
Denotes part.NegatedHead t = IsAtom IsTerm (Opens ∷ t)
Denotes part.Total t = t ≡ total []
Denotes part.TotalWord t = t ≡ Says (codes "total-cost") ∷ Closes ∷ []
Denotes part.Cost t = (inner : List Sign) × IsCost inner × (t ≡ inner ++ Closes ∷ [])
Denotes part.CostHead t = IsCost (Opens ∷ t)
Denotes part.Problem t = IsProblem t
Denotes part.ProblemDefine t = IsProblem (Opens ∷ t)
Denotes part.ProblemHead t = (name : List ℕ) × IsName name × (t ≡ Opens ∷ Says (codes "problem") ∷ Says name ∷ Closes ∷ [])
Denotes part.ProblemWord t = (name : List ℕ) × IsName name × (t ≡ Says (codes "problem") ∷ Says name ∷ Closes ∷ [])
Denotes part.ProblemName t = ThenName t
Denotes part.OfDomain t = (name : List ℕ) × (rest : List Sign) × IsName name × HasStatements no_statements rest × (t ≡ Opens ∷ Says (codes ":domain") ∷ Says name ∷ Closes ∷ rest)
Denotes part.OfDomainWord t = (name : List ℕ) × IsName name × (t ≡ Says (codes ":domain") ∷ Says name ∷ Closes ∷ [])
Denotes part.OfDomainName t = ThenName t
Denotes (part.Statements seen) t = HasStatements seen t
Denotes (part.Statement seen) t = HasStatements seen (Opens ∷ t)
Denotes part.Facts t = HasFacts t
Denotes part.FactHead t = (rest : List Sign) → HasFacts rest → HasFacts (Opens ∷ (t ++ rest))
Denotes part.Valued t = (t ≡ total []) ⊎ IsValued (λ x. t ≡ Opens ∷ x)
Denotes part.ValuedHead t = (t ≡ Says (codes "total-cost") ∷ Closes ∷ []) ⊎ IsValued (λ x. t ≡ x)
Denotes part.Number t = (text : List ℕ) × IsNumber text × (t ≡ Says text ∷ Closes ∷ [])
Denotes part.Goal t = (inner : List Sign) × IsCondition IsName One inner × (t ≡ inner ++ Closes ∷ [])
Denotes part.GoalHead t = IsCondition IsName One (Opens ∷ t)
Denotes part.Goals t = IsCondition IsName Many t
Denotes part.Objects t = Row IsName t
Denotes part.Metric t = t ≡ Says (codes "minimize") ∷ total (Closes ∷ [])

-- what is due after a sign
abbrev pub Follows : Next → List Sign → Type 0
Follows next.Nothing t = t ≡ []
Follows (next.One p) t = Denotes p t
Follows (next.Two p q) t = (first : List Sign) × (rest : List Sign) × Denotes p first × Denotes q rest × (t ≡ first ++ rest)
Follows next.Refused t = ⊥

pub if_follows : (b : Bool) (n : Next) (t : List Sign) → Follows (only_if b n) t → (b ≡ true) × Follows n t
if_follows true n t f = (refl, f)
if_follows false n t f = absurd f

pub put : (P : List Sign → Type 0) (x y : List Sign) → x ≡ y → P y → P x
put P x y e p = subst P (sym e) p

-- the word and the signs after it are equal to others
pub said : (P : List Sign → Type 0) (a b : List ℕ) (t u : List Sign) → a ≡ b → t ≡ u → P (Says b ∷ u) → P (Says a ∷ t)
said P a b t u e h p = subst (λ (x : List Sign). P (Says a ∷ x)) (sym h) (subst (λ (w : List ℕ). P (Says w ∷ u)) (sym e) p)
