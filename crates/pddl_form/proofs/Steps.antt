-- What the table derives is in the grammar.
use Rattle.std.proofs.Common.{◌≡◌, Bool, true, false, List, [], ◌∷◌, ◌++◌, inl, inr, refl, ap, sym, subst, ◌∙◌}
use Rattle.std.specs.Prelude.{◌&&◌, not}
use Rattle.pddl_form.specs.declared.next.Next.{Next}
use Rattle.pddl_form.specs.declared.next.Next.TheVariants as next
use Rattle.pddl_form.specs.declared.parts.Owner.TheVariants as whose
use Rattle.pddl_form.specs.declared.parts.Part.{Part}
use Rattle.pddl_form.specs.declared.parts.Part.TheVariants as part
use Rattle.pddl_form.specs.declared.parts.StatementsSeen.{StatementsSeen}
use Rattle.pddl_form.specs.Grammar.{Sign, Says, Opens, Closes, IsName, IsVariable, IsTerm, IsAny, Row, Typed, IsCondition, One, Many, IsEffect, HasKeys, HasPredicates, HasFunctions, HasSections, HasFacts, HasStatements}
use Rattle.pddl_form.specs.Rows.{only_if, have_all_stood}
use Rattle.pddl_form.specs.Words.{sort}
use Rattle.pddl_form.proofs.Derivations.{Meets, stop, one, two, after_sign}
use Rattle.pddl_form.proofs.Denotes.{IsEntry, IsTail, Denotes, Follows, if_follows, put}
use Rattle.pddl_form.proofs.SaidSteps.{then_name, one_name, names_says, names_more_says, variables_says, variables_more_says, define_says, domain_says, section_says, entry_says, tail_says, number_says, action_says, key_says, condition_says, effect_says, atom_says, total_says, cost_says, value_says, cost_head_says, terms_says, problem_define_says, problem_says, of_domain_says, statement_says, fact_says, valued_says, goal_head_says, objects_says, metric_word_says}

closing : (P : List Sign → Type 0) (t : List Sign) → t ≡ [] → P (Closes ∷ []) → P (Closes ∷ t)
closing P t e p = subst (λ (x : List Sign). P (Closes ∷ x)) (sym e) p

function_then : (first rest t : List Sign) → IsEntry first → IsTail rest → t ≡ first ++ rest → HasFunctions (Opens ∷ t)
function_then first rest t (name, list, free, has, e) (more, functions, inl d) h =
    put (λ x. HasFunctions (Opens ∷ x)) t _ (h ∙ ap (λ (x : List Sign). x ++ rest) e ∙ ap (λ (x : List Sign). (Says name ∷ list) ++ x) d) (HasFunctions.function free has functions)
function_then first rest t (name, list, free, has, e) (more, functions, inr d) h =
    put (λ x. HasFunctions (Opens ∷ x)) t _ (h ∙ ap (λ (x : List Sign). x ++ rest) e ∙ ap (λ (x : List Sign). (Says name ∷ list) ++ x) d) (HasFunctions.number_function free has functions)

statements_end : (seen : StatementsSeen) (t : List Sign) (i g : Bool) → seen.init ≡ i → seen.goal ≡ g → Follows (only_if (i && g) next.Nothing) t → HasStatements seen (Closes ∷ t)
statements_end seen t true true i-is g-is e = closing (HasStatements seen) t e (HasStatements.end i-is g-is)
statements_end seen t true false i-is g-is f = absurd f
statements_end seen t false g i-is g-is f = absurd f

valued_open : (t : List Sign) → Denotes part.ValuedHead t → Denotes part.Valued (Opens ∷ t)
valued_open t (inl e) = inl (ap (λ (x : List Sign). Opens ∷ x) e)
valued_open t (inr (name, rest, free, row, e)) = inr (name, rest, free, row, ap (λ (x : List Sign). Opens ∷ x) e)

step : (p : Part) (s : Sign) (t : List Sign) → Follows (after_sign p s) t → Denotes p (s ∷ t)
step part.Domain Opens t f = f
step part.DomainHead Opens t (name, good, e) = (name, good, ap (λ (x : List Sign). Opens ∷ x) e)
step (part.Sections seen) Opens t f = f
step part.Predicates Opens t (first, rest, (name, list, free, has, e), more, h) = put (λ x. HasPredicates (Opens ∷ x)) t _ (h ∙ ap (λ (x : List Sign). x ++ rest) e) (HasPredicates.predicate free has more)
step part.Functions Opens t (first, rest, entry, tail, h) = function_then first rest t entry tail h
step part.FunctionTail Opens t (first, rest, entry, tail, h) = (Opens ∷ t, function_then first rest t entry tail h, inl refl)
step part.ParameterList Opens t f = (t, f, refl)
step part.Condition Opens t f = f
step part.Conditions Opens t (first, rest, first_is, rest_are, h) = put (λ x. IsCondition IsTerm Many (Opens ∷ x)) t _ h (IsCondition.more first_is rest_are)
step part.Effect Opens t f = f
step part.Effects Opens t (first, rest, first_is, rest_are, h) = put (λ x. IsEffect Many (Opens ∷ x)) t _ h (IsEffect.more first_is rest_are)
step part.Negated Opens t (first, rest, negated, e, h) = (Opens ∷ first, negated, ap (λ (x : List Sign). Opens ∷ x) (h ∙ ap (λ (x : List Sign). first ++ x) e))
step part.Total Opens t e = ap (λ (x : List Sign). Opens ∷ x) e
step part.Cost Opens t (first, rest, price, e, h) = (Opens ∷ first, price, ap (λ (x : List Sign). Opens ∷ x) (h ∙ ap (λ (x : List Sign). first ++ x) e))
step part.Problem Opens t f = f
step part.ProblemHead Opens t (name, good, e) = (name, good, ap (λ (x : List Sign). Opens ∷ x) e)
step part.OfDomain Opens t (first, rest, (name, good, e), more, h) = (name, rest, good, more, ap (λ (x : List Sign). Opens ∷ x) (h ∙ ap (λ (x : List Sign). x ++ rest) e))
step (part.Statements seen) Opens t f = (if_follows (not (have_all_stood seen)) (next.One (part.Statement seen)) t f).1
step part.Facts Opens t (first, rest, fact, more, h) = put (λ x. HasFacts (Opens ∷ x)) t _ h (fact rest more)
step part.Valued Opens t f = valued_open t f
step part.Goal Opens t (first, rest, cond, e, h) = (Opens ∷ first, cond, ap (λ (x : List Sign). Opens ∷ x) (h ∙ ap (λ (x : List Sign). first ++ x) e))
step part.Goals Opens t (first, rest, first_is, rest_are, h) = put (λ x. IsCondition IsName Many (Opens ∷ x)) t _ h (IsCondition.more first_is rest_are)
step part.Close Closes t e = ap (λ (x : List Sign). Closes ∷ x) e
step (part.Sections seen) Closes t e = closing (HasSections seen) t e HasSections.end
step part.Words Closes t e = closing (Row IsAny) t e Row.end
step (part.Names of) Closes t e = closing (Typed IsName false) t e Typed.end
step (part.NamesMore of) Closes t e = closing (Typed IsName true) t e Typed.end
step part.Predicates Closes t e = closing HasPredicates t e HasPredicates.end
step (part.Variables owner) Closes t e = closing (Typed IsVariable false) t e Typed.end
step (part.VariablesMore owner) Closes t e = closing (Typed IsVariable true) t e Typed.end
step part.Functions Closes t e = closing HasFunctions t e HasFunctions.end
step (part.Keys seen) Closes t e = closing (HasKeys seen) t e HasKeys.end
step part.ConditionHead Closes t e = closing (λ x. IsCondition IsTerm One (Opens ∷ x)) t e IsCondition.empty
step part.Conditions Closes t e = closing (IsCondition IsTerm Many) t e IsCondition.end
step part.Terms Closes t e = closing (Row IsTerm) t e Row.end
step part.EffectHead Closes t e = closing (λ x. IsEffect One (Opens ∷ x)) t e IsEffect.empty
step part.Effects Closes t e = closing (IsEffect Many) t e IsEffect.end
step part.Facts Closes t e = closing HasFacts t e HasFacts.end
step part.GoalHead Closes t e = closing (λ x. IsCondition IsName One (Opens ∷ x)) t e IsCondition.empty
step part.Goals Closes t e = closing (IsCondition IsName Many) t e IsCondition.end
step part.Objects Closes t e = closing (Row IsName) t e Row.end
step part.FunctionTail Closes t e = (Closes ∷ t, closing HasFunctions t e HasFunctions.end, inl refl)
step (part.Statements seen) Closes t f = statements_end seen t seen.init seen.goal refl refl f
step part.DomainDefine (Says text) t f = define_says text t (sort text) refl f
step part.DomainWord (Says text) t f = domain_says text t (sort text) refl f
step part.DomainName (Says text) t f = then_name text t f
step (part.Section seen) (Says text) t f = section_says text t seen (sort text) refl f
step part.Words (Says text) t f = Row.word tt f
step (part.Names of) (Says text) t f = names_says text t of f
step (part.NamesMore of) (Says text) t f = names_more_says text t of (sort text) refl f
step (part.NameType of) (Says text) t f = one_name text t f
step part.PredicateName (Says text) t f = entry_says text t whose.Predicate f
step (part.Variables owner) (Says text) t f = variables_says text t owner (sort text) refl f
step (part.VariablesMore owner) (Says text) t f = variables_more_says text t owner (sort text) refl f
step (part.VariableType owner) (Says text) t f = one_name text t f
step part.FunctionName (Says text) t f = entry_says text t whose.Function f
step part.FunctionTail (Says text) t f = tail_says text t (sort text) refl f
step part.FunctionType (Says text) t f = number_says text t (sort text) refl f
step part.ActionName (Says text) t f = action_says text t f
step (part.Keys seen) (Says text) t f = key_says text t seen (sort text) refl f
step part.ConditionHead (Says text) t f = condition_says text t (sort text) refl f
step part.Terms (Says text) t f = terms_says text t f
step part.EffectHead (Says text) t f = effect_says text t (sort text) refl f
step part.NegatedHead (Says text) t f = atom_says text t f
step part.TotalWord (Says text) t f = total_says text t (sort text) refl f
step part.Cost (Says text) t f = cost_says text t (sort text) refl f
step part.CostHead (Says text) t f = cost_head_says text t (sort text) refl f
step part.ProblemDefine (Says text) t f = problem_define_says text t (sort text) refl f
step part.ProblemWord (Says text) t f = problem_says text t (sort text) refl f
step part.ProblemName (Says text) t f = then_name text t f
step part.OfDomainWord (Says text) t f = of_domain_says text t (sort text) refl f
step part.OfDomainName (Says text) t f = then_name text t f
step (part.Statement seen) (Says text) t f = statement_says text t seen (sort text) refl f
step part.FactHead (Says text) t f = fact_says text t (sort text) refl f
step part.ValuedHead (Says text) t f = valued_says text t (sort text) refl f
step part.Number (Says text) t f = value_says text t (sort text) refl f
step part.GoalHead (Says text) t f = goal_head_says text t (sort text) refl f
step part.Objects (Says text) t f = objects_says text t f
step part.Metric (Says text) t f = metric_word_says text t (sort text) refl f
step p s t f = absurd f

-- what the table derives from a part is what the part is
pub denotes : {p : Part} {signs : List Sign} → Meets p signs → Denotes p signs
denotes (stop {p} {s} is) = step p s [] (subst (λ (n : Next). Follows n []) (sym is) refl)
denotes (one {p} {q} {s} {rest} is m) = step p s rest (subst (λ (n : Next). Follows n rest) (sym is) (denotes m))
denotes (two {p} {q} {r} {s} {first} {rest} is m n) =
    step p s (first ++ rest) (subst (λ (x : Next). Follows x (first ++ rest)) (sym is) (first, rest, denotes m, denotes n, refl))
