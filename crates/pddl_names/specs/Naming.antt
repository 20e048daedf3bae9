-- Which words of a domain or a problem break a rule of names, and the first of them. A word is
-- between the words before it and the rest; `base` is what was declared before the text.
use Rattle.std.specs.Prelude.{ℕ, ◌≡◌, ◌≤◌, ◌==◌, ◌&&◌, not, Bool, true, false, List, [], ◌∷◌, ◌++◌}
use Rattle.std.specs.Prelude.{codes, length, reverse, take_while, find, Option, None, Some}
use Rattle.std.specs.Prelude.{slice_get, if◌then◌else◌}
use Rattle.std.specs.Cmp.Lexicographic.{pointwise}
use Rattle.std.specs.List.{list_any}
use Rattle.std.specs.Map.{lookup}
use Rattle.std.specs.Option.{option_and_then}
use Rattle.std.specs.Str.{bytes_eq}
use Rattle.mre_base.specs.declared.text.Text.{Text}
use Rattle.pddl_text.specs.declared.fault.TextFault.{TextFault}
use Rattle.pddl_text.specs.declared.fault.TextRule.{TextRule}
use Rattle.pddl_text.specs.declared.fault.TextRule.TheVariants as rule
use Rattle.pddl_form.specs.declared.parts.Owner.TheVariants as owner
use Rattle.pddl_names.specs.declared.role.Role.{Role}
use Rattle.pddl_names.specs.declared.role.Role.TheVariants as role
use Rattle.pddl_names.specs.declared.role.Word.{Word}
use Rattle.pddl_names.specs.Listings.{Typed, Signed, Declared, declared, first_of, type_behind}
use Rattle.pddl_names.specs.Listings.{is_term, terms_behind, own_params, action_params}
use Rattle.pddl_names.specs.Listings.{number_behind, values_in, is_type, is_below, comes_back}
use Rattle.pddl_names.specs.PlanNames.{rank}

-- ---- where a word is

abbrev pub is_action : Word → Bool
is_action w = names_action w.role
  where
    names_action : Role → Bool
    names_action role.Action = true
    names_action r = false

-- the words so far of the action that the next word belongs to
abbrev pub action_words : List Word → List Word
action_words before = reverse (take_while (λ w. not (is_action w)) (reverse before))

-- the parameters of the action that the word belongs to, with their types
abbrev pub params_round : List Word → Word → List Word → List Typed
params_round before w rest = action_params (action_words before ++ w ∷ rest)

-- the head of a term that is next, and how many terms are between them
abbrev pub head_of : List Word → Option Word
head_of before = find (λ w. not (is_term w)) (reverse before)

abbrev pub terms_before : List Word → ℕ
terms_before before = length (take_while is_term (reverse before))

-- the types that a head's terms are due to have
abbrev pub due_types : Declared → Word → Option (List Text)
due_types known w = due w.role
  where
    due : Role → Option (List Text)
    due (role.Head says) = first_of known.predicates w.text
    due role.Cost = first_of known.functions w.text
    due role.Value = first_of known.functions w.text
    due r = None

-- the type that a next term is due to have
abbrev pub due_type : Declared → List Word → Option Text
due_type known before =
    option_and_then (λ head. option_and_then (λ types. slice_get types (terms_before before))
    (due_types known head)) (head_of before)

-- a variable begins with a `?`
abbrev pub is_variable : Text → Bool
is_variable [] = false
is_variable (b ∷ text) = b == 63

-- the type of a term, if something declares it: a parameter of the action, or an object
abbrev pub term_type : Declared → List Typed → Text → Option Text
term_type known params text =
    if is_variable text then first_of params text else first_of known.objects text

-- ---- which rules a word breaks

-- two words declare the same sort of thing
abbrev pub same_sort : Role → Role → Bool
same_sort role.ListedType role.ListedType = true
same_sort role.Predicate role.Predicate = true
same_sort role.Function role.Function = true
same_sort role.Action role.Action = true
same_sort (role.Variable owner.Action) (role.Variable owner.Action) = true
same_sort role.Increase role.Increase = true
same_sort r q = false

-- some word before declares the same
abbrev pub is_again : List Word → Word → Bool
is_again before w = list_any (λ v. same_sort v.role w.role && bytes_eq v.text w.text) before

-- there is a text, and it is another
abbrev pub is_other : Option Text → Text → Bool
is_other None text = false
is_other (Some first) text = not (bytes_eq first text)

-- a function has a number at some objects, and it is another
abbrev pub same_call : Signed → Signed → Bool
same_call f g = bytes_eq f.0 g.0 && pointwise bytes_eq f.1 g.1

abbrev pub is_other_number : Option ℕ → ℕ → Bool
is_other_number None n = false
is_other_number (Some first) n = not (first == n)

-- a type is listed again with another parent, an object with another type; a predicate, a function
-- or an action is declared again; a parameter or an increase is repeated in one action; or a
-- function has another number
abbrev pub is_twice : Declared → List Word → Word → List Word → Bool
is_twice known before w rest = again w.role
  where
    again : Role → Bool
    again role.ListedType = is_other (first_of known.types w.text) (type_behind rest)
    again role.ListedObject = is_other (first_of known.objects w.text) (type_behind rest)
    again role.Predicate = is_again before w
    again role.Function = is_again before w
    again role.Action = is_again before w
    again (role.Variable owner.Action) = is_again (action_words before) w
    again role.Increase = is_again (action_words before) w
    again role.Value =
        is_other_number (lookup (same_call (w.text, terms_behind rest)) (values_in before))
        (number_behind rest)
    again r = false

-- the type's chain of parents comes back to it, and it is listed here first
abbrev pub is_cycle : Declared → List Word → Word → Bool
is_cycle known before w = comes w.role
  where
    comes : Role → Bool
    comes role.ListedType = comes_back known.types w.text && not (is_again before w)
    comes r = false

abbrev pub is_none : {X : Type 0} → Option X → Bool
is_none None = true
is_none (Some x) = false

-- nothing declares the type, the predicate, the function, the variable or the object
abbrev pub is_undeclared : Declared → List Word → Word → List Word → Bool
is_undeclared known before w rest = lacks w.role
  where
    lacks : Role → Bool
    lacks role.ObjectType = not (is_type known.types w.text)
    lacks role.VariableType = not (is_type known.types w.text)
    lacks (role.Head says) = is_none (first_of known.predicates w.text)
    lacks role.Cost = is_none (first_of known.functions w.text)
    lacks role.Value = is_none (first_of known.functions w.text)
    lacks role.Term = is_none (term_type known (params_round before w rest) w.text)
    lacks r = false

-- another number is declared
abbrev pub is_other_length : Option (List Text) → ℕ → Bool
is_other_length None n = false
is_other_length (Some types) n = not (length types == n)

abbrev pub is_some_param : List Typed → Bool
is_some_param [] = false
is_some_param (p ∷ params) = true

-- a head has another number of terms than is declared, or `total-cost` has parameters
abbrev pub is_wrong_arity : Declared → Word → List Word → Bool
is_wrong_arity known w rest = wrong w.role
  where
    wrong : Role → Bool
    wrong role.Function = bytes_eq w.text (codes "total-cost") && is_some_param (own_params rest)
    wrong r = is_other_length (due_types known w) (length (terms_behind rest))

-- the term has a type, and another is due
abbrev pub is_misfit : List Typed → Option Text → Option Text → Bool
is_misfit types None due = false
is_misfit types (Some type) None = false
is_misfit types (Some type) (Some due) = not (is_below types type due)

-- a term's type is neither the one that is due nor below it
abbrev pub is_wrong_type : Declared → List Word → Word → List Word → Bool
is_wrong_type known before w rest = wrong w.role
  where
    wrong : Role → Bool
    wrong role.Term =
        is_misfit known.types (term_type known (params_round before w rest) w.text)
        (due_type known before)
    wrong r = false

-- the word breaks the rule
abbrev pub breaks : Declared → List Word → Word → List Word → TextRule → Bool
breaks base before w rest broken = by broken
  where
    known : Declared
    known = declared base (before ++ w ∷ rest)

    by : TextRule → Bool
    by rule.Twice = is_twice known before w rest
    by rule.TypeCycle = is_cycle known before w
    by rule.Undeclared = is_undeclared known before w rest
    by rule.WrongArity = is_wrong_arity known w rest
    by rule.WrongType = is_wrong_type known before w rest
    by r = false

-- ---- whole texts

-- no word breaks a rule
abbrev pub IsNamed : Declared → List Word → Type 0
IsNamed base words =
    (before : List Word) (w : Word) (rest : List Word) → words ≡ before ++ w ∷ rest → (r : TextRule)
    → breaks base before w rest r ≡ false

-- the fault is the first rule that the first faulty word breaks, at that word
pub record IsMisnamed (base : Declared) (words : List Word) (fault : TextFault) : Type 0 where
  pub before : List Word
  pub word : Word
  pub rest : List Word
  pub split : words ≡ before ++ word ∷ rest
  pub told : fault ≡ record { at = word.at; rule = fault.rule; word = word.text }
  pub broken : breaks base before word rest fault.rule ≡ true
  pub earlier : (front : List Word) (w : Word) (back : List Word) → before ≡ front ++ w ∷ back
      → (r : TextRule) → breaks base front w (back ++ word ∷ rest) r ≡ false
  pub least : (r : TextRule) → breaks base before word rest r ≡ true → rank fault.rule ≤ rank r
