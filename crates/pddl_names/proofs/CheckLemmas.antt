-- The check of names, word by word.
use Rattle.std.proofs.Common.{◌≡◌, ℕ, ◌+◌, ◌≤◌, suc, Bool, true, false, Some, None, Option, List, [], ◌∷◌, ◌++◌, length, take, drop, refl, sym, ap, subst, ◌∙◌, arith}
use Rattle.std.specs.Prelude.{slice_get, Result, Ok, Err, IfOk, if◌then◌else◌}
use Rattle.std.specs.List.{list_any, between}
use Rattle.std.proofs.lemmas.List.{take-append-drop, drop_all}
use Rattle.std.proofs.lemmas.List.Edits.{between_none}
use Rattle.mre_base.proofs.Loops.{take_item, drop_item}
use Rattle.pddl_text.specs.declared.fault.TextFault.{TextFault}
use Rattle.pddl_text.specs.Answers.{Gives, IfFault}
use Rattle.pddl_text.specs.declared.fault.ReadStop.{ReadStop}
use Rattle.pddl_text.specs.declared.fault.ReadStop.TheVariants as stop
use Rattle.pddl_text.specs.declared.fault.TextRule.{TextRule}
use Rattle.pddl_text.specs.declared.fault.TextRule.TheVariants as rule
use Rattle.pddl_names.specs.declared.role.Word.{Word}
use Rattle.pddl_names.specs.Checks.{first_rule_of, unless_fault, names_read, next_from}
use Rattle.pddl_names.specs.FirstNames.{first_rule, fault_or, first_broken}
use Rattle.pddl_names.specs.Listings.{Declared, declared, is_term}
use Rattle.pddl_names.specs.Naming.{breaks, is_action, is_twice, is_cycle, is_undeclared, is_wrong_arity, is_wrong_type, IsNamed, IsMisnamed}
use Rattle.pddl_names.specs.Params.{is_action_name, AreParamPlaces}
use Rattle.pddl_names.specs.Tables.{AreTermsFrom, IsCurrentAction, head_at}
use Rattle.pddl_names.specs.declared.name_tables.CurrentAction.{CurrentAction}
use Rattle.pddl_names.specs.Reading.{Answers}
use Rattle.pddl_names.proofs.NamingLemmas.{named_of, misnamed_of}
use Rattle.pddl_names.proofs.ParamTypes.{action_name}
use Rattle.pddl_names.proofs.StopLemmas.{err_inj}
use Rattle.pddl_names.proofs.RoundLemmas.{words_on, words_anew, none_more, head_on, head_anew, count_on, count_anew}

-- ---- where a word is

module _ (words : List Word) where
  pub action_at_start : (action : CurrentAction) → action.start ≡ 0 → AreParamPlaces words 0 action.params → IsCurrentAction words 0 action
  action_at_start action start params = record {
    within = omega (arith, start);
    words_are = sym (between_none words 0) ∙ ap (λ n. between n 0 words) (sym start);
    none = ap (λ n. list_any is_action (between n 0 words)) start ∙ ap (list_any is_action) (between_none words 0);
    params = subst (λ n. AreParamPlaces words n action.params) (sym start) params;
  }

  module _ (place : ℕ) (w : Word) (at : slice_get words place ≡ Some w) where
    pub action_goes_on : (action : CurrentAction) → IsCurrentAction words place action → is_action_name w.role ≡ false → IsCurrentAction words (place + 1) action
    action_goes_on action is other =
        let no = action_name w ∙ other in
        record {
          within = omega (arith, is.within);
          words_are = words_on words place w at action.start is.within no is.words_are;
          none = none_more is_action words action.start place is.within w at no is.none;
          params = is.params;
        }

    pub action_begins : (action : CurrentAction) → is_action_name w.role ≡ true → action.start ≡ place + 1 → AreParamPlaces words (place + 1) action.params → IsCurrentAction words (place + 1) action
    action_begins action is start params =
        let yes = action_name w ∙ is in
        record {
          within = omega (arith, start);
          words_are = words_anew words place w at yes ∙ ap (λ n. between n (place + 1) words) (sym start);
          none = ap (λ n. list_any is_action (between n (place + 1) words)) start ∙ ap (list_any is_action) (between_none words (place + 1));
          params = subst (λ n. AreParamPlaces words n action.params) (sym start) params;
        }

    from_by : (from : ℕ) (b : Bool) → is_term w ≡ b → AreTermsFrom words place from → AreTermsFrom words (place + 1) (if b then from else place + 1)
    from_by from true is known =
        let counted = count_on words place w at is in
        record {
          within = omega (arith, known.within);
          count = omega (arith, counted, known.count);
          head = head_on words place w at is ∙ known.head;
        }
    from_by from false is known =
        let counted = count_anew words place w at is in
        let next : place + 1 ≡ suc place = omega arith in
        record {
          within = omega arith;
          count = omega (arith, counted);
          head = head_anew words place w at is ∙ sym at ∙ ap (head_at words) (sym next);
        }

    pub from_next : (from next : ℕ) → AreTermsFrom words place from → next ≡ next_from w place from → AreTermsFrom words (place + 1) next
    from_next from next known is = subst (AreTermsFrom words (place + 1)) (sym is) (from_by from (is_term w) refl known)

-- ---- what is read

module _ (base : Declared) (words : List Word) where
  -- what is read of the words from a place on is what is read of all
  abbrev pub ReadTo : ℕ → Type 0
  ReadTo place = first_broken base (take place words) (drop place words) ≡ first_broken base [] words

  module _ (place : ℕ) (w : Word) (at : slice_get words place ≡ Some w) where
    abbrev rest : List Word
    rest = drop (place + 1) words

    whole : take place words ++ w ∷ rest ≡ words
    whole = ap (λ ws. take place words ++ ws) (sym (drop_item words place w at)) ∙ take-append-drop place words

    rules_are : first_rule (breaks base (take place words) w rest) ≡ first_rule_of (declared base words) (take place words) w rest
    rules_are i = first_rule_of (declared base (whole i)) (take place words) w rest

    stepped : (o : Option TextRule) → first_rule_of (declared base words) (take place words) w rest ≡ o
        → first_broken base (take place words) (drop place words) ≡ fault_or w o (first_broken base (take (place + 1) words) rest)
    stepped o is =
        ap (first_broken base (take place words)) (drop_item words place w at)
        ∙ (λ i. fault_or w ((rules_are ∙ is) i) (first_broken base (sym (take_item words place w at) i) rest))

    pub read_on : ReadTo place → None ≡ first_rule_of (declared base words) (take place words) w rest → ReadTo (place + 1)
    read_on known none = sym (stepped None (sym none)) ∙ known

    pub read_stop : ReadTo place → (r : TextRule) → Some r ≡ first_rule_of (declared base words) (take place words) w rest → names_read base words ≡ Err (record { at = w.at; rule = r; word = w.text })
    read_stop known r some = ap unless_fault (sym known ∙ stepped (Some r) (sym some))

  pub read_end : (place : ℕ) → length words ≤ place → ReadTo place → names_read base words ≡ Ok tt
  read_end place past known = ap unless_fault (sym known ∙ ap (first_broken base (take place words)) (drop_all place words past))

-- ---- the first rule

abbrev chosen : Bool → Bool → Bool → Bool → Bool → Option TextRule
chosen a b c d e =
    if a then Some rule.Twice else (if b then Some rule.TypeCycle else (if c then Some rule.Undeclared else (if d then Some rule.WrongArity else (if e then Some rule.WrongType else None))))

module _ (known : Declared) (before : List Word) (w : Word) (rest : List Word) where
  told : (a b c d e : Bool) → a ≡ is_twice known before w rest → b ≡ is_cycle known before w → c ≡ is_undeclared known before w rest → d ≡ is_wrong_arity known w rest → e ≡ is_wrong_type known before w rest
      → chosen a b c d e ≡ first_rule_of known before w rest
  told a b c d e p q r s t i = chosen (p i) (q i) (r i) (s i) (t i)

  pub told_arity : false ≡ is_twice known before w rest → false ≡ is_cycle known before w → false ≡ is_undeclared known before w rest → true ≡ is_wrong_arity known w rest
      → Some rule.WrongArity ≡ first_rule_of known before w rest
  told_arity p q r s = told false false false true (is_wrong_type known before w rest) p q r s refl

  pub told_none : false ≡ is_twice known before w rest → false ≡ is_cycle known before w → false ≡ is_undeclared known before w rest → false ≡ is_wrong_arity known w rest → false ≡ is_wrong_type known before w rest
      → None ≡ first_rule_of known before w rest
  told_none p q r s t = told false false false false false p q r s t

-- ---- what is answered

pub gives_fault : {A : Type 0} (s : ReadStop) (fault : TextFault) (read : Result A TextFault) → Answers s fault → read ≡ Err fault → Gives {A = A} (Err s) read
gives_fault (stop.Fault told) fault read answers e = e ∙ ap (λ (f : TextFault). Err f) (sym answers)
gives_fault stop.NoMemory fault read answers e = tt

none_of : (o : Option TextFault) → unless_fault o ≡ Ok tt → o ≡ None
none_of None e = refl
none_of (Some fault) e = absurd (cc)

some_of : (o : Option TextFault) (fault : TextFault) → unless_fault o ≡ Err fault → o ≡ Some fault
some_of None fault e = absurd (cc)
some_of (Some told) fault e = ap (λ (f : TextFault). Some f) (err_inj {A = Unit {0}} told fault e)

pub named_told : (base : Declared) (words : List Word) (result : Result (Unit {0}) ReadStop) → Gives result (names_read base words)
    → IfOk result (λ _. IsNamed base words) × IfFault result (IsMisnamed base words)
named_told base words (Ok x) gives = (named_of base words (none_of (first_broken base [] words) gives), tt)
named_told base words (Err (stop.Fault fault)) gives = (tt, misnamed_of base words fault (some_of (first_broken base [] words) fault gives))
named_told base words (Err stop.NoMemory) gives = (tt, tt)

pub if_both : {A E : Type 0} (r : Result A E) (P Q R : A → Type 0) → ((x : A) → P x → Q x → R x) → IfOk r P → IfOk r Q → IfOk r R
if_both (Ok x) P Q R both p q = both x p q
if_both (Err e) P Q R both p q = tt
