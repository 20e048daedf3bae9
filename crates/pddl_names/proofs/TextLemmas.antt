-- A text of a domain or a problem has exactly the words that it is read as, or exactly the first fault at which its reading stops.
use Rattle.std.proofs.Common.{◌≡◌, ℕ, List, [], Option, None, Some, Result, Ok, Err, refl, sym, ap, subst, ◌∙◌}
use Rattle.pddl_text.specs.declared.fault.TextFault.{TextFault}
use Rattle.pddl_text.specs.declared.tree.Forest.{Forest}
use Rattle.pddl_text.specs.Forests.{Spells, IsFirstFault, tokens_of_all}
use Rattle.pddl_text.specs.Reading.{forest_of}
use Rattle.pddl_text.proofs.ExactLemmas.{IsExact}
use Rattle.pddl_text.proofs.ForestLemmas.{forest_exact}
use Rattle.pddl_form.specs.declared.parts.Met.{Met}
use Rattle.pddl_form.specs.declared.parts.Part.{Part}
use Rattle.pddl_form.specs.First.{IsWhole, HasForm, LeavesForm}
use Rattle.pddl_form.specs.Runs.{form_of}
use Rattle.pddl_form.proofs.FirstLemmas.{form_exact, whole_meetable}
use Rattle.pddl_names.specs.declared.role.Word.{Word}
use Rattle.pddl_names.specs.FirstNames.{first_broken}
use Rattle.pddl_names.specs.Listings.{Declared}
use Rattle.pddl_names.specs.Naming.{IsNamed, IsMisnamed}
use Rattle.pddl_names.specs.Reading.{with_value}
use Rattle.pddl_names.specs.Roles.{words_of}
use Rattle.pddl_names.specs.Texts.{IsSaid, IsUnsaid, text, form, names, unless, named_words, said_of}
use Rattle.pddl_names.proofs.NamingLemmas.{named_of, misnamed_of, not_both, one_fault}
use Rattle.pddl_names.proofs.StopLemmas.{given, failed, ok_inj, err_inj}

-- ---- one reading after another

-- a value of the first reading, and what it is read as further
pub record Both {A B : Type 0} (First : A → Type 0) (Second : A → B → Type 0) (made : B) : Type 0 where
  pub value : A
  pub first : First value
  pub second : Second value made

-- the first reading stops, or the second does
pub data Either {A : Type 0} (First : TextFault → Type 0) (Has : A → Type 0) (Second : A → TextFault → Type 0) (fault : TextFault) : Type 0 where
  early : First fault → Either First Has Second fault
  late : (value : A) → Has value → Second value fault → Either First Has Second fault

module _ {A B : Type 0} (read : Result A TextFault) (Has : A → Type 0) (Fails : TextFault → Type 0) (exact : IsExact read Has Fails)
    (next : A → Result B TextFault) (Then : A → B → Type 0) (Stops : A → TextFault → Type 0) (after : (value : A) → IsExact (next value) (Then value) (Stops value)) where
  both_read : (made : B) → Both Has Then made → with_value read next ≡ Ok made
  both_read made both = ap (λ r. with_value r next) (exact.spelled both.value both.first) ∙ (after both.value).spelled made both.second

  either_read : (fault : TextFault) → Either Fails Has Stops fault → with_value read next ≡ Err fault
  either_read fault (early fails) = ap (λ r. with_value r next) (exact.broken fault fails)
  either_read fault (late value has stops) = ap (λ r. with_value r next) (exact.spelled value has) ∙ (after value).broken fault stops

  is_both : (made : B) (r : Result A TextFault) → read ≡ r → with_value r next ≡ Ok made → Both Has Then made
  is_both made (Ok value) is e = record { value = value; first = exact.is_spelled value is; second = (after value).is_spelled made e }
  is_both made (Err fault) is e = absurd (cc)

  is_either : (fault : TextFault) (r : Result A TextFault) → read ≡ r → with_value r next ≡ Err fault → Either Fails Has Stops fault
  is_either fault (Ok value) is e = late value (exact.is_spelled value is) ((after value).is_broken fault e)
  is_either fault (Err found) is e = early (exact.is_broken fault (is ∙ ap failed (err_inj {A = B} found fault e)))

  pub then_exact : IsExact (with_value read next) (Both Has Then) (Either Fails Has Stops)
  then_exact = record {
    spelled = both_read;
    is_spelled = λ made. is_both made read refl;
    broken = either_read;
    is_broken = λ fault. is_either fault read refl;
  }

-- ---- the names of a text

module _ (base : Declared) (met : List Met) where
  -- the words are those of the text, and break no rule of names
  pub record Named (said : List Word) : Type 0 where
    pub words : said ≡ words_of met
    pub named : IsNamed base said

  words_read : (o : Option TextFault) → first_broken base [] (words_of met) ≡ o → IsNamed base (words_of met) → unless o (words_of met) ≡ Ok (words_of met)
  words_read None is named = refl
  words_read (Some fault) is named = absurd (not_both base (words_of met) fault named (misnamed_of base (words_of met) fault is))

  named_read : (said : List Word) → Named said → named_words base met ≡ Ok said
  named_read said is =
      words_read (first_broken base [] (words_of met)) refl (subst (IsNamed base) is.words is.named) ∙ ap given (sym is.words)

  read_named : (said : List Word) (o : Option TextFault) → first_broken base [] (words_of met) ≡ o → unless o (words_of met) ≡ Ok said → Named said
  read_named said None is e =
      let words : words_of met ≡ said = ok_inj (words_of met) said e in
      record { words = sym words; named = subst (IsNamed base) words (named_of base (words_of met) is) }
  read_named said (Some fault) is e = absurd (cc)

  misnamed_read : (fault : TextFault) (o : Option TextFault) → first_broken base [] (words_of met) ≡ o → IsMisnamed base (words_of met) fault → unless o (words_of met) ≡ Err fault
  misnamed_read fault None is fails = absurd (not_both base (words_of met) fault (named_of base (words_of met) is) fails)
  misnamed_read fault (Some found) is fails = ap failed (one_fault base (words_of met) found fault (misnamed_of base (words_of met) found is) fails)

  read_misnamed : (fault : TextFault) (o : Option TextFault) → first_broken base [] (words_of met) ≡ o → unless o (words_of met) ≡ Err fault → IsMisnamed base (words_of met) fault
  read_misnamed fault None is e = absurd (cc)
  read_misnamed fault (Some found) is e = misnamed_of base (words_of met) fault (is ∙ ap (λ (f : TextFault). Some f) (err_inj {A = List Word} found fault e))

  pub names_exact : IsExact (named_words base met) Named (IsMisnamed base (words_of met))
  names_exact = record {
    spelled = named_read;
    is_spelled = λ said. read_named said (first_broken base [] (words_of met)) refl;
    broken = λ fault. misnamed_read fault (first_broken base [] (words_of met)) refl;
    is_broken = λ fault. read_misnamed fault (first_broken base [] (words_of met)) refl;
  }

-- ---- a whole text

module _ (start : Part) (whole : IsWhole start) (base : Declared) where
  abbrev HasIn : Forest → List Met → Type 0
  HasIn forest = HasForm start (tokens_of_all forest.trees)

  forest_names : (forest : Forest) → IsExact (with_value (form_of start forest) (named_words base)) (Both (HasIn forest) (Named base)) (Either (LeavesForm start forest) (HasIn forest) (λ met. IsMisnamed base (words_of met)))
  forest_names forest =
      then_exact (form_of start forest) (HasIn forest) (LeavesForm start forest) (form_exact start (whole_meetable whole) forest) (named_words base) (Named base) (λ met. IsMisnamed base (words_of met)) (names_exact base)

  module _ (bytes : List ℕ) where
    abbrev Said : List Word → Type 0
    Said = Both (Spells bytes) (λ forest. Both (HasIn forest) (Named base))

    abbrev Unsaid : TextFault → Type 0
    Unsaid = Either (IsFirstFault bytes) (Spells bytes) (λ forest. Either (LeavesForm start forest) (HasIn forest) (λ met. IsMisnamed base (words_of met)))

    passes : IsExact (said_of start base bytes) Said Unsaid
    passes =
        then_exact (forest_of bytes) (Spells bytes) (IsFirstFault bytes) (forest_exact bytes) (λ forest. with_value (form_of start forest) (named_words base))
        (λ forest. Both (HasIn forest) (Named base)) (λ forest. Either (LeavesForm start forest) (HasIn forest) (λ met. IsMisnamed base (words_of met))) forest_names

    said_parts : (said : List Word) → IsSaid start base bytes said → Said said
    said_parts said is = record { value = is.forest; first = is.spelled; second = record { value = is.met; first = is.form; second = record { words = is.words; named = is.named } } }

    parts_said : (said : List Word) → Said said → IsSaid start base bytes said
    parts_said said is = record {
      forest = is.value;
      met = is.second.value;
      spelled = is.first;
      form = is.second.first;
      words = is.second.second.words;
      named = is.second.second.named;
    }

    unsaid_parts : (fault : TextFault) → IsUnsaid start base bytes fault → Unsaid fault
    unsaid_parts fault (text is) = early is
    unsaid_parts fault (form forest spelled leaves) = late forest spelled (early leaves)
    unsaid_parts fault (names forest met spelled has fails) = late forest spelled (late met has fails)

    parts_unsaid : (fault : TextFault) → Unsaid fault → IsUnsaid start base bytes fault
    parts_unsaid fault (early is) = text is
    parts_unsaid fault (late forest spelled (early leaves)) = form forest spelled leaves
    parts_unsaid fault (late forest spelled (late met has fails)) = names forest met spelled has fails

    pub said_exact : IsExact (said_of start base bytes) (IsSaid start base bytes) (IsUnsaid start base bytes)
    said_exact = record {
      spelled = λ said is. passes.spelled said (said_parts said is);
      is_spelled = λ said e. parts_said said (passes.is_spelled said e);
      broken = λ fault is. passes.broken fault (unsaid_parts fault is);
      is_broken = λ fault e. parts_unsaid fault (passes.is_broken fault e);
    }
