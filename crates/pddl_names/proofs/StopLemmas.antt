-- Where the reading of a line stops, there is its first fault; where it goes on to the end, the line is a step.
use Rattle.std.proofs.Common.{◌≡◌, ℕ, ◌<◌, zero, suc, Bool, true, false, Some, None, Option, List, [], ◌∷◌, ◌++◌, length, Result, Ok, Err, refl, sym, ap, subst, ◌∙◌, arith, append_assoc}
use Rattle.std.specs.Prelude.{slice_get, if◌then◌else◌}
use Rattle.std.specs.Cmp.Lexicographic.{pointwise}
use Rattle.std.proofs.lemmas.Bool.{and_from}
use Rattle.std.proofs.lemmas.List.{append-nil}
use Rattle.mre_base.specs.declared.text.Text.{Text}
use Rattle.mre_base.proofs.Options.{same_some}
use Rattle.pddl_text.specs.declared.fault.TextFault.{TextFault}
use Rattle.pddl_text.specs.declared.fault.TextRule.{TextRule}
use Rattle.pddl_text.specs.declared.fault.TextRule.TheVariants as rule
use Rattle.pddl_text.specs.declared.place.Place.{Place}
use Rattle.pddl_text.specs.Plans.{Words}
use Rattle.model_kit.specs.declared.vocabulary.Vocabulary.{Vocabulary}
use Rattle.model_kit.specs.Vocabulary.{is_object_of}
use Rattle.pddl_names.specs.Numbers.{IsNumberOf, IsUndeclared, number_of, entry_name}
use Rattle.pddl_names.specs.PlanNames.{AreObjects, none, more}
use Rattle.pddl_names.specs.Reading.{broken_at, with_value, with_number, object_at, objects_from}
use Rattle.pddl_names.proofs.NumberLemmas.{number_is, number_none}

abbrev pub given : {A : Type 0} → A → Result A TextFault
given x = Ok x

abbrev pub failed : {A : Type 0} → TextFault → Result A TextFault
failed fault = Err fault

pub ok_inj : {A : Type 0} (x y : A) → given x ≡ given y → x ≡ y
ok_inj x y e = cc

pub err_inj : {A : Type 0} (x y : TextFault) → failed {A = A} x ≡ failed y → x ≡ y
err_inj x y e = cc

module _ (words : Vocabulary) where
  -- ---- one object

  abbrev pub IsObject : Text × Place → ℕ → Type 0
  IsObject word number = IsNumberOf entry_name words.objects word.0 number

  -- why a word isn't an object of a type
  pub data IsWrong (word : Text × Place) (above : ℕ) : TextRule → Type 0 where
    unknown : IsUndeclared entry_name words.objects word.0 → IsWrong word above rule.Undeclared
    misfit : (number : ℕ) → IsObject word number → is_object_of words number above ≡ false → IsWrong word above rule.WrongType

  pub record IsStopped (word : Text × Place) (above : ℕ) (fault : TextFault) : Type 0 where
    pub broken : TextRule
    pub is : fault ≡ broken_at word broken
    pub why : IsWrong word above broken

  typed_read : (word : Text × Place) (above number made : ℕ) (b : Bool) → is_object_of words number above ≡ b → (if b then Ok number else Err (broken_at word rule.WrongType)) ≡ Ok made
      → (number ≡ made) × (is_object_of words number above ≡ true)
  typed_read word above number made true is e = (ok_inj number made e, is)
  typed_read word above number made false is e = absurd (cc)

  object_read : (word : Text × Place) (above made : ℕ) (o : Option ℕ) → number_of entry_name words.objects word.0 ≡ o
      → with_number word o (λ number. if is_object_of words number above then Ok number else Err (broken_at word rule.WrongType)) ≡ Ok made
      → IsObject word made × (is_object_of words made above ≡ true)
  object_read word above made None is e = absurd (cc)
  object_read word above made (Some number) is e =
      let typed = typed_read word above number made (is_object_of words number above) refl e in
      let named = number_is entry_name words.objects word.0 number is in
      (subst (IsObject word) typed.0 named, subst (λ n. is_object_of words n above ≡ true) typed.0 typed.1)

  typed_stopped : (word : Text × Place) (above number : ℕ) (fault : TextFault) (b : Bool) → IsObject word number → is_object_of words number above ≡ b
      → (if b then Ok number else Err (broken_at word rule.WrongType)) ≡ Err fault → IsStopped word above fault
  typed_stopped word above number fault true named is e = absurd (cc)
  typed_stopped word above number fault false named is e = record { broken = rule.WrongType; is = sym (err_inj (broken_at word rule.WrongType) fault e); why = misfit number named is }

  object_stopped : (word : Text × Place) (above : ℕ) (fault : TextFault) (o : Option ℕ) → number_of entry_name words.objects word.0 ≡ o
      → with_number word o (λ number. if is_object_of words number above then Ok number else Err (broken_at word rule.WrongType)) ≡ Err fault
      → IsStopped word above fault
  object_stopped word above fault None is e =
      record { broken = rule.Undeclared; is = sym (err_inj (broken_at word rule.Undeclared) fault e); why = unknown (number_none entry_name words.objects word.0 is) }
  object_stopped word above fault (Some number) is e =
      typed_stopped word above number fault (is_object_of words number above) (number_is entry_name words.objects word.0 number is) refl e

  -- ---- the objects of a line

  pub record ObjectsRead (line : Words) (types so_far all : List ℕ) : Type 0 where
    pub found : List ℕ
    pub all-is : all ≡ so_far ++ found
    pub are : AreObjects words line found
    pub fit : pointwise (is_object_of words) found types ≡ true

  object_then : (word : Text × Place) (line : Words) (above : ℕ) (types so_far all : List ℕ) → length line ≡ length types
      → ((longer : List ℕ) → objects_from words longer line types ≡ Ok all → ObjectsRead line types longer all)
      → (read : Result ℕ TextFault) → object_at words word above ≡ read
      → with_value read (λ number. objects_from words (so_far ++ number ∷ []) line types) ≡ Ok all → ObjectsRead (word ∷ line) (above ∷ types) so_far all
  object_then word line above types so_far all same later (Err fault) is e = absurd (cc)
  object_then word line above types so_far all same later (Ok number) is e =
      let here = object_read word above number (number_of entry_name words.objects word.0) refl is in
      let rest = later (so_far ++ number ∷ []) e in
      record {
        found = number ∷ rest.found;
        all-is = rest.all-is ∙ append_assoc so_far (number ∷ []) rest.found;
        are = more here.0 rest.are;
        fit = and_from (is_object_of words number above) (pointwise (is_object_of words) rest.found types) here.1 rest.fit;
      }

  pub objects_read : (line : Words) (types so_far all : List ℕ) → length line ≡ length types → objects_from words so_far line types ≡ Ok all → ObjectsRead line types so_far all
  objects_read [] [] so_far all same e = record { found = []; all-is = sym (ok_inj so_far all e) ∙ sym (append-nil so_far); are = none; fit = refl }
  objects_read [] (above ∷ types) so_far all same e = absurd (omega arith)
  objects_read (word ∷ line) [] so_far all same e = absurd (omega arith)
  objects_read (word ∷ line) (above ∷ types) so_far all same e =
      let equal : length line ≡ length types = omega arith in
      object_then word line above types so_far all equal (λ longer. objects_read line types longer all equal) (object_at words word above) refl e

  -- ---- where the objects of a line stop

  -- the word at a place names an object of the type that is due there
  pub record FitsAt (types : List ℕ) (place : ℕ) (word : Text × Place) : Type 0 where
    pub above : ℕ
    pub at_type : slice_get types place ≡ Some above
    pub number : ℕ
    pub named : IsObject word number
    pub fits : is_object_of words number above ≡ true

  -- each word before a place names an object of its type
  abbrev pub AllFit : Words → List ℕ → ℕ → Type 0
  AllFit line types place = (earlier : ℕ) (word : Text × Place) → earlier < place → slice_get line earlier ≡ Some word → FitsAt types earlier word

  fit_more : (first : Text × Place) (line : Words) (above : ℕ) (types : List ℕ) (place number : ℕ) → IsObject first number → is_object_of words number above ≡ true
      → AllFit line types place → AllFit (first ∷ line) (above ∷ types) (suc place)
  fit_more first line above types place number named fits rest zero word lt at =
      record { above = above; at_type = refl; number = number; named = subst (λ (w : Text × Place). IsObject w number) (same_some first word at) named; fits = fits }
  fit_more first line above types place number named fits rest (suc earlier) word lt at =
      let fit = rest earlier word (omega arith) at in
      record { above = fit.above; at_type = fit.at_type; number = fit.number; named = fit.named; fits = fit.fits }

  pub record ObjectsStopped (line : Words) (types : List ℕ) (fault : TextFault) : Type 0 where
    pub place : ℕ
    pub word : Text × Place
    pub above : ℕ
    pub at_word : slice_get line place ≡ Some word
    pub at_type : slice_get types place ≡ Some above
    pub stopped : IsStopped word above fault
    pub before : AllFit line types place

  stopped_then : (word : Text × Place) (line : Words) (above : ℕ) (types so_far : List ℕ) (fault : TextFault)
      → ((longer : List ℕ) → objects_from words longer line types ≡ Err fault → ObjectsStopped line types fault)
      → (read : Result ℕ TextFault) → object_at words word above ≡ read
      → with_value read (λ number. objects_from words (so_far ++ number ∷ []) line types) ≡ Err fault → ObjectsStopped (word ∷ line) (above ∷ types) fault
  stopped_then word line above types so_far fault later (Err found) is e =
      let same : found ≡ fault = err_inj found fault e in
      record {
        place = 0;
        word = word;
        above = above;
        at_word = refl;
        at_type = refl;
        stopped = object_stopped word above fault (number_of entry_name words.objects word.0) refl (is ∙ ap failed same);
        before = λ earlier other lt at. absurd (omega arith);
      }
  stopped_then word line above types so_far fault later (Ok number) is e =
      let here = object_read word above number (number_of entry_name words.objects word.0) refl is in
      let rest = later (so_far ++ number ∷ []) e in
      record {
        place = suc rest.place;
        word = rest.word;
        above = rest.above;
        at_word = rest.at_word;
        at_type = rest.at_type;
        stopped = rest.stopped;
        before = fit_more word line above types rest.place number here.0 here.1 rest.before;
      }

  pub objects_stopped : (line : Words) (types so_far : List ℕ) (fault : TextFault) → objects_from words so_far line types ≡ Err fault → ObjectsStopped line types fault
  objects_stopped [] types so_far fault e = absurd (cc)
  objects_stopped (word ∷ line) [] so_far fault e = absurd (cc)
  objects_stopped (word ∷ line) (above ∷ types) so_far fault e =
      stopped_then word line above types so_far fault (λ longer. objects_stopped line types longer fault) (object_at words word above) refl e
