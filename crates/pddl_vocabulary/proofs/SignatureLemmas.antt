-- The predicates, functions and actions that words declare are those of a vocabulary.
use Rattle.std.proofs.Common.{◌≡◌, ℕ, ◌<◌, ◌&&◌, ◌||◌, Bool, true, false, cond, List, [], ◌∷◌, ◌++◌, length, map, refl, sym, ap, ◌∙◌, append_assoc}
use Rattle.std.specs.Prelude.{not, nat_lt, filter, codes}
use Rattle.std.specs.List.{list_any, list_all}
use Rattle.std.specs.Str.{bytes_eq}
use Rattle.std.proofs.lemmas.Bool.{true≢false, and_parts, and_from, not_from_false, or_left, or_right, false_from_ne_true}
use Rattle.std.proofs.lemmas.Bool.Decides.{Decides-ltb}
use Rattle.std.proofs.lemmas.List.Elements.{All-head, All-tail}
use Rattle.std.proofs.lemmas.List.Folds.{list_any-append}
use Rattle.mre_base.specs.declared.text.Text.{Text}
use Rattle.model_kit.specs.declared.vocabulary.Signature.{Signature}
use Rattle.model_kit.specs.Names.{is_name, are_distinct}
use Rattle.model_kit.specs.Words.{is_signature, same_word, are_signatures, is_no_total}
use Rattle.model_kit.proofs.Alike.{same_numbers-decides}
use Rattle.pddl_text.specs.declared.fault.TextRule.TheVariants as rule
use Rattle.pddl_text.specs.declared.place.Place.{Place}
use Rattle.pddl_names.specs.declared.kind.Kind.{Kind}
use Rattle.pddl_names.specs.declared.kind.Kind.TheVariants as kind
use Rattle.pddl_names.specs.declared.role.Role.{Role}
use Rattle.pddl_names.specs.declared.role.Role.TheVariants as role
use Rattle.pddl_names.specs.declared.role.Word.{Word}
use Rattle.pddl_vocabulary.specs.Formed.{IsFormed, AreFormed, is_naming}
use Rattle.pddl_names.specs.Kinds.{is_kind, is_once, declares}
use Rattle.pddl_names.specs.Listings.{Signed, Declared, with_predicate, with_function, predicates_in, functions_in, own_params, action_params, types_of}
use Rattle.pddl_names.specs.Naming.{is_again, breaks, IsNamed}
use Rattle.pddl_vocabulary.specs.Values.{signature_said, is_total, ActionWords, with_action, actions_in, action_said, place_in}
use Rattle.pddl_vocabulary.specs.VocabularyLists.{is_left_out, is_entry_word, params_behind, entry_said, entries_said}
use Rattle.pddl_names.proofs.AgainLemmas.{same_kind}
use Rattle.pddl_vocabulary.proofs.EntryLemmas.{all_map, all_ways}

-- ---- by the numbers of types

module _ (number : Text → ℕ) (names : List Text) (numbers : (name : Text) → number name ≡ place_in names name) where
  abbrev signed : Signed → Signature
  signed = signature_said names

  numbered : (w : Word) (texts : List Text) (s : Signature) → s ≡ record { name = w.text; params = map number texts } → s ≡ signed (w.text, texts)
  numbered w texts s is = is ∙ (λ i. let made : Signature = record { name = w.text; params = map (λ name. numbers name i) texts } in made)

  predicate_by : (r : Role) (s : Signed) (entry : Signature) (more : List Signed) (mores : List Signature) → entry ≡ signed s → mores ≡ map signed more
      → cond (is_kind kind.Predicates r && true) (entry ∷ mores) mores ≡ map signed (with_predicate r s more)
  predicate_by role.Predicate s entry more mores e m = λ i. e i ∷ m i
  predicate_by _ s entry more mores e m = m

  pub predicates_are : (words : List Word) → entries_said number kind.Predicates words ≡ map signed (predicates_in words)
  predicates_are [] = refl
  predicates_are (w ∷ rest) =
      predicate_by w.role (w.text, types_of (own_params rest)) (entry_said number kind.Predicates w rest) (predicates_in rest) (entries_said number kind.Predicates rest)
      (numbered w (types_of (own_params rest)) (entry_said number kind.Predicates w rest) refl) (predicates_are rest)

  chosen : (b : Bool) (s : Signed) (entry : Signature) (more : List Signed) (mores : List Signature) → entry ≡ signed s → mores ≡ map signed more
      → cond b (entry ∷ mores) mores ≡ map signed (cond b (s ∷ more) more)
  chosen true s entry more mores e m = λ i. e i ∷ m i
  chosen false s entry more mores e m = m

  function_by : (r : Role) (s : Signed) (entry : Signature) (more : List Signed) (mores : List Signature) → entry ≡ signed s → mores ≡ map signed (filter (λ t. not (is_total t)) more)
      → cond (is_kind kind.Functions r && not (bytes_eq s.0 (codes "total-cost"))) (entry ∷ mores) mores ≡ map signed (filter (λ t. not (is_total t)) (with_function r s more))
  function_by role.Function s entry more mores e m = chosen (not (is_total s)) s entry (filter (λ t. not (is_total t)) more) mores e m
  function_by _ s entry more mores e m = m

  pub functions_are : (words : List Word) → entries_said number kind.Functions words ≡ map signed (filter (λ t. not (is_total t)) (functions_in words))
  functions_are [] = refl
  functions_are (w ∷ rest) =
      function_by w.role (w.text, types_of (own_params rest)) (entry_said number kind.Functions w rest) (functions_in rest) (entries_said number kind.Functions rest)
      (numbered w (types_of (own_params rest)) (entry_said number kind.Functions w rest) refl) (functions_are rest)

  action_by : (r : Role) (a : ActionWords) (entry : Signature) (more : List ActionWords) (mores : List Signature) → entry ≡ action_said names a → mores ≡ map (action_said names) more
      → cond (is_kind kind.Actions r && true) (entry ∷ mores) mores ≡ map (action_said names) (with_action r a more)
  action_by role.Action a entry more mores e m = λ i. e i ∷ m i
  action_by _ a entry more mores e m = m

  pub actions_are : (words : List Word) → entries_said number kind.Actions words ≡ map (action_said names) (actions_in words)
  actions_are [] = refl
  actions_are (w ∷ rest) =
      action_by w.role (w.text, rest) (entry_said number kind.Actions w rest) (actions_in rest) (entries_said number kind.Actions rest)
      (numbered w (types_of (action_params rest)) (entry_said number kind.Actions w rest) refl) (actions_are rest)

-- ---- names, and numbers of types

pub naming_is : (k : Kind) (r : Role) → is_kind k r ≡ true → is_naming r ≡ true
naming_is kind.Types role.ListedType is = refl
naming_is kind.Types _ is = absurd (true≢false (sym is))
naming_is kind.Objects role.ListedObject is = refl
naming_is kind.Objects _ is = absurd (true≢false (sym is))
naming_is kind.Predicates role.Predicate is = refl
naming_is kind.Predicates _ is = absurd (true≢false (sym is))
naming_is kind.Functions role.Function is = refl
naming_is kind.Functions _ is = absurd (true≢false (sym is))
naming_is kind.Actions role.Action is = refl
naming_is kind.Actions _ is = absurd (true≢false (sym is))

-- what holds of each entry
module _ (number : Text → ℕ) (k : Kind) (p : Signature → Bool)
    (each : (w : Word) (rest : List Word) → is_entry_word k w ≡ true → IsFormed w → p (entry_said number k w rest) ≡ true) where
  pass_by : (w : Word) (rest : List Word) (b : Bool) → is_entry_word k w ≡ b → IsFormed w → list_all p (entries_said number k rest) ≡ true
      → list_all p (cond b (entry_said number k w rest ∷ entries_said number k rest) (entries_said number k rest)) ≡ true
  pass_by w rest true is formed more = and_from (p (entry_said number k w rest)) (list_all p (entries_said number k rest)) (each w rest is formed) more
  pass_by w rest false is formed more = more

  entries_pass : (words : List Word) → AreFormed words → list_all p (entries_said number k words) ≡ true
  entries_pass [] formed = refl
  entries_pass (w ∷ rest) formed = pass_by w rest (is_entry_word k w) refl (All-head IsFormed w rest formed) (entries_pass rest (All-tail IsFormed w rest formed))

kind_of : (k : Kind) (w : Word) → is_entry_word k w ≡ true → is_kind k w.role ≡ true
kind_of k w is = (and_parts (is_kind k w.role) (not (is_left_out k w.text)) is).0

module _ (number : Text → ℕ) (entries : List (Text × ℕ)) (small : (name : Text) → number name < length entries) where
  signature_passes : (k : Kind) (w : Word) (rest : List Word) → is_entry_word k w ≡ true → IsFormed w → is_signature entries (entry_said number k w rest) ≡ true
  signature_passes k w rest is formed =
      and_from (is_name w.text) (list_all (λ type. nat_lt type (length entries)) (map number (params_behind k rest)))
      (formed.name (naming_is k w.role (kind_of k w is)))
      (all_map (λ type. nat_lt type (length entries)) number (params_behind k rest)
      (all_ways (λ name. nat_lt (number name) (length entries)) (λ name. (Decides-ltb (number name) (length entries)).1 (small name)) (params_behind k rest)))

  pub signatures_pass : (k : Kind) (words : List Word) → AreFormed words → list_all (is_signature entries) (entries_said number k words) ≡ true
  signatures_pass k = entries_pass number k (is_signature entries) (signature_passes k)

-- none of the functions is `total-cost`
pub no_total : (number : Text → ℕ) (words : List Word) → AreFormed words → list_all is_no_total (entries_said number kind.Functions words) ≡ true
no_total number = entries_pass number kind.Functions is_no_total (λ w rest is formed. (and_parts (is_kind kind.Functions w.role) (not (is_left_out kind.Functions w.text)) is).1)

-- ---- no two have the same name

-- things of the kind that are declared again break the rule
abbrev pub is_declared_once : Kind → Bool
is_declared_once kind.Predicates = true
is_declared_once kind.Functions = true
is_declared_once kind.Actions = true
is_declared_once k = false

again_by : (base : Declared) (k : Kind) (r : Role) (text : Text) (at : Place) (before rest : List Word) → is_declared_once k ≡ true → is_kind k r ≡ true
    → breaks base before (record { role = r; text = text; at = at }) rest rule.Twice ≡ false → is_again before (record { role = r; text = text; at = at }) ≡ false
again_by base kind.Types r text at before rest once is kept = absurd (true≢false (sym once))
again_by base kind.Objects r text at before rest once is kept = absurd (true≢false (sym once))
again_by base kind.Predicates role.Predicate text at before rest once is kept = kept
again_by base kind.Predicates _ text at before rest once is kept = absurd (true≢false (sym is))
again_by base kind.Functions role.Function text at before rest once is kept = kept
again_by base kind.Functions _ text at before rest once is kept = absurd (true≢false (sym is))
again_by base kind.Actions role.Action text at before rest once is kept = kept
again_by base kind.Actions _ text at before rest once is kept = absurd (true≢false (sym is))

once_is : (k : Kind) → is_declared_once k ≡ true → is_once k ≡ true
once_is kind.Types once = refl
once_is kind.Objects once = absurd (true≢false (sym once))
once_is kind.Predicates once = refl
once_is kind.Functions once = refl
once_is kind.Actions once = refl

module _ (base : Declared) (k : Kind) (once : is_declared_once k ≡ true) (words : List Word) (named : IsNamed base words) (number : Text → ℕ) where
  none_before : (before : List Word) (w : Word) (rest : List Word) → words ≡ before ++ w ∷ rest → is_kind k w.role ≡ true → list_any (declares k w.text) before ≡ false
  none_before before w rest split is =
      (λ i. list_any (λ v. same_kind k w.role (once_is k once) is v.role i && bytes_eq v.text w.text) before)
      ∙ again_by base k w.role w.text w.at before rest once is (named before w rest split rule.Twice)

  name_by : (text : Text) (before : List Word) (w : Word) (rest : List Word) → words ≡ before ++ w ∷ rest → list_any (declares k text) before ≡ true → (b : Bool) → is_entry_word k w ≡ b
      → list_any (λ s. bytes_eq text s.name) (entries_said number k rest) ≡ false
      → list_any (λ s. bytes_eq text s.name) (cond b (entry_said number k w rest ∷ entries_said number k rest) (entries_said number k rest)) ≡ false
  name_by text before w rest split declared false is more = more
  name_by text before w rest split declared true is more =
      let apart : bytes_eq text w.text ≡ false =
      false_from_ne_true (bytes_eq text w.text)
      (λ same. true≢false (sym (ap (λ t. list_any (declares k t) before) (sym ((same_numbers-decides text w.text).0 same)) ∙ declared) ∙ none_before before w rest split (kind_of k w is))) in
      ap (λ b. b || list_any (λ s. bytes_eq text s.name) (entries_said number k rest)) apart ∙ more

  none_behind : (text : Text) (before rest : List Word) → words ≡ before ++ rest → list_any (declares k text) before ≡ true → list_any (λ s. bytes_eq text s.name) (entries_said number k rest) ≡ false
  none_behind text before [] split declared = refl
  none_behind text before (w ∷ rest) split declared =
      name_by text before w rest split declared (is_entry_word k w) refl
      (none_behind text (before ++ w ∷ []) rest (split ∙ sym (append_assoc before (w ∷ []) rest))
      (list_any-append (declares k text) before (w ∷ []) ∙ or_left (list_any (declares k text) before) (list_any (declares k text) (w ∷ [])) declared))

  distinct_by : (before : List Word) (w : Word) (rest : List Word) → words ≡ before ++ w ∷ rest → (b : Bool) → is_entry_word k w ≡ b → are_distinct same_word (entries_said number k rest) ≡ true
      → are_distinct same_word (cond b (entry_said number k w rest ∷ entries_said number k rest) (entries_said number k rest)) ≡ true
  distinct_by before w rest split false is more = more
  distinct_by before w rest split true is more =
      let here : list_any (declares k w.text) (before ++ w ∷ []) ≡ true =
      list_any-append (declares k w.text) before (w ∷ [])
      ∙ or_right (list_any (declares k w.text) before) (list_any (declares k w.text) (w ∷ []))
      (or_left (declares k w.text w) false (and_from (is_kind k w.role) (bytes_eq w.text w.text) (kind_of k w is) ((same_numbers-decides w.text w.text).1 refl))) in
      and_from (not (list_any (same_word (entry_said number k w rest)) (entries_said number k rest))) (are_distinct same_word (entries_said number k rest))
      (not_from_false (list_any (same_word (entry_said number k w rest)) (entries_said number k rest))
      (none_behind w.text (before ++ w ∷ []) rest (split ∙ sym (append_assoc before (w ∷ []) rest)) here)) more

  distinct_from : (before rest : List Word) → words ≡ before ++ rest → are_distinct same_word (entries_said number k rest) ≡ true
  distinct_from before [] split = refl
  distinct_from before (w ∷ rest) split =
      distinct_by before w rest split (is_entry_word k w) refl (distinct_from (before ++ w ∷ []) rest (split ∙ sym (append_assoc before (w ∷ []) rest)))

  pub signatures_distinct : are_distinct same_word (entries_said number k words) ≡ true
  signatures_distinct = distinct_from [] words refl

  pub signatures_sound : (entries : List (Text × ℕ)) → ((name : Text) → number name < length entries) → AreFormed words → are_signatures entries (entries_said number k words) ≡ true
  signatures_sound entries small formed =
      and_from (list_all (is_signature entries) (entries_said number k words)) (are_distinct same_word (entries_said number k words))
      (signatures_pass number entries small k words formed) signatures_distinct
