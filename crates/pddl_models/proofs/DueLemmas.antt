-- In well-named words each head is declared, and its terms have the types that they must have.
use Rattle.std.proofs.Common.{◌≡◌, ℕ, ◌+◌, suc, Bool, true, false, cond, Some, None, Option, List, [], ◌∷◌, ◌++◌, length, refl, sym, ap, subst, ◌∙◌, arith, zero-add, add-zero, append_assoc}
use Rattle.std.specs.Prelude.{◌==◌, not, slice_get, reverse, take_while, find}
use Rattle.std.specs.Option.{option_and_then, option_map_or}
use Rattle.std.specs.Cmp.Lexicographic.{pointwise}
use Rattle.std.proofs.lemmas.Bool.{true≢false, and_from, eqb-true}
use Rattle.std.proofs.lemmas.List.{reverse-append}
use Rattle.std.proofs.lemmas.List.Sums.{take_while-cons}
use Rattle.mre_base.specs.declared.text.Text.{Text}
use Rattle.pddl_text.specs.declared.fault.TextRule.TheVariants as rule
use Rattle.pddl_text.specs.declared.place.Place.{Place}
use Rattle.pddl_names.specs.declared.role.Role.{Role}
use Rattle.pddl_names.specs.declared.role.Role.TheVariants as role
use Rattle.pddl_names.specs.declared.role.Word.{Word}
use Rattle.pddl_names.specs.Heads.{is_head}
use Rattle.pddl_names.specs.Listings.{Typed, Declared, declared, is_term, terms_behind, action_params, is_below}
use Rattle.pddl_names.specs.Naming.{is_action, is_none, is_other_length, is_misfit, is_undeclared, is_wrong_arity, is_wrong_type, action_words, params_round, head_of, terms_before, due_types, due_type, term_type, IsNamed}
use Rattle.pddl_models.proofs.AgreeLemmas.{is_due}
use Rattle.pddl_models.proofs.SayingLemmas.{terms_more, terms_end}

abbrev word : Role → Text → Place → Word
word r text at = record { role = r; text = text; at = at }

-- ---- which rules heads and terms may break

module _ (known : Declared) (before : List Word) (text : Text) (at : Place) (rest : List Word) where
  head_none : (r : Role) → is_head r ≡ true → is_undeclared known before (word r text at) rest ≡ is_none (due_types known (word r text at))
  head_none (role.Head says) is = refl
  head_none role.Cost is = refl
  head_none role.Value is = refl
  head_none _ is = absurd (true≢false (sym is))

  head_arity : (r : Role) → is_head r ≡ true → is_wrong_arity known (word r text at) rest ≡ is_other_length (due_types known (word r text at)) (length (terms_behind rest))
  head_arity (role.Head says) is = refl
  head_arity role.Cost is = refl
  head_arity role.Value is = refl
  head_arity _ is = absurd (true≢false (sym is))

  head_no_term : (r : Role) → is_head r ≡ true → is_term (word r text at) ≡ false
  head_no_term (role.Head says) is = refl
  head_no_term role.Cost is = refl
  head_no_term role.Value is = refl
  head_no_term _ is = absurd (true≢false (sym is))

  head_no_action : (r : Role) → is_head r ≡ true → is_action (word r text at) ≡ false
  head_no_action (role.Head says) is = refl
  head_no_action role.Cost is = refl
  head_no_action role.Value is = refl
  head_no_action _ is = absurd (true≢false (sym is))

  term_no_action : (r : Role) → is_term (word r text at) ≡ true → is_action (word r text at) ≡ false
  term_no_action role.Term is = refl
  term_no_action _ is = absurd (true≢false (sym is))

  term_none : (r : Role) → is_term (word r text at) ≡ true → is_undeclared known before (word r text at) rest ≡ is_none (term_type known (params_round before (word r text at) rest) text)
  term_none role.Term is = refl
  term_none _ is = absurd (true≢false (sym is))

  term_misfit : (r : Role) → is_term (word r text at) ≡ true
      → is_wrong_type known before (word r text at) rest ≡ is_misfit known.types (term_type known (params_round before (word r text at) rest) text) (due_type known before)
  term_misfit role.Term is = refl
  term_misfit _ is = absurd (true≢false (sym is))

-- ---- one more word before

reverse_more : (before : List Word) (w : Word) → reverse (before ++ w ∷ []) ≡ w ∷ reverse before
reverse_more before w = reverse-append before (w ∷ [])

head_more : (before : List Word) (w : Word) → is_term w ≡ true → head_of (before ++ w ∷ []) ≡ head_of before
head_more before w is = ap (find (λ v. not (is_term v))) (reverse_more before w) ∙ ap (λ b. cond (not b) (Some w) (head_of before)) is

head_here : (before : List Word) (w : Word) → is_term w ≡ false → head_of (before ++ w ∷ []) ≡ Some w
head_here before w is = ap (find (λ v. not (is_term v))) (reverse_more before w) ∙ ap (λ b. cond (not b) (Some w) (head_of before)) is

count_more : (before : List Word) (w : Word) → is_term w ≡ true → terms_before (before ++ w ∷ []) ≡ suc (terms_before before)
count_more before w is =
    ap (λ ws. length (take_while is_term ws)) (reverse_more before w) ∙ ap length (take_while-cons is_term w (reverse before) ∙ ap (λ b. cond b (w ∷ take_while is_term (reverse before)) []) is)

count_none : (before : List Word) (w : Word) → is_term w ≡ false → terms_before (before ++ w ∷ []) ≡ 0
count_none before w is =
    ap (λ ws. length (take_while is_term ws)) (reverse_more before w) ∙ ap length (take_while-cons is_term w (reverse before) ∙ ap (λ b. cond b (w ∷ take_while is_term (reverse before)) []) is)

abbrev no_action : Word → Bool
no_action w = not (is_action w)

pub round_more : (before : List Word) (w : Word) → is_action w ≡ false → action_words (before ++ w ∷ []) ≡ action_words before ++ w ∷ []
round_more before w is =
    ap (λ ws. reverse (take_while no_action ws)) (reverse_more before w)
    ∙ ap reverse (take_while-cons no_action w (reverse before) ∙ ap (λ b. cond (not b) (w ∷ take_while no_action (reverse before)) []) is)
    ∙ reverse-append (w ∷ []) (take_while no_action (reverse before))

pub round_here : (before : List Word) (w : Word) → is_action w ≡ true → action_words (before ++ w ∷ []) ≡ []
round_here before w is =
    ap (λ ws. reverse (take_while no_action ws)) (reverse_more before w)
    ∙ ap reverse (take_while-cons no_action w (reverse before) ∙ ap (λ b. cond (not b) (w ∷ take_while no_action (reverse before)) []) is)

-- ---- the terms of a head, one by one

fits_by : (types : List Typed) (o due : Option Text) (d : Text) → due ≡ Some d → is_none o ≡ false → is_misfit types o due ≡ false → option_map_or (λ (type : Text). is_below types type d) o false ≡ true
fits_by types None due d is some fit = absurd (true≢false some)
fits_by types (Some type) due d is some fit = by (is_below types type d) (sym (ap (is_misfit types (Some type)) is) ∙ fit)
  where
    by : (b : Bool) → not b ≡ false → b ≡ true
    by true e = refl
    by false e = absurd (true≢false e)

some_of : {X : Type 0} (o : Option X) → is_none o ≡ false → (x : X) × (o ≡ Some x)
some_of None e = absurd (true≢false e)
some_of (Some x) e = (x, refl)

same_length : (o : Option (List Text)) (types : List Text) (n : ℕ) → o ≡ Some types → is_other_length o n ≡ false → length types ≡ n
same_length o types n is e = by (length types == n) refl (sym (ap (λ p. is_other_length p n) is) ∙ e)
  where
    by : (b : Bool) → (length types == n) ≡ b → not b ≡ false → length types ≡ n
    by true same e = eqb-true (length types) n same
    by false same e = absurd (true≢false e)

module _ (base : Declared) (said : List Word) (named : IsNamed base said) where
  abbrev known : Declared
  known = declared base said

  undeclared : (before : List Word) (w : Word) (rest : List Word) → said ≡ before ++ w ∷ rest → is_undeclared known before w rest ≡ false
  undeclared before w rest split = ap (λ ws. is_undeclared (declared base ws) before w rest) split ∙ named before w rest split rule.Undeclared

  wrong_arity : (before : List Word) (w : Word) (rest : List Word) → said ≡ before ++ w ∷ rest → is_wrong_arity known w rest ≡ false
  wrong_arity before w rest split = ap (λ ws. is_wrong_arity (declared base ws) w rest) split ∙ named before w rest split rule.WrongArity

  wrong_type : (before : List Word) (w : Word) (rest : List Word) → said ≡ before ++ w ∷ rest → is_wrong_type known before w rest ≡ false
  wrong_type before w rest split = ap (λ ws. is_wrong_type (declared base ws) before w rest) split ∙ named before w rest split rule.WrongType

  module _ (h : Word) (dues : List Text) (types : due_types known h ≡ Some dues) (behind : List Word) where
    -- that many terms of the head have been passed
    record Walks (before rest : List Word) (n : ℕ) : Type 0 where
      split : said ≡ before ++ rest
      head : head_of before ≡ Some h
      count : terms_before before ≡ n
      round : action_words before ++ rest ≡ behind

    walk : (before : List Word) (w : Word) (rest : List Word) (n : ℕ) → is_term w ≡ true → Walks before (w ∷ rest) n → Walks (before ++ w ∷ []) rest (suc n)
    walk before w rest n is walks = record {
      split = walks.split ∙ sym (append_assoc before (w ∷ []) rest);
      head = head_more before w is ∙ walks.head;
      count = count_more before w is ∙ ap suc walks.count;
      round = ap (λ ws. ws ++ rest) (round_more before w (term_no_action known before w.text w.at rest w.role is)) ∙ append_assoc (action_words before) (w ∷ []) rest ∙ walks.round;
    }

    term_due : (before : List Word) (w : Word) (rest : List Word) (n : ℕ) (d : Text) → is_term w ≡ true → Walks before (w ∷ rest) n → slice_get dues n ≡ Some d → is_due known (action_params behind) w.text d ≡ true
    term_due before w rest n d is walks due =
        fits_by known.types (term_type known (action_params behind) w.text) (due_type known before) d
        ((λ i. option_and_then (λ head. option_and_then (λ types. slice_get types (walks.count i)) (due_types known head)) (walks.head i))
        ∙ ap (λ o. option_and_then (λ ts. slice_get ts n) o) types ∙ due)
        (ap (λ ws. is_none (term_type known (action_params ws) w.text)) (sym walks.round) ∙ sym (term_none known before w.text w.at rest w.role is) ∙ undeclared before w rest walks.split)
        (ap (λ ws. is_misfit known.types (term_type known (action_params ws) w.text) (due_type known before)) (sym walks.round) ∙ sym (term_misfit known before w.text w.at rest w.role is) ∙ wrong_type before w rest walks.split)

    abbrev AllDue : List Text → List Text → Type 0
    AllDue texts ds = pointwise (is_due known (action_params behind)) texts ds ≡ true

    no_dues : (texts ds : List Text) → texts ≡ [] → length texts ≡ length ds → AllDue texts ds
    no_dues [] [] is count = refl
    no_dues [] (d ∷ ds) is count = absurd (omega (arith, count))
    no_dues (t ∷ texts) ds is count = absurd (cc)

    some_dues : (text : Text) (texts ds : List Text) (n : ℕ) → ((k : ℕ) → slice_get ds k ≡ slice_get dues (n + k)) → length (text ∷ texts) ≡ length ds
        → ((d : Text) → slice_get dues n ≡ Some d → is_due known (action_params behind) text d ≡ true)
        → ((es : List Text) → ((k : ℕ) → slice_get es k ≡ slice_get dues (suc n + k)) → length texts ≡ length es → AllDue texts es)
        → AllDue (text ∷ texts) ds
    some_dues text texts [] n at count here later = absurd (omega (arith, count))
    some_dues text texts (d ∷ ds) n at count here later =
        and_from (is_due known (action_params behind) text d) (pointwise (is_due known (action_params behind)) texts ds)
        (here d (sym (at 0 ∙ ap (slice_get dues) (add-zero n))))
        (later ds (λ k. at (suc k) ∙ (let same : n + suc k ≡ suc n + k = omega arith in ap (slice_get dues) same)) (omega (arith, count)))

    terms_due : (rest before : List Word) (n : ℕ) (ds : List Text) → ((k : ℕ) → slice_get ds k ≡ slice_get dues (n + k)) → length (terms_behind rest) ≡ length ds → Walks before rest n → AllDue (terms_behind rest) ds
    terms_due [] before n ds at count walks = no_dues (terms_behind []) ds refl count
    terms_due (w ∷ rest) before n ds at count walks =
        by (is_term w) refl (λ is es at_more count_more. terms_due rest (before ++ w ∷ []) (suc n) es at_more count_more (walk before w rest n is walks))
      where
        by : (b : Bool) → is_term w ≡ b
            → (is_term w ≡ true → (es : List Text) → ((k : ℕ) → slice_get es k ≡ slice_get dues (suc n + k)) → length (terms_behind rest) ≡ length es → AllDue (terms_behind rest) es)
            → AllDue (terms_behind (w ∷ rest)) ds
        by true is more =
            subst (λ ts. AllDue ts ds) (sym (terms_more w rest is))
            (some_dues w.text (terms_behind rest) ds n at (sym (ap length (terms_more w rest is)) ∙ count) (λ d due. term_due before w rest n d is walks due) (more is))
        by false is more = no_dues (terms_behind (w ∷ rest)) ds (terms_end w rest is) count

  -- a head is declared, and its terms have the types that they must have
  pub record HeadDue (before : List Word) (h : Word) (rest : List Word) : Type 0 where
    pub dues : List Text
    pub types : due_types known h ≡ Some dues
    pub fit : pointwise (is_due known (action_params (action_words before ++ h ∷ rest))) (terms_behind rest) dues ≡ true

  pub head_due : (before : List Word) (h : Word) (rest : List Word) → said ≡ before ++ h ∷ rest → is_head h.role ≡ true → HeadDue before h rest
  head_due before h rest split is =
      let some = some_of (due_types known h) (sym (head_none known before h.text h.at rest h.role is) ∙ undeclared before h rest split) in
      let no_term = head_no_term known before h.text h.at rest h.role is in
      let count = same_length (due_types known h) some.0 (length (terms_behind rest)) some.1 (sym (head_arity known before h.text h.at rest h.role is) ∙ wrong_arity before h rest split) in
      record {
        dues = some.0;
        types = some.1;
        fit = terms_due h some.0 some.1 (action_words before ++ h ∷ rest) rest (before ++ h ∷ []) 0 some.0 (λ k. ap (slice_get some.0) (sym (zero-add k))) (sym count) (record {
          split = split ∙ sym (append_assoc before (h ∷ []) rest);
          head = head_here before h no_term;
          count = count_none before h no_term;
          round = ap (λ ws. ws ++ rest) (round_more before h (head_no_action known before h.text h.at rest h.role is)) ∙ append_assoc (action_words before) (h ∷ []) rest;
        });
      }
