-- The words of an action up to a word, and the terms before it, word by word.
use Rattle.std.proofs.Common.{◌≡◌, ℕ, ◌+◌, ◌-◌, ◌≤◌, ◌||◌, zero, suc, Bool, true, false, cond, Some, List, [], ◌∷◌, ◌++◌, length, take, drop, refl, sym, ap, ◌∙◌, arith}
use Rattle.std.specs.Prelude.{not, slice_get, reverse, take_while, find, if◌then◌else◌}
use Rattle.std.specs.List.{list_any, between}
use Rattle.std.proofs.lemmas.Bool.{or_left, or_right}
use Rattle.std.proofs.lemmas.List.{take-append-drop, drop-drop, reverse-append}
use Rattle.std.proofs.lemmas.List.Edits.{between_none, between_more}
use Rattle.std.proofs.lemmas.List.Sums.{take_while-cons}
use Rattle.std.proofs.lemmas.Option.{slice_get_within, get_or_from_slice_get}
use Rattle.mre_base.proofs.Loops.{take_item, drop_item}
use Rattle.mre_base.proofs.Listed.{item_at}
use Rattle.mre_base.proofs.Tests.{or_false}
use Rattle.std.proofs.lemmas.List.Folds.{list_any-append}
use Rattle.pddl_names.specs.declared.role.Word.{Word}
use Rattle.pddl_names.specs.Listings.{is_term}
use Rattle.pddl_names.specs.Naming.{is_action, action_words, head_of, terms_before}

module _ {X : Type 0} where
  pub between_item : (xs : List X) (from i : ℕ) (x : X) → from ≤ i → slice_get xs i ≡ Some x → between from (i + 1) xs ≡ between from i xs ++ x ∷ []
  between_item xs from i x le at = between_more xs from i x le (slice_get_within xs i x at) ∙ ap (λ y. between from i xs ++ y ∷ []) (get_or_from_slice_get xs i x x at)

  any_last : (t : X → Bool) (xs : List X) (x : X) → list_any t (xs ++ x ∷ []) ≡ (list_any t xs || t x)
  any_last t xs x = list_any-append t xs (x ∷ []) ∙ ap (λ b. list_any t xs || b) (or_false (t x))

  pub none_more : (t : X → Bool) (xs : List X) (from i : ℕ) → from ≤ i → (x : X) → slice_get xs i ≡ Some x → t x ≡ false → list_any t (between from i xs) ≡ false → list_any t (between from (i + 1) xs) ≡ false
  none_more t xs from i le x at miss none =
      ap (list_any t) (between_item xs from i x le at) ∙ any_last t (between from i xs) x ∙ (λ j. none j || miss j)

  any_further : (t : X → Bool) (xs : List X) (from i k : ℕ) → from ≤ i → i + k ≤ length xs → list_any t (between from i xs) ≡ true → list_any t (between from (i + k) xs) ≡ true
  any_further t xs from i zero le within any = let same : i ≡ i + 0 = omega arith in ap (λ j. list_any t (between from j xs)) (sym same) ∙ any
  any_further t xs from i (suc k) le within any =
      let x = item_at xs (i + k) (omega arith) in
      let next : i + suc k ≡ i + k + 1 = omega arith in
      let up : from ≤ i + k = omega arith in
      ap (λ j. list_any t (between from j xs)) next ∙ ap (list_any t) (between_item xs from (i + k) x.0 up x.1) ∙ any_last t (between from (i + k) xs) x.0
      ∙ or_left (list_any t (between from (i + k) xs)) (t x.0) (any_further t xs from i k le (omega arith) any)

  pub any_here : (t : X → Bool) (xs : List X) (from i place : ℕ) → from ≤ i → i + 1 ≤ place → place ≤ length xs → (x : X) → slice_get xs i ≡ Some x → t x ≡ true → list_any t (between from place xs) ≡ true
  any_here t xs from i place le reach inside x at hit =
      let here = ap (list_any t) (between_item xs from i x le at) ∙ any_last t (between from i xs) x ∙ or_right (list_any t (between from i xs)) (t x) hit in
      let up : from ≤ i + 1 = omega arith in
      let whole : i + 1 + (place - (i + 1)) ≡ place = omega arith in
      ap (λ j. list_any t (between from j xs)) (sym whole) ∙ any_further t xs from (i + 1) (place - (i + 1)) up (omega arith) here

  -- the rest from one place on, up to an item and after it
  pub between_split : (xs : List X) (from place : ℕ) (x : X) → from ≤ place → slice_get xs place ≡ Some x → drop from xs ≡ between from place xs ++ x ∷ drop (place + 1) xs
  between_split xs from place x le at =
      let whole : from + (place - from) ≡ place = omega arith in
      sym (take-append-drop (place - from) (drop from xs)) ∙ ap (λ ys. between from place xs ++ ys) (drop-drop (place - from) from xs ∙ ap (λ n. drop n xs) whole ∙ drop_item xs place x at)

-- ---- the words of the action

action_by : (b : Bool) (w : Word) (front : List Word) → not (is_action w) ≡ b
    → reverse (cond b (w ∷ take_while (λ v. not (is_action v)) (reverse front)) []) ≡ (if b then action_words front ++ w ∷ [] else [])
action_by true w front is = reverse-append (w ∷ []) (take_while (λ v. not (is_action v)) (reverse front))
action_by false w front is = refl

pub action_more : (front : List Word) (w : Word) → action_words (front ++ w ∷ []) ≡ (if not (is_action w) then action_words front ++ w ∷ [] else [])
action_more front w =
    ap (λ ws. reverse (take_while (λ v. not (is_action v)) ws)) (reverse-append front (w ∷ []))
    ∙ ap reverse (take_while-cons (λ v. not (is_action v)) w (reverse front))
    ∙ action_by (not (is_action w)) w front refl

module _ (words : List Word) (place : ℕ) (w : Word) (at : slice_get words place ≡ Some w) where
  pub words_on : (start : ℕ) → start ≤ place → is_action w ≡ false → action_words (take place words) ≡ between start place words → action_words (take (place + 1) words) ≡ between start (place + 1) words
  words_on start le not_action known =
      ap action_words (take_item words place w at) ∙ action_more (take place words) w
      ∙ ap (λ b. if not b then action_words (take place words) ++ w ∷ [] else []) not_action
      ∙ ap (λ ws. ws ++ w ∷ []) known ∙ sym (between_item words start place w le at)

  pub words_anew : is_action w ≡ true → action_words (take (place + 1) words) ≡ between (place + 1) (place + 1) words
  words_anew is =
      ap action_words (take_item words place w at) ∙ action_more (take place words) w
      ∙ ap (λ b. if not b then action_words (take place words) ++ w ∷ [] else []) is ∙ sym (between_none words (place + 1))

  -- ---- the terms before a word

  head_by : (b : Bool) → is_term w ≡ b → head_of (take (place + 1) words) ≡ (if b then head_of (take place words) else Some w)
  head_by b is =
      ap head_of (take_item words place w at)
      ∙ ap (find (λ v. not (is_term v))) (reverse-append (take place words) (w ∷ []))
      ∙ ap (λ c. cond (not c) (Some w) (head_of (take place words))) is ∙ turned b
    where
      turned : (c : Bool) → cond (not c) (Some w) (head_of (take place words)) ≡ (if c then head_of (take place words) else Some w)
      turned true = refl
      turned false = refl

  count_by : (b : Bool) → is_term w ≡ b → terms_before (take (place + 1) words) ≡ (if b then suc (terms_before (take place words)) else 0)
  count_by b is =
      ap terms_before (take_item words place w at)
      ∙ ap (λ ws. length (take_while is_term ws)) (reverse-append (take place words) (w ∷ []))
      ∙ ap length (take_while-cons is_term w (reverse (take place words)))
      ∙ ap (λ c. length (cond c (w ∷ take_while is_term (reverse (take place words))) [])) is ∙ sized b
    where
      sized : (c : Bool) → length (cond c (w ∷ take_while is_term (reverse (take place words))) []) ≡ (if c then suc (terms_before (take place words)) else 0)
      sized true = refl
      sized false = refl

  pub head_on : is_term w ≡ true → head_of (take (place + 1) words) ≡ head_of (take place words)
  head_on is = head_by true is

  pub head_anew : is_term w ≡ false → head_of (take (place + 1) words) ≡ Some w
  head_anew is = head_by false is

  pub count_on : is_term w ≡ true → terms_before (take (place + 1) words) ≡ suc (terms_before (take place words))
  count_on is = count_by true is

  pub count_anew : is_term w ≡ false → terms_before (take (place + 1) words) ≡ 0
  count_anew is = count_by false is
