-- The first value of a call is found by a table of the calls, and its number is compared.
use Rattle.std.proofs.Common.{◌≡◌, ℕ, ◌+◌, ◌-◌, ◌<◌, ◌≤◌, ◌&&◌, ◌≢◌, zero, suc, Bool, true, false, cond, Some, None, Option, List, [], ◌∷◌, ◌++◌, length, take, drop, map, Ordering, Less, Equal, Greater, get_or, get_or-set_other, get_or-set_same, length-drop, length-take, refl, sym, ap, ◌∙◌, arith, ⊎_elim}
use Rattle.std.specs.Prelude.{◌==◌, not, nat_lt, slice_get, slice_set, slice_index, unwrap_or, take_while, if◌then◌else◌}
use Rattle.std.specs.BTreeMap.{BTreeMap, Updates, get}
use Rattle.std.specs.Cmp.Lexicographic.{pointwise, slice_cmp}
use Rattle.std.specs.List.{between, prefix_len}
use Rattle.std.specs.Map.{lookup}
use Rattle.std.specs.Option.{option_and_then}
use Rattle.std.specs.Ordering.{is_eq, nat_cmp, ordering_then}
use Rattle.std.specs.Str.{bytes_eq}
use Rattle.std.proofs.lemmas.Bool.{true≢false, cases_lt}
use Rattle.std.proofs.lemmas.Bool.Decides.{Decides-ltb}
use Rattle.std.proofs.lemmas.List.{length-map, take-append-drop, drop-take, take_all}
use Rattle.std.proofs.lemmas.List.Folds.{length-prefix_len}
use Rattle.std.proofs.lemmas.List.Sums.{prefix_len-le-length}
use Rattle.std.proofs.lemmas.Map.Text.{is_eq-slice_cmp}
use Rattle.std.proofs.lemmas.Option.{slice_get_within, slice_get_past}
use Rattle.mre_base.specs.declared.text.Text.{Text}
use Rattle.model_kit.proofs.Alike.{same_numbers-decides}
use Rattle.mre_base.proofs.Loops.{drop_item}
use Rattle.mre_base.proofs.Tests.{same_test}
use Rattle.pddl_form.specs.Numbers.{number}
use Rattle.pddl_names.specs.declared.calls.Call.{Call}
use Rattle.pddl_names.specs.declared.role.Role.{Role}
use Rattle.pddl_names.specs.declared.role.Role.TheVariants as role
use Rattle.pddl_names.specs.declared.role.Word.{Word}
use Rattle.pddl_names.specs.Calls.{names_in, call_cmp, is_call, AreCallsFrom, is_value_role}
use Rattle.pddl_names.specs.Groups.{AreTermCounts}
use Rattle.pddl_names.specs.Listings.{Signed, Given, is_term, terms_behind, past_terms, number_behind, with_given, values_in}
use Rattle.pddl_names.specs.Naming.{same_call, is_other_number}
use Rattle.pddl_names.specs.Tables.{call_at, value_at, first_value, AreFirstValues}
use Rattle.pddl_names.proofs.RoundLemmas.{between_split}
use Rattle.pddl_names.proofs.ScanLemmas.{index_read}
use Rattle.pddl_names.proofs.TreeLemmas.{same_back}

-- ---- keys

then_eq : (a b : Ordering) → is_eq (ordering_then a b) ≡ (is_eq a && is_eq b)
then_eq a b = by a
  where
    by : (o : Ordering) → is_eq (ordering_then o b) ≡ (is_eq o && is_eq b)
    by Less = refl
    by Equal = refl
    by Greater = refl

flipped : (xs ys : List (List ℕ)) → pointwise bytes_eq xs ys ≡ pointwise bytes_eq ys xs
flipped [] [] = refl
flipped [] (y ∷ ys) = refl
flipped (x ∷ xs) [] = refl
flipped (x ∷ xs) (y ∷ ys) = λ i. same_back x y i && flipped xs ys i

same_names : (xs ys : List (List ℕ)) → is_eq (slice_cmp (slice_cmp nat_cmp) xs ys) ≡ pointwise bytes_eq xs ys
same_names [] [] = refl
same_names [] (y ∷ ys) = refl
same_names (x ∷ xs) [] = refl
same_names (x ∷ xs) (y ∷ ys) =
    then_eq (slice_cmp nat_cmp x y) (slice_cmp (slice_cmp nat_cmp) xs ys) ∙ (λ i. is_eq-slice_cmp x y i && same_names xs ys i)

ties : (key other : Call) (call : Signed) → names_in key ≡ call.0 ∷ call.1 → is_eq (call_cmp key other) ≡ is_call other call
ties key other call is =
    same_names key.words.items other.words.items ∙ flipped (names_in key) (names_in other) ∙ (λ i. pointwise bytes_eq (names_in other) (is i))

-- ---- the names of a call

pub count_told : (words : List Word) (counts : List ℕ) → AreTermCounts words counts → (place : ℕ) (w : Word) → slice_get words place ≡ Some w → (n : ℕ) → n ≡ get_or counts place n
    → n ≡ length (terms_behind (drop (place + 1) words))
count_told words counts known place w at n is =
    let inside = slice_get_within words place w at in
    let within : place < length counts = omega (arith, inside, known.count) in
    is ∙ index_read counts place n within ∙ known.each place (omega arith) inside

module _ (words : List Word) (place : ℕ) (w : Word) (at : slice_get words place ≡ Some w) where
  abbrev rest_at : List Word
  rest_at = drop (place + 1) words

  terms_count : length (terms_behind rest_at) ≡ prefix_len is_term rest_at
  terms_count = length-map (take_while is_term rest_at) (λ (v : Word). v.text) ∙ length-prefix_len is_term rest_at

  pub call_inside : (count : ℕ) → count ≡ length (terms_behind rest_at) → place + 1 + count ≤ length words
  call_inside count is =
      let few = prefix_len-le-length is_term rest_at in
      let size = length-drop (place + 1) words in
      let inside = slice_get_within words place w at in
      let same = is ∙ terms_count in
      omega (arith, few, size, inside, same)

  pub call_names : (count : ℕ) → count ≡ length (terms_behind rest_at) → map (λ (v : Word). v.text) (between place (place + 1 + count) words) ≡ w.text ∷ terms_behind rest_at
  call_names count is =
      let long : place + 1 + count - place ≡ suc count = omega arith in
      ap (λ n. map (λ (v : Word). v.text) (take n (drop place words))) long
      ∙ ap (λ ws. map (λ (v : Word). v.text) (take (suc count) ws)) (drop_item words place w at)
      ∙ ap (λ n. w.text ∷ map (λ (v : Word). v.text) (take n rest_at)) (is ∙ terms_count)

  -- ---- the table of calls

  pub table_put : (from : ℕ) → from ≡ place + 1 → is_value_role w.role ≡ true → (call : Call) → names_in call ≡ w.text ∷ terms_behind rest_at
      → (old new : BTreeMap Call ℕ) → AreCallsFrom from (drop from words) old → Updates call_cmp old new call (Some place) → AreCallsFrom place (drop place words) new
  table_put from next is call names old new before updates key =
      updates.0 key
      ∙ (λ i. cond (ties call key (call_at w rest_at) names i) (Some place) ((before key ∙ ap (λ n. first_value (is_call key) n (drop n words)) next) i))
      ∙ (λ i. value_at (sym (role_value w.role is) i) place (is_call key (call_at w rest_at)) (first_value (is_call key) (place + 1) rest_at))
      ∙ ap (first_value (is_call key) place) (sym (drop_item words place w at))
    where
      role_value : (r : Role) → is_value_role r ≡ true → r ≡ role.Value
      role_value role.Value e = refl
      role_value _ e = absurd (true≢false (sym e))

  pub table_pass : (from : ℕ) → from ≡ place + 1 → is_value_role w.role ≡ false → (table : BTreeMap Call ℕ) → AreCallsFrom from (drop from words) table → AreCallsFrom place (drop place words) table
  table_pass from next is table before key =
      before key ∙ ap (λ n. first_value (is_call key) n (drop n words)) next
      ∙ sym (role_other w.role is (is_call key (call_at w rest_at)) (first_value (is_call key) (place + 1) rest_at))
      ∙ ap (first_value (is_call key) place) (sym (drop_item words place w at))
    where
      role_other : (r : Role) → is_value_role r ≡ false → (same : Bool) (later : Option ℕ) → value_at r place same later ≡ later
      role_other role.Value e same later = absurd (true≢false e)
      role_other _ e same later = refl

-- ---- the first value, and those before

value_other : (r : Role) → is_value_role r ≡ false → (place : ℕ) (same : Bool) (later : Option ℕ) → value_at r place same later ≡ later
value_other role.Value is place same later = absurd (true≢false is)
value_other _ is place same later = refl

value_is : (r : Role) → is_value_role r ≡ true → r ≡ role.Value
value_is role.Value is = refl
value_is _ is = absurd (true≢false (sym is))

given_other : (r : Role) → is_value_role r ≡ false → (e : Given) (more : List Given) → with_given r e more ≡ more
given_other role.Value is e more = absurd (true≢false is)
given_other _ is e more = refl

not_term : (w : Word) → w.role ≡ role.Value → is_term w ≡ false
not_term w is = (λ i. is_term (record { role = is i; text = w.text; at = w.at }))

-- a word that isn't a term ends the terms
ends_by : (b : Bool) (v : Word) (rest more : List Word) → terms_behind rest ≡ terms_behind more → map (λ (u : Word). u.text) (take (cond b (1 + prefix_len is_term rest) 0) (v ∷ rest)) ≡ map (λ (u : Word). u.text) (take (cond b (1 + prefix_len is_term more) 0) (v ∷ more))
ends_by true v rest more e =
    let one : 1 + prefix_len is_term rest ≡ suc (prefix_len is_term rest) = omega arith in
    let two : 1 + prefix_len is_term more ≡ suc (prefix_len is_term more) = omega arith in
    ap (λ n. map (λ (u : Word). u.text) (take n (v ∷ rest))) one ∙ ap (λ ts. v.text ∷ ts) e ∙ sym (ap (λ n. map (λ (u : Word). u.text) (take n (v ∷ more))) two)
ends_by false v rest more e = refl

ended_by : (w : Word) (rest : List Word) (b : Bool) → is_term w ≡ b → b ≡ false → map (λ (u : Word). u.text) (take (cond b (1 + prefix_len is_term rest) 0) (w ∷ rest)) ≡ []
ended_by w rest true is miss = absurd (true≢false miss)
ended_by w rest false is miss = refl

pub terms_end : (before : List Word) (w : Word) (rest : List Word) → is_term w ≡ false → terms_behind (before ++ w ∷ rest) ≡ terms_behind before
terms_end [] w rest miss = ended_by w rest (is_term w) refl miss
terms_end (v ∷ before) w rest miss = ends_by (is_term v) v (before ++ w ∷ rest) before (terms_end before w rest miss)

-- the word after the terms is where they end
past_by : (b : Bool) (v : Word) (rest : List Word) → past_terms rest ≡ slice_get rest (length (terms_behind rest))
    → cond (not b) (Some v) (past_terms rest) ≡ slice_get (v ∷ rest) (length (map (λ (u : Word). u.text) (take (cond b (1 + prefix_len is_term rest) 0) (v ∷ rest))))
past_by true v rest e =
    let one : 1 + prefix_len is_term rest ≡ suc (prefix_len is_term rest) = omega arith in
    e ∙ sym (ap (λ n. slice_get (v ∷ rest) (length (map (λ (u : Word). u.text) (take n (v ∷ rest))))) one)
past_by false v rest e = refl

past_is : (ws : List Word) → past_terms ws ≡ slice_get ws (length (terms_behind ws))
past_is [] = refl
past_is (v ∷ ws) = past_by (is_term v) v ws (past_is ws)

get_drop : {X : Type 0} (xs : List X) (n k : ℕ) → slice_get (drop n xs) k ≡ slice_get xs (n + k)
get_drop xs zero k = let same : k ≡ 0 + k = omega arith in ap (slice_get xs) same
get_drop {X = X} [] (suc n) k =
    let nil : List X = [] in
    slice_get_past nil k (omega arith) ∙ sym (slice_get_past nil (suc n + k) (omega arith))
get_drop (x ∷ xs) (suc n) k = let next : suc n + k ≡ suc (n + k) = omega arith in get_drop xs n k ∙ ap (slice_get (x ∷ xs)) (sym next)

pub number_read : (words : List Word) (n : ℕ) → number_behind (drop n words) ≡ unwrap_or (option_and_then (λ (w : Word). number w.text) (slice_get words (n + length (terms_behind (drop n words))))) 0
number_read words n = ap (λ o. unwrap_or (option_and_then (λ (w : Word). number w.text) o) 0) (past_is (drop n words) ∙ get_drop words n (length (terms_behind (drop n words))))

module _ (w : Word) (rest : List Word) (is : w.role ≡ role.Value) where
  abbrev call : Signed
  call = call_at w rest

  -- where the first value with the call of a word is, and what was given to it before
  record FirstOf (before : List Word) (from : ℕ) : Type 0 where
    first : ℕ
    found : first_value (same_call call) from (before ++ w ∷ rest) ≡ Some first
    low : from ≤ first
    high : first ≤ from + length before
    given : lookup (same_call call) (values_in before) ≡ (if nat_lt first (from + length before) then Some (number_behind (drop (first - from + 1) before)) else None)

  same_self : (c : Signed) → same_call c c ≡ true
  same_self c = (λ i. ((same_numbers-decides c.0 c.0).1 refl) i && texts c.1 i)
    where
      texts : (ts : List Text) → pointwise bytes_eq ts ts ≡ true
      texts [] = refl
      texts (t ∷ ts) = λ i. (same_numbers-decides t t).1 refl i && texts ts i

  first_here : (from : ℕ) → first_value (same_call call) from (w ∷ rest) ≡ Some from
  first_here from = (λ i. value_at (is i) from (same_self call i) (first_value (same_call call) (from + 1) rest))

  lt_false : (n m : ℕ) → m ≤ n → nat_lt n m ≡ false
  lt_false n m le = same_test (nat_lt n m) false (λ e. let lt = (Decides-ltb n m).0 e in absurd (omega (arith, le, lt))) (λ e. absurd (true≢false (sym e)))

  passed : (v : Word) (before : List Word) (from : ℕ) → FirstOf before (from + 1)
      → first_value (same_call call) from (v ∷ before ++ w ∷ rest) ≡ first_value (same_call call) (from + 1) (before ++ w ∷ rest)
      → lookup (same_call call) (values_in (v ∷ before)) ≡ lookup (same_call call) (values_in before) → FirstOf (v ∷ before) from
  passed v before from later one two =
      let size : from + 1 + length before ≡ from + suc (length before) = omega arith in
      let step : suc (later.first - (from + 1) + 1) ≡ later.first - from + 1 = omega (arith, later.low) in
      record {
        first = later.first;
        found = one ∙ later.found;
        low = omega (arith, later.low);
        high = omega (arith, later.high);
        given = two ∙ later.given ∙ (λ i. if nat_lt later.first (size i) then Some (number_behind (drop (step i) (v ∷ before))) else None);
      }

  value_by : (v : Word) (before : List Word) (from : ℕ) → v.role ≡ role.Value → FirstOf before (from + 1) → (b : Bool) → same_call call (v.text, terms_behind before) ≡ b → FirstOf (v ∷ before) from
  value_by v before from its later true same =
      let lt : from < from + suc (length before) = omega arith in
      let zero-step : 1 ≡ from - from + 1 = omega arith in
      record {
        first = from;
        found =
            (λ i. value_at (its i) from (same_call call (v.text, terms_end before w rest (not_term w is) i)) (first_value (same_call call) (from + 1) (before ++ w ∷ rest)))
            ∙ ap (λ c. cond c (Some from) (first_value (same_call call) (from + 1) (before ++ w ∷ rest))) same;
        low = omega arith;
        high = omega arith;
        given =
            (λ i. lookup (same_call call) (with_given (its i) ((v.text, terms_behind before), number_behind before) (values_in before)))
            ∙ ap (λ c. cond c (Some (number_behind before)) (lookup (same_call call) (values_in before))) same
            ∙ (λ i. if sym ((Decides-ltb from (from + suc (length before))).1 lt) i then Some (number_behind (drop (zero-step i) (v ∷ before))) else None);
      }
  value_by v before from its later false same =
      passed v before from later
      ((λ i. value_at (its i) from (same_call call (v.text, terms_end before w rest (not_term w is) i)) (first_value (same_call call) (from + 1) (before ++ w ∷ rest)))
      ∙ ap (λ c. cond c (Some from) (first_value (same_call call) (from + 1) (before ++ w ∷ rest))) same)
      ((λ i. lookup (same_call call) (with_given (its i) ((v.text, terms_behind before), number_behind before) (values_in before)))
      ∙ ap (λ c. cond c (Some (number_behind before)) (lookup (same_call call) (values_in before))) same)

  role_by : (v : Word) (before : List Word) (from : ℕ) → FirstOf before (from + 1) → (b : Bool) → is_value_role v.role ≡ b → FirstOf (v ∷ before) from
  role_by v before from later true its = value_by v before from (value_is v.role its) later (same_call call (v.text, terms_behind before)) refl
  role_by v before from later false its =
      passed v before from later
      (value_other v.role its from (same_call call (call_at v (before ++ w ∷ rest))) (first_value (same_call call) (from + 1) (before ++ w ∷ rest)))
      (ap (lookup (same_call call)) (given_other v.role its ((v.text, terms_behind before), number_behind before) (values_in before)))

  first_of_call : (before : List Word) (from : ℕ) → FirstOf before from
  first_of_call [] from = record {
    first = from;
    found = first_here from;
    low = omega arith;
    high = omega arith;
    given = λ i. if sym (lt_false from (from + 0) (omega arith)) i then Some (number_behind (drop (from - from + 1) [])) else None;
  }
  first_of_call (v ∷ before) from = role_by v before from (first_of_call before (from + 1)) (is_value_role v.role) refl

-- the values before a place have the places of their firsts
abbrev pub FirstsTo : List Word → ℕ → List ℕ → Type 0
FirstsTo words end firsts =
    (place : ℕ) (w : Word) → place < end → slice_get words place ≡ Some w → w.role ≡ role.Value
    → slice_index firsts place ≡ unwrap_or (first_value (same_call (call_at w (drop (place + 1) words))) 0 words) 0

module _ (words : List Word) (place : ℕ) (w : Word) (at : slice_get words place ≡ Some w) where
  one_word : (other : Word) → slice_get words place ≡ Some other → other ≡ w
  one_word other at_other = let same : Some other ≡ Some w = sym at_other ∙ at in cc

  pub firsts_pass : (firsts : List ℕ) → is_value_role w.role ≡ false → FirstsTo words place firsts → FirstsTo words (place + 1) firsts
  firsts_pass firsts miss before p v lt at_v is =
      ⊎_elim (λ earlier. before p v earlier at_v is)
      (λ late. let here : p ≡ place = omega arith in
      let same = one_word v (ap (slice_get words) (sym here) ∙ at_v) in
      absurd (true≢false (ap is_value_role (sym is ∙ ap (λ (u : Word). u.role) same) ∙ miss)))
      (cases_lt p place)

  pub firsts_put : (firsts : List ℕ) (first : ℕ) → place < length firsts → first ≡ unwrap_or (first_value (same_call (call_at w (drop (place + 1) words))) 0 words) 0
      → FirstsTo words place firsts → FirstsTo words (place + 1) (slice_set firsts place first)
  firsts_put firsts first inside told before p v lt at_v is =
      ⊎_elim
      (λ earlier. let apart : p ≢ place = omega arith in get_or-set_other firsts place p first 0 apart ∙ before p v earlier at_v is)
      (λ late. let here : p ≡ place = omega arith in
      let same = one_word v (ap (slice_get words) (sym here) ∙ at_v) in
      ap (λ n. get_or (slice_set firsts place first) n 0) here ∙ get_or-set_same firsts place first 0 inside ∙ told
      ∙ (λ i. unwrap_or (first_value (same_call (call_at (sym same i) (drop (sym here i + 1) words))) 0 words) 0))
      (cases_lt p place)

  pub first_told : (call : Call) (table : BTreeMap Call ℕ) → names_in call ≡ w.text ∷ terms_behind (drop (place + 1) words) → AreCallsFrom 0 words table
      → unwrap_or (get call_cmp table call) 0 ≡ unwrap_or (first_value (same_call (call_at w (drop (place + 1) words))) 0 words) 0
  first_told call table names are =
      ap (λ o. unwrap_or o 0) (are call ∙ (λ i. first_value (λ (g : Signed). pointwise bytes_eq (names i) (g.0 ∷ g.1)) 0 words))

  -- ---- whether the number is another

  abbrev front : List Word
  front = take place words

  abbrev rest : List Word
  rest = drop (place + 1) words

  whole : front ++ w ∷ rest ≡ words
  whole = ap (λ ws. front ++ ws) (sym (drop_item words place w at)) ∙ take-append-drop place words

  size : length front ≡ place
  size = let inside = slice_get_within words place w at in let l = length-take place words in omega (arith, inside, l)

  module _ (is : w.role ≡ role.Value) (values : List ℕ) (are : AreFirstValues words values) where
    of_call : FirstOf w rest is front 0
    of_call = first_of_call w rest is front 0

    first_is : slice_index values place ≡ of_call.first
    first_is =
        are place w at is ∙ ap (λ ws. unwrap_or (first_value (same_call (call_at w rest)) 0 ws) 0) (sym whole)
        ∙ ap (λ o. unwrap_or o 0) of_call.found

    before_by : (b : Bool) → nat_lt of_call.first (0 + length front) ≡ b
        → lookup (same_call (call_at w rest)) (values_in front) ≡ (if b then Some (number_behind (drop (of_call.first - 0 + 1) front)) else None)
    before_by b e = of_call.given ∙ ap (λ c. if c then Some (number_behind (drop (of_call.first - 0 + 1) front)) else None) e

    pub none_given : (first : ℕ) → first ≡ slice_index values place → place ≤ first → false ≡ is_other_number (lookup (same_call (call_at w rest)) (values_in front)) (number_behind rest)
    none_given first told late =
        let past : 0 + length front ≤ of_call.first = omega (arith, told, first_is, size, late) in
        sym (ap (λ o. is_other_number o (number_behind rest)) (before_by false (not_before of_call.first (0 + length front) past)))
      where
        not_before : (n m : ℕ) → m ≤ n → nat_lt n m ≡ false
        not_before n m le = same_test (nat_lt n m) false (λ e. let lt = (Decides-ltb n m).0 e in absurd (omega (arith, le, lt))) (λ e. absurd (true≢false (sym e)))

    pub some_given : (first : ℕ) → first ≡ slice_index values place → first < place
        → lookup (same_call (call_at w rest)) (values_in front) ≡ Some (number_behind (drop (first + 1) front))
    some_given first told early =
        let lt : of_call.first < 0 + length front = omega (arith, told, first_is, size, early) in
        let same : of_call.first - 0 + 1 ≡ first + 1 = omega (arith, told, first_is) in
        before_by true ((Decides-ltb of_call.first (0 + length front)).1 lt) ∙ ap (λ n. Some (number_behind (drop n front))) same

    -- the terms after an earlier word end before this one
    pub earlier_terms : (first : ℕ) → first < place → terms_behind (drop (first + 1) front) ≡ terms_behind (drop (first + 1) words)
    earlier_terms first early =
        let from : first + 1 ≤ place = omega arith in
        let long : first + 1 + (place - (first + 1)) ≡ place = omega arith in
        ap (λ n. terms_behind (drop (first + 1) (take n words))) (sym long) ∙ ap terms_behind (drop-take (first + 1) (place - (first + 1)) words)
        ∙ sym (terms_end (between (first + 1) place words) w rest (not_term w is))
        ∙ ap terms_behind (sym (between_split words (first + 1) place w from at))

    pub other_given : (first one two here there : ℕ) → first ≡ slice_index values place → first < place
        → there ≡ first + 1 + length (terms_behind (drop (first + 1) words)) → here ≡ place + 1 + length (terms_behind rest)
        → one ≡ unwrap_or (option_and_then (λ (v : Word). number v.text) (slice_get front there)) 0
        → two ≡ unwrap_or (option_and_then (λ (v : Word). number v.text) (slice_get (take (length words) words) here)) 0
        → not (one == two) ≡ is_other_number (lookup (same_call (call_at w rest)) (values_in front)) (number_behind rest)
    other_given first one two here there told early at_there at_here is_one is_two =
        let a : one ≡ number_behind (drop (first + 1) front) =
        (is_one ∙ ap (λ n. unwrap_or (option_and_then (λ (v : Word). number v.text) (slice_get front n)) 0)
        (at_there ∙ ap (λ ts. first + 1 + length ts) (sym (earlier_terms first early))) ∙ sym (number_read front (first + 1))) in
        let all : length words ≤ length words = omega arith in
        let b : two ≡ number_behind rest =
        (is_two ∙ (λ i. unwrap_or (option_and_then (λ (v : Word). number v.text) (slice_get (take_all (length words) words all i) (at_here i))) 0) ∙ sym (number_read words (place + 1))) in
        (λ i. not (a i == b i)) ∙ sym (ap (λ o. is_other_number o (number_behind rest)) (some_given first told early))
