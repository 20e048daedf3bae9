-- What a word is, in the words of its text.
use Rattle.std.proofs.Common.{◌≡◌, ◌≢◌, ℕ, ◌+◌, Bool, true, false, cond, List, [], ◌∷◌, take, drop, Option, Some, None, inl, inr, refl, ap, sym, ◌∙◌, add-one, arith}
use Rattle.std.specs.Prelude.{◌==◌, ◌||◌, ◌⊎◌, codes}
use Rattle.std.specs.List.{AllByRecursion}
use Rattle.std.specs.Option.{unwrap_or, is_some}
use Rattle.std.specs.Str.{bytes_eq}
use Rattle.std.proofs.lemmas.Bool.{or_right}
use Rattle.std.proofs.lemmas.Bool.Decides.{nat_tests}
use Rattle.std.proofs.lemmas.Slice.Eq.{bytes_eq-Decides}
use Rattle.pddl_text.specs.Bytes.{is_name_start}
use Rattle.pddl_form.specs.declared.sort.Sort.{Sort}
use Rattle.pddl_form.specs.declared.sort.Sort.TheVariants as word
use Rattle.pddl_form.specs.Grammar.{IsFree, IsVariable, IsNumber, reserved_words}
use Rattle.pddl_form.specs.Names.{is_reserved, is_free_sort, is_name_sort, is_term_sort}
use Rattle.pddl_form.specs.Numbers.{is_digit, with_digit, whole_number, point_at, are_zeros, number}
use Rattle.pddl_form.specs.Words.{spelling, meaning, meaning_among, own_words, is_name, is_variable, shape, sort}

-- ---- the grammar's own words

abbrev pub is_shape : Sort → Bool
is_shape word.Numeral = true
is_shape word.Name = true
is_shape word.Variable = true
is_shape word.Other = true
is_shape s = false

spelled_by : (x s : Sort) (text : List ℕ) (rest : Option Sort) (t : Bool) → bytes_eq text (spelling x) ≡ t → (rest ≡ Some s → text ≡ spelling s) → cond t (Some x) rest ≡ Some s → text ≡ spelling s
spelled_by x s text rest true is more e = let same : x ≡ s = cc in (bytes_eq-Decides text (spelling x)).0 is ∙ ap spelling same
spelled_by x s text rest false is more e = more e

meaning_spelled : (sorts : List Sort) (text : List ℕ) (s : Sort) → meaning sorts text ≡ Some s → text ≡ spelling s
meaning_spelled [] text s e = absurd cc
meaning_spelled (x ∷ sorts) text s e = spelled_by x s text (meaning sorts text) (bytes_eq text (spelling x)) refl (meaning_spelled sorts text s) e

among_by : (found : Option Sort) (rest s : Sort) (text : List ℕ) → ((x : Sort) → found ≡ Some x → text ≡ spelling x) → (rest ≡ s → (text ≡ spelling s) ⊎ (shape text ≡ s)) → unwrap_or found rest ≡ s → (text ≡ spelling s) ⊎ (shape text ≡ s)
among_by (Some x) rest s text spelled more e = inl (spelled x refl ∙ ap spelling e)
among_by None rest s text spelled more e = more e

among : (lists : List (List Sort)) (text : List ℕ) (s : Sort) → meaning_among lists text ≡ s → (text ≡ spelling s) ⊎ (shape text ≡ s)
among [] text s e = inr e
among (sorts ∷ lists) text s e = among_by (meaning sorts text) (meaning_among lists text) s text (meaning_spelled sorts text) (among lists text s) e

shape_by : (n a v : Bool) → is_shape (cond n word.Numeral (cond a word.Name (cond v word.Variable word.Other))) ≡ true
shape_by true a v = refl
shape_by false true v = refl
shape_by false false true = refl
shape_by false false false = refl

shape_shape : (text : List ℕ) → is_shape (shape text) ≡ true
shape_shape text = shape_by (is_some (number text)) (is_name text) (is_variable text)

own_by : (text : List ℕ) (s : Sort) → is_shape s ≡ false → (text ≡ spelling s) ⊎ (shape text ≡ s) → text ≡ spelling s
own_by text s own (inl e) = e
own_by text s own (inr e) = let shaped = sym (ap is_shape e) ∙ shape_shape text in absurd cc

-- a word that is one of the grammar's own has its spelling
pub own_spelled : (text : List ℕ) (s : Sort) → sort text ≡ s → is_shape s ≡ false → text ≡ spelling s
own_spelled text s e own = own_by text s own (among own_words text s e)

no_spelling : (s : Sort) → is_shape s ≡ true → spelling s ≡ []
no_spelling word.Numeral e = refl
no_spelling word.Name e = refl
no_spelling word.Variable e = refl
no_spelling word.Other e = refl
no_spelling s e = absurd cc

shaped_by : (text : List ℕ) (s : Sort) → is_shape s ≡ true → sort text ≡ s → (text ≡ spelling s) ⊎ (shape text ≡ s) → shape text ≡ s
shaped_by text s is e (inl written) = let empty = written ∙ no_spelling s is in ap shape empty ∙ sym (ap sort empty) ∙ e
shaped_by text s is e (inr shaped) = shaped

-- ---- tests of words

by_shape : (f : Sort → Bool) (g : List ℕ → Bool) → ((s : Sort) → is_shape s ≡ false → f s ≡ g (spelling s)) → ((text : List ℕ) → f (shape text) ≡ g text) → (text : List ℕ) (t : Bool) → is_shape (sort text) ≡ t → f (sort text) ≡ g text
by_shape f g own shaped text true is = ap f (sym (shaped_by text (sort text) is refl (among own_words text (sort text) refl))) ∙ shaped text
by_shape f g own shaped text false is = own (sort text) is ∙ ap g (sym (own_spelled text (sort text) refl is))

by_sort : (f : Sort → Bool) (g : List ℕ → Bool) → ((s : Sort) → is_shape s ≡ false → f s ≡ g (spelling s)) → ((text : List ℕ) → f (shape text) ≡ g text) → (text : List ℕ) → f (sort text) ≡ g text
by_sort f g own shaped text = by_shape f g own shaped text (is_shape (sort text)) refl

digit_first : (b : ℕ) (rest : List ℕ) (t : Bool) → is_digit b ≡ t → is_some (whole_number (b ∷ rest)) ≡ true → is_name_start b ≡ true
digit_first b rest true is some = grind (arith, nat_tests)
digit_first b rest false is some =
    let none : with_digit 0 b ≡ None = rw is refl in
    let none-all : is_some (whole_number (b ∷ rest)) ≡ false = rw none refl in
    absurd cc

zeros_or : (zeros : Bool) (found : Option ℕ) → is_some (cond zeros found None) ≡ true → is_some found ≡ true
zeros_or true found some = some
zeros_or false found some = absurd cc

first_by : (b : ℕ) (bytes : List ℕ) (t : Bool) → (b == 46) ≡ t → is_some (whole_number (take (cond t 0 (point_at bytes + 1)) (b ∷ bytes))) ≡ true → is_name_start b ≡ true
first_by b bytes true is some = absurd cc
first_by b bytes false is some = digit_first b (take (point_at bytes) bytes) (is_digit b) refl (rw add-one at some)

number_name : (text : List ℕ) → is_some (number text) ≡ true → is_name text ≡ true
number_name [] some = absurd cc
number_name (b ∷ bytes) some = first_by b bytes (b == 46) refl (zeros_or (are_zeros (drop (point_at (b ∷ bytes) + 1) (b ∷ bytes))) (whole_number (take (point_at (b ∷ bytes)) (b ∷ bytes))) some)

variable_no_name : (text : List ℕ) → is_variable text ≡ true → is_name text ≡ false
variable_no_name [] is = refl
variable_no_name (b ∷ []) is = absurd cc
variable_no_name (b ∷ c ∷ bytes) is = grind (arith, nat_tests)

abbrev is_variable_sort : Sort → Bool
is_variable_sort word.Variable = true
is_variable_sort s = false

abbrev is_numeral_sort : Sort → Bool
is_numeral_sort word.Numeral = true
is_numeral_sort s = false

own_name : (s : Sort) → is_shape s ≡ false → is_name_sort s ≡ is_name (spelling s)
own_name word.Numeral own = absurd cc
own_name word.Name own = absurd cc
own_name word.Variable own = absurd cc
own_name word.Other own = absurd cc
own_name s own = refl

own_term : (s : Sort) → is_shape s ≡ false → is_term_sort s ≡ (is_name (spelling s) || is_variable (spelling s))
own_term word.Numeral own = absurd cc
own_term word.Name own = absurd cc
own_term word.Variable own = absurd cc
own_term word.Other own = absurd cc
own_term s own = refl

own_variable : (s : Sort) → is_shape s ≡ false → is_variable_sort s ≡ is_variable (spelling s)
own_variable word.Numeral own = absurd cc
own_variable word.Name own = absurd cc
own_variable word.Variable own = absurd cc
own_variable word.Other own = absurd cc
own_variable s own = refl

own_numeral : (s : Sort) → is_shape s ≡ false → is_numeral_sort s ≡ is_some (number (spelling s))
own_numeral word.Numeral own = absurd cc
own_numeral word.Name own = absurd cc
own_numeral word.Variable own = absurd cc
own_numeral word.Other own = absurd cc
own_numeral s own = refl

name_by : (n a v : Bool) → (n ≡ true → a ≡ true) → is_name_sort (cond n word.Numeral (cond a word.Name (cond v word.Variable word.Other))) ≡ a
name_by true true v h = refl
name_by true false v h = sym (h refl)
name_by false true v h = refl
name_by false false true h = refl
name_by false false false h = refl

term_by : (n a v : Bool) → (n ≡ true → a ≡ true) → is_term_sort (cond n word.Numeral (cond a word.Name (cond v word.Variable word.Other))) ≡ (a || v)
term_by true true v h = refl
term_by true false v h = let no = h refl in absurd cc
term_by false true v h = refl
term_by false false true h = refl
term_by false false false h = refl

variable_by : (n a v : Bool) → (n ≡ true → a ≡ true) → (v ≡ true → a ≡ false) → is_variable_sort (cond n word.Numeral (cond a word.Name (cond v word.Variable word.Other))) ≡ v
variable_by true true true h g = let no = g refl in absurd cc
variable_by true true false h g = refl
variable_by true false v h g = let no = h refl in absurd cc
variable_by false true true h g = let no = g refl in absurd cc
variable_by false true false h g = refl
variable_by false false true h g = refl
variable_by false false false h g = refl

numeral_by : (n a v : Bool) → is_numeral_sort (cond n word.Numeral (cond a word.Name (cond v word.Variable word.Other))) ≡ n
numeral_by true a v = refl
numeral_by false true v = refl
numeral_by false false true = refl
numeral_by false false false = refl

-- a word is a name exactly if its first byte begins a name
pub name_sort : (text : List ℕ) → is_name_sort (sort text) ≡ is_name text
name_sort = by_sort is_name_sort is_name own_name (λ text. name_by (is_some (number text)) (is_name text) (is_variable text) (number_name text))

pub term_sort : (text : List ℕ) → is_term_sort (sort text) ≡ (is_name text || is_variable text)
term_sort = by_sort is_term_sort (λ text. is_name text || is_variable text) own_term (λ text. term_by (is_some (number text)) (is_name text) (is_variable text) (number_name text))

variable_test : (text : List ℕ) → is_variable_sort (sort text) ≡ is_variable text
variable_test = by_sort is_variable_sort is_variable own_variable (λ text. variable_by (is_some (number text)) (is_name text) (is_variable text) (number_name text) (variable_no_name text))

numeral_test : (text : List ℕ) → is_numeral_sort (sort text) ≡ is_some (number text)
numeral_test = by_sort is_numeral_sort (λ text. is_some (number text)) own_numeral (λ text. numeral_by (is_some (number text)) (is_name text) (is_variable text))

variable_is : (s : Sort) → is_variable_sort s ≡ true → s ≡ word.Variable
variable_is word.Variable e = refl
variable_is s e = absurd cc

numeral_is : (s : Sort) → is_numeral_sort s ≡ true → s ≡ word.Numeral
numeral_is word.Numeral e = refl
numeral_is s e = absurd cc

pub variable_sort : (text : List ℕ) → IsVariable text → sort text ≡ word.Variable
variable_sort text is = variable_is (sort text) (variable_test text ∙ is)

pub sort_variable : (text : List ℕ) → sort text ≡ word.Variable → IsVariable text
sort_variable text e = sym (variable_test text) ∙ ap is_variable_sort e

pub numeral_sort : (text : List ℕ) → IsNumber text → sort text ≡ word.Numeral
numeral_sort text is = numeral_is (sort text) (numeral_test text ∙ is)

pub sort_numeral : (text : List ℕ) → sort text ≡ word.Numeral → IsNumber text
sort_numeral text e = sym (numeral_test text) ∙ ap is_numeral_sort e

-- ---- names that are not reserved

either_by : (r f : Bool) → (r || f) ≡ true → r ≡ false → f ≡ true
either_by true f name free = absurd cc
either_by false f name free = name

either_name : (s : Sort) → is_name_sort s ≡ true → is_reserved s ≡ false → is_free_sort s ≡ true
either_name s name free = either_by (is_reserved s) (is_free_sort s) name free

free_name : (s : Sort) → is_free_sort s ≡ true → is_name_sort s ≡ true
free_name s free = or_right (is_reserved s) (is_free_sort s) free

differs : (text other : List ℕ) → is_free_sort (sort text) ≡ true → is_free_sort (sort other) ≡ false → text ≢ other
differs text other free not same = let equal = ap (λ (t : List ℕ). is_free_sort (sort t)) same in absurd cc

not_reserved : (text : List ℕ) (s : Sort) → sort text ≡ s → AllByRecursion (λ other. text ≢ other) reserved_words → is_reserved s ≡ false
not_reserved text word.And e all = absurd (all.0 (own_spelled text word.And e refl))
not_reserved text word.Or e all = absurd (all.1.0 (own_spelled text word.Or e refl))
not_reserved text word.Not e all = absurd (all.1.1.0 (own_spelled text word.Not e refl))
not_reserved text word.Imply e all = absurd (all.1.1.1.0 (own_spelled text word.Imply e refl))
not_reserved text word.Forall e all = absurd (all.1.1.1.1.0 (own_spelled text word.Forall e refl))
not_reserved text word.Exists e all = absurd (all.1.1.1.1.1.0 (own_spelled text word.Exists e refl))
not_reserved text word.When e all = absurd (all.1.1.1.1.1.1.0 (own_spelled text word.When e refl))
not_reserved text word.Increase e all = absurd (all.1.1.1.1.1.1.1.0 (own_spelled text word.Increase e refl))
not_reserved text word.Decrease e all = absurd (all.1.1.1.1.1.1.1.1.0 (own_spelled text word.Decrease e refl))
not_reserved text word.Assign e all = absurd (all.1.1.1.1.1.1.1.1.1.0 (own_spelled text word.Assign e refl))
not_reserved text word.ScaleUp e all = absurd (all.1.1.1.1.1.1.1.1.1.1.0 (own_spelled text word.ScaleUp e refl))
not_reserved text word.ScaleDown e all = absurd (all.1.1.1.1.1.1.1.1.1.1.1.0 (own_spelled text word.ScaleDown e refl))
not_reserved text word.Preference e all = absurd (all.1.1.1.1.1.1.1.1.1.1.1.1.0 (own_spelled text word.Preference e refl))
not_reserved text s e all = refl

pub sort_free : (text : List ℕ) → is_free_sort (sort text) ≡ true → IsFree text
sort_free text free = (sym (name_sort text) ∙ free_name (sort text) free, (differs text (codes "and") free refl, (differs text (codes "or") free refl, (differs text (codes "not") free refl, (differs text (codes "imply") free refl, (differs text (codes "forall") free refl, (differs text (codes "exists") free refl, (differs text (codes "when") free refl, (differs text (codes "increase") free refl, (differs text (codes "decrease") free refl, (differs text (codes "assign") free refl, (differs text (codes "scale-up") free refl, (differs text (codes "scale-down") free refl, (differs text (codes "preference") free refl, tt))))))))))))))

pub free_sort : (text : List ℕ) → IsFree text → is_free_sort (sort text) ≡ true
free_sort text free = either_name (sort text) (name_sort text ∙ free.0) (not_reserved text (sort text) refl free.1)
