-- Different atoms of a vocabulary have different printed forms.
-- No name has a blank or a closing parenthesis, so a printed form is cut into its name and its arguments in only one way.
use Rattle.std.proofs.Common.{◌≡◌, ℕ, ◌+◌, ◌%◌, ◌<◌, ◌^◌, ◌&&◌, zero, suc, Bool, true, false, List, [], ◌∷◌, ◌++◌, length, get_or, map, refl, sym, ap, subst, ◌∙◌, arith, append_assoc, ⊎_elim}
use Rattle.std.specs.Prelude.{◌==◌, ◌≢◌, not, IsTrue, codes, decimal, slice_get}
use Rattle.std.specs.List.{list_all}
use Rattle.std.specs.Option.{option_map_or}
use Rattle.std.specs.Cmp.{first_so, second_so}
use Rattle.std.proofs.lemmas.Bool.{true≢false, and_parts, and_from, cases_order}
use Rattle.std.proofs.lemmas.Bool.Decides.{nat_tests}
use Rattle.std.proofs.lemmas.Fmt.{decimal_by_steps, decimal_injective}
use Rattle.std.proofs.lemmas.Option.{slice_get-get_or}
use Rattle.model_kit.specs.declared.vocabulary.Vocabulary.{Vocabulary}
use Rattle.model_kit.specs.declared.vocabulary.Signature.{Signature}
use Rattle.model_kit.specs.declared.atom.GroundAtom.{GroundAtom}
use Rattle.model_kit.specs.declared.atom.SchemaAtom.{SchemaAtom}
use Rattle.model_kit.specs.declared.atom.Term.{Term}
use Rattle.model_kit.specs.declared.atom.Term.TheVariants.{Param, Object}
use Rattle.model_kit.specs.Names.{is_word_byte, is_capital, is_first_byte, is_name}
use Rattle.model_kit.specs.Types.{is_of_type}
use Rattle.model_kit.specs.Vocabulary.{is_object_of, is_term_of, fits_signature, is_ground_atom, is_schema_atom}
use Rattle.model_kit.specs.Printed.{name_of, object_name, term_form, args_form, form, atom_form, schema_atom_form}
use Rattle.model_kit.proofs.WordFacts.{AreNamed, typed_named, signatures_named, facts_of_words}
use Rattle.model_kit.proofs.Fits.{entry_listed, signature_listed, object_listed, each_arg_fits}

-- neither a blank nor a closing parenthesis
abbrev is_plain : ℕ → Bool
is_plain b = not (b == 32) && not (b == 41)

abbrev are_plain : List ℕ → Bool
are_plain [] = true
are_plain (b ∷ bs) = is_plain b && are_plain bs

-- a blank or a closing parenthesis comes first
abbrev Ends : List ℕ → Type 0
Ends [] = ⊥
Ends (b ∷ bs) = is_plain b ≡ false

-- plain bytes before such an end are cut off in one way
plain_cut : (xs ys r s : List ℕ) → are_plain xs ≡ true → are_plain ys ≡ true → Ends r → Ends s → xs ++ r ≡ ys ++ s → (xs ≡ ys) × (r ≡ s)
plain_cut [] [] r s p q f g e = (refl, e)
plain_cut [] (y ∷ ys) [] s p q f g e = absurd f
plain_cut [] (y ∷ ys) (b ∷ r) s p q f g e =
    let same : b ≡ y = cc in
    absurd (true≢false (sym (first_so (is_plain y) (are_plain ys) q) ∙ subst (λ c. is_plain c ≡ false) same f))
plain_cut (x ∷ xs) [] r [] p q f g e = absurd g
plain_cut (x ∷ xs) [] r (b ∷ s) p q f g e =
    let same : b ≡ x = cc in
    absurd (true≢false (sym (first_so (is_plain x) (are_plain xs) p) ∙ subst (λ c. is_plain c ≡ false) same g))
plain_cut (x ∷ xs) (y ∷ ys) r s p q f g e =
    let same : x ≡ y = cc in
    let later : xs ++ r ≡ ys ++ s = cc in
    let rest = plain_cut xs ys r s (second_so (is_plain x) (are_plain xs) p) (second_so (is_plain y) (are_plain ys) q) f g later in
    ((λ i. same i ∷ rest.0 i), rest.1)

abbrev all_plain : List (List ℕ) → Bool
all_plain [] = true
all_plain (a ∷ as') = are_plain a && all_plain as'

-- what comes after the name
abbrev tail_of : List (List ℕ) → List ℕ
tail_of args = args_form args ++ codes ")"

tail_ends : (args : List (List ℕ)) → Ends (tail_of args)
tail_ends [] = refl
tail_ends (a ∷ args) = refl

-- the first argument is read back
first_arg : (a b : List ℕ) (args other : List (List ℕ)) → are_plain a ≡ true → are_plain b ≡ true → tail_of (a ∷ args) ≡ tail_of (b ∷ other) → (a ≡ b) × (tail_of args ≡ tail_of other)
first_arg a b args other p q e =
    let inner : (a ++ args_form args) ++ codes ")" ≡ (b ++ args_form other) ++ codes ")" = cc in
    let moved : a ++ tail_of args ≡ b ++ tail_of other = sym (append_assoc a (args_form args) (codes ")")) ∙ inner ∙ append_assoc b (args_form other) (codes ")") in
    plain_cut a b (tail_of args) (tail_of other) p q (tail_ends args) (tail_ends other) moved

no_first_arg : (b : List ℕ) (other : List (List ℕ)) → tail_of [] ≡ tail_of (b ∷ other) → ⊥
no_first_arg b other e = cc

-- the arguments are read back from what comes after the name
tail_of-injective : (args other : List (List ℕ)) → all_plain args ≡ true → all_plain other ≡ true → tail_of args ≡ tail_of other → args ≡ other
tail_of-injective [] [] p q e = refl
tail_of-injective [] (b ∷ other) p q e = absurd (no_first_arg b other e)
tail_of-injective (a ∷ args) [] p q e = absurd (no_first_arg a args (sym e))
tail_of-injective (a ∷ args) (b ∷ other) p q e =
    let cut = first_arg a b args other (first_so (are_plain a) (all_plain args) p) (first_so (are_plain b) (all_plain other) q) e in
    ap_cons a b args other cut.0 (tail_of-injective args other (second_so (are_plain a) (all_plain args) p) (second_so (are_plain b) (all_plain other) q) cut.1)
  where
    ap_cons : (x y : List ℕ) (xs ys : List (List ℕ)) → x ≡ y → xs ≡ ys → x ∷ xs ≡ y ∷ ys
    ap_cons x y xs ys h t = λ i. h i ∷ t i

-- the name and the arguments are read back from a printed form
pub form-injective : (name other : List ℕ) (args others : List (List ℕ)) → are_plain name ≡ true → are_plain other ≡ true → all_plain args ≡ true → all_plain others ≡ true
    → form name args ≡ form other others → (name ≡ other) × (args ≡ others)
form-injective name other args others p q r s e =
    let inner : (name ++ args_form args) ++ codes ")" ≡ (other ++ args_form others) ++ codes ")" = cc in
    let moved : name ++ tail_of args ≡ other ++ tail_of others = sym (append_assoc name (args_form args) (codes ")")) ∙ inner ∙ append_assoc other (args_form others) (codes ")") in
    let cut = plain_cut name other (tail_of args) (tail_of others) p q (tail_ends args) (tail_ends others) moved in
    (cut.0, tail_of-injective args others r s cut.1)

first_plain : (c : ℕ) → is_first_byte c ≡ true → is_plain c ≡ true
first_plain c h = grind (arith, nat_tests)

byte_plain : (c : ℕ) → is_word_byte c ≡ true → is_plain c ≡ true
byte_plain c h = grind (arith, nat_tests)

first_no_sign : (c : ℕ) → is_first_byte c ≡ true → c ≢ 63
first_no_sign c h e = grind (arith, nat_tests)

bytes_plain : (cs : List ℕ) → list_all (λ c. is_word_byte c && not (is_capital c)) cs ≡ true → are_plain cs ≡ true
bytes_plain [] h = refl
bytes_plain (c ∷ cs) h =
    let parts = and_parts (is_word_byte c && not (is_capital c)) (list_all (λ c. is_word_byte c && not (is_capital c)) cs) h in
    and_from (is_plain c) (are_plain cs) (byte_plain c (first_so (is_word_byte c) (not (is_capital c)) parts.0)) (bytes_plain cs parts.1)

-- a name's bytes are plain
name_plain : (bs : List ℕ) → is_name bs ≡ true → are_plain bs ≡ true
name_plain [] e = refl
name_plain (b ∷ bs) e =
    let parts = and_parts (is_first_byte b) (list_all (λ c. is_word_byte c && not (is_capital c)) bs) e in
    and_from (is_plain b) (are_plain bs) (first_plain b parts.0) (bytes_plain bs parts.1)

-- ---- names distinguish entries

abbrev entry_name : {X : Type 0} → (X → List ℕ) → List X → ℕ → List ℕ
entry_name name xs n = option_map_or name (slice_get xs n) []

entry_name_at : {X : Type 0} (name : X → List ℕ) (xs : List X) (n : ℕ) (d : X) → n < length xs → entry_name name xs n ≡ name (get_or xs n d)
entry_name_at name xs n d lt = ap (λ o. option_map_or name o []) (slice_get-get_or xs n d lt)

item_of : {X : Type 0} (xs : List X) (n : ℕ) → n < length xs → X
item_of [] n lt = absurd (omega arith)
item_of (x ∷ xs) n lt = x

pub entry_name-injective : {X : Type 0} (name : X → List ℕ) (xs : List X) → AreNamed name xs → (m n : ℕ) → m < length xs → n < length xs → entry_name name xs m ≡ entry_name name xs n → m ≡ n
entry_name-injective name xs named m n lt_m lt_n e =
    let d = item_of xs m lt_m in
    let same : name (get_or xs m d) ≡ name (get_or xs n d) = sym (entry_name_at name xs m d lt_m) ∙ e ∙ entry_name_at name xs n d lt_n in
    ⊎_elim (λ is. is)
    (⊎_elim (λ lt. absurd (named.apart m n d lt lt_n same)) (λ lt. absurd (named.apart n m d lt lt_m (sym same))))
    (cases_order m n)

pub entry_name_good : {X : Type 0} (name : X → List ℕ) (xs : List X) → AreNamed name xs → (n : ℕ) → n < length xs → is_name (entry_name name xs n) ≡ true
entry_name_good name xs named n lt =
    let d = item_of xs n lt in
    subst (λ bs. is_name bs ≡ true) (sym (entry_name_at name xs n d lt)) (named.good n d lt)

-- ---- arguments

-- objects or terms, each printed as plain bytes, are told apart by their forms
module _ {X : Type 0} (print : X → List ℕ) (ok : X → Type 0) (plain : (x : X) → ok x → are_plain (print x) ≡ true) (apart : (x y : X) → ok x → ok y → print x ≡ print y → x ≡ y) where
  args_plain : (xs : List X) → ((k : ℕ) (d : X) → k < length xs → ok (get_or xs k d)) → all_plain (map print xs) ≡ true
  args_plain [] each = refl
  args_plain (x ∷ xs) each = and_from (are_plain (print x)) (all_plain (map print xs)) (plain x (each zero x (omega arith))) (args_plain xs (λ k d lt. each (suc k) d (omega arith)))

  args_apart : (xs ys : List X) → ((k : ℕ) (d : X) → k < length xs → ok (get_or xs k d)) → ((k : ℕ) (d : X) → k < length ys → ok (get_or ys k d)) → map print xs ≡ map print ys → xs ≡ ys
  args_apart [] [] each other e = refl
  args_apart [] (y ∷ ys) each other e = absurd (cc)
  args_apart (x ∷ xs) [] each other e = absurd (cc)
  args_apart (x ∷ xs) (y ∷ ys) each other e =
      let head : print x ≡ print y = cc in
      let rest : map print xs ≡ map print ys = cc in
      let first = apart x y (each zero x (omega arith)) (other zero y (omega arith)) head in
      let later = args_apart xs ys (λ k d lt. each (suc k) d (omega arith)) (λ k d lt. other (suc k) d (omega arith)) rest in
      λ i. first i ∷ later i

  -- a named thing and its arguments are read back from the printed form
  pub read_back : (signatures : List Signature) → AreNamed (λ s. s.name) signatures → (m n : ℕ) → m < length signatures → n < length signatures → (xs ys : List X)
      → ((k : ℕ) (d : X) → k < length xs → ok (get_or xs k d)) → ((k : ℕ) (d : X) → k < length ys → ok (get_or ys k d))
      → form (name_of signatures m) (map print xs) ≡ form (name_of signatures n) (map print ys) → (m ≡ n) × (xs ≡ ys)
  read_back signatures named m n lt_m lt_n xs ys each other e =
      let parts = form-injective (name_of signatures m) (name_of signatures n) (map print xs) (map print ys)
      (name_plain (name_of signatures m) (entry_name_good (λ s. s.name) signatures named m lt_m))
      (name_plain (name_of signatures n) (entry_name_good (λ s. s.name) signatures named n lt_n))
      (args_plain xs each) (args_plain ys other) e in
      (entry_name-injective (λ s. s.name) signatures named m n lt_m lt_n parts.0, args_apart xs ys each other parts.1)

objects_named : (words : Vocabulary) → AreNamed (λ e. e.0) words.objects
objects_named words = typed_named words.types words.objects (facts_of_words words).objects_kept

predicates_named : (words : Vocabulary) → AreNamed (λ s. s.name) words.predicates
predicates_named words = signatures_named words.types words.predicates (facts_of_words words).predicates_kept

functions_named : (words : Vocabulary) → AreNamed (λ s. s.name) words.functions
functions_named words = signatures_named words.types words.functions (facts_of_words words).functions_kept

module _ (words : Vocabulary) where
  abbrev IsListed : ℕ → Type 0
  IsListed object = object < length words.objects

  object_plain : (object : ℕ) → IsListed object → are_plain (object_name words object) ≡ true
  object_plain object listed = name_plain (object_name words object) (entry_name_good (λ e. e.0) words.objects (objects_named words) object listed)

  object_apart : (a b : ℕ) → IsListed a → IsListed b → object_name words a ≡ object_name words b → a ≡ b
  object_apart a b listed other = entry_name-injective (λ e. e.0) words.objects (objects_named words) a b listed other

  objects_listed : (signatures : List Signature) (n : ℕ) (objects : List ℕ) → fits_signature (is_object_of words) signatures n objects ≡ true → (k d : ℕ) → k < length objects → IsListed (get_or objects k d)
  objects_listed signatures n objects fit k d lt = let at = each_arg_fits (is_object_of words) signatures n objects fit k d lt in object_listed words (get_or objects k d) at.0 at.1

  -- two ground atoms with the same printed form are equal
  pub atom_form-injective : (a b : GroundAtom) → IsTrue (is_ground_atom words a) → IsTrue (is_ground_atom words b) → atom_form words a ≡ atom_form words b → a ≡ b
  atom_form-injective a b fit other e =
      let parts = read_back (object_name words) IsListed object_plain object_apart words.predicates (predicates_named words) a.predicate b.predicate
      (signature_listed (is_object_of words) words.predicates a.predicate a.objects fit) (signature_listed (is_object_of words) words.predicates b.predicate b.objects other)
      a.objects b.objects (objects_listed words.predicates a.predicate a.objects fit) (objects_listed words.predicates b.predicate b.objects other) e in
      λ i. record { predicate = parts.0 i; objects = parts.1 i }

  -- likewise two functions at objects
  pub function_form-injective : (f g : ℕ) (xs ys : List ℕ) → fits_signature (is_object_of words) words.functions f xs ≡ true → fits_signature (is_object_of words) words.functions g ys ≡ true
      → form (name_of words.functions f) (map (object_name words) xs) ≡ form (name_of words.functions g) (map (object_name words) ys) → (f ≡ g) × (xs ≡ ys)
  function_form-injective f g xs ys fit other e =
      read_back (object_name words) IsListed object_plain object_apart words.functions (functions_named words) f g
      (signature_listed (is_object_of words) words.functions f xs fit) (signature_listed (is_object_of words) words.functions g ys other)
      xs ys (objects_listed words.functions f xs fit) (objects_listed words.functions g ys other) e

-- ---- terms

digit_plain : (n : ℕ) → n < 10 → is_plain (48 + n) ≡ true
digit_plain n lt = grind (arith, nat_tests)

plain_push : (bs : List ℕ) (b : ℕ) → are_plain bs ≡ true → is_plain b ≡ true → are_plain (bs ++ b ∷ []) ≡ true
plain_push [] b p q = and_from (is_plain b) true q refl
plain_push (c ∷ bs) b p q = and_from (is_plain c) (are_plain (bs ++ b ∷ [])) (first_so (is_plain c) (are_plain bs) p) (plain_push bs b (second_so (is_plain c) (are_plain bs) p) q)

decimal_plain : (n : ℕ) → n < 2 ^ 64 → are_plain (decimal n) ≡ true
decimal_plain =
    decimal_by_steps (λ n ds. are_plain ds ≡ true) (λ n lt. and_from (is_plain (48 + n)) true (digit_plain n lt) refl)
    (λ n ds ge plain. plain_push ds (48 + n % 10) plain (digit_plain (n % 10) (omega arith)))

no_sign : (bs rest : List ℕ) → is_name bs ≡ true → 63 ∷ rest ≡ bs → ⊥
no_sign [] rest named e = cc
no_sign (b ∷ bs) rest named e =
    let sign : b ≡ 63 = cc in
    first_no_sign b (first_so (is_first_byte b) (list_all (λ c. is_word_byte c && not (is_capital c)) bs) named) sign

module _ (words : Vocabulary) where
  -- a parameter with a number of the machine, or an object of the vocabulary
  abbrev pub IsPrintable : Term → Type 0
  IsPrintable (Param i) = i + 1 < 2 ^ 64
  IsPrintable (Object object) = object < length words.objects

  term_plain : (term : Term) → IsPrintable term → are_plain (term_form words term) ≡ true
  term_plain (Param i) small = decimal_plain (i + 1) small
  term_plain (Object object) listed = object_plain words object listed

  object_named : (object : ℕ) → object < length words.objects → is_name (object_name words object) ≡ true
  object_named object listed = entry_name_good (λ e. e.0) words.objects (objects_named words) object listed

  term_apart : (s t : Term) → IsPrintable s → IsPrintable t → term_form words s ≡ term_form words t → s ≡ t
  term_apart (Param i) (Param j) small other e =
      let digits : decimal (i + 1) ≡ decimal (j + 1) = cc in
      let same : i ≡ j = omega (arith, decimal_injective (i + 1) (j + 1) small other digits) in
      ap Param same
  term_apart (Param i) (Object object) small listed e = absurd (no_sign (object_name words object) (decimal (i + 1)) (object_named object listed) e)
  term_apart (Object object) (Param i) listed small e = absurd (no_sign (object_name words object) (decimal (i + 1)) (object_named object listed) (sym e))
  term_apart (Object a) (Object b) listed other e = ap Object (object_apart words a b listed other e)

  term_printable : (params : List ℕ) → length params < 2 ^ 64 → (term : Term) (type : ℕ) → is_term_of words params term type ≡ true → IsPrintable term
  term_printable params few (Param i) type fit = let listed = entry_listed (λ declared. is_of_type words.types declared type) params i fit in omega (arith, listed)
  term_printable params few (Object object) type fit = object_listed words object type fit

  terms_printable : (params : List ℕ) → length params < 2 ^ 64 → (signatures : List Signature) (n : ℕ) (args : List Term) → fits_signature (is_term_of words params) signatures n args ≡ true
      → (k : ℕ) (d : Term) → k < length args → IsPrintable (get_or args k d)
  terms_printable params few signatures n args fit k d lt =
      let at = each_arg_fits (is_term_of words params) signatures n args fit k d lt in term_printable params few (get_or args k d) at.0 at.1

  -- two atoms of one schema with the same printed form are equal
  pub schema_atom_form-injective : (params : List ℕ) → length params < 2 ^ 64 → (f g : SchemaAtom) → IsTrue (is_schema_atom words params f) → IsTrue (is_schema_atom words params g)
      → schema_atom_form words f ≡ schema_atom_form words g → f ≡ g
  schema_atom_form-injective params few f g fit other e =
      let parts = read_back (term_form words) IsPrintable term_plain term_apart words.predicates (predicates_named words) f.predicate g.predicate
      (signature_listed (is_term_of words params) words.predicates f.predicate f.args fit) (signature_listed (is_term_of words params) words.predicates g.predicate g.args other)
      f.args g.args (terms_printable params few words.predicates f.predicate f.args fit) (terms_printable params few words.predicates g.predicate g.args other) e in
      λ i. record { predicate = parts.0 i; args = parts.1 i }
