-- What fits a signature names entries of the vocabulary.
use Rattle.std.proofs.Common.{◌≡◌, ℕ, ◌<◌, zero, suc, Bool, true, false, List, [], ◌∷◌, length, get_or, Some, sym, ◌∙◌, arith}
use Rattle.std.proofs.lemmas.Bool.{true≢false}
use Rattle.std.proofs.lemmas.Option.{slice_get_within, get_or_from_slice_get}
use Rattle.std.specs.Prelude.{slice_get}
use Rattle.std.specs.Option.{option_map_or}
use Rattle.std.specs.Cmp.{first_so, second_so}
use Rattle.std.specs.Cmp.Lexicographic.{pointwise}
use Rattle.model_kit.specs.declared.vocabulary.Vocabulary.{Vocabulary}
use Rattle.model_kit.specs.declared.vocabulary.Signature.{Signature}
use Rattle.model_kit.specs.declared.atom.Term.{Term}
use Rattle.model_kit.specs.declared.atom.Term.TheVariants.{Object}
use Rattle.model_kit.specs.Vocabulary.{is_object_of, is_term_of, fits_signature}

-- a test of an entry passes only where there is one
pub entry_listed : {X : Type 0} (test : X → Bool) (xs : List X) (n : ℕ) → option_map_or test (slice_get xs n) false ≡ true → n < length xs
entry_listed test [] n passes = absurd (true≢false (sym passes))
entry_listed test (x ∷ xs) zero passes = omega arith
entry_listed test (x ∷ xs) (suc n) passes = let deeper = entry_listed test xs n passes in omega arith

pub signature_listed : {X : Type 0} (is_of : X → ℕ → Bool) (signatures : List Signature) (n : ℕ) (args : List X) → fits_signature is_of signatures n args ≡ true → n < length signatures
signature_listed is_of signatures n args = entry_listed (λ s. pointwise is_of args s.params) signatures n

pub object_listed : (words : Vocabulary) (object type : ℕ) → is_object_of words object type ≡ true → object < length words.objects
object_listed words object type = entry_listed _ words.objects object

-- each argument is of some type
pub each_fits : {X : Type 0} (is_of : X → ℕ → Bool) (xs : List X) (types : List ℕ) → pointwise is_of xs types ≡ true → (k : ℕ) (d : X) → k < length xs → (type : ℕ) × (is_of (get_or xs k d) type ≡ true)
each_fits is_of [] types fit k d lt = absurd (omega arith)
each_fits is_of (x ∷ xs) [] fit k d lt = absurd (true≢false (sym fit))
each_fits is_of (x ∷ xs) (type ∷ types) fit zero d lt = (type, first_so (is_of x type) (pointwise is_of xs types) fit)
each_fits is_of (x ∷ xs) (type ∷ types) fit (suc k) d lt = each_fits is_of xs types (second_so (is_of x type) (pointwise is_of xs types) fit) k d (omega arith)

pub each_arg_fits : {X : Type 0} (is_of : X → ℕ → Bool) (signatures : List Signature) (n : ℕ) (args : List X) → fits_signature is_of signatures n args ≡ true → (k : ℕ) (d : X) → k < length args → (type : ℕ) × (is_of (get_or args k d) type ≡ true)
each_arg_fits is_of [] n args fit = absurd (true≢false (sym fit))
each_arg_fits is_of (s ∷ signatures) zero args fit = each_fits is_of args s.params fit
each_arg_fits is_of (s ∷ signatures) (suc n) args fit = each_arg_fits is_of signatures n args fit

-- each object that fits a signature is listed
pub argument_listed : (words : Vocabulary) (signatures : List Signature) (n : ℕ) (args objects : List ℕ) → fits_signature (is_object_of words) signatures n args ≡ true → objects ≡ args
    → (k : ℕ) → k < length objects → get_or objects k 0 < length words.objects
argument_listed words signatures n args objects fit same k lt =
    let lt_args : k < length args = rw same at lt in
    let at = each_arg_fits (is_object_of words) signatures n args fit k 0 lt_args in
    rw same (object_listed words _ at.0 at.1)

-- each object among the terms that fit a signature in some schema is listed
pub term_object_listed : (words : Vocabulary) (params : List ℕ) (signatures : List Signature) (n : ℕ) (terms : List Term) → fits_signature (is_term_of words params) signatures n terms ≡ true
    → (k : ℕ) (term : Term) → slice_get terms k ≡ Some term → (object : ℕ) → term ≡ Object object → object < length words.objects
term_object_listed words params signatures n terms fit k term at object is =
    let fits = each_arg_fits (is_term_of words params) signatures n terms fit k term (slice_get_within terms k term at) in
    let term_is : get_or terms k term ≡ Object object = get_or_from_slice_get terms k term term at ∙ is in
    object_listed words object fits.0 (rw term_is at fits.1)
