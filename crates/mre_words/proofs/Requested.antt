-- Words make exactly the request that they ask for, and the request's files have the names that the words give.
use Rattle.std.proofs.Common.{◌≡◌, ◌≢◌, ℕ, zero, suc, Bool, true, false, ◌⊎◌, inl, inr, ⊎_elim, List, [], ◌∷◌, length, Option, None, Some, if◌then◌else◌, nat_eq, refl, sym, ap, ◌∙◌, subst, arith}
use Rattle.std.specs.Prelude.{All, codes}
use Rattle.std.specs.List.{list_all}
use Rattle.std.specs.Option.{option_map}
use Rattle.std.specs.Cmp.Lexicographic.{same_text}
use Rattle.std.proofs.lemmas.Bool.{and_parts, and_from, eqb-true, eq-eqb}
use Rattle.std.proofs.lemmas.Option.{same_Some, cond_some}
use Rattle.mre_base.specs.declared.kind.Kind.TheVariants.{Mce, Mme}
use Rattle.mre_words.specs.declared.request.Request.{Request}
use Rattle.mre_words.specs.declared.request.Request.TheVariants.{Explain, Diff, Patch, PlanPatch}
use Rattle.mre_words.specs.Asking.{AreNames, Ask}
use Rattle.mre_words.specs.Requests.{is_word, is_name, names_if, explanation_for, requested, files_of, count_of, names_in, names_of}

-- ---- names

filled : (word : List ℕ) → is_name word ≡ true → word ≢ []
filled [] e = absurd (cc)
filled (byte ∷ bytes) e = λ empty. cc

named : (word : List ℕ) → word ≢ [] → is_name word ≡ true
named [] h = absurd (h refl)
named (byte ∷ bytes) h = refl

all_filled : (words : List (List ℕ)) → list_all is_name words ≡ true → All (λ word. word ≢ []) words
all_filled [] e k d within = absurd (omega arith)
all_filled (word ∷ words) e zero d within = filled word (and_parts (is_name word) (list_all is_name words) e).0
all_filled (word ∷ words) e (suc k) d within = all_filled words (and_parts (is_name word) (list_all is_name words) e).1 k d (omega arith)

all_named : (words : List (List ℕ)) → All (λ word. word ≢ []) words → list_all is_name words ≡ true
all_named [] h = refl
all_named (word ∷ words) h =
    and_from (is_name word) (list_all is_name words) (named word (h zero [] (omega arith))) (all_named words (λ k d within. h (suc k) d (omega arith)))

AreNames-from_names_if : (count : ℕ) (words files : List (List ℕ)) → names_if count words ≡ Some files → (words ≡ files) × AreNames count files
AreNames-from_names_if count words files e =
    let got = cond_some _ words files e in
    let both = and_parts (nat_eq (length words) count) (list_all is_name words) got.0 in
    let names : AreNames count words = record { counted = eqb-true _ _ both.0; filled = all_filled words both.1 } in
    (got.1, subst (AreNames count) got.1 names)

names_if-from_AreNames : (count : ℕ) (files : List (List ℕ)) → AreNames count files → names_if count files ≡ Some files
names_if-from_AreNames count files h =
    ap (λ b. if b then Some files else None)
    (and_from (nat_eq (length files) count) (list_all is_name files) (eq-eqb _ _ h.counted) (all_named files h.filled))

-- ---- from words to what they ask for

mapped : {X Y : Type 0} (f : X → Y) (o : Option X) (y : Y) → option_map f o ≡ Some y → (x : X) × (o ≡ Some x) × (f x ≡ y)
mapped f None y e = absurd (cc)
mapped f (Some x) y e = (x, refl, same_Some (f x) y e)

pick : (b : Bool) (x y : Option Request) (request : Request) → (if b then x else y) ≡ Some request → ((b ≡ true) × (x ≡ Some request)) ⊎ (y ≡ Some request)
pick true x y request e = inl (refl, e)
pick false x y request e = inr e

first : (command word : List ℕ) (words files : List (List ℕ)) → is_word command word ≡ true → words ≡ files → command ∷ words ≡ word ∷ files
first command word words files e same = λ i. same_text command word (sym e) i ∷ same i

-- a command and its number of names
of_files : (count : ℕ) (make : List (List ℕ) → Request) (command word : List ℕ) (words : List (List ℕ)) (request : Request)
    → ((files : List (List ℕ)) → Ask (command ∷ words) (make files) ≡ ((command ∷ words ≡ word ∷ files) × AreNames count files))
    → (is_word command word ≡ true) × (option_map make (names_if count words) ≡ Some request) → Ask (command ∷ words) request
of_files count make command word words request is e =
    let made = mapped make (names_if count words) request e.1 in
    let names = AreNames-from_names_if count words made.0 made.1 in
    subst (Ask (command ∷ words)) made.2 (subst (λ (T : Type 0). T) (sym (is made.0)) (first command word words made.0 e.0 names.0, names.1))

of_explanation : (command : List ℕ) (words : List (List ℕ)) (request : Request) → (is_word command (codes "explain") ≡ true) × (explanation_for words ≡ Some request) → Ask (command ∷ words) request
of_explanation command [] request e = absurd (let none = e.1 in cc)
of_explanation command (kind ∷ words) request e =
    ⊎_elim
    (λ mce.
    let made = mapped (Explain Mce) (names_if 5 words) request mce.1 in
    let names = AreNames-from_names_if 5 words made.0 made.1 in
    subst (Ask (command ∷ kind ∷ words)) made.2
    (first command (codes "explain") (kind ∷ words) (codes "mce" ∷ made.0) e.0 (first kind (codes "mce") words made.0 mce.0 names.0), names.1))
    (λ none. absurd (cc))
    (pick (is_word kind (codes "mce")) (option_map (Explain Mce) (names_if 5 words)) None request e.1)

pub Ask-from_requested : (words : List (List ℕ)) (request : Request) → requested words ≡ Some request → Ask words request
Ask-from_requested [] request e = absurd (cc)
Ask-from_requested (command ∷ words) request e =
    ⊎_elim
    (of_explanation command words request)
    (λ no_explanation. ⊎_elim
    (of_files 4 Diff command (codes "diff") words request (λ files. refl))
    (λ no_diff. ⊎_elim
    (of_files 5 Patch command (codes "patch") words request (λ files. refl))
    (λ no_patch. ⊎_elim
    (of_files 5 PlanPatch command (codes "plan-patch") words request (λ files. refl))
    (λ none. absurd (cc))
    (pick (is_word command (codes "plan-patch")) _ _ request no_patch))
    (pick (is_word command (codes "patch")) _ _ request no_diff))
    (pick (is_word command (codes "diff")) _ _ request no_explanation))
    (pick (is_word command (codes "explain")) _ _ request e)

-- ---- and back

pub requested-from_Ask : (words : List (List ℕ)) (request : Request) → Ask words request → requested words ≡ Some request
requested-from_Ask words (Explain Mce files) h = ap requested h.0 ∙ ap (option_map (Explain Mce)) (names_if-from_AreNames 5 files h.1)
requested-from_Ask words (Explain Mme files) h = absurd h
requested-from_Ask words (Diff files) h = ap requested h.0 ∙ ap (option_map Diff) (names_if-from_AreNames 4 files h.1)
requested-from_Ask words (Patch files) h = ap requested h.0 ∙ ap (option_map Patch) (names_if-from_AreNames 5 files h.1)
requested-from_Ask words (PlanPatch files) h = ap requested h.0 ∙ ap (option_map PlanPatch) (names_if-from_AreNames 5 files h.1)

-- ---- the names

pub names_of-requested : (words : List (List ℕ)) (request : Request) → requested words ≡ Some request → names_of words ≡ files_of request
names_of-requested words request e = ap names_in e

length-files_of : (words : List (List ℕ)) (request : Request) → Ask words request → length (files_of request) ≡ count_of request
length-files_of words (Explain Mce files) h = h.1.counted
length-files_of words (Explain Mme files) h = absurd h
length-files_of words (Diff files) h = h.1.counted
length-files_of words (Patch files) h = h.1.counted
length-files_of words (PlanPatch files) h = h.1.counted

pub length-files_of-requested : (words : List (List ℕ)) (request : Request) → requested words ≡ Some request → length (files_of request) ≡ count_of request
length-files_of-requested words request e = length-files_of words request (Ask-from_requested words request e)
