-- The request that the words of a command make. A word is the list of its bytes.
use Rattle.std.specs.Prelude.{ℕ, Bool, true, false, ◌&&◌, List, [], ◌∷◌, length, Option, None, Some}
use Rattle.std.specs.Prelude.{if◌then◌else◌, nat_eq, codes}
use Rattle.std.specs.List.{list_all}
use Rattle.std.specs.Option.{option_map}
use Rattle.std.specs.Cmp.Lexicographic.{pointwise}
use Rattle.mre_base.specs.declared.kind.Kind.TheVariants.{Mce}
use Rattle.mre_words.specs.declared.request.Request.{Request}
use Rattle.mre_words.specs.declared.request.Request.TheVariants.{Explain, Diff, Patch, PlanPatch}

-- two words are equal
abbrev pub is_word : List ℕ → List ℕ → Bool
is_word = pointwise nat_eq

-- a name is any word that isn't empty
abbrev pub is_name : List ℕ → Bool
is_name [] = false
is_name (byte ∷ bytes) = true

-- the words are this number of names
abbrev pub are_names : ℕ → List (List ℕ) → Bool
are_names count words = nat_eq (length words) count && list_all is_name words

-- the words, if they are this number of names
abbrev pub names_if : ℕ → List (List ℕ) → Option (List (List ℕ))
names_if count words = if are_names count words then Some words else None

-- `mce`, and five names
abbrev pub explanation_for : List (List ℕ) → Option Request
explanation_for [] = None
explanation_for (kind ∷ words) =
    if is_word kind (codes "mce") then option_map (Explain Mce) (names_if 5 words) else None

-- `explain mce` and five names, `diff` and four names, `patch` and five names, `plan-patch` and
-- five names
abbrev pub requested : List (List ℕ) → Option Request
requested [] = None
requested (command ∷ words) =
    if is_word command (codes "explain") then explanation_for words else
    if is_word command (codes "diff") then option_map Diff (names_if 4 words) else
    if is_word command (codes "patch") then option_map Patch (names_if 5 words) else
    if is_word command (codes "plan-patch") then option_map PlanPatch (names_if 5 words) else None

-- the names of the files of a request, in the order of the words
abbrev pub files_of : Request → List (List ℕ)
files_of (Explain kind files) = files
files_of (Diff files) = files
files_of (Patch files) = files
files_of (PlanPatch files) = files

-- how many files a request is about: four for two models, and one for the plan except for `diff`
abbrev pub count_of : Request → ℕ
count_of (Explain kind files) = 5
count_of (Diff files) = 4
count_of (Patch files) = 5
count_of (PlanPatch files) = 5

-- the names of a request's files; without a request there are no names
abbrev pub names_in : Option Request → List (List ℕ)
names_in None = []
names_in (Some request) = files_of request

-- the names of the files that the words ask about
abbrev pub names_of : List (List ℕ) → List (List ℕ)
names_of words = names_in (requested words)
