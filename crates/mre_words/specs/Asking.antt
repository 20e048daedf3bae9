-- Which words ask for which request. A word is the list of its bytes.
use Rattle.std.specs.Prelude.{ℕ, ◌≡◌, ◌≢◌, List, [], ◌∷◌, length, All, codes}
use Rattle.mre_base.specs.declared.kind.Kind.TheVariants.{Mce, Mme}
use Rattle.mre_words.specs.declared.request.Request.{Request}
use Rattle.mre_words.specs.declared.request.Request.TheVariants.{Explain, Diff, Patch, PlanPatch}

-- the words are this number of names; a name is any word that isn't empty
pub record AreNames (count : ℕ) (words : List (List ℕ)) : Type 0 where
  pub counted : length words ≡ count
  pub filled : All (λ word. word ≢ []) words

-- the words ask for the request; its files are the domains and problems of two models, and a plan
-- except for `diff`
abbrev pub Ask : List (List ℕ) → Request → Type 0
Ask words (Explain Mce files) = (words ≡ codes "explain" ∷ codes "mce" ∷ files) × AreNames 5 files
Ask words (Explain Mme files) = ⊥
Ask words (Diff files) = (words ≡ codes "diff" ∷ files) × AreNames 4 files
Ask words (Patch files) = (words ≡ codes "patch" ∷ files) × AreNames 5 files
Ask words (PlanPatch files) = (words ≡ codes "plan-patch" ∷ files) × AreNames 5 files
