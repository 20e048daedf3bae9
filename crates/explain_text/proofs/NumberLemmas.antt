-- How a list of lines grows by a number, and how many numbers are told.
use Rattle.std.proofs.Common.{◌≡◌, ℕ, ◌+◌, ◌-◌, ◌≤◌, Bool, true, false, Some, List, [], ◌∷◌, ◌++◌, length, append_assoc, refl, sym, ap, ◌∙◌, arith, cond}
use Rattle.std.specs.Prelude.{codes, decimal, slice_get}
use Rattle.std.specs.List.{range_with_len, filter}
use Rattle.std.specs.Option.{option_map_or}
use Rattle.std.specs.Ordering.{nat_cmp}
use Rattle.std.specs.FinSet as set
use Rattle.std.proofs.lemmas.List.{map-append, append-nil}
use Rattle.std.proofs.lemmas.List.Elements.{filter-append}
use Rattle.mre_base.specs.Before.{numbers, count_of}
use Rattle.mre_base.specs.declared.kind.Kind.{Kind}
use Rattle.mre_base.proofs.ListOrder.{range-append, filter-shorter}
use Rattle.model_kit.specs.declared.vocabulary.Vocabulary.{Vocabulary}
use Rattle.model_kit.specs.Sentences.{line}
use Rattle.feature_diff.specs.declared.difference.Difference.{Difference}
use Rattle.explain_text.specs.Lines.{kind_name, sentence_of, numbered_line, list_lines, AreAmong}

pub numbered_is : (n : ℕ) (sentence shown : List ℕ) → shown ≡ sentence → decimal n ++ (codes " " ++ shown) ≡ decimal n ++ codes " " ++ sentence
numbered_is n sentence shown e = (λ i. decimal n ++ (codes " " ++ e i)) ∙ sym (append_assoc (decimal n) (codes " ") sentence)

-- a list of one number, if it is in the set
abbrev single : set.FinSet nat_cmp → ℕ → List ℕ
single told n = cond (set.contains told n) (n ∷ []) []

-- one more number
numbers_more : (told : set.FinSet nat_cmp) (n : ℕ) → numbers (n + 1) told ≡ numbers n told ++ single told (n + 1)
numbers_more told n =
    ap (filter (set.contains told)) (range-append 1 n 1)
    ∙ filter-append (set.contains told) (range_with_len 1 n) (range_with_len (1 + n) 1)
    ∙ ap (λ k. numbers n told ++ single told k) next
  where
    next : 1 + n ≡ n + 1
    next = omega arith

pub numbers_without : (told : set.FinSet nat_cmp) (n : ℕ) → set.contains told (n + 1) ≡ false → numbers (n + 1) told ≡ numbers n told
numbers_without told n out = numbers_more told n ∙ ap (λ b. numbers n told ++ cond b ((n + 1) ∷ []) []) out ∙ append-nil (numbers n told)

pub numbers_with : (told : set.FinSet nat_cmp) (n : ℕ) → set.contains told (n + 1) ≡ true → numbers (n + 1) told ≡ numbers n told ++ (n + 1) ∷ []
numbers_with told n is_in = numbers_more told n ∙ ap (λ b. numbers n told ++ cond b ((n + 1) ∷ []) []) is_in

module _ (head : List ℕ) (words : Vocabulary) (differences : List Difference) (told : set.FinSet nat_cmp) (n : ℕ) (old new : List (List ℕ)) where
  -- a number that is not chosen adds no line
  pub left_out : old ≡ list_lines head words differences (numbers n told) → set.contains told (n + 1) ≡ false → new ≡ old
      → new ≡ list_lines head words differences (numbers (n + 1) told)
  left_out before out same = same ∙ before ∙ ap (list_lines head words differences) (sym (numbers_without told n out))

  -- a chosen number adds the line of its difference
  pub put_in : (difference : Difference) (text : List ℕ) → old ≡ list_lines head words differences (numbers n told) → set.contains told (n + 1) ≡ true
      → slice_get differences n ≡ Some difference → text ≡ line (decimal (n + 1) ++ codes " " ++ sentence_of words difference) → new ≡ old ++ text ∷ []
      → new ≡ list_lines head words differences (numbers (n + 1) told)
  put_in difference text before is_in at is now =
      now
      ∙ (λ i. before i ++ (is ∙ sym here) i ∷ [])
      ∙ ap (λ lines. line head ∷ lines) (sym (map-append (numbered_line words differences) (numbers n told) ((n + 1) ∷ [])))
      ∙ ap (list_lines head words differences) (sym (numbers_with told n is_in))
    where
      back : n + 1 - 1 ≡ n
      back = omega arith

      here : numbered_line words differences (n + 1) ≡ line (decimal (n + 1) ++ codes " " ++ sentence_of words difference)
      here = ap (λ o. option_map_or (λ d. line (decimal (n + 1) ++ codes " " ++ sentence_of words d)) o [])
          (ap (slice_get differences) back ∙ at)

-- each number of the set is that of a difference, so the list has all of them
pub count_is : (told : set.FinSet nat_cmp) (count : ℕ) → count ≤ 256 → AreAmong count told → count_of told ≡ length (numbers count told)
unfolding count_of
count_is told count few among = ap length (filter-shorter (set.contains told) 1 count 256 few (λ k beyond. out k beyond _ refl))
  where
    out : (k : ℕ) → 1 + count ≤ k → (b : Bool) → set.contains told k ≡ b → b ≡ false
    out k beyond false e = refl
    out k beyond true e = let within : k ≤ count = (among k e).1 in absurd (omega arith)

regroup : (a b c : List ℕ) → a ++ (codes " " ++ (b ++ (codes " of " ++ c))) ≡ a ++ codes " " ++ b ++ codes " of " ++ c
regroup a b c = simp append_assoc

-- the head of an explanation
pub head_is : (kind : Kind) (name : List ℕ) (size all : ℕ) (told : set.FinSet nat_cmp) (count : ℕ) → name ≡ kind_name kind → size ≡ count_of told → all ≡ count
    → count ≤ 256 → AreAmong count told
    → name ++ (codes " " ++ (decimal size ++ (codes " of " ++ decimal all)))
    ≡ kind_name kind ++ codes " " ++ decimal (length (numbers count told)) ++ codes " of " ++ decimal count
head_is kind name size all told count n s d few among =
    (λ i. n i ++ (codes " " ++ (decimal ((s ∙ count_is told count few among) i) ++ (codes " of " ++ decimal (d i)))))
    ∙ regroup (kind_name kind) (decimal (length (numbers count told))) (decimal count)
